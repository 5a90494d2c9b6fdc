use Rattle.std.proofs.Common.{ap, sym}
use Rattle.c_tree.specs.View.{test_view}
use Rattle.c_grammar.specs.Machine.{Stuck, close_test}
use Rattle.c_parts.specs.View.{purpose_view, past_view}
use Rattle.c_moves.proofs.Goes.{goes, goes_option}
use Rattle.c_moves.proofs.behind.closed_test.Goals as goal

pub returns-in-None : goal.returns-in-None
returns-in-None c = goes_option c.refuse_whole.result Stuck _ (ap (λ st. close_test (test_view c.args.test) st (purpose_view c.args.pending.purpose) (past_view c.args.pending.past)) (sym c.in-None.ensures.0)) c.refuse_whole.ensures

pub returns-in-Some : goal.returns-in-Some
returns-in-Some c = goes c.test_in.result _ _ (ap (λ st. close_test (test_view c.args.test) st (purpose_view c.args.pending.purpose) (past_view c.args.pending.past)) (sym c.in-Some.ensures)) c.test_in.ensures
