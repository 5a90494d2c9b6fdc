use Rattle.std.proofs.Common.{ap, sym}
use Rattle.c_tree.specs.View.{expr_view}
use Rattle.c_grammar.specs.Machine.{have}
use Rattle.c_parts.specs.View.{purpose_view, past_view}
use Rattle.c_moves.proofs.Goes.{goes}
use Rattle.c_moves.proofs.behind.have.Goals as goal

pub returns-in-None : goal.returns-in-None
returns-in-None c = goes c.have_whole.result _ _ (ap (λ st. have c.args.arrays.now (expr_view c.args.e) c.args.t c.args.word st (purpose_view c.args.pending.purpose) (past_view c.args.pending.past)) (sym c.in-None.ensures.0)) c.have_whole.ensures

pub returns-in-Some : goal.returns-in-Some
returns-in-Some c = goes c.have_in.result _ _ (ap (λ st. have c.args.arrays.now (expr_view c.args.e) c.args.t c.args.word st (purpose_view c.args.pending.purpose) (past_view c.args.pending.past)) (sym c.in-Some.ensures)) c.have_in.ensures
