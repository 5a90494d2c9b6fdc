use Rattle.std.proofs.Common.{ap, sym}
use Rattle.mat_grammar.specs.Machine.{with_colon_item}
use Rattle.mat_parts.specs.Pending.{purpose_view}
use Rattle.mat_moves.proofs.Goes.{goes}
use Rattle.mat_moves.proofs.expression.colon_item.Goals as goal

pub returns-in-None : goal.returns-in-None
unfolding with_colon_item
returns-in-None c = goes c.colon_argument.result _ _ (ap (λ st. with_colon_item st (purpose_view c.args.pending.purpose)) (sym c.in-None.ensures.0)) c.colon_argument.ensures

pub returns-in-Some : goal.returns-in-Some
returns-in-Some c = goes c.colon_in.result _ _ (ap (λ st. with_colon_item st (purpose_view c.args.pending.purpose)) (sym c.in-Some.ensures)) c.colon_in.ensures
