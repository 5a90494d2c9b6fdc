use Rattle.std.proofs.Common.{ap}
use Rattle.mat_grammar.specs.Machine.{applied}
use Rattle.mat_parts.specs.Pending.{caller_view}
use Rattle.mat_moves.proofs.Goes.{goes}
use Rattle.mat_moves.proofs.paren.last_argument.Goals as goal

pub returns-in-Ok : goal.returns-in-Ok
returns-in-Ok c = goes c.applied.result _ _ (ap (applied (caller_view c.args.caller) c.args.opened.place c.args.opened.text c.args.opened.opens) c.in-Ok.ensures) c.applied.ensures
