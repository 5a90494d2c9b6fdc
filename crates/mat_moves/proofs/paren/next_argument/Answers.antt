use Rattle.std.proofs.Common.{ap}
use Rattle.mat_grammar.specs.Machine.{need_in}
use Rattle.mat_parts.specs.Pending.{caller_view}
use Rattle.mat_moves.proofs.Goes.{goes}
use Rattle.mat_moves.proofs.paren.next_argument.Goals as goal

pub returns-in-Ok : goal.returns-in-Ok
returns-in-Ok c =
    goes c.need_argument.result _ _ (ap (λ args. need_in (caller_view c.args.caller) c.args.opened.place c.args.opened.text c.args.opened.opens args) c.in-Ok.ensures) c.need_argument.ensures
