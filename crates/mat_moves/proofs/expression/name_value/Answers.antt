use Rattle.std.proofs.Common.{ℕ, List, ap}
use Rattle.mat_ast.specs.Tree.{Name}
use Rattle.mat_grammar.specs.Machine.{Have}
use Rattle.mat_parts.specs.Pending.{stack_of, purpose_view, state_view}
use Rattle.mat_moves.proofs.expression.name_value.Goals as goal

pub returns-in-Ok : goal.returns-in-Ok
unfolding state_view
returns-in-Ok c = ap (λ (text : List ℕ). Have (Name c.args.place text) (stack_of c.args.pending.frames) (purpose_view c.args.pending.purpose)) c.in-Ok.ensures
