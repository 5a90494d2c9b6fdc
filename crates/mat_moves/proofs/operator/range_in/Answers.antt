use Rattle.std.proofs.Common.{ap, ◌∙◌, ◌∷◌}
use Rattle.mat_ast.specs.View.{expr_view}
use Rattle.mat_grammar.specs.Machine.{with_to}
use Rattle.mat_parts.specs.Pending.{stack_of, purpose_view, frame_view}
use Rattle.mat_moves.proofs.Goes.{goes}
use Rattle.mat_moves.proofs.operator.range_in.Goals as goal

pub returns-in-Ok : goal.returns-in-Ok
returns-in-Ok c =
    goes c.range_to.result _ _
    (ap (λ st. with_to c.args.place (expr_view c.args.part.expr) st (purpose_view c.in-Ok.inner.purpose)) c.in-Ok.ensures.frames
    ∙ ap (λ k. with_to c.args.place (expr_view c.args.part.expr) (frame_view c.args.frame ∷ stack_of c.args.pending.frames) (purpose_view k))
    c.in-Ok.ensures.purpose)
    c.range_to.ensures
