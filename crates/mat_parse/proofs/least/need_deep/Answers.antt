use Rattle.std.proofs.Common.{◌≡◌, ◌∷◌, ◌∙◌, ap, sym, min}
use Rattle.mat_grammar.specs.Least.{operand_depth, need_depth}
use Rattle.mat_parts.specs.Pending.{purpose_view, frame_view, stack_of}
use Rattle.mat_parts.proofs.Stacks.{stack_last}
use Rattle.mat_parse.proofs.Capped.{no_frames}
use Rattle.mat_parse.proofs.least.need_deep.Goals as goal

pub returns-in-None : goal.returns-in-None
returns-in-None c = c.purpose_deep.ensures ∙ ap (λ x. min x 101) c.purpose_floor.ensures
    ∙ sym (ap (λ st. min (need_depth st (purpose_view c.args.pending.now.purpose)) 101)
    (ap stack_of (sym c.as_slice.ensures) ∙ no_frames c.as_slice.result.now c.in-None.ensures.cases))

pub returns-in-Some : goal.returns-in-Some
returns-in-Some c =
    let e : stack_of c.args.pending.now.frames ≡ frame_view c.in-Some.last.now ∷ stack_of c.in-Some.field-0-1.now =
    ap stack_of (sym c.as_slice.ensures ∙ c.in-Some.ensures.cases.0) ∙ stack_last c.in-Some.field-0-1.now c.in-Some.last.now in
    c.operand_deep.ensures ∙ ap (λ st. min (operand_depth c.frame_floor.result st (purpose_view c.args.pending.now.purpose)) 101) e
    ∙ ap (λ x. min x 101) (c.frame_floor.ensures (stack_of c.in-Some.field-0-1.now) (purpose_view c.args.pending.now.purpose))
    ∙ sym (ap (λ st. min (need_depth st (purpose_view c.args.pending.now.purpose)) 101) e)
