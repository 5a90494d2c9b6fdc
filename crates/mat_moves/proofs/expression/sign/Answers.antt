use Rattle.std.proofs.Common.{ℕ, List, ◌≡◌, ◌∷◌, ◌∙◌, ap, arith}
use Rattle.mat_parts.specs.declared.pending.Frame.{Frame}
use Rattle.mat_grammar.specs.Machine.{top}
use Rattle.mat_parts.specs.Pending.{purpose_view, stack_of, frame_view}
use Rattle.mat_moves.proofs.Goes.{goes, signed, signed_deep}
use Rattle.mat_moves.proofs.expression.sign.Goals as goal

same_top : (fs passed : List Frame) (n : ℕ) → n ≡ top (stack_of passed) → passed ≡ fs → n ≡ top (stack_of fs)
same_top fs passed n t e = t ∙ ap (λ l. top (stack_of l)) e

pub returns-then-top-le8 : goal.returns-then-top-le8
unfolding frame_view
returns-then-top-le8 c =
    let t : c.top.result ≡ top (stack_of c.args.pending.frames) = same_top c.args.pending.frames c.as_slice.result.now c.top.result c.top.ensures c.as_slice.ensures in
    goes c.wait.result _ _ (signed c.args.place c.args.mark (stack_of c.args.pending.frames) (purpose_view c.args.pending.purpose) (omega (arith, t, c.if-top-le8.true))) c.wait.ensures

pub returns-else-top-le8 : goal.returns-else-top-le8
unfolding frame_view
returns-else-top-le8 c =
    let t : c.top.result ≡ top (stack_of c.args.pending.frames) = same_top c.args.pending.frames c.as_slice.result.now c.top.result c.top.ensures c.as_slice.ensures in
    goes c.wait-else-top-le8.result _ _ (signed_deep c.args.place c.args.mark (stack_of c.args.pending.frames) (purpose_view c.args.pending.purpose) (omega (arith, t, c.if-top-le8.false))) c.wait-else-top-le8.ensures
