use Rattle.std.proofs.Common.{◌∙◌, ap, map}
use Rattle.std.specs.Prelude.{ℤ}
use Rattle.std.proofs.lemmas.List.Elements.{All-same}
use Rattle.num_type.specs.Types.{IsInRange}
use Rattle.num_type.specs.View.{type_of}
use Rattle.eval_math.specs.View.{element_by, paired}
use Rattle.eval_math.proofs.Pairing.{all_left, all_right, fused}
use Rattle.eval_math.proofs.elementwise.each.Goals as goal

pub of_pairs-requires-clause-left : goal.of_pairs-requires-clause-left
of_pairs-requires-clause-left c =
    All-same (λ (p : ℤ × ℤ). IsInRange (type_of c.args.a) p.0) c.as_slice.result.now (paired c.args.xs.now c.args.ys.now) (c.as_slice.ensures.value ∙ c.in_ok-met.ensures.value)
    (all_left (IsInRange (type_of c.args.a)) c.args.xs.now c.args.ys.now c.requires.left)

pub of_pairs-requires-clause-right : goal.of_pairs-requires-clause-right
of_pairs-requires-clause-right c =
    All-same (λ (p : ℤ × ℤ). IsInRange (type_of c.args.b) p.1) c.as_slice.result.now (paired c.args.xs.now c.args.ys.now) (c.as_slice.ensures.value ∙ c.in_ok-met.ensures.value)
    (all_right (IsInRange (type_of c.args.b)) c.args.xs.now c.args.ys.now c.requires.right)

pub returns-clause-value : goal.returns-clause-value
returns-clause-value c =
    c.in_ok-v.ensures.value
    ∙ ap (map (λ (p : ℤ × ℤ). element_by c.args.frame.now (type_of c.args.a) (type_of c.args.b) p.0 p.1)) (c.as_slice.ensures.value ∙ c.in_ok-met.ensures.value)
    ∙ fused (element_by c.args.frame.now (type_of c.args.a) (type_of c.args.b)) c.args.xs.now c.args.ys.now
