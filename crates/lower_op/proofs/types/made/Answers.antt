use Rattle.std.proofs.Common.{ℤ, ◌∙◌, ap, subst, sym, w32, to_z, of_z}
use Rattle.std.proofs.lemmas.Int.{to_z-of_z}
use Rattle.num_type.specs.Types.{NumericType, IsWithin}
use Rattle.lower_op.proofs.types.made.Goals as goal

pub returns : goal.returns
returns c =
    let e = to_z-of_z w32 c.args.fraction c.ranges.fraction in
    let t : ℤ → NumericType = λ x. record { signed = c.args.signed; word = c.args.word; fraction = x } in
    c.in-Some.ensures.parts ∙ ap t e

pub unreachable-requires : goal.unreachable-requires
unreachable-requires c =
    let e = to_z-of_z w32 c.args.fraction c.ranges.fraction in
    let t : ℤ → NumericType = λ x. record { signed = c.args.signed; word = c.args.word; fraction = x } in
    let w : IsWithin (t (to_z w32 (of_z w32 c.args.fraction))) = subst (λ x. IsWithin (t x)) (sym e) c.requires in
    let g = c.in-None.ensures.limits.1 w in
    cc
