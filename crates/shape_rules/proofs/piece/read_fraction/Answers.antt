use Rattle.std.proofs.Common.{◌≡◌, ◌⊎◌, inl, inr, ◌<ℤ◌, refl, arith}
use Rattle.std.proofs.lemmas.Int.{ints}
use Rattle.num_type.specs.Types.{fraction_least, fraction_most}
use Rattle.shape_rules.proofs.Texts.{far_fraction, wide_far}
use Rattle.shape_rules.proofs.piece.read_fraction.Goals as goal
use Rattle.shape_rules.proofs.piece.read_fraction.Goals.{else-f-via-then-f+else-f-2, else-f-via-else-f}

pub returns-in-None-to_i64 : goal.returns-in-None-to_i64
returns-in-None-to_i64 c =
    far_fraction c.args.bytes.now c.in-Some.number c.in-Some.ensures.0 c.in-Some.ensures.1 (wide_far c.in-Some.number (c.in-None-to_i64.ensures.none.0 refl))

pub returns-else-f : goal.returns-else-f
returns-else-f c =
    let same : c.in-Some-to_i64.f ≡ c.in-Some.number = c.in-Some-to_i64.ensures.some in
    let far : (c.in-Some.number <ℤ fraction_least) ⊎ (fraction_most <ℤ c.in-Some.number) = elim c.else-f.branch [
      | else-f-via-then-f+else-f-2 w ↦ inr (omega (arith, ints, w.if-f-2.false, same))
      | else-f-via-else-f w ↦ inl (omega (arith, ints, w.if-f.false, same))
    ] in
    far_fraction c.args.bytes.now c.in-Some.number c.in-Some.ensures.0 c.in-Some.ensures.1 far
