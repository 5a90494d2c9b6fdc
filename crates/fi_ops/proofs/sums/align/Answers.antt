use Rattle.std.proofs.Common.{ℕ, ◌≡◌, ◌∙◌, ap, arith, ◌^◌, sym}
use Rattle.std.specs.Prelude.{pos, ◌*ℤ◌, ◌-ℤ◌, nat_abs}
use Rattle.std.proofs.lemmas.Int.{ints}
use Rattle.num_type.specs.View.{type_of}
use Rattle.fi_ops.specs.Operations.{aligned}
use Rattle.fi_ops.proofs.Sizes.{aligned_fits, aligned_most}
use Rattle.fi_ops.proofs.sums.align.Goals as goal

pub shifted-requires-clause-few : goal.shifted-requires-clause-few
shifted-requires-clause-few c = omega (arith, ints, c.fraction.ensures.value, c.requires.bits)

pub shifted-requires-clause-fits : goal.shifted-requires-clause-fits
shifted-requires-clause-fits c = aligned_fits (type_of c.args.a.num) c.args.a.z c.gap.result c.args.a.in_range (omega (arith, ints, c.fraction.ensures.value, c.requires.bits))

pub returns-clause-value : goal.returns-clause-value
unfolding aligned
returns-clause-value c =
    let n : c.gap.result ≡ nat_abs (c.args.fraction -ℤ c.args.a.num.fraction) = omega (arith, ints, c.fraction.ensures.value) in
    c.shifted.ensures ∙ ap (λ (i : ℕ). c.args.a.z *ℤ pos (2 ^ i)) n

pub returns-clause-size : goal.returns-clause-size
returns-clause-size c =
    let n : c.gap.result ≡ nat_abs (c.args.fraction -ℤ c.args.a.num.fraction) = omega (arith, ints, c.fraction.ensures.value) in
    let m = aligned_most (type_of c.args.a.num) c.args.a.z c.gap.result c.args.a.in_range in
    rw (c.shifted.ensures, sym n) m
