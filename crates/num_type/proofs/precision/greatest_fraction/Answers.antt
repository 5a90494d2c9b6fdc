use Rattle.std.proofs.Common.{◌≡◌, ◌<◌, ℕ, to_z, of_z, arith, refl}
use Rattle.std.specs.Prelude.{ℤ, pos, negsuc, ◌-ℤ◌, ◌<ℤ◌, nat_abs}
use Rattle.std.specs.Int.{w32, w64}
use Rattle.std.proofs.lemmas.Int.{ints}
use Rattle.num_type.specs.Constants.{Exact}
use Rattle.num_type.specs.Precision.{counted, bits_beside_sign}
use Rattle.num_type.specs.View.{exact_of}
use Rattle.num_type.proofs.Held.{some_not_none, counted_some, counted_below, counted_unsigned, counted_nought, held_above, held_signed, held_zero}
use Rattle.num_type.proofs.precision.greatest_fraction.Goals as goal
use Rattle.num_type.proofs.precision.greatest_fraction.Goals.{else-m-lt0-via-then-m-lt0+else-signed, else-m-lt0-via-else-m-lt0}

pub returns-then-m-gt0-clause-zero : goal.returns-then-m-gt0-clause-zero
returns-then-m-gt0-clause-zero c =
    let above : pos 0 <ℤ c.args.value.now.m = omega (arith, ints, c.if-m-gt0.true, c.significand-m.ensures.value) in
    (λ t. absurd (some_not_none t), λ e. absurd (counted_some c.args.signed c.args.value.now.m above e))

pub returns-then-m-gt0-clause-held : goal.returns-then-m-gt0-clause-held
returns-then-m-gt0-clause-held c =
    let n : ℕ = nat_abs (to_z w64 (of_z w64 c.significand-m.result)) in
    let f : ℤ = to_z w32 (of_z w32 c.fraction_of.result) in
    let x : Exact = exact_of c.args.value.now in
    let m : c.args.value.now.m ≡ pos n = omega (arith, ints, c.if-m-gt0.true, c.significand-m.ensures.value) in
    let some : 0 < n = omega (arith, ints, c.if-m-gt0.true) in
    let e : f ≡ pos (bits_beside_sign c.args.signed c.args.word) -ℤ c.args.value.now.e -ℤ pos c.width.result = omega (arith, ints, c.fraction_of.ensures, c.beside_sign.ensures.value, c.exponent.ensures.value) in
    held_above c.args.signed c.args.word n c.width.result x f c.requires.some m some c.width.ensures.bits e

pub returns-then-signed-clause-zero : goal.returns-then-signed-clause-zero
returns-then-signed-clause-zero c =
    let below : c.args.value.now.m <ℤ pos 0 = omega (arith, ints, c.if-m-lt0.true, c.significand-m.ensures.value) in
    (λ t. absurd (some_not_none t), λ e. absurd (counted_below c.args.signed c.args.value.now.m c.if-signed.true below e))

pub returns-then-signed-clause-held : goal.returns-then-signed-clause-held
returns-then-signed-clause-held c =
    let n : ℕ = c.size_below.result in
    let f : ℤ = to_z w32 (of_z w32 c.fraction_of-then-signed.result) in
    let x : Exact = exact_of c.args.value.now in
    let m : c.args.value.now.m ≡ negsuc n = omega (arith, ints, c.size_below.ensures, c.significand-m.ensures.value) in
    let e : f ≡ pos (bits_beside_sign c.args.signed c.args.word) -ℤ c.args.value.now.e -ℤ pos c.width-then-signed.result =
    omega (arith, ints, c.fraction_of-then-signed.ensures, c.beside_sign-then-signed.ensures.value, c.exponent-then-signed.ensures.value) in
    held_signed c.args.signed c.args.word n c.width-then-signed.result x f c.if-signed.true c.requires.some m c.width-then-signed.ensures.bits e

nought : (c : goal.Joined-else-m-lt0) → counted c.args.signed c.args.value.now.m ≡ pos 0
nought c = elim c.else-m-lt0.branch [
  | else-m-lt0-via-then-m-lt0+else-signed w ↦
      counted_unsigned c.args.signed c.args.value.now.m w.if-signed.false (omega (arith, ints, w.if-m-lt0.true, c.significand-m.ensures.value))
  | else-m-lt0-via-else-m-lt0 w ↦
      counted_nought c.args.signed c.args.value.now.m (omega (arith, ints, w.if-m-lt0.false, c.if-m-gt0.false, c.significand-m.ensures.value))
]

pub returns-else-m-lt0-clause-zero : goal.returns-else-m-lt0-clause-zero
returns-else-m-lt0-clause-zero c = (λ t. nought c, λ e. refl)

pub returns-else-m-lt0-clause-held : goal.returns-else-m-lt0-clause-held
returns-else-m-lt0-clause-held c = λ fraction.
    (λ h. tt, λ t. held_zero c.args.signed c.args.word (exact_of c.args.value.now) c.requires.some (nought c) fraction)
