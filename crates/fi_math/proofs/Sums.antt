-- The word length of a full sum.
use Rattle.std.proofs.Common.{ℕ, ℤ, ◌≡◌, ◌+◌, max, ◌||◌, arith}
use Rattle.std.specs.Prelude.{pos, ◌+ℤ◌, ◌-ℤ◌, nat_abs, not, ◌&&◌, if◌then◌else◌}
use Rattle.std.specs.Int.{int_max}
use Rattle.std.proofs.lemmas.Int.{ints, clamps}
use Rattle.num_type.specs.Types.{NumericType}
use Rattle.fi_math.specs.Full.{full_sum, whole_bits}

-- the same over plain numbers
words : (wa wb : ℕ) (fa fb : ℤ) → pos (max (wa + nat_abs (int_max fa fb -ℤ fa)) (wb + nat_abs (int_max fa fb -ℤ fb)) + 1) ≡ int_max (pos wa -ℤ fa) (pos wb -ℤ fb) +ℤ int_max fa fb +ℤ pos 1
words wa wb fa fb = omega (arith, ints, clamps)

pub sum_word : (a b : NumericType) → pos ((full_sum a b).word) ≡ int_max (whole_bits (a.signed || b.signed) a) (whole_bits (a.signed || b.signed) b) +ℤ int_max a.fraction b.fraction +ℤ pos 1
sum_word a b = words (a.word + (if (a.signed || b.signed) && not a.signed then 1 else 0)) (b.word + (if (a.signed || b.signed) && not b.signed then 1 else 0)) a.fraction b.fraction
