-- 0 is in the range of each type.
use Rattle.std.proofs.Common.{Bool, true, false, ℕ, arith}
use Rattle.std.specs.Prelude.{ℤ, pos, ◌≤ℤ◌}
use Rattle.std.proofs.lemmas.Int.{ints}
use Rattle.num_type.specs.Types.{IsInRange, NumericType, greatest_of, least_of}

least_zero : (signed : Bool) (w : ℕ) → least_of signed w ≤ℤ pos 0
least_zero true w = omega (arith, ints)
least_zero false w = omega (arith, ints)

greatest_zero : (signed : Bool) (w : ℕ) → pos 0 ≤ℤ greatest_of signed w
greatest_zero true w = omega (arith, ints)
greatest_zero false w = omega (arith, ints)

pub zero_inside : (t : NumericType) → IsInRange t (pos 0)
zero_inside t = record { least = least_zero t.signed t.word; most = greatest_zero t.signed t.word }
