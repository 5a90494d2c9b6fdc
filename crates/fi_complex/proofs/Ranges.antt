-- Ranges of parts.
use Rattle.std.proofs.Common.{ℕ, ◌-◌, ◌≡◌, refl, sym, subst, Bool, true, false, arith}
use Rattle.std.specs.Prelude.{ℤ, pos}
use Rattle.std.proofs.lemmas.Int.{ints}
use Rattle.std.proofs.lemmas.Nat.{pow_pos}
use Rattle.num_type.specs.Types.{NumericType, IsInRange}
use Rattle.num_type.specs.View.{type_of}
use Rattle.num_type.specs.declared.num_type.NumType.{NumType}
use Rattle.fi_ops.specs.Elements.{Element}
use Rattle.fi_ops.specs.Complex.{ComplexElement}
use Rattle.fi_complex.specs.Real.{widened}

zero_by : (s : Bool) (w : ℕ) (f : ℤ) → IsInRange (record { signed = s; word = w; fraction = f }) (pos 0)
zero_by true w f = record { least = omega (arith, ints); most = omega (arith, ints, pow_pos (w - 1)) }
zero_by false w f = record { least = omega (arith, ints); most = omega (arith, ints, pow_pos w) }

-- 0 is in the range of each type
pub zero_inside : (t : NumericType) (z : ℤ) → z ≡ pos 0 → IsInRange t z
zero_inside t z e = subst (λ (x : ℤ). IsInRange t x) (sym e) (zero_by t.signed t.word t.fraction)

-- a stored integer in range, along one type
pub along : (n n' : NumType) (z : ℤ) → n ≡ n' → IsInRange (type_of n) z → IsInRange (type_of n') z
along n n' z e h = subst (λ (t : NumType). IsInRange (type_of t) z) e h

widened_by : (n : NumericType) (r i i' : ℤ) → i ≡ i' → (let c : ComplexElement = record { num = n; re = r; im = i } in c) ≡ (record { num = n; re = r; im = i' })
widened_by n r i i' e = rw e refl

pub widened_is : (a : Element) (i : ℤ) → i ≡ pos 0 → (let c : ComplexElement = record { num = a.num; re = a.z; im = i } in c) ≡ widened a
unfolding widened
widened_is a i e = widened_by a.num a.z i (pos 0) e
