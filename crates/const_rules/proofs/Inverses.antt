-- Powers below 0 of numbers in the one form.
use Rattle.std.proofs.Common.{◌≡◌, ◌⊎◌, inl, inr, ℕ, zero, suc, ◌*◌, ◌^◌, ◌%◌, ◌<◌, refl, sym, ap, ◌∙◌, arith}
use Rattle.std.specs.Prelude.{ℤ, pos, negsuc, ◌+ℤ◌, ◌-ℤ◌, ◌*ℤ◌, nat_abs}
use Rattle.std.proofs.lemmas.Int.{ints, clamps}
use Rattle.std.proofs.lemmas.Nat.{mul-le, pow_pos}
use Rattle.num_type.specs.Constants.{Exact, IsSame, IsReduced, product_of, common}
use Rattle.num_type.specs.Precision.{whole}
use Rattle.num_type.proofs.Constants.{same_from, same_through, same_turned, zero_or, abs_times}
use Rattle.const_eval.specs.Powers.{power_of, IsPowerOf, IsUnit, One, MinusOne, turned}
use Rattle.const_eval.proofs.Alike.{product_same}
use Rattle.const_eval.proofs.Powers.{power_same, abs_mul}
use Rattle.const_eval.proofs.Inverses as inverses
use Rattle.const_eval.proofs.Inverses.{unit_power, turned_product, unit_inverse}
use Rattle.const_eval.proofs.Fives.{odd_divides}

-- a power below 0 of a unit times a power of 2 is that power of its inverse
pub negative_power : (x d : Exact) (n : ℕ) → IsUnit x.significand → IsSame d (power_of (turned x) (suc n)) → IsPowerOf x (negsuc n) d
negative_power x d n u h = inverses.negative_power x (turned x) d n u refl h

pub power_is_turned : (x d : Exact) (n : ℕ) → IsUnit x.significand → IsPowerOf x (negsuc n) d → IsSame d (power_of (turned x) (suc n))
power_is_turned x d n u h =
    let y : Exact = power_of x (suc n) in
    let t : Exact = power_of (turned x) (suc n) in
    let w : IsUnit y.significand = unit_power x (suc n) u in
    same_through d (turned y) t (unit_inverse d y w h) (same_turned t (turned y) (unit_inverse t y w (turned_product x (suc n) u)))

-- the same numbers have the same powers
pub power_of_same : (x y d : Exact) (e : ℤ) → IsSame x y → IsPowerOf x e d → IsPowerOf y e d
power_of_same x y d (pos n) h k = same_through d (power_of x n) (power_of y n) k (power_same x y n h)
power_of_same x y d (negsuc n) h k =
    same_through (product_of d (power_of y (suc n))) (product_of d (power_of x (suc n))) (whole (pos 1))
    (product_same d d (power_of y (suc n)) (power_of x (suc n)) refl (same_turned (power_of x (suc n)) (power_of y (suc n)) (power_same x y (suc n) h)))
    k
