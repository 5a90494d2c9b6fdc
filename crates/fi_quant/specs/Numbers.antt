-- The numbers that rounding, overflow and quantising give, as functions.
use Rattle.std.specs.Prelude.{ℕ, suc, ℤ, pos, negsuc, neg_ℤ, ◌+ℤ◌, ◌-ℤ◌, ◌*ℤ◌, ◌*◌, ◌/◌, ◌%◌, ◌^◌, ◌==◌, nat_abs, if◌then◌else◌}
use Rattle.std.specs.Int.{int_max, int_min, int_rem_euclid}
use Rattle.num_type.specs.Types.{NumericType, low, high}
use Rattle.num_type.specs.declared.methods.Rounding.{Rounding}
use Rattle.num_type.specs.declared.methods.Rounding.TheVariants.{Ceiling, Floor, Zero, Nearest, Round, Convergent}
use Rattle.num_type.specs.declared.methods.Overflow.{Overflow}
use Rattle.num_type.specs.declared.methods.Overflow.TheVariants.{Saturate, Wrap}

-- the greatest whole number not above z / p
abbrev pub floor_of : ℤ → ℕ → ℤ
floor_of (pos n) p = pos (n / p)
floor_of (negsuc n) p = negsuc (n / p)

-- the least whole number not below z / p
abbrev pub ceiling_of : ℤ → ℕ → ℤ
ceiling_of z p = neg_ℤ (floor_of (neg_ℤ z) p)

-- the whole number nearest to z / p, a tie goes up
abbrev pub nearest_up : ℤ → ℕ → ℤ
nearest_up z p = floor_of (pos 2 *ℤ z +ℤ pos p) (2 * p)

-- the same, a tie goes down
abbrev pub nearest_down : ℤ → ℕ → ℤ
nearest_down z p = neg_ℤ (nearest_up (neg_ℤ z) p)

-- the even one of two
abbrev pub even_of : ℤ → ℤ → ℤ
even_of x y = if nat_abs x % 2 == 0 then x else y

-- z / 2 ^ k, rounded by the method
unfoldable pub rounded : Rounding → ℤ → ℕ → ℤ
rounded Ceiling z k = ceiling_of z (2 ^ k)
rounded Floor z k = floor_of z (2 ^ k)
rounded Zero (pos n) k = floor_of (pos n) (2 ^ k)
rounded Zero (negsuc n) k = ceiling_of (negsuc n) (2 ^ k)
rounded Nearest z k = nearest_up z (2 ^ k)
rounded Round (pos n) k = nearest_up (pos n) (2 ^ k)
rounded Round (negsuc n) k = nearest_down (negsuc n) (2 ^ k)
rounded Convergent z k = even_of (nearest_up z (2 ^ k)) (nearest_down z (2 ^ k))

-- z, brought into the range of the type by the action
unfoldable pub fitted : Overflow → NumericType → ℤ → ℤ
fitted Saturate t z = int_max (low t) (int_min (high t) z)
fitted Wrap t z = low t +ℤ int_rem_euclid (z -ℤ low t) (pos (2 ^ t.word))

-- z * 2 ^ by, rounded where by is below 0
unfoldable pub scaled : Rounding → ℤ → ℤ → ℤ
scaled m z (pos n) = z *ℤ pos (2 ^ n)
scaled m z (negsuc n) = rounded m z (suc n)

-- the exact z * 2 ^ -f, taken to the type
unfoldable pub quantised : Rounding → Overflow → NumericType → ℤ → ℤ → ℤ
quantised m a t z f = fitted a t (scaled m z (t.fraction -ℤ f))
