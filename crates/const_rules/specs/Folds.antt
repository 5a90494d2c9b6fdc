-- Operators on real constants.
use Rattle.std.specs.Prelude.{ℕ, ◌==◌, suc, if◌then◌else◌, ℤ, pos, negsuc, nat_abs, Option, None}
use Rattle.num_type.specs.Constants.{Exact, sum_of, opposite, difference, product_of}
use Rattle.const_eval.specs.Powers.{power_of, turned}
use Rattle.const_rules.specs.OneForm.{reduced, constant_of}

-- the sum, the difference and the product; none where it is no constant
abbrev pub added : Exact → Exact → Option Exact
added x y = constant_of (sum_of x y)

abbrev pub subtracted : Exact → Exact → Option Exact
subtracted x y = constant_of (difference x y)

abbrev pub multiplied : Exact → Exact → Option Exact
multiplied x y = constant_of (product_of x y)

-- the number with the other sign, which is a constant where the number is one
abbrev pub negated : Exact → Exact
negated = opposite

-- a number in the one form to a power below 0: only a power of 2 with a sign has an inverse
abbrev pub inverse_power : Exact → ℕ → Option Exact
inverse_power x n = if nat_abs x.significand == 1 then constant_of (power_of (turned x) n) else None

-- a number to a whole power; none where that is no constant
unfoldable pub power : Exact → ℤ → Option Exact
power x (pos n) = constant_of (power_of x n)
power x (negsuc n) = inverse_power (reduced x) (suc n)
