-- The types of products and sums under a fimath.
use Rattle.std.specs.Prelude.{ℕ, ℤ, pos, ◌-ℤ◌, if◌then◌else◌}
use Rattle.num_type.specs.Types.{NumericType, word_limit}
use Rattle.fi_math.specs.declared.fimath.Mode.{Mode}
use Rattle.fi_math.specs.declared.fimath.Mode.TheVariants.{FullPrecision, KeepLSB, KeepMSB, SpecifyPrecision}
use Rattle.fi_math.specs.declared.fimath.Fimath.{Fimath}
use Rattle.fi_math.specs.Full.{product_limit, full_product, full_sum, full_difference, full_sum_of}
use Rattle.fi_math.specs.Made.{Made, Is, limited, and_then}

-- the type that a mode makes of the full one, with the stated word length and fraction length
unfoldable pub mode_type : Mode → ℕ → ℤ → NumericType → NumericType
mode_type FullPrecision w f full = full
mode_type KeepLSB w f full = record { signed = full.signed; word = w; fraction = full.fraction }
mode_type KeepMSB w f full = record { signed = full.signed; word = w; fraction = pos w -ℤ (pos full.word -ℤ full.fraction) }
mode_type SpecifyPrecision w f full = record { signed = full.signed; word = w; fraction = f }

-- the product type of a full type
unfoldable pub product_by : Fimath → NumericType → Made
product_by m full = limited word_limit (mode_type m.product_mode m.product_word m.product_fraction full)

-- the sum type of a full type
unfoldable pub sum_by : Fimath → NumericType → Made
sum_by m full = limited word_limit (mode_type m.sum_mode m.sum_word m.sum_fraction full)

-- the type of a product
unfoldable pub product_made : Fimath → NumericType → NumericType → Made
product_made m a b = and_then (limited product_limit (full_product a b)) (product_by m)

-- the type of a sum
unfoldable pub add_made : Fimath → NumericType → NumericType → Made
add_made m a b = and_then (limited word_limit (full_sum a b)) (sum_by m)

-- the type of a difference
unfoldable pub sub_made : Fimath → NumericType → NumericType → Made
sub_made m a b = and_then (limited word_limit (full_difference a b)) (sum_by m)

-- the sum type t, where an exact step of adding an addend to it has a type (asked without CastBeforeSum alone)
unfoldable pub stepped : Fimath → NumericType → NumericType → Made
stepped m a t = if m.cast_before_sum then Is t else and_then (limited word_limit (full_sum t a)) (λ _. Is t)

-- the type of a sum of n addends of one type
unfoldable pub sum_made : Fimath → NumericType → ℕ → Made
sum_made m a n = and_then (and_then (limited word_limit (full_sum_of n a)) (sum_by m)) (stepped m a)

-- the type of a product of two complex numbers: that of a sum of two products
unfoldable pub complex_product_made : Fimath → NumericType → NumericType → Made
complex_product_made m a b = and_then (product_made m a b) (λ p. add_made m p p)
