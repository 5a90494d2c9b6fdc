-- Full types: those that hold every exact product and sum (FullPrecision).
use Rattle.std.specs.Prelude.{ℕ, ℤ, pos, ◌+◌, ◌+ℤ◌, ◌-ℤ◌, max, nat_abs, Bool, not, ◌&&◌, ◌||◌, if◌then◌else◌}
use Rattle.std.specs.Int.{int_max}
use Rattle.num_type.specs.Types.{NumericType}
use Rattle.fi_math.specs.Logs.{log2_up}

-- the greatest word length of a product's full type
abbrev pub product_limit : ℕ
product_limit = 64

-- a product: the word lengths and the fraction lengths add up; signed if either is
abbrev pub full_product : NumericType → NumericType → NumericType
full_product a b = record { signed = a.signed || b.signed; word = a.word + b.word; fraction = a.fraction +ℤ b.fraction }

-- the word length of an operand of a sum, at the fraction length f of the sum: beside a signed one an unsigned one counts one bit more
abbrev pub aligned_word : Bool → ℤ → NumericType → ℕ
aligned_word signed f t = t.word + (if signed && not t.signed then 1 else 0) + nat_abs (f -ℤ t.fraction)

-- the bits of an operand of a sum before the point
abbrev pub whole_bits : Bool → NumericType → ℤ
whole_bits signed t = pos (t.word + (if signed && not t.signed then 1 else 0)) -ℤ t.fraction

-- a sum of two: the greater fraction length, and one bit more than the wider aligned operand; signed if either is
abbrev pub full_sum : NumericType → NumericType → NumericType
full_sum a b =
    let s : Bool = a.signed || b.signed in
    let f : ℤ = int_max a.fraction b.fraction in
    record { signed = s; word = max (aligned_word s f a) (aligned_word s f b) + 1; fraction = f }

-- a difference of two: as the sum, so of two unsigned operands it is unsigned
abbrev pub full_difference : NumericType → NumericType → NumericType
full_difference a b = full_sum a b

-- a sum of n addends of one type
abbrev pub full_sum_of : ℕ → NumericType → NumericType
full_sum_of n a = record { signed = a.signed; word = a.word + log2_up n; fraction = a.fraction }
