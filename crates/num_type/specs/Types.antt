-- Fixed-point types, their limits and their ranges.
use Rattle.std.specs.Prelude.{ℕ, ℤ, pos, negsuc, neg_ℤ, Bool, true, false, ◌-◌, ◌^◌, ◌≤◌, ◌≤ℤ◌}

-- A signedness, a word length and a fraction length, in bits. A stored integer z stands for z * 2 ^ -fraction.
pub record NumericType : Type 0 where
  pub signed : Bool
  pub word : ℕ
  pub fraction : ℤ

-- the greatest word length
abbrev pub word_limit : ℕ
word_limit = 64

-- the least and the greatest fraction length
abbrev pub fraction_least : ℤ
fraction_least = negsuc 255

abbrev pub fraction_most : ℤ
fraction_most = pos 256

-- within the limits
pub record IsWithin (t : NumericType) : Type 0 where
  pub one_bit : 1 ≤ t.word
  pub bits : t.word ≤ word_limit
  pub least : fraction_least ≤ℤ t.fraction
  pub most : t.fraction ≤ℤ fraction_most

-- the least stored integer, by signedness and word length
abbrev pub least_of : Bool → ℕ → ℤ
least_of true w = neg_ℤ (pos (2 ^ (w - 1)))
least_of false w = pos 0

-- the greatest one
abbrev pub greatest_of : Bool → ℕ → ℤ
greatest_of true w = pos (2 ^ (w - 1) - 1)
greatest_of false w = pos (2 ^ w - 1)

abbrev pub low : NumericType → ℤ
low t = least_of t.signed t.word

abbrev pub high : NumericType → ℤ
high t = greatest_of t.signed t.word

-- z is in the range of the type
pub record IsInRange (t : NumericType) (z : ℤ) : Type 0 where
  pub least : low t ≤ℤ z
  pub most : z ≤ℤ high t
