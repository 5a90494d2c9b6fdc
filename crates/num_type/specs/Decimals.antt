-- What a reader of decimals answers.
use Rattle.std.specs.Prelude.{◌≡◌, ◌≢◌, ℕ, ◌<◌, ◌≤◌, ◌^◌, ℤ, List, Option, Some, None, unsigned_abs}
use Rattle.std.specs.Fmt.{decimal, signed_decimal}
use Rattle.std.specs.Str.Parse.{AllDigits, digits_value}

-- the number whose canonical decimal the bytes are, and none where they are that of no number within ±(2^128 - 1)
abbrev pub ReadsDecimal : Option ℤ → List ℕ → Type 0
ReadsDecimal (Some z) bytes = (bytes ≡ signed_decimal z) × (unsigned_abs z < 2 ^ 128)
ReadsDecimal None bytes = (z : ℤ) → unsigned_abs z < 2 ^ 128 → bytes ≢ signed_decimal z

-- the same without a sign
abbrev pub ReadsDigits : Option ℕ → List ℕ → Type 0
ReadsDigits (Some n) bytes = (bytes ≡ decimal n) × (n < 2 ^ 128)
ReadsDigits None bytes = (n : ℕ) → n < 2 ^ 128 → bytes ≢ decimal n

-- the value of digits, leading zeros and all
abbrev pub ReadsValue : Option ℕ → List ℕ → Type 0
ReadsValue (Some n) bytes = AllDigits 10 bytes × (n ≡ digits_value 10 bytes) × (n < 2 ^ 128)
ReadsValue None bytes = AllDigits 10 bytes → 2 ^ 128 ≤ digits_value 10 bytes
