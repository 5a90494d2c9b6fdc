-- Pieces of the text of a type.
use Rattle.std.specs.Prelude.{◌≡◌, ◌≢◌, ◌^◌, ◌<◌, ◌≤ℤ◌, ℕ, suc, nat_eq, if◌then◌else◌, ℤ, Bool, List, [], ◌∷◌, ◌++◌, Option, Some, None}
use Rattle.std.specs.Borrow.{Bor}
use Rattle.std.specs.Fmt.{decimal, signed_decimal}
use Rattle.num_type.specs.Types.{fraction_least, fraction_most}
use Rattle.shape_rules.specs.TypeText.{sign_letter}

-- where the first such byte stands, or how many bytes there are
abbrev pub place_of : ℕ → List ℕ → ℕ
place_of mark [] = 0
place_of mark (b ∷ bs) = if nat_eq b mark then 0 else suc (place_of mark bs)

-- no byte is this one
abbrev pub Lacks : ℕ → List ℕ → Type 0
Lacks mark [] = Unit {0}
Lacks mark (b ∷ bs) = (b ≢ mark) × Lacks mark bs

-- bytes split at the first such byte, if there is one
abbrev pub Splits : Option (Bor (List ℕ) × Bor (List ℕ)) → List ℕ → ℕ → Type 0
Splits (Some p) bytes mark = (bytes ≡ p.0.now ++ mark ∷ p.1.now) × Lacks mark p.0.now
Splits None bytes mark = Lacks mark bytes

-- the number below 2^32 whose canonical decimal the bytes are, and none where they are that of none
abbrev pub ReadsU32 : Option ℕ → List ℕ → Type 0
ReadsU32 (Some n) bytes = (bytes ≡ decimal n) × (n < 2 ^ 32)
ReadsU32 None bytes = (n : ℕ) → n < 2 ^ 32 → bytes ≢ decimal n

-- a fraction length within the limits
abbrev pub ReadsFraction : Option ℤ → List ℕ → Type 0
ReadsFraction (Some f) bytes = (bytes ≡ signed_decimal f) × (fraction_least ≤ℤ f) × (f ≤ℤ fraction_most)
ReadsFraction None bytes = (f : ℤ) → fraction_least ≤ℤ f → f ≤ℤ fraction_most → bytes ≢ signed_decimal f

-- the letter of a signedness
abbrev pub ReadsSign : Option Bool → ℕ → Type 0
ReadsSign (Some signed) letter = letter ∷ [] ≡ sign_letter signed
ReadsSign None letter = (signed : Bool) → letter ∷ [] ≢ sign_letter signed
