-- The plain form of a case: for each element of the input arrays, in order, its canonical decimal and a newline.
use Rattle.std.specs.Prelude.{◌≡◌, ℕ, ℤ, pos, neg_ℤ, Bool, false, not, ◌&&◌, if◌then◌else◌, nat_eq, List, [], ◌∷◌, ◌++◌, length, map, flat_map, codes, All, IsTrue, Option, Some, None}
use Rattle.std.specs.List.{list_all}
use Rattle.std.specs.Str.Parse.{digits_value}
use Rattle.fic_base.specs.Names.{is_digit}
use Rattle.case_io.specs.declared.refusal.CaseBad.{CaseBad}
use Rattle.case_io.specs.declared.refusal.CaseBad.TheVariants as bad
use Rattle.case_io.specs.Cases.{Range, elements, AreInputs}

-- digits without a leading zero
abbrev pub is_digits : List ℕ → Bool
is_digits [] = false
is_digits (d ∷ []) = is_digit d
is_digits (d ∷ e ∷ more) = not (nat_eq d 48) && list_all is_digit (d ∷ e ∷ more)

-- digits of a number that isn't 0
abbrev pub is_positive : List ℕ → Bool
is_positive [] = false
is_positive (d ∷ more) = not (nat_eq d 48) && is_digits (d ∷ more)

-- a canonical decimal: no leading zero, no plus, no minus before 0
abbrev pub is_canonical : List ℕ → Bool
is_canonical [] = false
is_canonical (b ∷ bs) = if nat_eq b 45 then is_positive bs else is_digits (b ∷ bs)

-- the number of a canonical decimal
abbrev pub value_of : List ℕ → ℤ
value_of [] = pos 0
value_of (b ∷ bs) = if nat_eq b 45 then neg_ℤ (pos (digits_value 10 bs)) else pos (digits_value 10 (b ∷ bs))

-- a line for each text
abbrev pub lines_of : List (List ℕ) → List ℕ
lines_of = flat_map (λ text. text ++ codes "\n")

-- the bytes are lines of canonical decimals
pub record AreLines (texts : List (List ℕ)) (bytes : List ℕ) : Type 0 where
  pub whole : bytes ≡ lines_of texts
  pub canonical : All (λ text. IsTrue (is_canonical text)) texts

-- the bytes have the plain form: one decimal an element
pub record HasForm (ranges : List Range) (texts : List (List ℕ)) (bytes : List ℕ) : Type 0 where
  pub lines : AreLines texts bytes
  pub count : length texts ≡ elements ranges

-- the lists of the input arrays are these decimals
pub record IsCase (ranges : List Range) (inputs : List (List ℤ)) (bytes : List ℕ) : Type 0 where
  pub texts : List (List ℕ)
  pub form : HasForm ranges texts bytes
  pub inputs_are : AreInputs ranges inputs
  pub values : flat_map (λ zs. zs) inputs ≡ map value_of texts

-- no decimals have the form
abbrev pub HasNoForm : List Range → List ℕ → Type 0
HasNoForm ranges bytes = (texts : List (List ℕ)) → HasForm ranges texts bytes → ⊥

-- decimals have the form, and one of them is out of range
pub record HasBadValue (ranges : List Range) (bytes : List ℕ) : Type 0 where
  pub texts : List (List ℕ)
  pub form : HasForm ranges texts bytes
  pub none : (inputs : List (List ℤ)) → IsCase ranges inputs bytes → ⊥

-- why bytes are refused: they have no form, or a decimal is out of range in the case of number 0
abbrev pub IsBad : CaseBad → Option ℕ → List Range → List ℕ → Type 0
IsBad bad.Form None ranges bytes = HasNoForm ranges bytes
IsBad bad.Value (Some index) ranges bytes = (index ≡ 0) × HasBadValue ranges bytes
IsBad _ _ ranges bytes = ⊥
