-- Names of functions and variables.
use Rattle.std.specs.Prelude.{◌≡◌, ◌≢◌, ℕ, ◌≤◌, Bool, false, ◌&&◌, ◌||◌, ◌==◌, nat_le, List, [], ◌∷◌, length, codes, bytes_eq, IsTrue, All}
use Rattle.std.specs.List.{list_all, list_any}

abbrev pub is_digit : ℕ → Bool
is_digit b = nat_le 48 b && nat_le b 57

abbrev pub is_letter : ℕ → Bool
is_letter b = (nat_le 65 b && nat_le b 90) || (nat_le 97 b && nat_le b 122)

-- a letter, a digit or `_`
abbrev pub is_name_byte : ℕ → Bool
is_name_byte b = is_letter b || (is_digit b || b == 95)

abbrev pub begins_with_letter : List ℕ → Bool
begins_with_letter [] = false
begins_with_letter (b ∷ bs) = is_letter b

-- the words that are no names: the keywords, and those that are reserved
abbrev pub keywords : List (List ℕ)
keywords =
    codes "function" ∷ codes "end" ∷ codes "if" ∷ codes "elseif" ∷ codes "else" ∷ codes "for" ∷ codes "while" ∷ codes "break" ∷ codes "continue"
    ∷ codes "switch" ∷ codes "case" ∷ codes "otherwise" ∷ codes "return" ∷ codes "try" ∷ codes "catch" ∷ codes "global" ∷ codes "persistent"
    ∷ codes "parfor" ∷ codes "spmd" ∷ codes "classdef" ∷ []

abbrev pub is_keyword : List ℕ → Bool
is_keyword word = list_any (bytes_eq word) keywords

-- a letter and then letters, digits and `_`, at most 63 bytes, and no keyword
pub record IsName (name : List ℕ) : Type 0 where
  pub letter : IsTrue (begins_with_letter name)
  pub name_bytes : IsTrue (list_all is_name_byte name)
  pub most : length name ≤ 63
  pub no_keyword : All (λ word. word ≢ name) keywords
