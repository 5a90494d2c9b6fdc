-- Which bytes are a text of a program.
use Rattle.std.specs.Prelude.{◌≡◌, ℕ, Bool, false, ◌&&◌, ◌||◌, ◌==◌, List, [], ◌∷◌, ◌++◌, codes, bytes_eq, IsTrue, IsFalse}
use Rattle.std.specs.List.{list_all, list_any}
use Rattle.fic_base.specs.Names.{is_letter, is_digit, is_name_byte}
use Rattle.c_tree.specs.Tree.{Program}
use Rattle.c_tree.specs.Texts.{Text}
use Rattle.c_tree.specs.Spelling.{Texts, spelled}
use Rattle.c_tree.specs.Interface.{include_line, interface_line}

-- an identifier or a keyword (6.4.2.1)
abbrev pub is_word : Text → Bool
is_word [] = false
is_word (b ∷ bs) = (is_letter b || b == 95) && list_all is_name_byte bs

-- decimal digits
abbrev pub is_number : Text → Bool
is_number [] = false
is_number (b ∷ bs) = list_all is_digit (b ∷ bs)

-- the operators, brackets, commas, colons and semicolons (6.4.6)
abbrev pub signs : List Text
signs =
    codes "(" ∷ codes ")" ∷ codes "[" ∷ codes "]" ∷ codes "{" ∷ codes "}" ∷ codes "," ∷ codes ";" ∷ codes ":" ∷ codes "?" ∷ codes "="
    ∷ codes "==" ∷ codes "!=" ∷ codes "<" ∷ codes "<=" ∷ codes ">" ∷ codes ">=" ∷ codes "+" ∷ codes "-" ∷ codes "*" ∷ codes "&" ∷ codes "|"
    ∷ codes "^" ∷ codes "<<" ∷ codes ">>" ∷ []

-- one of the signs
abbrev pub is_sign : Text → Bool
is_sign text = list_any (bytes_eq text) signs

-- a word, a number or a sign
abbrev pub is_token : Text → Bool
is_token text = is_word text || (is_number text || is_sign text)

-- a token is the longest one at its place (6.4): with the byte behind it, it is none
abbrev pub IsLongest : Text → List ℕ → Type 0
IsLongest text [] = Unit {0}
IsLongest text (b ∷ behind) = IsFalse (is_token (text ++ b ∷ []))

-- a space, a tab or a newline (6.4)
abbrev pub is_blank : ℕ → Bool
is_blank b = b == 32 || (b == 9 || b == 10)

-- a token comes first, behind it blanks, and then what the rest has to be
pub record IsToken (text : Text) (Rest : List ℕ → Type 0) (bytes : List ℕ) : Type 0 where
  pub blanks : List ℕ
  pub behind : List ℕ
  pub whole : bytes ≡ text ++ blanks ++ behind
  pub token : IsTrue (is_token text)
  pub longest : IsLongest text (blanks ++ behind)
  pub blank : IsTrue (list_all is_blank blanks)
  pub rest : Rest behind

-- the bytes are these tokens, with any blanks between and after them
abbrev pub AreTokens : Texts → List ℕ → Type 0
AreTokens [] bytes = bytes ≡ []
AreTokens (text ∷ texts) bytes = IsToken text (AreTokens texts) bytes

-- the bytes are a text of the program: its first two lines, and then the tokens of its function
pub record IsText (p : Program) (bytes : List ℕ) : Type 0 where
  pub function : List ℕ
  pub whole : bytes ≡ include_line ++ interface_line p.interface ++ function
  pub tokens : AreTokens (spelled p) function
