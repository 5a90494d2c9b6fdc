-- The tokens of a text from its first byte on, up to the first place at which none begins.
use Rattle.std.specs.Prelude.{◌≡◌, ℕ, ◌+◌, ◌<◌, ◌≤◌, Bool, false, List, [], ◌∷◌, ◌++◌, length, map, take, drop, IsTrue, IsFalse}
use Rattle.std.specs.List.{list_all}
use Rattle.fic_base.specs.Names.{is_name_byte}
use Rattle.c_tree.specs.Texts.{Text}
use Rattle.c_tree.specs.Spelling.{Texts}
use Rattle.c_tree.specs.CText.{is_token, is_blank, IsLongest}
use Rattle.c_token.specs.declared.scan.CToken.{CToken}

-- a token: how many bytes stand before it, and its own bytes
pub record Lexeme : Type 0 where
  pub offset : ℕ
  pub text : Text

-- the texts of tokens
abbrev pub texts_of : List Lexeme → Texts
texts_of ts = map (λ t. t.text) ts

-- whether a blank comes first
abbrev pub begins_blank : List ℕ → Bool
begins_blank [] = false
begins_blank (b ∷ bytes) = is_blank b

-- no token comes first
abbrev pub BeginsNone : List ℕ → Type 0
BeginsNone bytes = (text behind : List ℕ) → bytes ≡ text ++ behind → IsFalse (is_token text)

-- behind so many bytes the longest token comes first, then all blanks that follow, and then what the rest has to be
pub record Leads (at : ℕ) (t : Lexeme) (Rest : ℕ → List ℕ → Type 0) (bytes : List ℕ) : Type 0 where
  pub blanks : List ℕ
  pub behind : List ℕ
  pub offset : t.offset ≡ at
  pub whole : bytes ≡ t.text ++ (blanks ++ behind)
  pub token : IsTrue (is_token t.text)
  pub longest : IsLongest t.text (blanks ++ behind)
  pub blank : IsTrue (list_all is_blank blanks)
  pub all_blanks : IsFalse (begins_blank behind)
  pub rest : Rest (at + length t.text + length blanks) behind

-- bytes behind so many others are these tokens, up to a place at which none begins
abbrev pub AreLexed : ℕ → List Lexeme → ℕ → List ℕ → Type 0
AreLexed at [] stop bytes = (stop ≡ at) × BeginsNone bytes
AreLexed at (t ∷ ts) stop bytes = Leads at t (λ next rest. AreLexed next ts stop rest) bytes

-- a token of these bytes
abbrev pub lexeme_of : List ℕ → CToken → Lexeme
lexeme_of bytes t = record { offset = t.offset; text = take t.len (drop t.offset bytes) }

-- tokens of these bytes
abbrev pub lexemes_of : List ℕ → List CToken → List Lexeme
lexemes_of bytes ts = map (lexeme_of bytes) ts

-- whether a byte comes first that may stand in a word
abbrev pub begins_name_byte : List ℕ → Bool
begins_name_byte [] = false
begins_name_byte (b ∷ bytes) = is_name_byte b

-- so many bytes are the longest token that comes first; 0 where none does
pub record IsLength (n : ℕ) (bytes : List ℕ) : Type 0 where
  pub within : n ≤ length bytes
  pub none : n ≡ 0 → BeginsNone bytes
  pub token : 0 < n → IsTrue (is_token (take n bytes))
  pub longest : 0 < n → IsLongest (take n bytes) (drop n bytes)
