-- What every token list of a source keeps.
use Rattle.std.specs.Prelude.{◌≡◌, ◌≢◌, ℕ, ◌+◌, ◌-◌, ◌≤◌, false, List, [], ◌∷◌, ◌++◌, length, slice_index, IsTrue}
use Rattle.std.specs.List.{AllByRecursion}
use Rattle.fic_base.specs.Decimal.{IsDecimal}
use Rattle.fic_base.specs.Names.{IsName}
use Rattle.mat_token.specs.declared.token.Kind.TheVariants as kind
use Rattle.mat_token.specs.declared.token.Token.{Token}
use Rattle.mat_token.specs.Lexeme.{text_of}
use Rattle.mat_token.specs.Texts.{is_unit}

-- the text of a number: a decimal, or one with `i` or `j` behind it
pub record IsNumberText (text : List ℕ) : Type 0 where
  pub real : is_unit (slice_index text (length text - 1)) ≡ false → IsDecimal text
  pub imaginary : (digits : List ℕ) (unit : ℕ) → IsTrue (is_unit unit) → text ≡ digits ++ unit ∷ [] → IsDecimal digits

-- a token lies in the source, and a number and a name are written as such
pub record IsTokenOf (bytes : List ℕ) (t : Token) : Type 0 where
  pub within : t.place.offset + t.len ≤ length bytes
  pub number : t.kind ≡ kind.Number → IsNumberText (text_of bytes t)
  pub name : t.kind ≡ kind.Name → IsName (text_of bytes t)

-- the last token is the only one of the kind Finish
abbrev pub EndsOnce : List Token → Type 0
EndsOnce [] = ⊥
EndsOnce (t ∷ []) = t.kind ≡ kind.Finish
EndsOnce (t ∷ u ∷ ts) = (t.kind ≢ kind.Finish) × EndsOnce (u ∷ ts)

-- the tokens of a source that is not too long
pub record AreTokensOf (bytes : List ℕ) (ts : List Token) : Type 0 where
  pub short : length bytes ≤ 1048576
  pub each : AllByRecursion (IsTokenOf bytes) ts
  pub finish : EndsOnce ts
