-- Tokens with their texts.
use Rattle.std.specs.Prelude.{ℕ, List, map, take, drop}
use Rattle.fic_base.specs.declared.place.Place.{Place}
use Rattle.mat_token.specs.declared.token.Kind.{Kind}
use Rattle.mat_token.specs.declared.token.Token.{Token}

-- a token's place, kind and text
pub record Lexeme : Type 0 where
  pub place : Place
  pub kind : Kind
  pub text : List ℕ

-- the text of a token of these bytes
abbrev pub text_of : List ℕ → Token → List ℕ
text_of bytes t = take t.len (drop t.place.offset bytes)

-- the lexeme of a token of these bytes
abbrev pub lexeme_of : List ℕ → Token → Lexeme
lexeme_of bytes t = record { place = t.place; kind = t.kind; text = text_of bytes t }

-- the lexemes of tokens of these bytes
abbrev pub lexemes_of : List ℕ → List Token → List Lexeme
lexemes_of bytes tokens = map (lexeme_of bytes) tokens
