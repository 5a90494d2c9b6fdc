-- Where and why a token list is refused.
use Rattle.std.specs.Prelude.{◌≡◌, ◌⊎◌, ◌+◌, ℕ, List, codes, take, slice_get, Some}
use Rattle.fic_base.specs.declared.refusal.Refusal.{Refusal}
use Rattle.fic_base.specs.declared.code.Code.TheVariants as code
use Rattle.mat_token.specs.declared.token.Kind.{Kind}
use Rattle.mat_token.specs.declared.token.Kind.TheVariants as kind
use Rattle.mat_token.specs.Lexeme.{Lexeme}
use Rattle.mat_grammar.specs.Grammar.{IsLive, IsBad}

-- what a syntax error shows of a token of this kind and text
abbrev pub shown : Kind → List ℕ → List ℕ
shown kind.Newline text = codes "end of line"
shown kind.Finish text = codes "end of file"
shown _ text = take 40 text

-- The refusal stands at the first token with which the list is no longer shallow: it is a limit where the list with that token still goes
-- on to a file, which is then too deep, and else a syntax error.
pub record IsRefused (ts : List Lexeme) (r : Refusal) : Type 0 where
  pub index : ℕ
  pub bad : IsBad ts index
  pub token : Lexeme
  pub there : slice_get ts index ≡ Some token
  pub place_is : r.place ≡ token.place
  pub cause : (IsLive (take (index + 1) ts) × (r.code ≡ code.Limit) × (r.shown ≡ codes "100"))
      ⊎ ((IsLive (take (index + 1) ts) → ⊥) × (r.code ≡ code.Syntax) × (r.shown ≡ shown token.kind token.text))
