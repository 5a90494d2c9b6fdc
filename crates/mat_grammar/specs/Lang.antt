-- Sets of token lists, and how a grammar joins them.
use Rattle.std.specs.Prelude.{◌≡◌, ◌⊎◌, ℕ, zero, suc, List, ◌∷◌}
use Rattle.fic_base.specs.declared.place.Place.{Place}
use Rattle.mat_token.specs.declared.token.Kind.{Kind}
use Rattle.mat_token.specs.declared.token.Kind.TheVariants as kind
use Rattle.mat_token.specs.Lexeme.{Lexeme}

-- what stands at the front of a token list, with the tokens after it
abbrev pub Lang : Type 1
Lang = List Lexeme → List Lexeme → Type 0

-- the first, and then the second
pub record Joined (first second : Lang) (ts rest : List Lexeme) : Type 0 where
  pub middle : List Lexeme
  pub before : first ts middle
  pub after : second middle rest

infixr 20 ◌▸◌
-- the first, and then the second
abbrev pub ◌▸◌ : Lang → Lang → Lang
(first ▸ second) ts rest = Joined first second ts rest

infixr 15 ◌or◌
-- one of the two
abbrev pub ◌or◌ : Lang → Lang → Lang
(one or other) ts rest = one ts rest ⊎ other ts rest

-- no token
abbrev pub nothing : Lang
nothing ts rest = ts ≡ rest

-- no list
abbrev pub never : Lang
never ts rest = ⊥

-- the set, where a fact holds
abbrev pub given : Type 0 → Lang → Lang
given fact set ts rest = fact × set ts rest

-- the set, or no token
abbrev pub maybe : Lang → Lang
maybe set = nothing or set

-- the set so many times
abbrev pub times : ℕ → Lang → Lang
times zero set = nothing
times (suc n) set = set ▸ times n set

-- the set any number of times
abbrev pub many : Lang → Lang
many set ts rest = (count : ℕ) × times count set ts rest

-- one token of this kind and text, at this place
abbrev pub one_at : Place → Kind → List ℕ → Lang
one_at at kind text ts rest = ts ≡ record { place = at; kind = kind; text = text } ∷ rest

-- one token of this kind and text, anywhere
abbrev pub one : Kind → List ℕ → Lang
one kind text ts rest = (at : Place) × one_at at kind text ts rest

-- one token of this kind, whatever its text
abbrev pub any_of : Kind → Lang
any_of kind ts rest = (text : List ℕ) × one kind text ts rest

-- this operator, anywhere
abbrev pub op : List ℕ → Lang
op = one kind.Op

-- this operator, at this place
abbrev pub op_at : Place → List ℕ → Lang
op_at at = one_at at kind.Op

-- this keyword, anywhere
abbrev pub keyword : List ℕ → Lang
keyword = one kind.Keyword

-- this keyword, at this place
abbrev pub keyword_at : Place → List ℕ → Lang
keyword_at at = one_at at kind.Keyword
