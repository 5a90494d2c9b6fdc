-- The pieces of a text one after another, the tokens that they give, and where no piece goes on.
use Rattle.std.specs.Prelude.{◌≡◌, ◌≢◌, ℕ, ◌+◌, true, false, List, [], ◌∷◌, ◌++◌, take, drop, ◌==◌, slice_index, if◌then◌else◌, Option, Some, None, codes, fold, ◌/◌, ◌%◌, nat_lt}
use Rattle.fic_base.specs.declared.place.Place.{Place}
use Rattle.fic_base.specs.declared.code.Code.{Code}
use Rattle.fic_base.specs.declared.code.Code.TheVariants.{BadByte, Unclosed, Limit}
use Rattle.fic_base.specs.declared.refusal.Refusal.{Refusal}
use Rattle.num_type.specs.declared.memory.Stop.{Stop}
use Rattle.num_type.specs.declared.memory.Stop.TheVariants.{Refused, Memory}
use Rattle.mat_token.specs.declared.token.Kind.{Kind}
use Rattle.mat_token.specs.declared.token.Kind.TheVariants as kind
use Rattle.mat_token.specs.declared.token.Token.{Token}
use Rattle.mat_token.specs.declared.rule.Rule.{Rule}
use Rattle.mat_token.specs.declared.rule.Rule.TheVariants.{Word, Words}
use Rattle.mat_token.specs.declared.rule.Context.{Context}
use Rattle.mat_token.specs.Texts.{IsPiece}
use Rattle.mat_token.specs.Rules.{rule_at, kind_of, after_token, after_gap}

-- what a text gives
pub data Outcome : Type 0 where
  Gives : List Token → Outcome
  Refuses : Refusal → Outcome

-- the place one byte on: a line feed begins the next line
abbrev pub next_place : Place → ℕ → Place
next_place at b =
    record { offset = at.offset + 1; line = (if b == 10 then at.line + 1 else at.line); col = (if b == 10 then 1 else at.col + 1) }

-- the place behind a text
abbrev pub place_after : Place → List ℕ → Place
place_after at text = fold next_place at text

-- a digit of base 16
abbrev pub hex_digit : ℕ → ℕ
hex_digit d = if nat_lt d 10 then 48 + d else 87 + d

-- the two digits of a byte
abbrev pub hex : ℕ → List ℕ
hex b = hex_digit (b / 16) ∷ hex_digit (b % 16) ∷ []

-- what the refusal of a rule that gives no piece shows: the limit of names, the opening quote of a text, or the byte that begins no token
abbrev pub shown_of : Rule → List ℕ → List ℕ
shown_of Word s = codes "63"
shown_of Words s = if slice_index s 0 == 34 then 34 ∷ [] else 39 ∷ []
shown_of _ s = hex (slice_index s 0)

-- the code of that refusal
abbrev pub code_of : Rule → Code
code_of Word = Limit
code_of Words = Unclosed
code_of _ = BadByte

-- that refusal
abbrev pub refusal_of : Rule → Place → List ℕ → Refusal
refusal_of rule at s = record { code = code_of rule; place = at; shown = shown_of rule s }

-- the token that a piece is
abbrev pub token_of : Context → Place → Kind → ℕ → Token
token_of c at kind n = record { place = at; len = n; kind = kind; blank_before = c.gap }

-- what is known after a piece
abbrev pub after_piece : Context → Place → Rule → List ℕ → List ℕ → Option Kind → Context
after_piece c at rule text s None = after_gap c at rule s
after_piece c at rule text s (Some kind) = after_token c kind text

-- the tokens of a piece: one or none
abbrev pub tokens_of : Context → Place → ℕ → Option Kind → List Token
tokens_of c at n None = []
tokens_of c at n (Some kind) = token_of c at kind n ∷ []

-- the tokens before what the rest gives
abbrev pub preceded : List Token → Outcome → Outcome
preceded ts (Gives us) = Gives (ts ++ us)
preceded ts (Refuses r) = Refuses r

-- the end of a text: its last token, or the refusal of a block comment that is open
abbrev pub outcome_at_end : Context → Place → Outcome
outcome_at_end c at =
    if c.depth == 0 then Gives (token_of c at kind.Finish 0 ∷ [])
    else Refuses (record { code = Unclosed; place = c.opening; shown = codes "%{" })

-- what a text gives from a place on: at its end its last token, where no piece comes first a refusal, and else what comes behind the piece
pub data Reads : Context → Place → List ℕ → Outcome → Type 0 where
  Ends : (c : Context) (at : Place) (s : List ℕ) (o : Outcome) → s ≡ [] → o ≡ outcome_at_end c at → Reads c at s o
  Stops : (c : Context) (at : Place) (s : List ℕ) (o : Outcome) →
      s ≢ [] → ((n : ℕ) → IsPiece c s n → ⊥) → o ≡ Refuses (refusal_of (rule_at c s) at s) → Reads c at s o
  GoesOn : (c : Context) (at : Place) (s : List ℕ) (o : Outcome) (n : ℕ) (rest : Outcome) →
      s ≢ [] → IsPiece c s n →
      Reads (after_piece c at (rule_at c s) (take n s) s (kind_of (rule_at c s) (take n s))) (place_after at (take n s)) (drop n s) rest →
      o ≡ preceded (tokens_of c at n (kind_of (rule_at c s) (take n s))) rest → Reads c at s o

-- where a call stops at a refusal, the refusal is this one
abbrev pub RefusesOnly : Stop Refusal → (Refusal → Type 0) → Type 0
RefusesOnly (Refused r) P = P r
RefusesOnly Memory P = Unit {0}

-- the place of the first byte
abbrev pub first_place : Place
first_place = record { offset = 0; line = 1; col = 1 }

-- what is known before the first byte
abbrev pub first_context : Context
first_context = record { fresh = true; gap = false; operand = false; depth = 0; opening = first_place }

-- what a whole text gives, without the separators of brackets
abbrev pub ReadsWhole : List ℕ → Outcome → Type 0
ReadsWhole bytes o = Reads first_context first_place bytes o
