-- How a part of a run ends: with a result, past the bound of a loop, or at an undefined operation, by the number of its token.
use Rattle.std.specs.Prelude.{ℕ, Bool, true, false, Option, Some, None}

-- how a part of a run ends
pub data Outcome (A : Type 0) : Type 0 where
  Completes : A → Outcome A
  PastBound : Outcome A
  UndefinedAt : ℕ → Outcome A

-- goes on with the result
unfoldable pub bind : {A B : Type 0} → Outcome A → (A → Outcome B) → Outcome B
bind (Completes x) f = f x
bind PastBound f = PastBound
bind (UndefinedAt token) f = UndefinedAt token

-- the same as an operator
infixl 10 ◌>>=◌
abbrev pub ◌>>=◌ : {A B : Type 0} → Outcome A → (A → Outcome B) → Outcome B
x >>= f = bind x f

-- the first where the test holds, and else the second
unfoldable pub choose : {A : Type 0} → Bool → Outcome A → Outcome A → Outcome A
choose true x y = x
choose false x y = y

-- the same in words
infix 5 when◌then◌else◌
abbrev pub when◌then◌else◌ : {A : Type 0} → Bool → Outcome A → Outcome A → Outcome A
when b then x else y = choose b x y

-- what stands there, or undefined at a token
unfoldable pub found_at : {A : Type 0} → ℕ → Option A → Outcome A
found_at token None = UndefinedAt token
found_at token (Some x) = Completes x
