-- How an evaluation ends: with a result, at a fault, past the bound on turns, or where no rule gives a result.
use Rattle.std.specs.Prelude.{ℕ, Option, Some, None, Bool, true, false}

-- W is what a wrong outcome tells: a place in the source, or nothing where there is no wrong outcome
pub data Got (W A : Type 0) : Type 0 where
  Gives : A → Got W A
  -- a subscript out of its extent, by its site
  Fault : ℕ → Got W A
  -- a test of a while was true once more than the bound allows
  Over : Got W A
  Wrong : W → Got W A

-- goes on with the result, if there is one
unfoldable pub bind : {W A B : Type 0} → Got W A → (A → Got W B) → Got W B
bind (Gives x) f = f x
bind (Fault site) f = Fault site
bind Over f = Over
bind (Wrong at) f = Wrong at

infixl 10 ◌>>=◌
abbrev pub ◌>>=◌ : {W A B : Type 0} → Got W A → (A → Got W B) → Got W B
x >>= f = bind x f

-- the value, or wrong where there is none
unfoldable pub or_wrong : {W A : Type 0} → W → Option A → Got W A
or_wrong at (Some x) = Gives x
or_wrong at None = Wrong at

-- the first where the test holds, else the second
unfoldable pub choose : {W A : Type 0} → Bool → Got W A → Got W A → Got W A
choose true x y = x
choose false x y = y

infix 5 when◌then◌else◌
abbrev pub when◌then◌else◌ : {W A : Type 0} → Bool → Got W A → Got W A → Got W A
when b then x else y = choose b x y
