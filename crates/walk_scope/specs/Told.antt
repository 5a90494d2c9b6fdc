-- What a walk over a source tells: its result, or the first refusal.
use Rattle.std.specs.Prelude.{ℕ, List, Bool, true, false}
use Rattle.fic_base.specs.declared.code.Code.{Code}
use Rattle.fic_base.specs.declared.place.Place.{Place}

pub data Told (A : Type 0) : Type 0 where
  Passes : A → Told A
  -- the code, the place and the shown text
  Refuses : Code → Place → List ℕ → Told A

-- goes on with the result, if there is one
unfoldable pub bind : {A B : Type 0} → Told A → (A → Told B) → Told B
bind (Passes x) f = f x
bind (Refuses code at shown) f = Refuses code at shown

infixl 10 ◌>>=◌
abbrev pub ◌>>=◌ : {A B : Type 0} → Told A → (A → Told B) → Told B
x >>= f = bind x f

-- the first where the test holds, else the second
unfoldable pub choose : {A : Type 0} → Bool → Told A → Told A → Told A
choose true x y = x
choose false x y = y

infix 5 when◌then◌else◌
abbrev pub when◌then◌else◌ : {A : Type 0} → Bool → Told A → Told A → Told A
when b then x else y = choose b x y
