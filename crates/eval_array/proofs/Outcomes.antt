-- Outcomes, step by step.
use Rattle.std.proofs.Common.{◌≡◌, refl, sym, ap, subst}
use Rattle.std.specs.Prelude.{Bool, true, false, Option, Some, None, Result}
use Rattle.fic_base.specs.declared.place.Place.{Place}
use Rattle.fi_rules.specs.Options.{and_then, where_so}
use Rattle.fi_eval.specs.Outcome.{Got, Wrong, bind, or_wrong, choose}
use Rattle.eval_value.specs.Tells.{Tells}
use Rattle.eval_value.specs.declared.halt.Halt.{Halt}

-- two values that have to be there
pub chained : {A B C : Type 0} (at : Place) (o : Option A) (g : A → Option B) (f : B → Got Place C) → bind (or_wrong at o) (λ x. bind (or_wrong at (g x)) f) ≡ bind (or_wrong at (and_then o g)) f
unfolding bind or_wrong and_then
chained at None g f = refl
chained at (Some x) g f = refl

-- the same where what follows doesn't depend on the first one
pub chained_with : {A B C : Type 0} (at : Place) (o : Option A) (g : A → Option B) (h : A → B → Got Place C) (f : B → Got Place C) → ((x : A) → o ≡ Some x → h x ≡ f) → bind (or_wrong at o) (λ x. bind (or_wrong at (g x)) (h x)) ≡ bind (or_wrong at (and_then o g)) f
unfolding bind or_wrong and_then
chained_with at None g h f e = refl
chained_with at (Some x) g h f e = ap (λ k. bind (or_wrong at (g x)) k) (e x refl)

pub found_none : {A B : Type 0} (at : Place) (o : Option A) (f : A → Got Place B) → None ≡ o → bind (or_wrong at o) f ≡ Wrong at
unfolding bind or_wrong
found_none at o f e = ap (λ p. bind (or_wrong at p) f) (sym e)

pub found_some : {A B : Type 0} (at : Place) (o : Option A) (x : A) (f : A → Got Place B) → Some x ≡ o → bind (or_wrong at o) f ≡ f x
unfolding bind or_wrong
found_some at o x f e = ap (λ p. bind (or_wrong at p) f) (sym e)

-- an answer of another spelling of an outcome
pub told : {R A : Type 0} (r : Result R Halt) (view : R → A) (got other : Got Place A) → got ≡ other → Tells r view other → Tells r view got
told r view got other e h = subst (λ g. Tells r view g) (sym e) h

-- what a test picks
pub picks_first : {A : Type 0} (b : Bool) (x y : Got Place A) → b ≡ true → choose b x y ≡ x
unfolding choose
picks_first b x y e = ap (λ c. choose c x y) e

pub picks_second : {A : Type 0} (b : Bool) (x y : Got Place A) → b ≡ false → choose b x y ≡ y
unfolding choose
picks_second b x y e = ap (λ c. choose c x y) e

something : {A : Type 0} (x : A) → Some x ≡ None → ⊥
something x e = cc

nothing : {A : Type 0} (x : A) → None ≡ Some x → ⊥
nothing x e = cc

-- a value where a test holds
pub there_is : {A : Type 0} (b : Bool) (x y : A) → Some x ≡ where_so b y → (b ≡ true) × (x ≡ y)
unfolding where_so
there_is true x y e = (refl, same e)
  where
    same : Some x ≡ Some y → x ≡ y
    same f = cc
there_is false x y e = absurd (something x e)

pub not_there : {A : Type 0} (b : Bool) (y : A) → None ≡ where_so b y → b ≡ false
unfolding where_so
not_there true y e = absurd (nothing y e)
not_there false y e = refl
