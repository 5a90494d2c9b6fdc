-- Arguments of calls.
use Rattle.std.proofs.Common.{◌≡◌, Bool, true, false, List, [], ◌∷◌, ◌++◌, refl, ap}
use Rattle.fic_base.specs.declared.place.Place.{Place}
use Rattle.fi_eval.specs.Outcome.{Gives, Wrong}
use Rattle.fi_meaning.specs.Calls.{Argument}
use Rattle.eval_source.specs.Items.{closed}

appended_nil : {A : Type 0} (xs : List A) → xs ++ [] ≡ xs
appended_nil [] = refl
appended_nil (x ∷ xs) = ap (λ ys. x ∷ ys) (appended_nil xs)

-- all arguments, where no `:` stood among them
pub all_passed : (at : Place) (xs : List Argument) (b : Bool) → b ≡ false → closed at (record { arguments = xs; colon = b }) [] ≡ Gives xs
unfolding closed
all_passed at xs true h = absurd (let e : true ≡ false = h in cc)
all_passed at xs false h = ap Gives (appended_nil xs)

-- none where one did
pub colon_passed : (at : Place) (xs : List Argument) (b : Bool) → b ≡ true → closed at (record { arguments = xs; colon = b }) [] ≡ Wrong at
unfolding closed
colon_passed at xs true h = refl
colon_passed at xs false h = absurd (let e : false ≡ true = h in cc)
