-- Reads of sound values are sound.
use Rattle.std.proofs.Common.{◌≡◌, ◌∙◌, ℕ, false, List, length}
use Rattle.std.specs.Prelude.{ℤ, pos}
use Rattle.std.specs.List.{AllByRecursion}
use Rattle.fic_base.specs.declared.place.Place.{Place}
use Rattle.num_type.specs.Types.{NumericType, IsInRange}
use Rattle.fi_rules.specs.Value.{Shape, count, Val, Fi, ComplexFi, Logical, Number, ComplexNumber, Words, MathObject, TypeObject}
use Rattle.fi_values.specs.Elements.{picked}
use Rattle.fi_values.specs.Reads.{shape_of, selected, read}
use Rattle.fi_values.specs.Shapes.{is_small}
use Rattle.fi_values.specs.Subscripts.{Subscript, Selection}
use Rattle.fi_values.specs.Sound.{IsSized, IsStored, IsSound, Granted, grants, at_wrong}
use Rattle.fi_values.proofs.Each.{each_picked, is_stored, ranges}
use Rattle.fi_values.proofs.Holds.{granted_then, granted_wrong, granted_fault, granted_if}
use Rattle.fi_values.proofs.Integers.{zero_in}
use Rattle.fi_values.proofs.Lists.{length-picked}
use Rattle.fi_values.proofs.Selections.{IsSubscript, IsSelection, selection_sound}
use Rattle.fi_values.proofs.Sizes.{scalar_sized, small_sized}

pub shape_sized : (v : Val) → IsSound v → IsSized (shape_of v)
shape_sized (Fi t m s xs) h = h.1
shape_sized (ComplexFi t m s xs ys) h = h.1
shape_sized (Logical s bs) h = h.0
shape_sized (Number s cs) h = h.0
shape_sized (ComplexNumber s xs ys) h = h.0
shape_sized (Words text) h = scalar_sized
shape_sized (MathObject m) h = scalar_sized
shape_sized (TypeObject t) h = scalar_sized

picked_stored : (t : NumericType) (s r : Shape) (xs : List ℤ) (ks : List ℕ) → IsStored t s xs → length ks ≡ count r → IsStored t r (picked (pos 0) xs ks)
picked_stored t s r xs ks h e = is_stored (length-picked (pos 0) xs ks ∙ e) (each_picked (IsInRange t) (pos 0) (zero_in t) xs (ranges h) ks)

selected_sound : (at : Place) (site : ℕ) (v : Val) (k : Selection) → IsSound v → IsSized k.shape → IsSelection k → Granted IsSound (selected at site v k)
unfolding selected
selected_sound at site (Fi t m s xs) k h z i = granted_then (granted_fault site i.places) (λ ks e. grants _ (h.0, z, picked_stored t s k.shape xs ks h.2 e))
selected_sound at site (ComplexFi t m s xs ys) k h z i =
    granted_then (granted_fault site i.places) (λ ks e. grants _ (h.0, z, picked_stored t s k.shape xs ks h.2 e, picked_stored t s k.shape ys ks h.3 e))
selected_sound at site (Logical s bs) k h z i = granted_then (granted_fault site i.places) (λ ks e. grants _ (z, length-picked false bs ks ∙ e))
selected_sound at site (Number s cs) k h z i =
    granted_if k.fixed (λ _. granted_then (granted_wrong at i.places) (λ ks e. grants _ (z, length-picked _ cs ks ∙ e))) (λ _. at_wrong at)
selected_sound at site (ComplexNumber s xs ys) k h z i =
    granted_if k.fixed (λ _. granted_then (granted_wrong at i.places) (λ ks e. grants _ (z, length-picked _ xs ks ∙ e, length-picked _ ys ks ∙ e))) (λ _. at_wrong at)
selected_sound at site (Words text) k h z i = at_wrong at
selected_sound at site (MathObject m) k h z i = at_wrong at
selected_sound at site (TypeObject t) k h z i = at_wrong at

pub read_sound : (at : Place) (site : ℕ) (v : Val) (subs : List Subscript) → IsSound v → AllByRecursion IsSubscript subs → Granted IsSound (read at site v subs)
read_sound at site v subs h k =
    granted_then (granted_wrong at (selection_sound (shape_of v) subs (shape_sized v h) k)) (λ i p.
    granted_if (is_small i.shape) (λ e. selected_sound at site v i h (small_sized i.shape p.some_rows p.some_columns e) p) (λ _. at_wrong at))
