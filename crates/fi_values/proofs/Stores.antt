-- Sound values with sound ones stored in them are sound.
use Rattle.std.proofs.Common.{◌∙◌, ℕ, ◌≤◌, List, length}
use Rattle.std.specs.Prelude.{ℤ, pos, Option, Some}
use Rattle.std.specs.List.{AllByRecursion}
use Rattle.fic_base.specs.declared.place.Place.{Place}
use Rattle.num_type.specs.Types.{NumericType, IsInRange}
use Rattle.fi_math.specs.declared.fimath.Fimath.{Fimath}
use Rattle.fi_rules.specs.Options.{◌|>◌}
use Rattle.fi_rules.specs.Value.{Shape, Val, Fi, ComplexFi, Logical, Number, ComplexNumber, Words, MathObject, TypeObject}
use Rattle.fi_eval.specs.Calls.{taken, taken_constant}
use Rattle.fi_values.specs.Elements.{spread}
use Rattle.fi_values.specs.Reads.{shape_of}
use Rattle.fi_values.specs.Stores.{fits, noughts, real_taken, complex_taken, truths_taken, put, stored_at, stored}
use Rattle.fi_values.specs.Subscripts.{Subscript, Selection}
use Rattle.fi_values.specs.Sound.{IsStored, IsSound, Granted, grants, at_wrong}
use Rattle.fi_values.proofs.Each.{each_map, each_written, each_spread, is_stored, ranges}
use Rattle.fi_values.proofs.Holds.{Holds, holds, empty, holds_any, holds_then, granted_then, granted_wrong, granted_fault, granted_if}
use Rattle.fi_values.proofs.Integers.{zero_in, taken_in, constant_in}
use Rattle.fi_values.proofs.Lists.{length-written}

abbrev AreIn : NumericType → List ℤ → Type 0
AreIn t zs = AllByRecursion (IsInRange t) zs

real_in : (t : NumericType) (m : Option Fimath) (v : Val) → 1 ≤ t.word → Holds (AreIn t) (real_taken t m v)
unfolding real_taken
real_in t m (Fi u n s ys) h = holds _ (each_map (IsInRange t) (λ y. taken t m y u.fraction) (λ y. taken_in t m y u.fraction h) ys)
real_in t m (Number s cs) h = holds _ (each_map (IsInRange t) (taken_constant t m) (λ c. constant_in t m c h) cs)
real_in t m (ComplexFi u n s xs ys) h = empty
real_in t m (Logical s bs) h = empty
real_in t m (ComplexNumber s xs ys) h = empty
real_in t m (Words text) h = empty
real_in t m (MathObject n) h = empty
real_in t m (TypeObject u) h = empty

abbrev BothIn : NumericType → List ℤ × List ℤ → Type 0
BothIn t p = AreIn t p.0 × AreIn t p.1

beside_in : (t : NumericType) (m : Option Fimath) (v : Val) → 1 ≤ t.word → Holds (BothIn t) (real_taken t m v |> (λ zs. Some (zs, noughts zs)))
beside_in t m v h = holds_then (real_in t m v h) (λ zs k. holds (zs, noughts zs) (k, each_map (IsInRange t) (λ x. pos 0) (λ x. zero_in t) zs))

complex_in : (t : NumericType) (m : Option Fimath) (v : Val) → 1 ≤ t.word → Holds (BothIn t) (complex_taken t m v)
unfolding complex_taken
complex_in t m (ComplexFi u n s xs ys) h =
    holds _ (each_map (IsInRange t) (λ x. taken t m x u.fraction) (λ x. taken_in t m x u.fraction h) xs, each_map (IsInRange t) (λ y. taken t m y u.fraction) (λ y. taken_in t m y u.fraction h) ys)
complex_in t m (ComplexNumber s xs ys) h =
    holds _ (each_map (IsInRange t) (taken_constant t m) (λ c. constant_in t m c h) xs, each_map (IsInRange t) (taken_constant t m) (λ c. constant_in t m c h) ys)
complex_in t m (Fi u n s xs) h = beside_in t m (Fi u n s xs) h
complex_in t m (Logical s bs) h = beside_in t m (Logical s bs) h
complex_in t m (Number s cs) h = beside_in t m (Number s cs) h
complex_in t m (Words text) h = beside_in t m (Words text) h
complex_in t m (MathObject n) h = beside_in t m (MathObject n) h
complex_in t m (TypeObject u) h = beside_in t m (TypeObject u) h

put_stored : (t : NumericType) (s : Shape) (xs : List ℤ) (ks : List ℕ) (ys : List ℤ) → IsStored t s xs → AreIn t ys → IsStored t s (put xs ks ys)
put_stored t s xs ks ys h k =
    is_stored (length-written xs ks (spread (length ks) ys) ∙ h.filled)
    (each_written (IsInRange t) xs ks (spread (length ks) ys) (ranges h) (each_spread (IsInRange t) (length ks) ys k))

stored_at_sound : (at : Place) (site : ℕ) (target : Val) (k : Selection) (v : Val) → IsSound target → Granted IsSound (stored_at at site target k v)
unfolding stored_at
stored_at_sound at site (Fi t m s xs) k v h =
    granted_then (granted_wrong at (real_in t m v h.0.one_bit)) (λ ys a.
    granted_then (granted_fault site (holds_any k.places)) (λ ks _. grants _ (h.0, h.1, put_stored t s xs ks ys h.2 a)))
stored_at_sound at site (ComplexFi t m s xs ys) k v h =
    granted_then (granted_wrong at (complex_in t m v h.0.one_bit)) (λ p a.
    granted_then (granted_fault site (holds_any k.places)) (λ ks _. grants _ (h.0, h.1, put_stored t s xs ks p.0 h.2 a.0, put_stored t s ys ks p.1 h.3 a.1)))
stored_at_sound at site (Logical s bs) k v h =
    granted_then (granted_wrong at (holds_any (truths_taken v))) (λ cs _.
    granted_then (granted_fault site (holds_any k.places)) (λ ks _. grants _ (h.0, length-written bs ks (spread (length ks) cs) ∙ h.1)))
stored_at_sound at site (Number s cs) k v h = at_wrong at
stored_at_sound at site (ComplexNumber s xs ys) k v h = at_wrong at
stored_at_sound at site (Words text) k v h = at_wrong at
stored_at_sound at site (MathObject m) k v h = at_wrong at
stored_at_sound at site (TypeObject t) k v h = at_wrong at

pub stored_sound : (at : Place) (site : ℕ) (target : Val) (subs : List Subscript) (v : Val) → IsSound target → Granted IsSound (stored at site target subs v)
stored_sound at site target subs v h =
    granted_then (granted_wrong at (holds_any _)) (λ k _.
    granted_if (fits subs k.shape (shape_of v)) (λ _. stored_at_sound at site target k v h) (λ _. at_wrong at))
