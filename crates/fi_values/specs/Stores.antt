-- Subscripted assignments, which keep the type of their target.
use Rattle.std.specs.Prelude.{ℕ, ℤ, pos, Bool, ◌||◌, nat_eq, List, [], ◌∷◌, map, length, Option, Some, None}
use Rattle.fic_base.specs.declared.place.Place.{Place}
use Rattle.num_type.specs.Types.{NumericType}
use Rattle.fi_math.specs.declared.fimath.Fimath.{Fimath}
use Rattle.fi_rules.specs.Types.{same_shape}
use Rattle.fi_rules.specs.Value.{Shape, count, is_scalar, Val, Fi, ComplexFi, Logical, Number, ComplexNumber}
use Rattle.fi_rules.specs.Options.{◌|>◌}
use Rattle.fi_eval.specs.Calls.{taken, taken_constant}
use Rattle.fi_eval.specs.Outcome.{Got, Gives, Wrong, ◌>>=◌, or_wrong, when◌then◌else◌}
use Rattle.fi_values.specs.Elements.{spread, written}
use Rattle.fi_values.specs.Reads.{shape_of, or_fault}
use Rattle.fi_values.specs.Subscripts.{Subscript, Selection, selection}

-- the value is scalar, or has as many elements as one subscript selects, or with two the selected shape
unfoldable pub fits : List Subscript → Shape → Shape → Bool
fits (k ∷ []) selected s = is_scalar s || nat_eq (count s) (count selected)
fits ks selected s = is_scalar s || same_shape s selected

-- zeros for imaginary parts
abbrev pub noughts : {A : Type 0} → List A → List ℤ
noughts = map (λ x. pos 0)

-- the stored integers that a real fi of this type and fimath takes of a value
unfoldable pub real_taken : NumericType → Option Fimath → Val → Option (List ℤ)
real_taken t m (Fi u n s ys) = Some (map (λ y. taken t m y u.fraction) ys)
real_taken t m (Number s cs) = Some (map (taken_constant t m) cs)
real_taken t m v = None

-- both parts that a complex one takes
unfoldable pub complex_taken : NumericType → Option Fimath → Val → Option (List ℤ × List ℤ)
complex_taken t m (ComplexFi u n s xs ys) = Some (map (λ x. taken t m x u.fraction) xs, map (λ y. taken t m y u.fraction) ys)
complex_taken t m (ComplexNumber s xs ys) = Some (map (taken_constant t m) xs, map (taken_constant t m) ys)
complex_taken t m v = real_taken t m v |> (λ zs. Some (zs, noughts zs))

unfoldable pub truths_taken : Val → Option (List Bool)
truths_taken (Logical s bs) = Some bs
truths_taken v = None

abbrev pub put : {A : Type 0} → List A → List ℕ → List A → List A
put xs ks ys = written xs ks (spread (length ks) ys)

-- the target with a value at the selected places; every element of the value is taken before a subscript is tested
unfoldable pub stored_at : Place → ℕ → Val → Selection → Val → Got Place Val
stored_at at site (Fi t m s xs) k v = do
  ys ← or_wrong at (real_taken t m v)
  ks ← or_fault site k.places
  Gives (Fi t m s (put xs ks ys))
stored_at at site (ComplexFi t m s xs ys) k v = do
  p ← or_wrong at (complex_taken t m v)
  ks ← or_fault site k.places
  Gives (ComplexFi t m s (put xs ks p.0) (put ys ks p.1))
stored_at at site (Logical s bs) k v = do
  cs ← or_wrong at (truths_taken v)
  ks ← or_fault site k.places
  Gives (Logical s (put bs ks cs))
stored_at at site target k v = Wrong at

abbrev pub stored : Place → ℕ → Val → List Subscript → Val → Got Place Val
stored at site target subs v =
    or_wrong at (selection (shape_of target) subs)
    >>= (λ k. when fits subs k.shape (shape_of v) then stored_at at site target k v else Wrong at)
