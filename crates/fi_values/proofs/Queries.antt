-- Shapes, parts and filled arrays that built-in functions give are sound.
use Rattle.std.proofs.Common.{refl, ◌∙◌, ℕ, ◌≤◌, subst}
use Rattle.std.specs.Prelude.{pos, max}
use Rattle.std.proofs.lemmas.List.{length-map}
use Rattle.num_type.specs.Constants.{Exact}
use Rattle.num_type.specs.Types.{NumericType, IsWithin, IsInRange}
use Rattle.fi_rules.specs.Types.{same_type}
use Rattle.fi_rules.specs.Value.{Shape, count, Val, Fi, ComplexFi, Logical, Number, ComplexNumber, Words, MathObject, TypeObject}
use Rattle.fi_values.specs.Arithmetic.{governing}
use Rattle.fi_values.specs.Elements.{below}
use Rattle.fi_values.specs.Numbers.{whole_value}
use Rattle.fi_values.specs.Queries.{array_shape, element_count, greater_extent, extent_along, extent_of, real_part, imaginary_part, complex_of, filled}
use Rattle.fi_values.specs.Shapes.{is_small}
use Rattle.fi_values.specs.Sound.{IsSized, IsStored, IsSound}
use Rattle.fi_values.proofs.Each.{each_map, each_pairwise, is_stored, ranges}
use Rattle.fi_values.proofs.Holds.{Holds, holds, empty, holds_any, holds_then, holds_where}
use Rattle.fi_values.proofs.Integers.{zero_in}
use Rattle.fi_values.proofs.Joins.{type_same}
use Rattle.fi_values.proofs.Lists.{length-below, length-pairwise}
use Rattle.fi_values.proofs.Sizes.{common_shape, lengths, scalar_sized, small_sized}

pub whole_sound : (n : ℕ) → IsSound (whole_value n)
whole_sound n = (scalar_sized, refl)

pub element_count_sound : (v : Val) → Holds IsSound (element_count v)
element_count_sound v = holds_then (holds_any (array_shape v)) (λ s _. holds _ (whole_sound (count s)))

pub greater_extent_sound : (v : Val) → Holds IsSound (greater_extent v)
greater_extent_sound v = holds_then (holds_any (array_shape v)) (λ s _. holds _ (whole_sound (max s.rows s.columns)))

pub extent_sound : (d : ℕ) (v : Val) → Holds IsSound (extent_of d v)
extent_sound d v = holds_then (holds_any (array_shape v)) (λ s _. holds_then (holds_any (extent_along d s)) (λ n _. holds _ (whole_sound n)))

pub real_part_sound : (v : Val) → IsSound v → Holds IsSound (real_part v)
unfolding real_part
real_part_sound (Fi t m s xs) h = holds _ h
real_part_sound (ComplexFi t m s xs ys) h = holds _ (h.0, h.1, h.2)
real_part_sound (Logical s bs) h = empty
real_part_sound (Number s cs) h = empty
real_part_sound (ComplexNumber s xs ys) h = empty
real_part_sound (Words text) h = empty
real_part_sound (MathObject m) h = empty
real_part_sound (TypeObject t) h = empty

pub imaginary_part_sound : (v : Val) → IsSound v → Holds IsSound (imaginary_part v)
unfolding imaginary_part
imaginary_part_sound (Fi t m s xs) h =
    holds _ (h.0, h.1, is_stored (length-map xs _ ∙ h.2.filled) (each_map (IsInRange t) (λ x. pos 0) (λ x. zero_in t) xs))
imaginary_part_sound (ComplexFi t m s xs ys) h = holds _ (h.0, h.1, h.3)
imaginary_part_sound (Logical s bs) h = empty
imaginary_part_sound (Number s cs) h = empty
imaginary_part_sound (ComplexNumber s xs ys) h = empty
imaginary_part_sound (Words text) h = empty
imaginary_part_sound (MathObject m) h = empty
imaginary_part_sound (TypeObject t) h = empty

pub complex_sound : (v w : Val) → IsSound v → IsSound w → Holds IsSound (complex_of v w)
unfolding complex_of
complex_sound (Fi t m s xs) (Fi u n r ys) h k =
    holds_then (holds_where (λ x. IsWithin x × IsStored x s xs × IsStored x r ys) (same_type t u) t (λ e. (h.0, h.2, subst (λ (x : NumericType). IsStored x r ys) (type_same t u e) k.2))) (λ x p.
    holds_then (common_shape s r h.1 k.1) (λ q c.
    holds_then (holds_any (governing m n)) (λ g _.
    holds _ (
      p.0,
      c.sized,
      is_stored (length-pairwise _ xs ys (count q) (lengths c.pairing p.1.filled p.2.filled))
          (each_pairwise (IsInRange x) (IsInRange x) (IsInRange x) (λ a b. a) (λ a b i j. i) xs ys (ranges p.1) (ranges p.2)),
      is_stored (length-pairwise _ xs ys (count q) (lengths c.pairing p.1.filled p.2.filled))
          (each_pairwise (IsInRange x) (IsInRange x) (IsInRange x) (λ a b. b) (λ a b i j. j) xs ys (ranges p.1) (ranges p.2)),
    ))))
complex_sound v w h k = empty

pub filled_sound : (c : Exact) (s : Shape) → 1 ≤ s.rows → 1 ≤ s.columns → Holds IsSound (filled c s)
filled_sound c s h k =
    holds_then (holds_where IsSized (is_small s) s (λ e. small_sized s h k e)) (λ r z. holds _ (z, length-map (below (count r)) _ ∙ length-below (count r)))
