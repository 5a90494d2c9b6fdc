-- Matrix products of sound values are sound.
use Rattle.std.proofs.Common.{◌≡◌, refl, sym, ap, ◌∙◌, ℕ, ◌*◌, ◌≤◌, Bool, true, false, List, [], ◌∷◌, length}
use Rattle.std.specs.Prelude.{ℤ, pos, ◌||◌, nat_eq, map, Option, Some, None, is_some}
use Rattle.std.specs.List.{AllByRecursion}
use Rattle.std.proofs.lemmas.List.{length-map}
use Rattle.std.proofs.Math.Nat.{mul_comm}
use Rattle.num_type.specs.Constants.{Exact}
use Rattle.num_type.specs.Types.{NumericType, IsInRange}
use Rattle.fi_math.specs.declared.fimath.Fimath.{Fimath}
use Rattle.const_eval.specs.Complex.{Complex}
use Rattle.fi_ops.specs.Operations.{summed}
use Rattle.fi_rules.specs.declared.work.Work.TheVariants as work
use Rattle.fi_rules.specs.Pairs.{folded}
use Rattle.fi_rules.specs.Value.{Shape, count, is_scalar, Val, Number, ComplexNumber}
use Rattle.fi_values.specs.Arithmetic.{Operand, governing, result_parts, complex_folded, zipped, complex_value, is_arithmetic}
use Rattle.fi_values.specs.Elements.{below, picked}
use Rattle.fi_values.specs.Numbers.{nought, nought_parts}
use Rattle.fi_values.specs.Products.{product_shape, entries, added_from, complex_nought, real_matrix, complex_matrix, at_places, entry, all_parts, fi_matrix, matrix, multiplied}
use Rattle.fi_values.specs.Reads.{shape_of}
use Rattle.fi_values.specs.Shapes.{is_small}
use Rattle.fi_values.specs.Sums.{added_up, sum_of, row_places, column_places}
use Rattle.fi_values.specs.Sound.{IsSized, IsSound}
use Rattle.fi_values.proofs.Arithmetic.{AreOperands, operands_long, arithmetic_sound}
use Rattle.fi_values.proofs.Each.{each_map, each_map_from, each_flat}
use Rattle.fi_values.proofs.Holds.{Holds, holds, empty, holds_any, holds_then, holds_where, holds_if, holds_all, holds_count}
use Rattle.fi_values.proofs.Integers.{summed_in, zero_in}
use Rattle.fi_values.proofs.Limits.{holds_made, result_within, sum_within}
use Rattle.fi_values.proofs.Lists.{length-below, length-flat}
use Rattle.fi_values.proofs.Parts.{AreRanged, fi_value_sound}
use Rattle.fi_values.proofs.Sizes.{small_sized}

-- a sum in a type is in its range
pub sum_in : (m : Fimath) (t a : NumericType) (xs : List ℤ) → 1 ≤ t.word → IsInRange t (sum_of m t a xs)
sum_in m t a xs h = from xs (pos 0) (zero_in t)
  where
    from : (xs : List ℤ) (total : ℤ) → IsInRange t total → IsInRange t (added_up m t a total xs)
    from [] total k = k
    from (x ∷ xs) total k = from xs (summed m t (record { num = t; z = total }) (record { num = a; z = x })) (summed_in m t _ _ h)

-- ---- the shape

-- that of a product, and as many entries as it has elements
record IsProduct (s t r : Shape) : Type 0 where
  sized : IsSized r
  whole : count r ≡ t.columns * s.rows

product_sized : (s t : Shape) → IsSized s → IsSized t → Holds (IsProduct s t) (product_shape s t)
unfolding product_shape
product_sized s t h k =
    holds_then (holds_where (λ r. (1 ≤ r.rows) × (1 ≤ r.columns) × (count r ≡ t.columns * s.rows)) (nat_eq s.columns t.rows) _ (λ e. (h.some_rows, k.some_columns, mul_comm s.rows t.columns)))
    (λ r p. holds_where (IsProduct s t) (is_small r) r (λ e. record { sized = small_sized r p.0 p.1 e; whole = p.2 }))

length-entries : {A : Type 0} (s t : Shape) (f : List ℕ → List ℕ → A) → length (entries s t f) ≡ t.columns * s.rows
length-entries s t f =
    length-flat (λ j. map (λ i. f (row_places s i) (column_places t j)) (below s.rows)) s.rows (λ j. length-map (below s.rows) _ ∙ length-below s.rows) (below t.columns)
    ∙ ap (λ (n : ℕ). n * s.rows) (length-below t.columns)

-- ---- numbers

real_matrix_sound : (s : Shape) (xs : List Exact) (t : Shape) (ys : List Exact) → IsSized s → IsSized t → Holds IsSound (real_matrix s xs t ys)
real_matrix_sound s xs t ys h k =
    let f : List ℕ → List ℕ → Option Exact = λ is js. added_from (folded work.Sum) (folded work.Product) nought (picked nought xs is) (picked nought ys js) in
    holds_then (product_sized s t h k) (λ r p. holds_then (holds_count (entries s t f)) (λ cs e.
    holds (Number r cs) (p.sized, e ∙ length-entries s t f ∙ sym p.whole)))

complex_matrix_sound : (s : Shape) (xs : List Complex) (t : Shape) (ys : List Complex) → IsSized s → IsSized t → Holds IsSound (complex_matrix s xs t ys)
complex_matrix_sound s xs t ys h k =
    let f : List ℕ → List ℕ → Option Complex = λ is js. added_from (complex_folded work.Sum) (complex_folded work.Product) complex_nought (picked complex_nought xs is) (picked complex_nought ys js) in
    holds_then (product_sized s t h k) (λ r p. holds_then (holds_count (entries s t f)) (λ cs e.
    let long : length cs ≡ count r = e ∙ length-entries s t f ∙ sym p.whole in
    holds (complex_value r cs) (p.sized, length-map cs _ ∙ long, length-map cs _ ∙ long)))

-- ---- fis

-- an entry's sums are in the range of the sum type
record IsEntry (t : NumericType) (z : ℤ × Option ℤ) : Type 0 where
  re : IsInRange t z.0
  im : Holds (IsInRange t) z.1

abbrev sum_part : Fimath → NumericType → NumericType → Option (List ℤ) → Option ℤ
sum_part m t p None = None
sum_part m t p (Some ys) = Some (sum_of m t p ys)

entry_in : (m : Fimath) (p t : NumericType) (a b : Operand) (is js : List ℕ) → 1 ≤ t.word → Holds (IsEntry t) (entry m p t a b is js)
entry_in m p t a b is js h =
    holds_then (holds_any (result_parts work.Product m p (at_places a is) (at_places b js) (is_some a.parts.im) (is_some b.parts.im))) (λ r _.
    holds _ (record { re = sum_in m t p r.re h; im = of r.im }))
  where
    of : (o : Option (List ℤ)) → Holds (IsInRange t) (sum_part m t p o)
    of None = empty
    of (Some ys) = holds _ (sum_in m t p ys h)

abbrev or_nought : Option ℤ → ℤ
or_nought None = pos 0
or_nought (Some y) = y

nought_in : (t : NumericType) (o : Option ℤ) → Holds (IsInRange t) o → IsInRange t (or_nought o)
nought_in t None k = zero_in t
nought_in t (Some y) (holds _ k) = k

parts_in : (t : NumericType) (n : ℕ) (both : Bool) (zs : List (ℤ × Option ℤ)) → length zs ≡ n → AllByRecursion (IsEntry t) zs → AreRanged t n (all_parts both zs)
parts_in t n false zs e h = record {
  re = record { long = length-map zs _ ∙ e; in_range = each_map_from (IsEntry t) (IsInRange t) (λ z. z.0) (λ z k. k.re) zs h };
  im = empty;
}
parts_in t n true zs e h = record {
  re = record { long = length-map zs _ ∙ e; in_range = each_map_from (IsEntry t) (IsInRange t) (λ z. z.0) (λ z k. k.re) zs h };
  im = holds _ (record { long = length-map zs _ ∙ e; in_range = each_map_from (IsEntry t) (IsInRange t) (λ z. or_nought z.1) (λ z k. nought_in t z.1 k.im) zs h });
}

entries_in : {A : Type 0} (P : A → Type 0) (s t : Shape) (f : List ℕ → List ℕ → A) → ((is js : List ℕ) → P (f is js)) → AllByRecursion P (entries s t f)
entries_in P s t f h =
    each_flat P (λ j. map (λ i. f (row_places s i) (column_places t j)) (below s.rows))
    (λ j. each_map P (λ i. f (row_places s i) (column_places t j)) (λ i. h _ _) (below s.rows)) (below t.columns)

product_arithmetic : is_arithmetic work.Product ≡ true
unfolding is_arithmetic
product_arithmetic = refl

fi_matrix_sound : (ab : Operand × Operand) → AreOperands ab → Holds IsSound (fi_matrix ab)
fi_matrix_sound ab h =
    let a : Operand = ab.0 in
    let b : Operand = ab.1 in
    holds_then (product_sized a.shape b.shape h.0.sized h.1.sized) (λ s p.
    holds_then (holds_any (governing a.math b.math)) (λ g _.
    holds_then (holds_made (result_within work.Product _ g.math a.num b.num product_arithmetic)) (λ u v.
    holds_then (holds_made (sum_within g.math u a.shape.columns)) (λ t w.
    holds_then (holds_all (IsEntry t) (entries a.shape b.shape (entry g.math u t a b)) (entries_in (Holds (IsEntry t)) a.shape b.shape (entry g.math u t a b) (λ is js. entry_in g.math u t a b is js w.one_bit))) (λ zs k.
    holds _ (fi_value_sound t g.attached s _ w p.sized (parts_in t (count s) _ zs (k.0 ∙ length-entries a.shape b.shape (entry g.math u t a b) ∙ sym p.whole) k.1)))))))

-- ---- all classes

matrix_sound : (v x : Val) → IsSound v → IsSound x → Holds IsSound (matrix v x)
unfolding matrix
matrix_sound (Number s xs) (Number t ys) h k = real_matrix_sound s xs t ys h.0 k.0
matrix_sound (Number s xs) (ComplexNumber t us vs) h k = complex_matrix_sound s (zipped xs (nought_parts xs)) t (zipped us vs) h.0 k.0
matrix_sound (ComplexNumber s xs ys) (Number t us) h k = complex_matrix_sound s (zipped xs ys) t (zipped us (nought_parts us)) h.0 k.0
matrix_sound (ComplexNumber s xs ys) (ComplexNumber t us vs) h k = complex_matrix_sound s (zipped xs ys) t (zipped us vs) h.0 k.0
matrix_sound v x h k = holds_then (operands_long v x h k) (λ ab o. fi_matrix_sound ab o)

pub multiplied_sound : (v x : Val) → IsSound v → IsSound x → Holds IsSound (multiplied v x)
multiplied_sound v x h k =
    holds_if IsSound (is_scalar (shape_of v) || is_scalar (shape_of x)) _ _ (λ _. arithmetic_sound work.Product v x h k) (λ _. matrix_sound v x h k)
