-- Sums of elements of sound values are sound.
use Rattle.std.proofs.Common.{◌≡◌, ◌∙◌, ◌≤◌, List, length, arith}
use Rattle.std.specs.Prelude.{ℤ, pos}
use Rattle.std.proofs.lemmas.List.{length-map}
use Rattle.num_type.specs.Types.{NumericType, IsInRange}
use Rattle.fi_math.specs.declared.fimath.Fimath.{Fimath}
use Rattle.fi_rules.specs.Value.{Shape, count, Val, Fi, ComplexFi, Logical, Number, ComplexNumber, Words, MathObject, TypeObject}
use Rattle.fi_eval.specs.Operators.{math_of}
use Rattle.fi_values.specs.Elements.{below, picked}
use Rattle.fi_values.specs.Sums.{Along, Columns, Rows, addends, sum_shape, groups, sums, summed_value}
use Rattle.fi_values.specs.Sound.{IsSized, IsStored, IsSound}
use Rattle.fi_values.proofs.Each.{each_map, is_stored}
use Rattle.fi_values.proofs.Holds.{Holds, holds, empty, holds_then}
use Rattle.fi_values.proofs.Limits.{holds_made, sum_within}
use Rattle.fi_values.proofs.Lists.{length-below}
use Rattle.fi_values.proofs.Products.{sum_in}
use Rattle.fi_values.proofs.Sizes.{lesser_sized}

sum_sized : (along : Along) (s : Shape) → IsSized s → IsSized (sum_shape along s)
sum_sized Columns s h = lesser_sized (sum_shape Columns s) s h (omega arith) h.some_columns h.some_rows (omega arith)
sum_sized Rows s h = lesser_sized (sum_shape Rows s) s h h.some_rows (omega arith) (omega arith) h.some_columns

length-groups : (along : Along) (s : Shape) → length (groups along s) ≡ count (sum_shape along s)
length-groups Columns s = let e = length-map (below s.columns) _ ∙ length-below s.columns in e ∙ omega arith
length-groups Rows s = let e = length-map (below s.rows) _ ∙ length-below s.rows in e ∙ omega arith

sums_stored : (m : Fimath) (t a : NumericType) (along : Along) (s : Shape) (xs : List ℤ) → 1 ≤ t.word → IsStored t (sum_shape along s) (sums m t a along s xs)
sums_stored m t a along s xs h =
    is_stored (length-map (groups along s) _ ∙ length-groups along s)
    (each_map (IsInRange t) _ (λ ks. sum_in m t a (picked (pos 0) xs ks) h) (groups along s))

pub sum_sound : (along : Along) (v : Val) → IsSound v → Holds IsSound (summed_value along v)
unfolding summed_value
sum_sound along (Fi a m s xs) h =
    holds_then (holds_made (sum_within (math_of m) a (addends along s))) (λ t v.
    holds _ (v, sum_sized along s h.1, sums_stored (math_of m) t a along s xs v.one_bit))
sum_sound along (ComplexFi a m s xs ys) h =
    holds_then (holds_made (sum_within (math_of m) a (addends along s))) (λ t v.
    holds _ (v, sum_sized along s h.1, sums_stored (math_of m) t a along s xs v.one_bit, sums_stored (math_of m) t a along s ys v.one_bit))
sum_sound along (Logical s bs) h = empty
sum_sound along (Number s cs) h = empty
sum_sound along (ComplexNumber s xs ys) h = empty
sum_sound along (Words text) h = empty
sum_sound along (MathObject m) h = empty
sum_sound along (TypeObject t) h = empty
