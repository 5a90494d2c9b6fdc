-- Transposes of sound values are sound.
use Rattle.std.proofs.Common.{◌≡◌, ap, ◌∙◌, ℕ, ◌*◌, List, length}
use Rattle.std.specs.Prelude.{ℤ, pos, false}
use Rattle.std.proofs.lemmas.List.{length-map}
use Rattle.std.proofs.Math.Nat.{mul_comm}
use Rattle.mat_ast.specs.declared.tree.PostOp.{PostOp}
use Rattle.mat_ast.specs.declared.tree.PostOp.TheVariants as post
use Rattle.num_type.specs.Types.{NumericType, IsInRange}
use Rattle.fi_rules.specs.Value.{Shape, count, Val, Fi, ComplexFi, Logical, Number, ComplexNumber, Words, MathObject, TypeObject}
use Rattle.fi_eval.specs.Operators.{Negate, math_of, turned_element}
use Rattle.fi_values.specs.Elements.{below, turned_places}
use Rattle.fi_values.specs.Shapes.{turned}
use Rattle.fi_values.specs.Transposes.{turned_list, conjugate, flipped, transposed}
use Rattle.fi_values.specs.Sound.{IsStored, IsSound}
use Rattle.fi_values.proofs.Each.{each_map, each_picked, is_stored, ranges}
use Rattle.fi_values.proofs.Holds.{Holds, holds, empty}
use Rattle.fi_values.proofs.Integers.{turned_in, zero_in}
use Rattle.fi_values.proofs.Lists.{length-below, length-flat, length-picked}
use Rattle.fi_values.proofs.Sizes.{turned_sized}

length-places : (s : Shape) → length (turned_places s) ≡ count (turned s)
length-places s =
    length-flat _ s.columns (λ i. length-map (below s.columns) _ ∙ length-below s.columns) (below s.rows)
    ∙ ap (λ (n : ℕ). n * s.columns) (length-below s.rows) ∙ mul_comm s.rows s.columns

length-turned : {A : Type 0} (d : A) (s : Shape) (xs : List A) → length (turned_list d s xs) ≡ count (turned s)
length-turned d s xs = length-picked d xs (turned_places s) ∙ length-places s

turned_stored : (t : NumericType) (s : Shape) (xs : List ℤ) → IsStored t s xs → IsStored t (turned s) (turned_list (pos 0) s xs)
turned_stored t s xs h = is_stored (length-turned (pos 0) s xs) (each_picked (IsInRange t) (pos 0) (zero_in t) xs (ranges h) (turned_places s))

pub conjugate_sound : (v : Val) → IsSound v → IsSound (conjugate v)
unfolding conjugate
conjugate_sound (ComplexFi t m s xs ys) h = (
  h.0,
  h.1,
  h.2,
  is_stored (length-map ys _ ∙ h.3.filled)
      (each_map (IsInRange t) (turned_element Negate (math_of m) t) (λ y. turned_in Negate (math_of m) t y h.0.one_bit) ys),
)
conjugate_sound (ComplexNumber s xs ys) h = (h.0, h.1, length-map ys _ ∙ h.2)
conjugate_sound (Fi t m s xs) h = h
conjugate_sound (Logical s bs) h = h
conjugate_sound (Number s cs) h = h
conjugate_sound (Words text) h = h
conjugate_sound (MathObject m) h = h
conjugate_sound (TypeObject t) h = h

flipped_sound : (v : Val) → IsSound v → Holds IsSound (flipped v)
unfolding flipped
flipped_sound (Fi t m s xs) h = holds _ (h.0, turned_sized s h.1, turned_stored t s xs h.2)
flipped_sound (ComplexFi t m s xs ys) h = holds _ (h.0, turned_sized s h.1, turned_stored t s xs h.2, turned_stored t s ys h.3)
flipped_sound (Logical s bs) h = holds _ (turned_sized s h.0, length-turned false s bs)
flipped_sound (Number s cs) h = holds _ (turned_sized s h.0, length-turned _ s cs)
flipped_sound (ComplexNumber s xs ys) h = holds _ (turned_sized s h.0, length-turned _ s xs, length-turned _ s ys)
flipped_sound (Words text) h = empty
flipped_sound (MathObject m) h = empty
flipped_sound (TypeObject t) h = empty

pub transposed_sound : (mark : PostOp) (v : Val) → IsSound v → Holds IsSound (transposed mark v)
transposed_sound post.CTranspose v h = flipped_sound (conjugate v) (conjugate_sound v h)
transposed_sound post.Transpose v h = flipped_sound v h
