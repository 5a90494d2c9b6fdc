-- Transposes.
use Rattle.std.proofs.Common.{◌≡◌, ℕ, ◌+◌, ◌*◌, true, false, List, length, refl, ap, ◌∙◌}
use Rattle.std.specs.Prelude.{Some, None}
use Rattle.fi_rules.specs.Value.{Shape, Val, Fi, ComplexFi, Logical, Number, ComplexNumber, Words, MathObject, TypeObject}
use Rattle.fi_values.specs.Elements.{below, turned_places}
use Rattle.fi_values.specs.Reads.{shape_of}
use Rattle.fi_values.specs.Shapes.{turned}
use Rattle.fi_values.specs.Transposes.{flipped}
use Rattle.eval_array.specs.Rearrangements.{is_readable, rearranged}
use Rattle.eval_array.proofs.Counts.{length_below, length_flat}

never : false ≡ true → ⊥
never e = cc

differ : true ≡ false → ⊥
differ e = cc

pub length_turned : (s : Shape) → length (turned_places s) ≡ s.columns * s.rows
length_turned s = length_flat (λ i j. i + s.rows * j) (below s.columns) (below s.rows) ∙ (λ i. length_below s.columns i * length_below s.rows i)

flipped_by : (v : Val) → is_readable true v ≡ true → Some (rearranged (turned (shape_of v)) (turned_places (shape_of v)) v) ≡ flipped v
unfolding is_readable rearranged flipped
flipped_by (Fi t m s xs) e = refl
flipped_by (ComplexFi t m s xs ys) e = refl
flipped_by (Logical s bs) e = refl
flipped_by (Number s cs) e = refl
flipped_by (ComplexNumber s xs ys) e = refl
flipped_by (Words text) e = absurd (never e)
flipped_by (MathObject m) e = absurd (never e)
flipped_by (TypeObject t) e = absurd (never e)

-- by the shape and the places that the code has
pub flipped_is : (v : Val) (s r : Shape) (ks : List ℕ) → is_readable true v ≡ true → s ≡ shape_of v → r ≡ turned s → ks ≡ turned_places s → Some (rearranged r ks v) ≡ flipped v
flipped_is v s r ks e p q k =
    (λ i. Some (rearranged (q i) (k i) v)) ∙ ap (λ (u : Shape). Some (rearranged (turned u) (turned_places u) v)) p ∙ flipped_by v e

pub not_flipped : (v : Val) → is_readable true v ≡ false → None ≡ flipped v
unfolding is_readable flipped
not_flipped (Fi t m s xs) e = absurd (differ e)
not_flipped (ComplexFi t m s xs ys) e = absurd (differ e)
not_flipped (Logical s bs) e = absurd (differ e)
not_flipped (Number s cs) e = absurd (differ e)
not_flipped (ComplexNumber s xs ys) e = absurd (differ e)
not_flipped (Words text) e = refl
not_flipped (MathObject m) e = refl
not_flipped (TypeObject t) e = refl
