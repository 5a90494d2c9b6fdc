-- What is refused has no value.
use Rattle.std.proofs.Common.{◌≡◌, ℕ, ◌*◌, inl, inr, List, [], ◌∷◌, refl, sym, subst, ◌∙◌, arith}
use Rattle.std.specs.Prelude.{ℤ, pos}
use Rattle.std.proofs.lemmas.Int.{ints}
use Rattle.fic_base.specs.declared.place.Place.{Place}
use Rattle.fic_base.specs.declared.refusal.Refusal.{Refusal}
use Rattle.mat_ast.specs.declared.tree.BinOp.{BinOp}
use Rattle.mat_ast.specs.declared.tree.BinOp.TheVariants.{Add, Sub, Mul, ElemMul, Pow, ElemPow}
use Rattle.num_type.specs.Constants.{Exact, IsSame}
use Rattle.num_type.specs.Precision.{whole}
use Rattle.num_type.specs.View.{exact_of}
use Rattle.num_type.specs.declared.dyadic.Dyadic.{Dyadic}
use Rattle.num_type.proofs.Constants.{same_from, same_through, same_turned, times_one}
use Rattle.shape_rules.specs.declared.shape.Shape.{Shape}
use Rattle.shape_rules.specs.Places.{IsElementwise}
use Rattle.shape_rules.specs.Shapes.{rows_of, columns_of, elements_of}
use Rattle.const_eval.specs.declared.constant.Const.{Const}
use Rattle.const_eval.specs.declared.element_op.ElementOp.{ElementOp}
use Rattle.const_eval.specs.declared.element_op.ElementOp.TheVariants.{Sum, Difference, Product}
use Rattle.const_eval.specs.Elementwise.{IsOperated, IsUnoperated}
use Rattle.const_eval.specs.Elementwise.IsUnoperated.{Misfit as OtherShapes, Inexact as SomeStep}
use Rattle.const_eval.specs.Powers.{IsPowerOf}
use Rattle.const_eval.specs.Values.{number_at, part_at}
use Rattle.const_fold.specs.Exponents.{IsPowered, IsUnpowered}
use Rattle.const_fold.specs.Exponents.IsUnpowered.{NoOperands, Misfit as NotOnes, Inexact as NoPower}
use Rattle.const_fold.specs.MatrixProducts.{IsMatrixProduct, IsNoMatrixProduct}
use Rattle.const_fold.specs.MatrixProducts.IsNoMatrixProduct.{Misfit, Inexact, TooMany}
use Rattle.const_fold.specs.Folds.{IsFolded, IsUnfolded, IsMultiplied, IsUnmultiplied}
use Rattle.const_fold.specs.Folds.IsMultiplied.{ByElement, ByMatrix}
use Rattle.const_fold.specs.Folds.IsUnmultiplied.{NotByElement, NotByMatrix}

-- Number by number

rows_alike : (a b s t : Shape) → IsElementwise a b s → IsElementwise a b t → rows_of s ≡ rows_of t
rows_alike a b s t (inl h) (inl k) = omega (arith, h.0.0, h.1.0, k.1.0)
rows_alike a b s t (inl h) (inr (inl k)) = omega (arith, h.0.0, h.1.0, k.1.0)
rows_alike a b s t (inl h) (inr (inr k)) = omega (arith, h.0.0, h.1.0, k.1.0)
rows_alike a b s t (inr (inl h)) (inl k) = omega (arith, k.0.0, h.1.0, k.1.0)
rows_alike a b s t (inr (inl h)) (inr (inl k)) = omega (arith, h.1.0, k.1.0)
rows_alike a b s t (inr (inl h)) (inr (inr k)) = omega (arith, h.0.0, h.1.0, k.0.0, k.1.0)
rows_alike a b s t (inr (inr h)) (inl k) = omega (arith, k.0.0, h.1.0, k.1.0)
rows_alike a b s t (inr (inr h)) (inr (inl k)) = omega (arith, h.0.0, h.1.0, k.0.0, k.1.0)
rows_alike a b s t (inr (inr h)) (inr (inr k)) = omega (arith, h.1.0, k.1.0)

columns_alike : (a b s t : Shape) → IsElementwise a b s → IsElementwise a b t → columns_of s ≡ columns_of t
columns_alike a b s t (inl h) (inl k) = omega (arith, h.0.1, h.1.1, k.1.1)
columns_alike a b s t (inl h) (inr (inl k)) = omega (arith, h.0.1, h.1.1, k.1.1)
columns_alike a b s t (inl h) (inr (inr k)) = omega (arith, h.0.1, h.1.1, k.1.1)
columns_alike a b s t (inr (inl h)) (inl k) = omega (arith, k.0.1, h.1.1, k.1.1)
columns_alike a b s t (inr (inl h)) (inr (inl k)) = omega (arith, h.1.1, k.1.1)
columns_alike a b s t (inr (inl h)) (inr (inr k)) = omega (arith, h.0.1, h.1.1, k.0.1, k.1.1)
columns_alike a b s t (inr (inr h)) (inl k) = omega (arith, k.0.1, h.1.1, k.1.1)
columns_alike a b s t (inr (inr h)) (inr (inl k)) = omega (arith, h.0.1, h.1.1, k.0.1, k.1.1)
columns_alike a b s t (inr (inr h)) (inr (inr k)) = omega (arith, h.1.1, k.1.1)

not_operated : (op : ElementOp) (shown : List ℕ) (a b c : Const) (at : Place) (r : Refusal) → IsOperated op a b c → IsUnoperated op shown a b at r → ⊥
not_operated op shown a b c at r h (OtherShapes none _) = none c.shape h.shape
not_operated op shown a b c at r h (SomeStep s fit k l none _) =
    let e : elements_of s ≡ elements_of c.shape = λ i. rows_alike a.shape b.shape s c.shape fit h.shape i * columns_alike a.shape b.shape s c.shape fit h.shape i in
    none (h.steps k (omega (arith, l, e)))

-- Matrix products

not_multiplied : (shown : List ℕ) (a b c : Const) (at : Place) (r : Refusal) → IsMatrixProduct a b c → IsNoMatrixProduct shown a b at r → ⊥
not_multiplied shown a b c at r h (Misfit none _) = none h.inner
not_multiplied shown a b c at r h (Inexact _ none _) = none h.steps
not_multiplied shown a b c at r h (TooMany _ _ many _) =
    let e : elements_of c.shape ≡ rows_of a.shape * columns_of b.shape = λ i. h.rows i * h.columns i in
    absurd (omega (arith, e, many, c.shape.few))

-- Powers

one_whole : (x : Exact) (m n : ℤ) → IsSame x (whole m) → IsSame x (whole n) → m ≡ n
one_whole x m n h k =
    let same : IsSame (whole m) (whole n) = same_through (whole m) x (whole n) (same_turned x (whole m) h) k in
    sym (times_one m) ∙ same_from (pos 0) (whole m) (whole n) 0 0 (omega (arith, ints)) (omega (arith, ints)) same ∙ times_one n

-- a part of a constant is one that the code keeps
first_of : (ds : List Dyadic) → (d : Dyadic) × (exact_of d ≡ part_at ds 0)
first_of [] = (
  record {
    m = pos 0;
    e = pos 0;
    zero_form = λ h. refl;
    odd = λ h. absurd (h refl);
    bits = omega arith;
    least = omega (arith, ints);
    room = λ k f. absurd (omega (arith, ints, f));
  },
  refl,
)
first_of (d ∷ ds) = (d, refl)

not_powered : (shown : List ℕ) (a b c : Const) (at : Place) (r : Refusal) → IsPowered a b c → IsUnpowered shown a b at r → ⊥
not_powered shown a b c at r h (NoOperands none _) = none h.operands
not_powered shown a b c at r h (NotOnes _ none _) = none h.ones
not_powered shown a b c at r h (NoPower _ _ n fits none _) =
    let first = first_of c.re.items in
    let e : h.exponent ≡ n = one_whole (number_at b 0).re h.exponent n h.whole.same fits.same in
    let power : IsPowerOf (number_at a 0).re n (number_at c 0).re = subst (λ (z : ℤ). IsPowerOf (number_at a 0).re z (number_at c 0).re) e h.power in
    none first.0 (subst (λ (x : Exact). IsPowerOf (number_at a 0).re n x) (sym first.1) power)

-- All

not_both : (shown : List ℕ) (a b c : Const) (at : Place) (r : Refusal) → IsMultiplied a b c → IsUnmultiplied shown a b at r → ⊥
not_both shown a b c at r (ByElement _ h) (NotByElement _ k) = not_operated Product shown a b c at r h k
not_both shown a b c at r (ByElement one _) (NotByMatrix none _) = none one
not_both shown a b c at r (ByMatrix none _) (NotByElement one _) = none one
not_both shown a b c at r (ByMatrix _ h) (NotByMatrix _ k) = not_multiplied shown a b c at r h k

pub no_value : (op : BinOp) (shown : List ℕ) (a b c : Const) (at : Place) (r : Refusal) → IsFolded op a b c → IsUnfolded op shown a b at r → ⊥
no_value Add shown a b c at r h k = not_operated Sum shown a b c at r h k
no_value Sub shown a b c at r h k = not_operated Difference shown a b c at r h k
no_value ElemMul shown a b c at r h k = not_operated Product shown a b c at r h k
no_value Mul shown a b c at r h k = not_both shown a b c at r h k
no_value Pow shown a b c at r h k = not_powered shown a b c at r h k
no_value ElemPow shown a b c at r h k = not_powered shown a b c at r h k
no_value _ shown a b c at r h k = h
