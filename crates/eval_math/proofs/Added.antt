-- Sums along a dimension.
use Rattle.std.proofs.Common.{◌≡◌, ◌⊎◌, inl, inr, ◌∙◌, refl, sym, ap, subst, ℕ, ℤ, pos, ◌<◌, ◌≤◌, List, [], ◌∷◌, length, map, get_or, arith}
use Rattle.std.specs.Prelude.{Option, Some, None, Err}
use Rattle.std.specs.Global.{Vec}
use Rattle.std.specs.List.{All}
use Rattle.std.proofs.lemmas.Bool.{cases_lt}
use Rattle.std.proofs.lemmas.List.{get_or_past}
use Rattle.std.proofs.lemmas.List.Elements.{All-cons, All-get_or, All-nil}
use Rattle.num_type.specs.Types.{NumericType}
use Rattle.num_type.specs.View.{type_of}
use Rattle.fi_math.specs.declared.fimath.Fimath.{Fimath}
use Rattle.fi_math.specs.declared.types.NoType.{NoType}
use Rattle.fi_math.specs.declared.types.NoType.TheVariants.{TooWide, FractionOut}
use Rattle.fi_math.specs.Made.{Made, Is}
use Rattle.fi_math.specs.Rules.{sum_made}
use Rattle.fi_math.specs.View.{made_of}
use Rattle.fi_rules.specs.Options.{and_then}
use Rattle.fi_rules.specs.Value.{Shape, Val, Fi, ComplexFi}
use Rattle.fi_eval.specs.Operators.{math_of}
use Rattle.fi_values.specs.Arithmetic.{fi_value}
use Rattle.fi_values.specs.Elements.{below, picked}
use Rattle.fi_values.specs.Sums.{Along, Columns, Rows, addends, column_places, made, row_places, sum_of, summed_value, sums}
use Rattle.eval_value.specs.View.{fi_view, shape_view}
use Rattle.eval_value.specs.declared.fi_value.FiValue.{FiValue}
use Rattle.eval_math.specs.Totals.{group, group_count, summed_operand}
use Rattle.eval_math.specs.View.{items_of, operand_view}
use Rattle.eval_math.proofs.Bound.{twice_mapped}
use Rattle.eval_math.proofs.Composed.{value_is, value_of}

-- what holds of each element and of the default holds of those at places
pub picked_inside : {A : Type 0} (P : A → Type 0) (d : A) (xs : List A) (ks : List ℕ) → P d → All P xs → All P (picked d xs ks)
picked_inside P d xs [] h all = All-nil P
picked_inside P d xs (k ∷ ks) h all = All-cons P (get_or xs k d) (picked d xs ks) (by (cases_lt k (length xs))) (picked_inside P d xs ks h all)
  where
    by : (k < length xs) ⊎ (length xs ≤ k) → P (get_or xs k d)
    by (inl l) = All-get_or P xs k d l all
    by (inr l) = subst P (sym (get_or_past xs k d l)) h

-- the sums in the order of their groups
pub sums_are : (m : Fimath) (t a : NumericType) (along : Along) (s : Shape) (xs : List ℤ) → map (λ g. sum_of m t a (picked (pos 0) xs (group along s g))) (below (group_count along s)) ≡ sums m t a along s xs
sums_are m t a Columns s xs = sym (twice_mapped (λ ks. sum_of m t a (picked (pos 0) xs ks)) (column_places s) (below s.columns))
sums_are m t a Rows s xs = sym (twice_mapped (λ ks. sum_of m t a (picked (pos 0) xs ks)) (row_places s) (below s.rows))

abbrev fi_of : NumericType → Option Fimath → Shape → List ℤ → Option (Vec ℤ) → Val
fi_of t m s xs None = Fi t m s xs
fi_of t m s xs (Some v) = ComplexFi t m s xs v.items

some_sums : (along : Along) (t a : NumericType) (m : Option Fimath) (s : Shape) (xs : List ℤ) (o : Option (Vec ℤ)) → Is t ≡ sum_made (math_of m) a (addends along s) → Some (value_of (summed_operand (math_of m) t along (record { num = a; math = m; shape = s; parts = record { re = xs; im = items_of o } }))) ≡ summed_value along (fi_of a m s xs o)
unfolding summed_value made and_then fi_value
some_sums along t a m s xs None e = rw (sym e) refl
some_sums along t a m s xs (Some v) e = rw (sym e) refl

no_sums : (along : Along) (a : NumericType) (m : Option Fimath) (s : Shape) (xs : List ℤ) (o : Option (Vec ℤ)) → None ≡ made (sum_made (math_of m) a (addends along s)) → None ≡ summed_value along (fi_of a m s xs o)
unfolding summed_value and_then
no_sums along a m s xs None e = rw (sym e) refl
no_sums along a m s xs (Some v) e = rw (sym e) refl

pub none_made : (none : NoType) (x : Made) → made_of (Err none) ≡ x → None ≡ made x
unfolding made
none_made (TooWide w) x e = rw (sym e) refl
none_made (FractionOut f) x e = rw (sym e) refl

pub summed_is : (along : Along) (t : NumericType) (v r : FiValue) (m : Fimath) → m ≡ math_of v.math → Is t ≡ sum_made m (type_of v.num) (addends along (shape_view v.shape)) → operand_view r ≡ summed_operand m t along (operand_view v) → Some (fi_view r) ≡ summed_value along (fi_view v)
summed_is along t v r m h e f =
    ap Some (value_is r ∙ ap value_of f)
    ∙ ap (λ (n : Fimath). Some (value_of (summed_operand n t along (operand_view v)))) h
    ∙ some_sums along t (type_of v.num) v.math (shape_view v.shape) v.re.items v.im (e ∙ ap (λ (n : Fimath). sum_made n (type_of v.num) (addends along (shape_view v.shape))) h)

pub not_summed : (along : Along) (none : NoType) (v : FiValue) (m : Fimath) → m ≡ math_of v.math → made_of (Err none) ≡ sum_made m (type_of v.num) (addends along (shape_view v.shape)) → None ≡ summed_value along (fi_view v)
not_summed along none v m h e =
    no_sums along (type_of v.num) v.math (shape_view v.shape) v.re.items v.im
    (none_made none (sum_made (math_of v.math) (type_of v.num) (addends along (shape_view v.shape))) (e ∙ ap (λ (n : Fimath). sum_made n (type_of v.num) (addends along (shape_view v.shape))) h))

pub some_made : (t : NumericType) (x : Made) → Is t ≡ x → Some t ≡ made x
unfolding made
some_made t x e = ap made e
