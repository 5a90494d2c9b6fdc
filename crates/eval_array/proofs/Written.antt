-- Stores at selected places.
use Rattle.std.proofs.Common.{◌≡◌, ℕ, Bool, true, false, List, map, refl, sym, ap, ◌∙◌}
use Rattle.std.specs.Prelude.{ℤ, Option, Some, None}
use Rattle.std.specs.Global.{Vec}
use Rattle.fic_base.specs.declared.place.Place.{Place}
use Rattle.num_type.specs.Constants.{Exact}
use Rattle.num_type.specs.Types.{NumericType}
use Rattle.num_type.specs.View.{exact_of, type_of}
use Rattle.num_type.specs.declared.dyadic.Dyadic.{Dyadic}
use Rattle.fi_math.specs.declared.fimath.Fimath.{Fimath}
use Rattle.fi_rules.specs.Value.{Shape, Val, Fi, ComplexFi, Logical}
use Rattle.fi_eval.specs.Outcome.{Gives, Fault, Wrong, bind, or_wrong}
use Rattle.fi_values.specs.Reads.{or_fault}
use Rattle.fi_values.specs.Stores.{complex_taken, put, real_taken, stored_at, truths_taken}
use Rattle.fi_values.specs.Subscripts.{Selection}
use Rattle.eval_value.specs.View.{fi_view, logical_view, number_view, shape_view, value_view}
use Rattle.eval_value.specs.declared.fi_value.FiValue.{FiValue}
use Rattle.eval_value.specs.declared.logical_value.LogicalValue.{LogicalValue}
use Rattle.eval_value.specs.declared.number_value.NumberValue.{NumberValue}
use Rattle.eval_value.specs.declared.value.Value.{Value}
use Rattle.eval_value.specs.declared.value.Value.TheVariants as value
use Rattle.eval_array.proofs.Joined.{number_or, real_or}

differ : true ≡ false → ⊥
differ e = cc

-- ---- a real fi

pub real_untaken : (at : Place) (site : ℕ) (t : NumericType) (m : Option Fimath) (s : Shape) (xs : List ℤ) (k : Selection) (v : Val) → None ≡ real_taken t m v → stored_at at site (Fi t m s xs) k v ≡ Wrong at
unfolding stored_at bind or_wrong
real_untaken at site t m s xs k v e = ap (λ o. bind (or_wrong at o) (λ ys. bind (or_fault site k.places) (λ ks. Gives (Fi t m s (put xs ks ys))))) (sym e)

pub real_missed : (at : Place) (site : ℕ) (t : NumericType) (m : Option Fimath) (s : Shape) (xs : List ℤ) (k : Selection) (v : Val) (ys : List ℤ) → Some ys ≡ real_taken t m v → k.places ≡ None → stored_at at site (Fi t m s xs) k v ≡ Fault site
unfolding stored_at bind or_wrong or_fault
real_missed at site t m s xs k v ys e f =
    ap (λ o. bind (or_wrong at o) (λ ys. bind (or_fault site k.places) (λ ks. Gives (Fi t m s (put xs ks ys))))) (sym e)
    ∙ ap (λ o. bind (or_fault site o) (λ ks. Gives (Fi t m s (put xs ks ys)))) f

pub real_put : (at : Place) (site : ℕ) (t : NumericType) (m : Option Fimath) (s : Shape) (xs : List ℤ) (k : Selection) (v : Val) (ys : List ℤ) (ks : List ℕ) (zs : List ℤ) → Some ys ≡ real_taken t m v → k.places ≡ Some ks → zs ≡ put xs ks ys → stored_at at site (Fi t m s xs) k v ≡ Gives (Fi t m s zs)
unfolding stored_at bind or_wrong or_fault
real_put at site t m s xs k v ys ks zs e f g =
    ap (λ o. bind (or_wrong at o) (λ ys. bind (or_fault site k.places) (λ ks. Gives (Fi t m s (put xs ks ys))))) (sym e)
    ∙ ap (λ o. bind (or_fault site o) (λ ks. Gives (Fi t m s (put xs ks ys)))) f
    ∙ (λ i. Gives (Fi t m s (sym g i)))

-- ---- a complex one

pub complex_untaken : (at : Place) (site : ℕ) (t : NumericType) (m : Option Fimath) (s : Shape) (xs ys : List ℤ) (k : Selection) (v : Val) → None ≡ complex_taken t m v → stored_at at site (ComplexFi t m s xs ys) k v ≡ Wrong at
unfolding stored_at bind or_wrong
complex_untaken at site t m s xs ys k v e =
    ap (λ o. bind (or_wrong at o) (λ p. bind (or_fault site k.places) (λ ks. Gives (ComplexFi t m s (put xs ks p.0) (put ys ks p.1))))) (sym e)

pub complex_missed : (at : Place) (site : ℕ) (t : NumericType) (m : Option Fimath) (s : Shape) (xs ys : List ℤ) (k : Selection) (v : Val) (p : List ℤ × List ℤ) → Some p ≡ complex_taken t m v → k.places ≡ None → stored_at at site (ComplexFi t m s xs ys) k v ≡ Fault site
unfolding stored_at bind or_wrong or_fault
complex_missed at site t m s xs ys k v p e f =
    ap (λ o. bind (or_wrong at o) (λ p. bind (or_fault site k.places) (λ ks. Gives (ComplexFi t m s (put xs ks p.0) (put ys ks p.1))))) (sym e)
    ∙ ap (λ o. bind (or_fault site o) (λ ks. Gives (ComplexFi t m s (put xs ks p.0) (put ys ks p.1)))) f

pub complex_put : (at : Place) (site : ℕ) (t : NumericType) (m : Option Fimath) (s : Shape) (xs ys : List ℤ) (k : Selection) (v : Val) (p : List ℤ × List ℤ) (ks : List ℕ) (us ws : List ℤ) → Some p ≡ complex_taken t m v → k.places ≡ Some ks → us ≡ put xs ks p.0 → ws ≡ put ys ks p.1 → stored_at at site (ComplexFi t m s xs ys) k v ≡ Gives (ComplexFi t m s us ws)
unfolding stored_at bind or_wrong or_fault
complex_put at site t m s xs ys k v p ks us ws e f g h =
    ap (λ o. bind (or_wrong at o) (λ p. bind (or_fault site k.places) (λ ks. Gives (ComplexFi t m s (put xs ks p.0) (put ys ks p.1))))) (sym e)
    ∙ ap (λ o. bind (or_fault site o) (λ ks. Gives (ComplexFi t m s (put xs ks p.0) (put ys ks p.1)))) f
    ∙ (λ i. Gives (ComplexFi t m s (sym g i) (sym h i)))

-- ---- a logical value

pub truths_missed : (at : Place) (site : ℕ) (t v : LogicalValue) (k : Selection) → k.places ≡ None → stored_at at site (logical_view t) k (logical_view v) ≡ Fault site
unfolding stored_at bind or_wrong or_fault truths_taken
truths_missed at site t v k f = ap (λ o. bind (or_fault site o) (λ ks. Gives (Logical (shape_view t.shape) (put t.truths.items ks v.truths.items)))) f

pub truths_put : (at : Place) (site : ℕ) (t v : LogicalValue) (k : Selection) (ks : List ℕ) (bs : List Bool) → k.places ≡ Some ks → bs ≡ put t.truths.items ks v.truths.items → stored_at at site (logical_view t) k (logical_view v) ≡ Gives (Logical (shape_view t.shape) bs)
unfolding stored_at bind or_wrong or_fault truths_taken
truths_put at site t v k ks bs f g =
    ap (λ o. bind (or_fault site o) (λ ks. Gives (Logical (shape_view t.shape) (put t.truths.items ks v.truths.items)))) f
    ∙ (λ i. Gives (Logical (shape_view t.shape) (sym g i)))

no_truths : (at : Place) (site : ℕ) (t : LogicalValue) (k : Selection) (w : Val) → truths_taken w ≡ None → stored_at at site (logical_view t) k w ≡ Wrong at
unfolding stored_at bind or_wrong
no_truths at site t k w e =
    ap (λ o. bind (or_wrong at o) (λ bs. bind (or_fault site k.places) (λ ks. Gives (Logical (shape_view t.shape) (put t.truths.items ks bs))))) e

fi_untaken : (t : NumericType) (m : Option Fimath) (s : Shape) (xs : List ℤ) (o : Option (Vec ℤ)) → truths_taken (real_or t m s xs o) ≡ None
unfolding truths_taken
fi_untaken t m s xs None = refl
fi_untaken t m s xs (Some v) = refl

numbers_untaken : (s : Shape) (xs : List Exact) (o : Option (Vec Dyadic)) → truths_taken (number_or s xs o) ≡ None
unfolding truths_taken
numbers_untaken s xs None = refl
numbers_untaken s xs (Some v) = refl

fi_no_truths : (at : Place) (site : ℕ) (t : LogicalValue) (k : Selection) (v : FiValue) → stored_at at site (logical_view t) k (fi_view v) ≡ Wrong at
fi_no_truths at site t k v = no_truths at site t k (fi_view v) (fi_untaken (type_of v.num) v.math (shape_view v.shape) v.re.items v.im)

number_no_truths : (at : Place) (site : ℕ) (t : LogicalValue) (k : Selection) (v : NumberValue) → stored_at at site (logical_view t) k (number_view v) ≡ Wrong at
number_no_truths at site t k v = no_truths at site t k (number_view v) (numbers_untaken (shape_view v.shape) (map exact_of v.re.items) v.im)

abbrev pub is_logical : Value → Bool
is_logical (value.Fi v) = false
is_logical (value.Logical v) = true
is_logical (value.Number v) = false
is_logical (value.Words text) = false
is_logical (value.Math m) = false
is_logical (value.Type t) = false

pub truths_untaken : (at : Place) (site : ℕ) (t : LogicalValue) (k : Selection) (w : Value) → is_logical w ≡ false → stored_at at site (logical_view t) k (value_view w) ≡ Wrong at
unfolding truths_taken
truths_untaken at site t k (value.Fi v) e = fi_no_truths at site t k v
truths_untaken at site t k (value.Logical v) e = absurd (differ e)
truths_untaken at site t k (value.Number v) e = number_no_truths at site t k v
truths_untaken at site t k (value.Words text) e = no_truths at site t k (value_view (value.Words text)) refl
truths_untaken at site t k (value.Math m) e = no_truths at site t k (value_view (value.Math m)) refl
truths_untaken at site t k (value.Type u) e = no_truths at site t k (value_view (value.Type u)) refl
