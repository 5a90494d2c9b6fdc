-- Conditions by their classes.
use Rattle.std.proofs.Common.{◌≡◌, List, [], ◌∷◌, Option, Some, None, Bool, true, false, not, refl, ap, sym, ◌∙◌, length, get_or, map, arith}
use Rattle.std.specs.Prelude.{pos}
use Rattle.std.specs.Ordering.{int_eq}
use Rattle.num_type.specs.Constants.{Exact}
use Rattle.num_type.specs.View.{exact_of}
use Rattle.num_type.specs.declared.dyadic.Dyadic.{Dyadic}
use Rattle.fi_rules.specs.Arguments.{constant_in}
use Rattle.fi_rules.specs.Options.{where_so}
use Rattle.fi_rules.specs.Types.{NumberTy, type_of}
use Rattle.fi_rules.specs.Value.{Shape, Val, Logical, Number, is_scalar}
use Rattle.fi_values.specs.Logicals.{truth, scalar_truth}
use Rattle.fi_values.specs.Stores.{truths_taken}
use Rattle.std.specs.Global.{Vec}
use Rattle.eval_value.specs.View.{logical_view, number_view, shape_view}
use Rattle.eval_value.specs.declared.logical_value.LogicalValue.{LogicalValue}
use Rattle.eval_value.specs.declared.number_value.NumberValue.{NumberValue}
use Rattle.eval_bits.proofs.Classes.{numbers_view}
use Rattle.eval_bits.proofs.Extents.{one_element}
use Rattle.eval_bits.proofs.Raised.{so_true, so_false}

-- ---- a single element

pub one_constant : (s : Shape) (xs : List Dyadic) (d : Dyadic) → is_scalar s ≡ true → length xs ≡ 1 → constant_in (NumberTy s (map exact_of xs)) ≡ Some (exact_of (get_or xs 0 d))
unfolding constant_in where_so
one_constant s [] d h l = absurd (omega (arith, l))
one_constant s (x ∷ []) d h l = ap (λ b. where_so b (exact_of x)) h
one_constant s (x ∷ y ∷ xs) d h l = absurd (omega (arith, l))

pub no_constant : (s : Shape) (cs : List Exact) → is_scalar s ≡ false → constant_in (NumberTy s cs) ≡ None
unfolding constant_in where_so
no_constant s [] h = refl
no_constant s (c ∷ []) h = ap (λ b. where_so b c) h
no_constant s (c ∷ d ∷ cs) h = refl

pub one_truth : (s : Shape) (bs : List Bool) (d : Bool) → is_scalar s ≡ true → length bs ≡ 1 → scalar_truth (Logical s bs) ≡ Some (get_or bs 0 d)
unfolding scalar_truth where_so
one_truth s [] d h l = absurd (omega (arith, l))
one_truth s (b ∷ []) d h l = ap (λ t. where_so t b) h
one_truth s (b ∷ c ∷ bs) d h l = absurd (omega (arith, l))

pub no_truth : (s : Shape) (bs : List Bool) → is_scalar s ≡ false → scalar_truth (Logical s bs) ≡ None
unfolding scalar_truth where_so
no_truth s [] h = refl
no_truth s (b ∷ []) h = ap (λ t. where_so t b) h
no_truth s (b ∷ c ∷ bs) h = refl

-- ---- conditions

pub constant_true : (v : Val) (c : Exact) → constant_in (type_of v) ≡ Some c → truth v ≡ Some (not (int_eq c.significand (pos 0)))
unfolding truth constant_in type_of where_so
constant_true (Number s (c ∷ [])) d h =
    let p : (is_scalar s ≡ true) × (c ≡ d) = so_true (is_scalar s) c d h in
    λ i. where_so (p.0 i) (not (int_eq (p.1 i).significand (pos 0)))
constant_true (Number s []) d h = absurd (cc)
constant_true (Number s (c ∷ b ∷ cs)) d h = absurd (cc)
constant_true v d h = absurd (cc)

pub other_true : (v : Val) → constant_in (type_of v) ≡ None → truth v ≡ scalar_truth v
unfolding truth scalar_truth constant_in type_of where_so
other_true (Number s []) h = refl
other_true (Number s (c ∷ [])) h = ap (λ b. where_so b (not (int_eq c.significand (pos 0)))) (so_false (is_scalar s) c h)
other_true (Number s (c ∷ b ∷ cs)) h = refl
other_true (Logical s []) h = refl
other_true (Logical s (b ∷ [])) h = refl
other_true (Logical s (b ∷ c ∷ bs)) h = refl
other_true v h = refl

pub none_true : (v : Val) → truths_taken v ≡ None → scalar_truth v ≡ None
unfolding scalar_truth truths_taken
none_true (Logical s bs) h = absurd (cc)
none_true v h = refl

-- ---- of the code

numbers_real : (s : Shape) (xs : List Exact) (im : Option (Vec Dyadic)) → im ≡ None → numbers_view s xs im ≡ Number s xs
numbers_real s xs im e = ap (numbers_view s xs) e

pub number_real : (v : NumberValue) → v.im ≡ None → number_view v ≡ Number (shape_view v.shape) (map exact_of v.re.items)
number_real v e = numbers_real (shape_view v.shape) (map exact_of v.re.items) v.im e

pub single_constant : (v : NumberValue) (d : Dyadic) → v.im ≡ None → is_scalar (shape_view v.shape) ≡ true → Some (exact_of (get_or v.re.items 0 d)) ≡ constant_in (type_of (number_view v))
unfolding type_of
single_constant v d e h =
    let l : length v.re.items ≡ 1 = sym (v.re.ok.0) ∙ v.real ∙ one_element v.shape h in
    sym (ap (λ w. constant_in (type_of w)) (number_real v e) ∙ one_constant (shape_view v.shape) v.re.items d h l)

pub many_constants : (v : NumberValue) → v.im ≡ None → is_scalar (shape_view v.shape) ≡ false → None ≡ constant_in (type_of (number_view v))
unfolding type_of
many_constants v e h = sym (ap (λ w. constant_in (type_of w)) (number_real v e) ∙ no_constant (shape_view v.shape) (map exact_of v.re.items) h)

complex_by : (s : Shape) (xs : List Exact) (im : Option (Vec Dyadic)) (parts : Vec Dyadic) → im ≡ Some parts → None ≡ constant_in (type_of (numbers_view s xs im))
unfolding type_of constant_in
complex_by s xs im parts e = ap (λ o. constant_in (type_of (numbers_view s xs o))) (sym e)

pub complex_constants : (v : NumberValue) (parts : Vec Dyadic) → v.im ≡ Some parts → None ≡ constant_in (type_of (number_view v))
complex_constants v parts e = complex_by (shape_view v.shape) (map exact_of v.re.items) v.im parts e

pub single_truth : (v : LogicalValue) (d : Bool) → is_scalar (shape_view v.shape) ≡ true → Some (get_or v.truths.items 0 d) ≡ scalar_truth (logical_view v)
single_truth v d h =
    let l : length v.truths.items ≡ 1 = sym (v.truths.ok.0) ∙ v.elements ∙ one_element v.shape h in
    sym (one_truth (shape_view v.shape) v.truths.items d h l)

pub many_truths : (v : LogicalValue) → is_scalar (shape_view v.shape) ≡ false → None ≡ scalar_truth (logical_view v)
many_truths v h = sym (no_truth (shape_view v.shape) v.truths.items h)
