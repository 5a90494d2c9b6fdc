-- Which subscripts values are, by their parts.
use Rattle.std.proofs.Common.{◌≡◌, ℕ, ◌*◌, ◌≤◌, true, false, List, [], ◌∷◌, ◌++◌, map, length, get_or, refl, sym, ap, ◌∙◌, arith}
use Rattle.std.specs.Prelude.{ℤ, pos, nat_le, ◌&&◌, Option, Some, None, is_some}
use Rattle.std.specs.Ordering.{int_eq}
use Rattle.std.specs.Global.{Vec}
use Rattle.std.proofs.lemmas.Bool.Decides.{Decides-eqb}
use Rattle.std.proofs.lemmas.List.{length-map}
use Rattle.std.proofs.Math.Nat.{mul_comm}
use Rattle.num_type.specs.View.{exact_of, type_of}
use Rattle.num_type.specs.declared.dyadic.Dyadic.{Dyadic}
use Rattle.shape_rules.specs.declared.shape.Shape as code_shape
use Rattle.fi_rules.specs.Arguments.{whole_of}
use Rattle.fi_rules.specs.Options.{and_then, where_so}
use Rattle.fi_rules.specs.Value.{Shape, Number, is_scalar}
use Rattle.fi_values.specs.Numbers.{bound_of, is_bound, wholes_of}
use Rattle.fi_values.specs.Subscripts.{Whole, Computed, subscript_of}
use Rattle.eval_value.specs.View.{fi_view, number_view, shape_view}
use Rattle.eval_value.specs.declared.fi_value.FiValue.{FiValue}
use Rattle.eval_value.specs.declared.number_value.NumberValue.{NumberValue}
use Rattle.eval_value.specs.declared.value.Value.{Value}
use Rattle.eval_array.specs.Choices.{Choice, bounded, choice, item_subscript, number_places}
use Rattle.eval_array.proofs.Bounds.{times_least}
use Rattle.eval_array.proofs.Joined.{both_true, number_or, real_or}
use Rattle.eval_array.proofs.Rows.{fi_is_real}
use Rattle.eval_array.proofs.Selected.{computed_missing, computed_there, constant_missing, constant_there, is_index, scalar_count}

empty_before : {X : Type 0} (o : Option (List X)) → and_then o (λ xs. Some ([] ++ xs)) ≡ o
unfolding and_then
empty_before None = refl
empty_before (Some xs) = refl

-- nothing before a list that may be missing
pub none_before : {X : Type 0} (o : Option (List X)) (done : List X) → done ≡ [] → and_then o (λ xs. Some (done ++ xs)) ≡ o
none_before o done e = ap (λ us. and_then o (λ xs. Some (us ++ xs))) e ∙ empty_before o

-- lists of one and of two
pub single : {X : Type 0} (all : List X) (a : X) → length all ≡ 1 → a ≡ get_or all 0 a → all ≡ a ∷ []
single [] a n e = absurd (omega (arith, n))
single (x ∷ []) a n e = ap (λ y. y ∷ []) (sym e)
single (x ∷ y ∷ xs) a n e = absurd (omega (arith, n))

pub double : {X : Type 0} (all : List X) (a b : X) → length all ≡ 2 → a ≡ get_or all 0 a → b ≡ get_or all 1 b → all ≡ a ∷ b ∷ []
double [] a b n e f = absurd (omega (arith, n))
double (x ∷ []) a b n e f = absurd (omega (arith, n))
double (x ∷ y ∷ []) a b n e f = λ i. sym e i ∷ sym f i ∷ []
double (x ∷ y ∷ z ∷ xs) a b n e f = absurd (omega (arith, n))

-- ---- one element

one_each : (a b : ℕ) → 1 ≤ a → 1 ≤ b → a * b ≡ 1 → (a ≡ 1) × (b ≡ 1)
one_each a b h g e =
    let p : b ≤ a * b = times_least a b b h (omega arith) in
    let q : a ≤ b * a = times_least b a a g (omega arith) in
    let m : b * a ≡ a * b = mul_comm b a in
    (omega (arith, q, m, e, h), omega (arith, p, e, g))

pub scalar_one : (s : code_shape.Shape) → s.rows * s.cols ≡ 1 → is_scalar (shape_view s) ≡ true
scalar_one s e =
    let h = one_each s.rows s.cols s.a_row s.a_column e in
    λ i. (Decides-eqb s.rows 1).1 h.0 i && (Decides-eqb s.cols 1).1 h.1 i

bound_by : (s : Shape) (ds : List Dyadic) (d : Dyadic) → length ds ≡ 1 → is_scalar s ≡ true → d ≡ get_or ds 0 d → bounded (exact_of d) ≡ bound_of (Number s (map exact_of ds))
unfolding bound_of and_then where_so
bound_by s [] d n h e = absurd (omega (arith, n))
bound_by s (x ∷ []) d n h e =
    ap (λ y. bounded (exact_of y)) e ∙ ap (λ b. and_then (and_then (where_so b (exact_of x)) whole_of) (λ z. where_so (is_bound z) z)) (sym h)
bound_by s (x ∷ y ∷ ds) d n h e = absurd (omega (arith, n))

pub bound_there : (v : NumberValue) (d : Dyadic) → v.im ≡ None → v.shape.rows * v.shape.cols ≡ 1 → d ≡ get_or v.re.items 0 d → bounded (exact_of d) ≡ bound_of (number_view v)
bound_there v d h n e =
    bound_by (shape_view v.shape) v.re.items d (sym v.re.ok.0 ∙ v.real ∙ n) (scalar_one v.shape n) e
    ∙ ap (λ o. bound_of (number_or (shape_view v.shape) (map exact_of v.re.items) o)) (sym h)

-- ---- `:`

pub whole_chosen : (o : Option Value) (extent : ℕ) (c : Choice) → o ≡ None → c ≡ choice extent Whole → Some c ≡ and_then (item_subscript o) (λ k. Some (choice extent k))
unfolding and_then
whole_chosen o extent c h e = ap (λ (d : Choice). Some d) e ∙ ap (λ p. and_then (item_subscript p) (λ k. Some (choice extent k))) (sym h)

-- ---- fis

pub no_complex_fi : (v : FiValue) (w : Vec ℤ) (extent : ℕ) → v.im ≡ Some w → None ≡ and_then (subscript_of (fi_view v)) (λ k. Some (choice extent k))
unfolding and_then subscript_of
no_complex_fi v w extent e = ap (λ o. and_then (subscript_of (real_or (type_of v.num) v.math (shape_view v.shape) v.re.items o)) (λ k. Some (choice extent k))) (sym e)

pub no_index : (v : FiValue) (extent : ℕ) → v.im ≡ None → is_index (type_of v.num) (shape_view v.shape) ≡ false → None ≡ and_then (subscript_of (fi_view v)) (λ k. Some (choice extent k))
no_index v extent e h =
    computed_missing (type_of v.num) v.math (shape_view v.shape) v.re.items (λ k. Some (choice extent k)) h
    ∙ ap (λ w. and_then (subscript_of w) (λ k. Some (choice extent k))) (sym (fi_is_real v e))

pub at_index : (v : FiValue) (extent : ℕ) (z : ℤ) (c : Choice) → v.im ≡ None → is_index (type_of v.num) (shape_view v.shape) ≡ true → z ≡ get_or v.re.items 0 z → c ≡ choice extent (Computed z) → Some c ≡ and_then (subscript_of (fi_view v)) (λ k. Some (choice extent k))
at_index v extent z c e h g k =
    let s : is_scalar (shape_view v.shape) ≡ true = (both_true (is_scalar (shape_view v.shape)) (int_eq (type_of v.num).fraction (pos 0) && nat_le (type_of v.num).word 31) h).0 in
    let n : length v.re.items ≡ 1 = sym v.re.ok.0 ∙ v.real ∙ scalar_count (shape_view v.shape) s in
    ap (λ (d : Choice). Some d) k
    ∙ ap (λ y. Some (choice extent (Computed y))) g
    ∙ computed_there (type_of v.num) v.math (shape_view v.shape) v.re.items z (λ k. Some (choice extent k)) h n
    ∙ ap (λ w. and_then (subscript_of w) (λ k. Some (choice extent k))) (sym (fi_is_real v e))

-- ---- constants

pub no_complex_number : (v : NumberValue) (w : Vec Dyadic) (extent : ℕ) → v.im ≡ Some w → None ≡ and_then (subscript_of (number_view v)) (λ k. Some (choice extent k))
unfolding and_then subscript_of
no_complex_number v w extent e = ap (λ o. and_then (subscript_of (number_or (shape_view v.shape) (map exact_of v.re.items) o)) (λ k. Some (choice extent k))) (sym e)

pub no_wholes : (v : NumberValue) (extent : ℕ) → v.im ≡ None → is_some (wholes_of (map exact_of v.re.items)) ≡ false → None ≡ and_then (subscript_of (number_view v)) (λ k. Some (choice extent k))
no_wholes v extent e h =
    constant_missing (shape_view v.shape) (map exact_of v.re.items) extent h
    ∙ ap (λ o. and_then (subscript_of (number_or (shape_view v.shape) (map exact_of v.re.items) o)) (λ k. Some (choice extent k))) (sym e)

pub wholes_there : (v : NumberValue) (extent : ℕ) (r : Option (List ℕ)) → v.im ≡ None → is_some (wholes_of (map exact_of v.re.items)) ≡ true → r ≡ number_places extent (map exact_of v.re.items) → Some (record { size = v.shape.rows * v.shape.cols; own = shape_view v.shape; places = r; fixed = true; oriented = true }) ≡ and_then (subscript_of (number_view v)) (λ k. Some (choice extent k))
wholes_there v extent r e h g =
    constant_there (shape_view v.shape) (map exact_of v.re.items) extent r h g (length-map v.re.items exact_of ∙ sym v.re.ok.0 ∙ v.real)
    ∙ ap (λ o. and_then (subscript_of (number_or (shape_view v.shape) (map exact_of v.re.items) o)) (λ k. Some (choice extent k))) (sym e)
