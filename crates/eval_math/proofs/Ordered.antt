-- Orders of elements, and what comparisons make of them.
use Rattle.std.proofs.Common.{◌≡◌, ◌∙◌, refl, sym, ap, ℕ, zero, suc, ◌*◌, ◌^◌, ◌<◌, Bool, true, false, List, length, map, arith, Less, Greater}
use Rattle.std.specs.Prelude.{ℤ, pos, negsuc, ◌*ℤ◌, ◌-ℤ◌, ◌<ℤ◌, neg_ℤ, nat_abs, not, ◌&&◌, ◌||◌, Option, Some, None, is_some, is_none}
use mathlib.Core.Bool.{beq}
use Rattle.std.specs.Int.{int_max, int_min}
use Rattle.std.specs.Ordering.{int_cmp}
use Rattle.std.specs.Cmp.{int_cmp_is}
use Rattle.std.specs.declared.cmp.Ordering.{Ordering}
use Rattle.std.proofs.lemmas.Int.{ints, clamps}
use Rattle.std.proofs.lemmas.Nat.{pow_pos}
use Rattle.num_type.specs.Constants.{Exact, common, order_of, units}
use Rattle.num_type.specs.Types.{NumericType}
use Rattle.num_type.proofs.Orders.{zero_times}
use Rattle.fi_ops.specs.Operations as operations
use Rattle.fi_rules.specs.Options.{where_so}
use Rattle.fi_rules.specs.Value.{Shape}
use Rattle.fi_eval.specs.Operators.{pairwise}
use Rattle.fi_values.specs.Arithmetic.{Operand, Parts, imaginary}
use Rattle.fi_values.specs.Comparisons.{Compared, Orders, Equals, are_equal, compared, elements_of, equal_elements, exacts, imaginary_of, is_equal}
use Rattle.fi_values.specs.Numbers.{nought, nought_parts}
use Rattle.eval_math.specs.Orders.{asked, comparison_view, orders, paired_equal, truths_of}
use Rattle.eval_math.specs.View.{paired, side_by_side}
use Rattle.eval_math.specs.declared.comparison.Comparison as code_comparison
use Rattle.eval_math.specs.declared.comparison.Comparison.TheVariants as comparison
use Rattle.eval_math.specs.declared.comparison.Order.{Order}
use Rattle.eval_math.proofs.Bound.{twice_mapped}
use Rattle.eval_math.proofs.Pairing.{both_lists, fused, mapped, only_left, only_right, then_mapped}

-- ---- the order of two elements

abbrev pub exact : NumericType → ℤ → Exact
exact t z = record { significand = z; exponent = neg_ℤ t.fraction }

pub order_is : (a b : NumericType) (x y : ℤ) → operations.compared (record { num = a; z = x }) (record { num = b; z = y }) ≡ order_of (exact a x) (exact b y)
unfolding operations.compared operations.aligned order_of units
order_is a b x y =
    let e : nat_abs (int_max a.fraction b.fraction -ℤ a.fraction) ≡ nat_abs (neg_ℤ a.fraction -ℤ int_min (neg_ℤ a.fraction) (neg_ℤ b.fraction)) = omega (arith, ints, clamps) in
    let f : nat_abs (int_max a.fraction b.fraction -ℤ b.fraction) ≡ nat_abs (neg_ℤ b.fraction -ℤ int_min (neg_ℤ a.fraction) (neg_ℤ b.fraction)) = omega (arith, ints, clamps) in
    λ i. int_cmp (x *ℤ pos (2 ^ e i)) (y *ℤ pos (2 ^ f i))

-- ---- zeros of any exponent

some_product : (n p : ℕ) → 0 < p → 0 < suc n * p
some_product n p h = grind arith

below_scaled : (z : ℤ) (p : ℕ) → 0 < p → int_cmp (pos 0) (z *ℤ pos p) ≡ int_cmp (pos 0) z
below_scaled (pos zero) p h = ap (λ (k : ℕ). int_cmp (pos 0) (pos k)) (let e : 0 * p ≡ 0 = omega arith in e)
below_scaled (pos (suc n)) p h =
    let s : 0 < suc n * p = some_product n p h in
    sym (int_cmp_is (pos 0) (pos (suc n * p)) Less (let l : pos 0 <ℤ pos (suc n * p) = omega (arith, ints, s) in l)) ∙ int_cmp_is (pos 0) (pos (suc n)) Less (let l : pos 0 <ℤ pos (suc n) = omega (arith, ints) in l)
below_scaled (negsuc n) p h =
    let s : 0 < suc n * p = some_product n p h in
    sym (int_cmp_is (pos 0) (neg_ℤ (pos (suc n * p))) Greater (let l : neg_ℤ (pos (suc n * p)) <ℤ pos 0 = omega (arith, ints, s) in l)) ∙ int_cmp_is (pos 0) (negsuc n) Greater (let l : negsuc n <ℤ pos 0 = omega (arith, ints) in l)

above_scaled : (z : ℤ) (p : ℕ) → 0 < p → int_cmp (z *ℤ pos p) (pos 0) ≡ int_cmp z (pos 0)
above_scaled (pos zero) p h = ap (λ (k : ℕ). int_cmp (pos k) (pos 0)) (let e : 0 * p ≡ 0 = omega arith in e)
above_scaled (pos (suc n)) p h =
    let s : 0 < suc n * p = some_product n p h in
    sym (int_cmp_is (pos (suc n * p)) (pos 0) Greater (let l : pos 0 <ℤ pos (suc n * p) = omega (arith, ints, s) in l)) ∙ int_cmp_is (pos (suc n)) (pos 0) Greater (let l : pos 0 <ℤ pos (suc n) = omega (arith, ints) in l)
above_scaled (negsuc n) p h =
    let s : 0 < suc n * p = some_product n p h in
    sym (int_cmp_is (neg_ℤ (pos (suc n * p))) (pos 0) Less (let l : neg_ℤ (pos (suc n * p)) <ℤ pos 0 = omega (arith, ints, s) in l)) ∙ int_cmp_is (negsuc n) (pos 0) Less (let l : negsuc n <ℤ pos 0 = omega (arith, ints) in l)

abbrev zero_at : ℤ → Exact
zero_at e = record { significand = pos 0; exponent = e }

from_zero : (e : ℤ) (y : Exact) → order_of (zero_at e) y ≡ int_cmp (pos 0) y.significand
unfolding order_of units
from_zero e y =
    (λ i. int_cmp (zero_times (pos 0) (2 ^ nat_abs (e -ℤ common (zero_at e) y)) refl i) (y.significand *ℤ pos (2 ^ nat_abs (y.exponent -ℤ common (zero_at e) y))))
    ∙ below_scaled y.significand (2 ^ nat_abs (y.exponent -ℤ common (zero_at e) y)) (pow_pos (nat_abs (y.exponent -ℤ common (zero_at e) y)))

to_zero : (e : ℤ) (x : Exact) → order_of x (zero_at e) ≡ int_cmp x.significand (pos 0)
unfolding order_of units
to_zero e x =
    (λ i. int_cmp (x.significand *ℤ pos (2 ^ nat_abs (x.exponent -ℤ common x (zero_at e)))) (zero_times (pos 0) (2 ^ nat_abs (e -ℤ common x (zero_at e))) refl i))
    ∙ above_scaled x.significand (2 ^ nat_abs (x.exponent -ℤ common x (zero_at e))) (pow_pos (nat_abs (x.exponent -ℤ common x (zero_at e))))

zero_left : (e f : ℤ) (y : Exact) → order_of (zero_at e) y ≡ order_of (zero_at f) y
zero_left e f y = from_zero e y ∙ sym (from_zero f y)

zero_right : (e f : ℤ) (x : Exact) → order_of x (zero_at e) ≡ order_of x (zero_at f)
zero_right e f x = to_zero e x ∙ sym (to_zero f x)

-- ---- the orders of imaginary parts

abbrev exacts_of : NumericType → Option (List ℤ) → Option (List Exact)
exacts_of t None = None
exacts_of t (Some ys) = Some (exacts t ys)

abbrev value_of : NumericType → Shape → List ℤ → Option (List ℤ) → Compared
value_of t s xs o = record { shape = s; re = exacts t xs; im = exacts_of t o }

noughts_are : (t : NumericType) (xs : List ℤ) → nought_parts (exacts t xs) ≡ map (λ x. zero_at (pos 0)) xs
noughts_are t xs = twice_mapped (λ (c : Exact). nought) (exact t) xs

zeros_are : (t : NumericType) (xs : List ℤ) → exacts t (map (λ x. pos 0) xs) ≡ map (λ (x : ℤ). zero_at (neg_ℤ t.fraction)) xs
zeros_are t xs = twice_mapped (exact t) (λ (x : ℤ). pos 0) xs

left_zeros : (t : NumericType) (xs : List ℤ) (ys : List Exact) → orders (exacts t (map (λ x. pos 0) xs)) ys ≡ orders (nought_parts (exacts t xs)) ys
left_zeros t xs ys =
    ap (λ zs. orders zs ys) (zeros_are t xs)
    ∙ only_left order_of (λ (x : ℤ). zero_at (neg_ℤ t.fraction)) xs ys
    ∙ (λ i. pairwise (λ (x : ℤ) (y : Exact). zero_left (neg_ℤ t.fraction) (pos 0) y i) xs ys)
    ∙ sym (only_left order_of (λ (x : ℤ). zero_at (pos 0)) xs ys)
    ∙ ap (λ zs. orders zs ys) (sym (noughts_are t xs))

right_zeros : (t : NumericType) (xs : List Exact) (ys : List ℤ) → orders xs (exacts t (map (λ x. pos 0) ys)) ≡ orders xs (nought_parts (exacts t ys))
right_zeros t xs ys =
    ap (orders xs) (zeros_are t ys)
    ∙ only_right order_of (λ (y : ℤ). zero_at (neg_ℤ t.fraction)) xs ys
    ∙ (λ i. pairwise (λ (x : Exact) (y : ℤ). zero_right (neg_ℤ t.fraction) (pos 0) x i) xs ys)
    ∙ sym (only_right order_of (λ (y : ℤ). zero_at (pos 0)) xs ys)
    ∙ ap (orders xs) (sym (noughts_are t ys))

imaginary_orders : (t u : NumericType) (s r : Shape) (xs ys : List ℤ) (o p : Option (List ℤ)) → orders (exacts t (imaginary (record { re = xs; im = o }))) (exacts u (imaginary (record { re = ys; im = p }))) ≡ orders (imaginary_of (value_of t s xs o)) (imaginary_of (value_of u r ys p))
imaginary_orders t u s r xs ys None None =
    left_zeros t xs (exacts u (map (λ x. pos 0) ys)) ∙ right_zeros u (nought_parts (exacts t xs)) ys
imaginary_orders t u s r xs ys None (Some q) = left_zeros t xs (exacts u q)
imaginary_orders t u s r xs ys (Some z) None = right_zeros u (exacts t z) ys
imaginary_orders t u s r xs ys (Some z) (Some q) = refl

pub imaginary_are : (a b : Operand) → orders (exacts a.num (imaginary a.parts)) (exacts b.num (imaginary b.parts)) ≡ orders (imaginary_of (compared a)) (imaginary_of (compared b))
imaginary_are a b = imaginary_orders a.num b.num a.shape b.shape a.parts.re b.parts.re a.parts.im b.parts.im

-- ---- what a comparison makes of orders

real_where : {A : Type 0} (o p : Option (List Exact)) (x : A) → where_so (is_none o && is_none p) x ≡ where_so (not (is_some o || is_some p)) x
real_where None None x = refl
real_where None (Some q) x = refl
real_where (Some z) None x = refl
real_where (Some z) (Some q) x = refl

equal_true : (b : Bool) → b ≡ beq b true
equal_true true = refl
equal_true false = refl

equal_false : (b : Bool) → not b ≡ beq b false
equal_false true = refl
equal_false false = refl

-- both parts are equal, by their orders
equal_by_orders : (a b : Compared) → length (orders a.re b.re) ≡ length (orders (imaginary_of a) (imaginary_of b)) → equal_elements a b ≡ map (λ (p : Ordering × Ordering). is_equal p.0 && is_equal p.1) (side_by_side (orders a.re b.re) (orders (imaginary_of a) (imaginary_of b)))
equal_by_orders a b l =
    (λ i. pairwise (λ p q. p && q) (sym (then_mapped is_equal order_of a.re b.re) i) (sym (then_mapped is_equal order_of (imaginary_of a) (imaginary_of b)) i))
    ∙ mapped (λ p q. p && q) is_equal is_equal (orders a.re b.re) (orders (imaginary_of a) (imaginary_of b))
    ∙ sym (fused (λ p q. is_equal p && is_equal q) (orders a.re b.re) (orders (imaginary_of a) (imaginary_of b)))
    ∙ ap (map (λ (p : Ordering × Ordering). is_equal p.0 && is_equal p.1)) (sym (both_lists (orders a.re b.re) (orders (imaginary_of a) (imaginary_of b)) l))

pub truths_are : (k : code_comparison.Comparison) (a b : Compared) → length (orders a.re b.re) ≡ length (orders (imaginary_of a) (imaginary_of b)) → truths_of k (is_some a.im || is_some b.im) (orders a.re b.re) (orders (imaginary_of a) (imaginary_of b)) ≡ elements_of (comparison_view k) a b
unfolding elements_of
truths_are (comparison.Orders o) a b l =
    ap (where_so (not (is_some a.im || is_some b.im))) (then_mapped (asked o) order_of a.re b.re)
    ∙ sym (real_where a.im b.im (pairwise (λ x y. asked o (order_of x y)) a.re b.re))
truths_are (comparison.Equals true) a b l =
    ap Some ((λ i. map (λ (p : Ordering × Ordering). sym (equal_true (is_equal p.0 && is_equal p.1)) i) (side_by_side (orders a.re b.re) (orders (imaginary_of a) (imaginary_of b))))
    ∙ sym (equal_by_orders a b l))
truths_are (comparison.Equals false) a b l =
    ap Some ((λ i. map (λ (p : Ordering × Ordering). sym (equal_false (is_equal p.0 && is_equal p.1)) i) (side_by_side (orders a.re b.re) (orders (imaginary_of a) (imaginary_of b))))
    ∙ sym (twice_mapped not (λ (p : Ordering × Ordering). is_equal p.0 && is_equal p.1) (side_by_side (orders a.re b.re) (orders (imaginary_of a) (imaginary_of b))))
    ∙ ap (map not) (sym (equal_by_orders a b l)))

complex_of_parts : (t : NumericType) (s : Shape) (xs : List ℤ) (o : Option (List ℤ)) → is_some o ≡ is_some (value_of t s xs o).im
complex_of_parts t s xs None = refl
complex_of_parts t s xs (Some ys) = refl

pub complex_is : (a : Operand) → is_some a.parts.im ≡ is_some (compared a).im
complex_is a = complex_of_parts a.num a.shape a.parts.re a.parts.im
