-- Elementwise results from their parts.
use Rattle.std.proofs.Common.{◌≡◌, ℕ, suc, ◌+◌, ◌*◌, ◌^◌, ◌<◌, List, [], ◌∷◌, ◌++◌, length, refl, sym, ap, subst, ◌∙◌, arith, length-append}
use Rattle.std.specs.Prelude.{Bool, true, false, ◌||◌, Option, Some, None, IfSome, is_some, ℤ, pos, negsuc, ◌+ℤ◌, ◌-ℤ◌, ◌*ℤ◌, neg_ℤ, nat_abs, map, slice_index_or}
use Rattle.std.specs.Global.{Vec}
use Rattle.num_type.specs.Constants.{Exact, IsSame, units, common, sum_of, opposite, product_of}
use Rattle.num_type.specs.Precision.{whole}
use Rattle.num_type.specs.View.{exact_of}
use Rattle.num_type.specs.declared.dyadic.Dyadic.{Dyadic}
use Rattle.num_type.proofs.Constants.{zero_same, not_true}
use Rattle.shape_rules.specs.declared.shape.Shape.{Shape}
use Rattle.shape_rules.specs.Places.{IsElementwise}
use Rattle.shape_rules.specs.Shapes.{elements_of}
use Rattle.const_eval.specs.declared.complex.Complex as code_complex
use Rattle.const_eval.specs.declared.constant.Const.{Const}
use Rattle.const_eval.specs.declared.element_op.ElementOp.{ElementOp}
use Rattle.const_eval.specs.declared.element_op.ElementOp.TheVariants.{Sum, Difference, Product}
use Rattle.fic_base.specs.declared.refusal.Refusal.{Refusal}
use Rattle.num_type.specs.declared.memory.Stop.{Stop}
use Rattle.num_type.specs.declared.memory.Stop.TheVariants.{Refused, Memory}
use Rattle.const_eval.specs.Complex.{Complex, complex_of, AreSame}
use Rattle.const_eval.specs.Refusals.{RefusesOnly}
use Rattle.const_eval.proofs.Listed.{one_more, each_more}
use Rattle.const_eval.specs.Elementwise.{applied, HasSteps, serving, IsOperated}
use Rattle.const_eval.specs.Listed.{listed, real_of, imaginary_of}
use Rattle.const_eval.specs.Values.{part_at, imaginary_at, is_complex}

-- Numbers without an imaginary part

zero_times : (z : ℤ) (p : ℕ) → z ≡ pos 0 → z *ℤ pos p ≡ pos 0
zero_times z p e = ap (λ (y : ℤ). y *ℤ pos p) e ∙ ap pos (let k : 0 * p ≡ 0 = omega arith in k)

times_zero : (z : ℤ) → z *ℤ pos 0 ≡ pos 0
times_zero (pos n) = ap pos (let k : n * 0 ≡ 0 = omega arith in k)
times_zero (negsuc n) = ap (λ (k : ℕ). neg_ℤ (pos k)) (let e : suc n * 0 ≡ 0 = omega arith in e)

zero_times_all : (z : ℤ) → pos 0 *ℤ z ≡ pos 0
zero_times_all (pos n) = ap pos (let k : 0 * n ≡ 0 = omega arith in k)
zero_times_all (negsuc n) = ap (λ (k : ℕ). neg_ℤ (pos k)) (let e : 0 * suc n ≡ 0 = omega arith in e)

sum_zero : (p q : Exact) → p.significand ≡ pos 0 → q.significand ≡ pos 0 → (sum_of p q).significand ≡ pos 0
unfolding units
sum_zero p q e f = λ i. zero_times p.significand (2 ^ nat_abs (p.exponent -ℤ common p q)) e i +ℤ zero_times q.significand (2 ^ nat_abs (q.exponent -ℤ common p q)) f i

no_part : (op : ElementOp) (x y : Complex) → x.im ≡ whole (pos 0) → y.im ≡ whole (pos 0) → (applied op x y).im.significand ≡ pos 0
no_part Sum x y e f = sum_zero x.im y.im (ap (λ (z : Exact). z.significand) e) (ap (λ (z : Exact). z.significand) f)
no_part Difference x y e f = sum_zero x.im (opposite y.im) (ap (λ (z : Exact). z.significand) e) (ap (λ (z : Exact). neg_ℤ z.significand) f)
no_part Product x y e f =
    sum_zero (product_of x.re y.im) (product_of x.im y.re)
    (ap (λ (z : Exact). x.re.significand *ℤ z.significand) f ∙ times_zero x.re.significand)
    (ap (λ (z : Exact). z.significand *ℤ y.re.significand) e ∙ zero_times_all y.re.significand)

real_result : (op : ElementOp) (x y : Complex) → x.im ≡ whole (pos 0) → y.im ≡ whole (pos 0) → IsSame (whole (pos 0)) (applied op x y).im
real_result op x y e f = zero_same (whole (pos 0)) (applied op x y).im refl (no_part op x y e f)

none_zero : (parts : Option (Vec Dyadic)) (k : ℕ) → is_some parts ≡ false → imaginary_at parts k ≡ whole (pos 0)
none_zero None k e = refl
none_zero (Some v) k e = absurd (not_true (sym e))

both_false : (a b : Bool) → (a || b) ≡ false → (a ≡ false) × (b ≡ false)
both_false false b e = (refl, e)
both_false true b e = absurd (not_true (sym e))

-- The whole

number_is : (parts : Option (Vec Dyadic)) (ds : List Dyadic) (xs : List code_complex.Complex) (k : ℕ) (x : Complex) → map exact_of ds ≡ map real_of xs → IfSome parts (λ v. map exact_of v.items ≡ map imaginary_of xs) → (is_some parts ≡ false → IsSame (whole (pos 0)) x.im) → AreSame (listed xs k) x → AreSame (record { re = part_at ds k; im = imaginary_at parts k }) x
number_is None ds xs k x e f real same = record {
  re = subst (λ (zs : List Exact). IsSame (slice_index_or zs k (whole (pos 0))) x.re) (sym e) same.re;
  im = real refl;
}
number_is (Some v) ds xs k x e f real same = record {
  re = subst (λ (zs : List Exact). IsSame (slice_index_or zs k (whole (pos 0))) x.re) (sym e) same.re;
  im = subst (λ (zs : List Exact). IsSame (slice_index_or zs k (whole (pos 0))) x.im) (sym f) same.im;
}

pub operated : (op : ElementOp) (a b c : Const) (s : Shape) (xs : List code_complex.Complex) (n : ℕ) → IsElementwise a.shape b.shape s → n ≡ elements_of s → c.shape ≡ s → is_complex c ≡ (is_complex a || is_complex b) → map exact_of c.re.items ≡ map real_of xs → IfSome c.im (λ v. map exact_of v.items ≡ map imaginary_of xs) → ((k : ℕ) → k < n → HasSteps op (serving a k) (serving b k)) → ((k : ℕ) → k < n → AreSame (listed xs k) (applied op (serving a k) (serving b k))) → IsOperated op a b c
operated op a b c s xs n fit count shape complex real imaginary steps numbers = record {
  shape = subst (IsElementwise a.shape b.shape) (sym shape) fit;
  complex = complex;
  steps = λ k l. steps k (within k l);
  numbers = λ k l. number_is c.im c.re.items xs k (applied op (serving a k) (serving b k)) real imaginary (λ e. none k e) (numbers k (within k l));
}
  where
    within : (k : ℕ) → k < elements_of c.shape → k < n
    within k l = let e : elements_of c.shape ≡ elements_of s = ap elements_of shape in omega (arith, l, e, count)

    none : (k : ℕ) → is_some c.im ≡ false → IsSame (whole (pos 0)) (applied op (serving a k) (serving b k)).im
    none k e =
        let h = both_false (is_complex a) (is_complex b) (sym complex ∙ e) in
        real_result op (serving a k) (serving b k) (none_zero a.im _ h.0) (none_zero b.im _ h.1)

-- Steps of the loop

pub only_because : {P Q : Refusal → Type 0} (stop : Stop Refusal) → ((r : Refusal) → P r → Q r) → RefusesOnly stop P → RefusesOnly stop Q
only_because (Refused r) f h = f r h
only_because Memory f h = tt

pub steps_of : (op : ElementOp) (x y u v : Complex) → x ≡ u → y ≡ v → HasSteps op x y → HasSteps op u v
steps_of op x y u v e f h = subst (λ (z : Complex). HasSteps op u z) f (subst (λ (z : Complex). HasSteps op z y) e h)

pub same_result : (op : ElementOp) (w x y u v : Complex) → x ≡ u → y ≡ v → AreSame w (applied op x y) → AreSame w (applied op u v)
same_result op w x y u v e f h = subst (λ (z : Complex). AreSame w (applied op u z)) f (subst (λ (z : Complex). AreSame w (applied op z y)) e h)

pub next_count : (xs ys : List code_complex.Complex) (x : code_complex.Complex) (k : ℕ) → ys ≡ xs ++ x ∷ [] → length xs ≡ k → length ys ≡ k + 1
next_count xs ys x k e n = ap (λ (zs : List code_complex.Complex). length zs) e ∙ length-append xs (x ∷ []) ∙ ap (λ (i : ℕ). i + 1) n

pub next_steps : (op : ElementOp) (a b : Const) (k : ℕ) → ((j : ℕ) → j < k → HasSteps op (serving a j) (serving b j)) → HasSteps op (serving a k) (serving b k) → (j : ℕ) → j < k + 1 → HasSteps op (serving a j) (serving b j)
next_steps op a b k before last = each_more (λ j. HasSteps op (serving a j) (serving b j)) k before last

pub next_numbers : (op : ElementOp) (a b : Const) (xs ys : List code_complex.Complex) (x : code_complex.Complex) (k : ℕ) → ys ≡ xs ++ x ∷ [] → length xs ≡ k → ((j : ℕ) → j < k → AreSame (listed xs j) (applied op (serving a j) (serving b j))) → AreSame (complex_of x) (applied op (serving a k) (serving b k)) → (j : ℕ) → j < k + 1 → AreSame (listed ys j) (applied op (serving a j) (serving b j))
next_numbers op a b xs ys x k e n before last j l =
    subst (λ (zs : List code_complex.Complex). AreSame (listed zs j) (applied op (serving a j) (serving b j))) (sym e)
    (one_more (λ i c. AreSame c (applied op (serving a i) (serving b i))) xs x k n before last j l)
