-- Constants that code keeps are the functions' answers.
use Rattle.std.proofs.Common.{◌≡◌, ◌≢◌, ◌⊎◌, inl, inr, ◌↔◌, ℕ, zero, suc, ◌*◌, ◌/◌, ◌^◌, ◌%◌, ◌<◌, ◌≤◌, Bool, true, false, List, [], ◌∷◌, ◌++◌, length, map, refl, sym, ap, subst, ◌∙◌, arith}
use Rattle.std.specs.Prelude.{◌==◌, ℤ, pos, negsuc, ◌+ℤ◌, ◌-ℤ◌, ◌≤ℤ◌, nat_abs, Option, Some, None, option_map, IsSome, IfSome, IfNone}
use Rattle.std.specs.Str.Parse.{digits_value, signed_digits_value}
use Rattle.std.proofs.lemmas.Int.{ints}
use Rattle.std.proofs.lemmas.Bool.{eqb-true, eqb-false, cases_Bool}
use Rattle.std.proofs.lemmas.Nat.{div-add-mod'}
use Rattle.num_type.specs.Constants.{Exact, IsSame, IsConstant, IsReduced, IsKept}
use Rattle.num_type.specs.Precision.{whole, IsBestFraction, AreZero, counted}
use Rattle.num_type.specs.View.{exact_of}
use Rattle.num_type.specs.declared.dyadic.Dyadic.{Dyadic}
use Rattle.num_type.proofs.Constants.{one_form, same_through, same_turned, zero_or, zero_same, constant_same, constant_kept, not_true}
use Rattle.num_type.proofs.Sums.{constant_of as kept_constant_of}
use Rattle.const_eval.specs.Powers.{power_of, IsPowerOf, NoPowerOf, turned}
use Rattle.const_eval.specs.Literals.{IsTenfold, IsDecimalValue, Nought, Short, IsLiteral, NoLiteral, mantissa_of, exponent_of, whole_part, fraction_part}
use Rattle.const_eval.specs.Complex.{Complex, complex_of, AreSame, AreConstant, HasConstantSteps, plus, minus, times}
use Rattle.const_eval.specs.declared.complex.Complex as code_complex
use Rattle.const_eval.proofs.Zeros.{ten_more}
use Rattle.const_eval.proofs.Fives.{tenfold_lowered, no_tenfold}
use Rattle.const_rules.specs.Splits.{split}
use Rattle.const_rules.specs.OneForm.{reduced, constant_of, IsConstantWith}
use Rattle.const_rules.specs.Folds.{power}
use Rattle.const_rules.specs.LiteralValues.{literal_of}
use Rattle.const_rules.specs.BestFraction.{best_fraction_of}
use Rattle.const_rules.specs.ComplexFolds.{complex_added, complex_subtracted, complex_multiplied, IsComplexAnswer}
use Rattle.const_rules.proofs.ComplexFolds.{complex_added_is, complex_subtracted_is, complex_multiplied_is}
use Rattle.const_rules.proofs.OneForm.{reduced_same, reduced_is, constant_of_is}
use Rattle.const_rules.proofs.Folds.{power_is}
use Rattle.const_eval.proofs.Inverses.{unit_from_size, no_inverse}
use Rattle.const_rules.proofs.Inverses.{power_is_turned, power_of_same}
use Rattle.const_rules.proofs.LiteralValues.{literal_of_is, same_value, trimmed_is}
use Rattle.const_rules.proofs.BestFraction.{best_fraction_of_kept}

-- Constants in the one form are those that code keeps

pub kept_form : (d : Dyadic) → IsReduced (exact_of d)
kept_form d = record { zero_form = d.zero_form; odd = d.odd }

pub kept_limits : (d : Dyadic) → IsConstant (exact_of d)
kept_limits d = kept_constant_of d

pub kept_of : (n : Exact) → IsReduced n → IsConstant n → (d : Dyadic) × (exact_of d ≡ n)
kept_of n h c = by (zero_or n.significand)
  where
    by : (n.significand ≡ pos 0) ⊎ (n.significand ≡ pos 0 → ⊥) → (d : Dyadic) × (exact_of d ≡ n)
    by (inl z) =
        let e : n.exponent ≡ pos 0 = h.zero_form z in (
          record {
            m = n.significand;
            e = n.exponent;
            zero_form = h.zero_form;
            odd = h.odd;
            bits = omega (arith, ap nat_abs z);
            least = omega (arith, ints, e);
            room = λ k f. absurd (omega (arith, ints, e, f));
          },
          refl,
        )
    by (inr some) =
        let k : IsKept (nat_abs n.significand) n.exponent = constant_kept n (h.odd some) c in
        (record { m = n.significand; e = n.exponent; zero_form = h.zero_form; odd = h.odd; bits = k.bits; least = k.least; room = k.room }, refl)

-- Answers

-- where all numbers with a property are the same, the kept one is the answer
some_answer : (P : Exact → Type 0) (r : Option Exact) (d : Dyadic) → ((m n : Exact) → P m → P n → IsSame m n) → IsConstantWith P r → P (exact_of d) → r ≡ Some (exact_of d)
some_answer P (Some n) d once h p = ap Some (one_form n (exact_of d) h.0 (kept_form d) (once n (exact_of d) h.2 p))
some_answer P None d once h p = absurd (h (exact_of d) (kept_constant_of d) p)

none_answer : (P : Exact → Type 0) (r : Option Exact) → ((d : Dyadic) → P (exact_of d) → ⊥) → IsConstantWith P r → r ≡ None
none_answer P (Some n) none h =
    let k = kept_of n h.0 h.1 in
    absurd (none k.0 (subst P (sym k.1) h.2))
none_answer P None none h = refl

-- Constants of numbers

same_number : (x m n : Exact) → IsSame m x → IsSame n x → IsSame m n
same_number x m n h k = same_through m x n h (same_turned n x k)

pub kept_constant_is : (x : Exact) (r : Option Dyadic) → (IsSome r ↔ IsConstant x) → IfSome r (λ d. IsSame (exact_of d) x) → option_map exact_of r ≡ constant_of x
kept_constant_is x (Some d) limits same = sym (some_answer (λ n. IsSame n x) (constant_of x) d (same_number x) (constant_of_is x) same)
kept_constant_is x None limits same = sym (none_answer (λ n. IsSame n x) (constant_of x) (λ d h. no_some (limits.1 (of_same d h))) (constant_of_is x))
  where
    of_same : (d : Dyadic) → IsSame (exact_of d) x → IsConstant x
    of_same d h = constant_same (exact_of d) x h (kept_constant_of d)

    no_some : (false ≡ true) → ⊥
    no_some t = cc

-- Powers

same_power : (x m n : Exact) (e : ℤ) → IsPowerOf x e m → IsPowerOf x e n → IsSame m n
same_power x m n (pos k) h l = same_number (power_of x k) m n h l
same_power x m n (negsuc k) h l = by (cases_Bool (nat_abs (reduced x).significand == 1))
  where
    by : ((nat_abs (reduced x).significand == 1) ≡ true) ⊎ ((nat_abs (reduced x).significand == 1) ≡ false) → IsSame m n
    by (inl e) =
        let u = unit_from_size (reduced x).significand (eqb-true (nat_abs (reduced x).significand) 1 e) in
        let hm = power_of_same x (reduced x) m (negsuc k) (same_turned (reduced x) x (reduced_same x)) h in
        let hn = power_of_same x (reduced x) n (negsuc k) (same_turned (reduced x) x (reduced_same x)) l in
        same_number (power_of (turned (reduced x)) (suc k)) m n (power_is_turned (reduced x) m k u hm) (power_is_turned (reduced x) n k u hn)
    by (inr e) =
        absurd (no_inverse (reduced x) m k (reduced_is x) (eqb-false (nat_abs (reduced x).significand) 1 e) (power_of_same x (reduced x) m (negsuc k) (same_turned (reduced x) x (reduced_same x)) h))

pub kept_power_is : (x : Exact) (e : ℤ) (r : Option Dyadic) → IfSome r (λ d. IsPowerOf x e (exact_of d)) → IfNone r (NoPowerOf x e) → option_map exact_of r ≡ power x e
kept_power_is x e (Some d) some none = sym (some_answer (IsPowerOf x e) (power x e) d (λ m n. same_power x m n e) (power_is x e) some)
kept_power_is x e None some none = sym (none_answer (IsPowerOf x e) (power x e) none (power_is x e))

-- Literals

same_tenfold : (digits : ℕ) (tens : ℤ) (m n : Exact) → IsTenfold digits tens m → IsTenfold digits tens n → IsSame m n
same_tenfold digits (pos k) m n h l = same_number (whole (pos (digits * 10 ^ k))) m n h l
same_tenfold digits (negsuc k) m n h l = by (cases_Bool (digits % 5 ^ suc k == 0))
  where
    by : ((digits % 5 ^ suc k == 0) ≡ true) ⊎ ((digits % 5 ^ suc k == 0) ≡ false) → IsSame m n
    by (inl e) =
        let c : ℕ = digits / 5 ^ suc k in
        let times : c * 5 ^ suc k ≡ digits = omega (arith, div-add-mod' digits (5 ^ suc k), eqb-true (digits % 5 ^ suc k) 0 e) in
        same_number (record { significand = pos c; exponent = negsuc k }) m n (tenfold_lowered m c digits k times h) (tenfold_lowered n c digits k times l)
    by (inr e) = absurd (no_tenfold m digits k (eqb-false (digits % 5 ^ suc k) 0 e) h)

nought : (n k : ℕ) → n * 10 ^ k ≡ 0 → n ≡ 0
nought n zero e = omega (arith, e)
nought n (suc k) e = nought n k (omega (arith, e, ten_more n k))

zero_decimal : (n : ℕ) (power : ℤ) (x : Exact) → n ≡ 0 → IsDecimalValue n power x → x.significand ≡ pos 0
zero_decimal n power x z (Nought e m) = m
zero_decimal n power x z (Short digits tens t short is) =
    absurd (t.last (ap (λ (k : ℕ). k % 10) (nought digits t.zeros (sym t.number ∙ z))))

same_decimal : (n : ℕ) (power : ℤ) (x y : Exact) → IsDecimalValue n power x → IsDecimalValue n power y → IsSame x y
same_decimal n power x y h l = by (cases_Bool (n == 0))
  where
    by : ((n == 0) ≡ true) ⊎ ((n == 0) ≡ false) → IsSame x y
    by (inl e) = zero_same x y (zero_decimal n power x (eqb-true n 0 e) h) (zero_decimal n power y (eqb-true n 0 e) l)
    by (inr e) =
        let none : n ≢ 0 = eqb-false n 0 e in
        let some : 0 < n = omega (arith, none) in
        let t = trimmed_is n power some in
        let digits : ℕ = (split 10 n).part in
        let tens : ℤ = power +ℤ pos (split 10 n).power in
        same_tenfold digits tens x y (same_value n digits power tens x some t h).1 (same_value n digits power tens y some t l).1

same_literal : (text : List ℕ) (x y : Exact) → IsLiteral text x → IsLiteral text y → IsSame x y
same_literal text x y h l =
    let front : List ℕ = whole_part (mantissa_of text) in
    let back : List ℕ = fraction_part (mantissa_of text) in
    same_decimal (digits_value 10 (front ++ back)) (signed_digits_value 10 (exponent_of text) -ℤ pos (length back)) x y h.value.value l.value.value

pub kept_literal_is : (text : List ℕ) (d : Dyadic) → IsLiteral text (exact_of d) → literal_of text ≡ Some (exact_of d)
kept_literal_is text d h = some_answer (IsLiteral text) (literal_of text) d (same_literal text) (literal_of_is text) h

pub no_literal_is : (text : List ℕ) → NoLiteral text → literal_of text ≡ None
no_literal_is text none = none_answer (IsLiteral text) (literal_of text) none (literal_of_is text)

-- Best fraction lengths

same_best : (signed : Bool) (word : ℕ) (values : List Dyadic) (f g : ℤ) → IsBestFraction signed word values f → IsBestFraction signed word values g → (AreZero signed values) ⊎ (AreZero signed values → ⊥) → f ≡ g
same_best signed word values f g h k (inl z) = h.zeros z ∙ sym (k.zeros z)
same_best signed word values f g h k (inr some) =
    let up : f ≤ℤ g = (k.greatest some f).0 ((h.greatest some f).1 (omega (arith, ints))) in
    let down : g ≤ℤ f = (h.greatest some g).0 ((k.greatest some g).1 (omega (arith, ints))) in
    omega (arith, ints, up, down)

zeros_or : (signed : Bool) (values : List Dyadic) → (AreZero signed values) ⊎ (AreZero signed values → ⊥)
zeros_or signed [] = inl tt
zeros_or signed (d ∷ more) = both (zero_or (counted signed d.m)) (zeros_or signed more)
  where
    both : {A B : Type 0} → A ⊎ (A → ⊥) → B ⊎ (B → ⊥) → (A × B) ⊎ (A × B → ⊥)
    both (inl a) (inl b) = inl (a, b)
    both (inl a) (inr n) = inr (λ p. n p.1)
    both (inr n) b = inr (λ p. n p.0)

pub kept_best_is : (signed : Bool) (word : ℕ) (values : List Dyadic) (best : ℤ) → 1 ≤ word → IsBestFraction signed word values best → best ≡ best_fraction_of signed word (map exact_of values)
kept_best_is signed word values best one h =
    same_best signed word values best (best_fraction_of signed word (map exact_of values)) h (best_fraction_of_kept signed word values one) (zeros_or signed values)

-- Complex constants

complex_answer : (z : Complex) (L : Type 0) (r : Option code_complex.Complex) (o : Option Complex) → IsComplexAnswer z L o → (IsSome r ↔ L) → IfSome r (λ c. AreSame (complex_of c) z) → option_map complex_of r ≡ o
complex_answer z L (Some c) (Some n) h limits same =
    let re : exact_of c.re ≡ n.re = one_form (exact_of c.re) n.re (kept_form c.re) h.0.re (same_number z.re (exact_of c.re) n.re same.re h.1.re) in
    let im : exact_of c.im ≡ n.im = one_form (exact_of c.im) n.im (kept_form c.im) h.0.im (same_number z.im (exact_of c.im) n.im same.im h.1.im) in
    λ i. Some (record { re = re i; im = im i })
complex_answer z L (Some c) None h limits same = absurd (h (limits.0 refl))
complex_answer z L None (Some n) h limits same = absurd (let t : false ≡ true = limits.1 h.2 in not_true t)
complex_answer z L None None h limits same = refl

pub kept_sum_is : (x y : Complex) (r : Option code_complex.Complex) → (IsSome r ↔ AreConstant (plus x y)) → IfSome r (λ c. AreSame (complex_of c) (plus x y)) → option_map complex_of r ≡ complex_added x y
kept_sum_is x y r limits same = complex_answer (plus x y) (AreConstant (plus x y)) r (complex_added x y) (complex_added_is x y) limits same

pub kept_difference_is : (x y : Complex) (r : Option code_complex.Complex) → (IsSome r ↔ AreConstant (minus x y)) → IfSome r (λ c. AreSame (complex_of c) (minus x y)) → option_map complex_of r ≡ complex_subtracted x y
kept_difference_is x y r limits same = complex_answer (minus x y) (AreConstant (minus x y)) r (complex_subtracted x y) (complex_subtracted_is x y) limits same

pub kept_product_is : (x y : Complex) (r : Option code_complex.Complex) → (IsSome r ↔ HasConstantSteps x y) → IfSome r (λ c. AreSame (complex_of c) (times x y)) → option_map complex_of r ≡ complex_multiplied x y
kept_product_is x y r limits same = complex_answer (times x y) (HasConstantSteps x y) r (complex_multiplied x y) (complex_multiplied_is x y) limits same
