-- The best fraction length of numbers.
use Rattle.std.proofs.Common.{◌≡◌, ◌↔◌, ℕ, zero, suc, ◌-◌, ◌/◌, ◌≤◌, Bool, true, false, List, [], ◌∷◌, map, refl, sym, ap, subst, ◌∙◌, arith}
use Rattle.std.specs.Prelude.{ℤ, pos, negsuc, ◌-ℤ◌, ◌≤ℤ◌, Option, Some, None, unwrap_or}
use Rattle.std.specs.Int.{int_min}
use Rattle.std.specs.List.{AllByRecursion}
use Rattle.std.proofs.lemmas.Int.{ints, clamps}
use Rattle.std.proofs.Math.Nat.{pow-suc}
use Rattle.num_type.specs.Constants.{Exact}
use Rattle.num_type.specs.Precision.{IsHeld, IsUpTo, IsWidth, IsBestFraction, bits_beside_sign, counted}
use Rattle.num_type.specs.View.{exact_of}
use Rattle.num_type.specs.declared.dyadic.Dyadic.{Dyadic}
use Rattle.num_type.proofs.Held.{held_above, held_below, held_zero}
use Rattle.const_rules.specs.BestFraction.{width_up_to, width_of, size_in, filling, greatest_fraction_of, lesser, common_fraction, best_fraction_of, AreNumbersHeld, AreNumbersZero, IsBestFractionOf}

-- Bits of a size

one_bit_more : (n w : ℕ) → IsWidth (suc n / 2) w → IsWidth (suc n) (suc w)
one_bit_more n zero h = record { below = omega (arith, h.below); least = omega arith }
one_bit_more n (suc w) h = record {
  below = omega (arith, h.below, pow-suc 2 (suc w));
  least = omega (arith, h.least, pow-suc 2 (suc w), pow-suc 2 w);
}

width_is_up_to : (most size : ℕ) → size ≤ most → IsWidth size (width_up_to most size)
unfolding width_up_to
width_is_up_to zero size few = record { below = omega (arith, few); least = omega arith }
width_is_up_to (suc most) zero few = record { below = omega arith; least = omega arith }
width_is_up_to (suc most) (suc n) few = one_bit_more n (width_up_to most (suc n / 2)) (width_is_up_to most (suc n / 2) (omega (arith, few)))

pub width_is : (size : ℕ) → IsWidth size (width_of size)
width_is size = width_is_up_to size size (omega arith)

-- One number

no_value : {A : Type 0} (x : A) → Some x ≡ None → ⊥
no_value x e = cc

greatest_at : (signed : Bool) (word : ℕ) (x : Exact) (z : ℤ) → x.significand ≡ z → greatest_fraction_of signed word x ≡ filling (bits_beside_sign signed word) x.exponent (size_in signed z)
unfolding greatest_fraction_of
greatest_at signed word x z e = ap (λ (m : ℤ). filling (bits_beside_sign signed word) x.exponent (size_in signed m)) e

counted_at : (signed : Bool) (x : Exact) (z c : ℤ) → x.significand ≡ z → counted signed z ≡ c → counted signed x.significand ≡ c
counted_at signed x z c e f = ap (counted signed) e ∙ f

counted_some : (signed : Bool) (n : ℕ) → counted signed (pos (suc n)) ≡ pos (suc n)
counted_some true n = refl
counted_some false n = refl

counted_none : (signed : Bool) → counted signed (pos 0) ≡ pos 0
counted_none true = refl
counted_none false = refl

-- a type holds a number at the fraction lengths up to the greatest one
always : (signed : Bool) (word : ℕ) (x : Exact) (r : Option ℤ) → 1 ≤ word → r ≡ None → counted signed x.significand ≡ pos 0 → (fraction : ℤ) → IsHeld signed word fraction x ↔ IsUpTo r fraction
always signed word x r one e z fraction = subst (λ (o : Option ℤ). IsHeld signed word fraction x ↔ IsUpTo o fraction) (sym e) (λ h. tt, λ t. held_zero signed word x one z fraction)

pub greatest_held : (signed : Bool) (word : ℕ) (x : Exact) → 1 ≤ word → (fraction : ℤ) → IsHeld signed word fraction x ↔ IsUpTo (greatest_fraction_of signed word x) fraction
greatest_held signed word x one fraction = by signed x.significand refl
  where
    by : (s : Bool) (z : ℤ) → x.significand ≡ z → IsHeld s word fraction x ↔ IsUpTo (greatest_fraction_of s word x) fraction
    by s (pos zero) e = always s word x (greatest_fraction_of s word x) one (greatest_at s word x (pos 0) e) (counted_at s x (pos 0) (pos 0) e (counted_none s)) fraction
    by s (pos (suc n)) e =
        let f : ℤ = pos (bits_beside_sign s word) -ℤ x.exponent -ℤ pos (width_of (suc n)) in
        subst (λ (o : Option ℤ). IsHeld s word fraction x ↔ IsUpTo o fraction) (sym (greatest_at s word x (pos (suc n)) e))
        (held_above s word (suc n) (width_of (suc n)) x f one e (omega arith) (width_is (suc n)) refl fraction)
    by true (negsuc n) e =
        let f : ℤ = pos (word - 1) -ℤ x.exponent -ℤ pos (width_of n) in
        subst (λ (o : Option ℤ). IsHeld true word fraction x ↔ IsUpTo o fraction) (sym (greatest_at true word x (negsuc n) e))
        (held_below word n (width_of n) x f one e (width_is n) refl fraction)
    by false (negsuc n) e = always false word x (greatest_fraction_of false word x) one (greatest_at false word x (negsuc n) e) (counted_at false x (negsuc n) (pos 0) e refl) fraction

-- there is none exactly where it counts as 0
pub greatest_none : (signed : Bool) (word : ℕ) (x : Exact) → (greatest_fraction_of signed word x ≡ None) ↔ (counted signed x.significand ≡ pos 0)
greatest_none signed word x = by signed x.significand refl
  where
    by : (s : Bool) (z : ℤ) → x.significand ≡ z → (greatest_fraction_of s word x ≡ None) ↔ (counted s x.significand ≡ pos 0)
    by s (pos zero) e = (λ h. counted_at s x (pos 0) (pos 0) e (counted_none s), λ h. greatest_at s word x (pos 0) e)
    by s (pos (suc n)) e = (
      λ h. absurd (no_value (pos (bits_beside_sign s word) -ℤ x.exponent -ℤ pos (width_of (suc n))) (sym (greatest_at s word x (pos (suc n)) e) ∙ h)),
      λ h. absurd (let z : pos (suc n) ≡ pos 0 = sym (counted_at s x (pos (suc n)) (pos (suc n)) e (counted_some s n)) ∙ h in omega (arith, ints, z)),
    )
    by true (negsuc n) e = (
      λ h. absurd (no_value (pos (word - 1) -ℤ x.exponent -ℤ pos (width_of n)) (sym (greatest_at true word x (negsuc n) e) ∙ h)),
      λ h. absurd (omega (arith, ints, e, h)),
    )
    by false (negsuc n) e = (λ h. counted_at false x (negsuc n) (pos 0) e refl, λ h. greatest_at false word x (negsuc n) e)

-- Several numbers

lesser_both : (a b : Option ℤ) (z : ℤ) → IsUpTo (lesser a b) z ↔ (IsUpTo a z × IsUpTo b z)
lesser_both None b z = (λ h. (tt, h), λ h. h.1)
lesser_both (Some x) None z = (λ h. (h, tt), λ h. h.0)
lesser_both (Some x) (Some y) z = (
  λ h. (omega (arith, ints, clamps, h), omega (arith, ints, clamps, h)),
  λ h. omega (arith, ints, clamps, h.0, h.1),
)

lesser_none : (a b : Option ℤ) → (lesser a b ≡ None) ↔ ((a ≡ None) × (b ≡ None))
lesser_none None b = (λ h. (refl, h), λ h. h.1)
lesser_none (Some x) None = (λ h. absurd (no_value x h), λ h. absurd (no_value x h.0))
lesser_none (Some x) (Some y) = (λ h. absurd (no_value (int_min x y) h), λ h. absurd (no_value x h.0))

pub common_held : (signed : Bool) (word : ℕ) (values : List Exact) → 1 ≤ word → (fraction : ℤ) → AreNumbersHeld signed word fraction values ↔ IsUpTo (common_fraction signed word values) fraction
unfolding common_fraction
common_held signed word [] one fraction = (λ h. tt, λ h. tt)
common_held signed word (x ∷ more) one fraction =
    let first = greatest_held signed word x one fraction in
    let rest = common_held signed word more one fraction in
    let both = lesser_both (greatest_fraction_of signed word x) (common_fraction signed word more) fraction in (
      λ h. both.1 (first.0 h.0, rest.0 h.1),
      λ h. let b = both.0 h in (first.1 b.0, rest.1 b.1),
    )

pub common_none : (signed : Bool) (word : ℕ) (values : List Exact) → (common_fraction signed word values ≡ None) ↔ AreNumbersZero signed values
unfolding common_fraction
common_none signed word [] = (λ h. tt, λ h. refl)
common_none signed word (x ∷ more) =
    let first = greatest_none signed word x in
    let rest = common_none signed word more in
    let both = lesser_none (greatest_fraction_of signed word x) (common_fraction signed word more) in (
      λ h. let b = both.0 h in (first.0 b.0, rest.0 b.1),
      λ h. both.1 (first.1 h.0, rest.1 h.1),
    )

best_at : (signed : Bool) (word : ℕ) (values : List Exact) (o : Option ℤ) → common_fraction signed word values ≡ o → best_fraction_of signed word values ≡ unwrap_or o (pos (bits_beside_sign signed word))
unfolding best_fraction_of
best_at signed word values o e = ap (λ (p : Option ℤ). unwrap_or p (pos (bits_beside_sign signed word))) e

-- the function meets the relation
pub best_fraction_is : (signed : Bool) (word : ℕ) (values : List Exact) → 1 ≤ word → IsBestFractionOf signed word values (best_fraction_of signed word values)
best_fraction_is signed word values one = by (common_fraction signed word values) refl
  where
    by : (o : Option ℤ) → common_fraction signed word values ≡ o → IsBestFractionOf signed word values (best_fraction_of signed word values)
    by None e = record {
      zeros = λ z. best_at signed word values None e;
      greatest = λ some. absurd (some ((common_none signed word values).0 e));
    }
    by (Some f) e = record {
      zeros = λ z. absurd (no_value f (sym e ∙ (common_none signed word values).1 z));
      greatest = λ some fraction.
          let held = subst (λ (o : Option ℤ). AreNumbersHeld signed word fraction values ↔ IsUpTo o fraction) e (common_held signed word values one fraction) in
          subst (λ (b : ℤ). AreNumbersHeld signed word fraction values ↔ (fraction ≤ℤ b)) (sym (best_at signed word values (Some f) e)) held;
    }

-- Constants that are kept

all_mapped : {X Y : Type 0} (P : Y → Type 0) (f : X → Y) (xs : List X) → AllByRecursion P (map f xs) ↔ AllByRecursion (λ (x : X). P (f x)) xs
all_mapped P f [] = (λ h. h, λ h. h)
all_mapped P f (x ∷ more) =
    let rest = all_mapped P f more in
    (λ h. (h.0, rest.0 h.1), λ h. (h.0, rest.1 h.1))

-- the function meets the relation on kept constants
pub best_fraction_of_kept : (signed : Bool) (word : ℕ) (values : List Dyadic) → 1 ≤ word → IsBestFraction signed word values (best_fraction_of signed word (map exact_of values))
best_fraction_of_kept signed word values one =
    let best = best_fraction_is signed word (map exact_of values) one in
    let zero = all_mapped (λ (x : Exact). counted signed x.significand ≡ pos 0) exact_of values in
    record {
      zeros = λ z. best.zeros (zero.1 z);
      greatest = λ some fraction.
          let held = all_mapped (λ (x : Exact). IsHeld signed word fraction x) exact_of values in
          let r = best.greatest (λ z. some (zero.0 z)) fraction in
          (λ h. r.0 (held.1 h), λ h. held.0 (r.1 h));
    }
