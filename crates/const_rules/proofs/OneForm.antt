-- The one form of a number, and the constant that a number is.
use Rattle.std.proofs.Common.{◌≡◌, ◌≢◌, ◌⊎◌, inl, inr, ℕ, ◌*◌, ◌^◌, ◌%◌, ◌<◌, ◌≤◌, Bool, true, false, refl, sym, ap, subst, ◌∙◌, arith}
use Rattle.std.specs.Prelude.{if◌then◌else◌, nat_lt, int_le, ℤ, pos, negsuc, ◌+ℤ◌, ◌-ℤ◌, ◌≤ℤ◌, nat_abs, Some, None}
use Rattle.std.proofs.lemmas.Bool.{eq-eqb, ne_eqb, ltb-true, lt-ltb, and_parts, and_from}
use Rattle.std.proofs.lemmas.Int.{ints}
use Rattle.std.proofs.lemmas.Nat.{mul-le, pow_pos}
use Rattle.num_type.specs.Constants.{Exact, IsSame, IsConstant, IsReduced, IsKept, exponent_least, exponent_most, significand_bits}
use Rattle.num_type.specs.Precision.{whole}
use Rattle.num_type.specs.Whole.{signed, is_below_zero}
use Rattle.num_type.proofs.Constants.{raised_same, size-signed, zero_same, zero_or, one_form, same_through, same_turned, constant_same, constant_kept, kept_constant, not_true}
use Rattle.const_rules.specs.Splits.{Split, split}
use Rattle.const_rules.specs.OneForm.{raised, reduced, above_zero, is_kept, kept, constant_of, IsConstantWith}
use Rattle.const_rules.proofs.Answers.{answer_some, answer_none}
use Rattle.const_rules.proofs.Splits.{split_number, split_last}

-- The one form

size_zero : (z : ℤ) → z ≡ pos 0 → nat_abs z ≡ 0
size_zero z e = ap nat_abs e

size_some : (z : ℤ) → (z ≡ pos 0 → ⊥) → nat_abs z ≡ 0 → ⊥
size_some (pos n) some e = some (ap pos e)
size_some (negsuc n) some e = omega (arith, e)

pub reduced_zero : (x : Exact) → x.significand ≡ pos 0 → reduced x ≡ whole (pos 0)
unfolding reduced
reduced_zero x z = ap (λ (b : Bool). if b then whole (pos 0) else raised (is_below_zero x.significand) (split 2 (nat_abs x.significand)) x.exponent) (eq-eqb (nat_abs x.significand) 0 (size_zero x.significand z))

pub reduced_some : (x : Exact) → (x.significand ≡ pos 0 → ⊥) → reduced x ≡ raised (is_below_zero x.significand) (split 2 (nat_abs x.significand)) x.exponent
unfolding reduced
reduced_some x some = ap (λ (b : Bool). if b then whole (pos 0) else raised (is_below_zero x.significand) (split 2 (nat_abs x.significand)) x.exponent) (ne_eqb (nat_abs x.significand) 0 (size_some x.significand some))

pub by_sign : (z : ℤ) → signed (is_below_zero z) (nat_abs z) ≡ z
by_sign (pos n) = refl
by_sign (negsuc n) = refl

reduced_some_same : (x : Exact) → (x.significand ≡ pos 0 → ⊥) → IsSame (reduced x) x
reduced_some_same x some =
    let b : Bool = is_below_zero x.significand in
    let s : Split = split 2 (nat_abs x.significand) in
    let h : IsSame (raised b s x.exponent) (record { significand = signed b (nat_abs x.significand); exponent = x.exponent }) =
    raised_same b s.part (nat_abs x.significand) s.power x.exponent (x.exponent +ℤ pos s.power) (split_number 2 (nat_abs x.significand) (nat_abs x.significand)) refl in
    let is : record { significand = signed b (nat_abs x.significand); exponent = x.exponent } ≡ x = λ i. record { significand = by_sign x.significand i; exponent = x.exponent } in
    subst (λ (y : Exact). IsSame y x) (sym (reduced_some x some)) (subst (IsSame (raised b s x.exponent)) is h)

-- it is the same number
pub reduced_same : (x : Exact) → IsSame (reduced x) x
reduced_same x = by (zero_or x.significand)
  where
    by : (x.significand ≡ pos 0) ⊎ (x.significand ≡ pos 0 → ⊥) → IsSame (reduced x) x
    by (inl z) = subst (λ (y : Exact). IsSame y x) (sym (reduced_zero x z)) (zero_same (whole (pos 0)) x refl z)
    by (inr some) = reduced_some_same x some

pub zero_form : IsReduced (whole (pos 0))
zero_form = record { zero_form = λ e. refl; odd = λ some. absurd (some refl) }

odd_form : (b : Bool) (n : ℕ) (e : ℤ) → n % 2 ≢ 0 → IsReduced (record { significand = signed b n; exponent = e })
odd_form b n e last =
    let odd : n % 2 ≡ 1 = omega (arith, last) in
    record {
      zero_form = λ z. absurd (omega (arith, odd, sym (size-signed b n) ∙ ap nat_abs z));
      odd = λ some. ap (λ (k : ℕ). k % 2) (size-signed b n) ∙ odd;
    }

-- it has the one form
pub reduced_is : (x : Exact) → IsReduced (reduced x)
reduced_is x = by (zero_or x.significand)
  where
    by : (x.significand ≡ pos 0) ⊎ (x.significand ≡ pos 0 → ⊥) → IsReduced (reduced x)
    by (inl z) = subst IsReduced (sym (reduced_zero x z)) zero_form
    by (inr some) =
        let b : Bool = is_below_zero x.significand in
        let s : Split = split 2 (nat_abs x.significand) in
        let positive : 0 < nat_abs x.significand = omega (arith, size_some x.significand some) in
        subst IsReduced (sym (reduced_some x some)) (odd_form b s.part (x.exponent +ℤ pos s.power) (split_last 2 (nat_abs x.significand) (nat_abs x.significand) (omega arith) positive (omega arith)))

-- the same numbers have the same one
pub reduced_once : (x y : Exact) → IsSame x y → reduced x ≡ reduced y
reduced_once x y h =
    one_form (reduced x) (reduced y) (reduced_is x) (reduced_is y)
    (same_through (reduced x) x (reduced y) (reduced_same x) (same_through x y (reduced y) h (same_turned (reduced y) y (reduced_same y))))

-- and a number in it is its own
pub reduced_of : (x : Exact) → IsReduced x → reduced x ≡ x
reduced_of x h = one_form (reduced x) x (reduced_is x) h (reduced_same x)

-- The limits

pub at_most : (a b : ℤ) → int_le a b ≡ true → a ≤ℤ b
at_most a b e = grind (arith, ints)

pub at_most_is : (a b : ℤ) → a ≤ℤ b → int_le a b ≡ true
at_most_is a b h = grind (arith, ints)

up : (n p : ℕ) → 0 < p → n ≤ n * p
up n p some = omega (arith, mul-le n 1 n p (omega arith) some)

room_of : (size : ℕ) (e : ℤ) (k : ℕ) → e ≡ exponent_most +ℤ pos k → size * 2 ^ above_zero (e -ℤ exponent_most) < 2 ^ significand_bits → size * 2 ^ k < 2 ^ significand_bits
room_of size e k f h =
    let g : e -ℤ exponent_most ≡ pos k = omega (arith, ints, f) in
    subst (λ (z : ℤ). size * 2 ^ above_zero z < 2 ^ significand_bits) g h

pub kept_from : (size : ℕ) (e : ℤ) → is_kept size e ≡ true → IsKept size e
kept_from size e h =
    let p = and_parts (nat_lt (size * 2 ^ above_zero (e -ℤ exponent_most)) (2 ^ significand_bits)) (int_le exponent_least e) h in
    let l : size * 2 ^ above_zero (e -ℤ exponent_most) < 2 ^ significand_bits = ltb-true (size * 2 ^ above_zero (e -ℤ exponent_most)) (2 ^ significand_bits) p.0 in
    record {
      bits = omega (arith, l, up size (2 ^ above_zero (e -ℤ exponent_most)) (pow_pos (above_zero (e -ℤ exponent_most))));
      least = at_most exponent_least e p.1;
      room = λ k f. room_of size e k f l;
    }

below_limit : (size : ℕ) (e d : ℤ) → e -ℤ exponent_most ≡ d → IsKept size e → size * 2 ^ above_zero d < 2 ^ significand_bits
below_limit size e (pos k) f h = h.room k (omega (arith, ints, f))
below_limit size e (negsuc k) f h = let one : size * 2 ^ 0 ≡ size = omega arith in omega (arith, one, h.bits)

pub kept_is : (size : ℕ) (e : ℤ) → IsKept size e → is_kept size e ≡ true
kept_is size e h =
    and_from (nat_lt (size * 2 ^ above_zero (e -ℤ exponent_most)) (2 ^ significand_bits)) (int_le exponent_least e)
    (lt-ltb (size * 2 ^ above_zero (e -ℤ exponent_most)) (2 ^ significand_bits) (below_limit size e (e -ℤ exponent_most) refl h))
    (at_most_is exponent_least e h.least)

-- a constant in the one form is within them
pub constant_is_kept : (x : Exact) → IsReduced x → IsConstant x → is_kept (nat_abs x.significand) x.exponent ≡ true
constant_is_kept x h c = by (zero_or x.significand)
  where
    by : (x.significand ≡ pos 0) ⊎ (x.significand ≡ pos 0 → ⊥) → is_kept (nat_abs x.significand) x.exponent ≡ true
    by (inl z) = λ i. is_kept (nat_abs (z i)) (h.zero_form z i)
    by (inr some) = kept_is (nat_abs x.significand) x.exponent (constant_kept x (h.odd some) c)

-- The constant of a number

kept_answer : (P : Exact → Type 0) (x : Exact) → IsReduced x → P x → ((n : Exact) → P n → IsConstant n → IsConstant x) → IsConstantWith P (kept x)
kept_answer P x h p all = by (is_kept (nat_abs x.significand) x.exponent) refl
  where
    by : (b : Bool) → is_kept (nat_abs x.significand) x.exponent ≡ b → IsConstantWith P (if b then Some x else None)
    by true e = (h, kept_constant x (kept_from (nat_abs x.significand) x.exponent e), p)
    by false e = λ n c q. not_true (sym e ∙ constant_is_kept x h (all n q c))

pub constant_of_is : (x : Exact) → IsConstantWith (λ n. IsSame n x) (constant_of x)
unfolding constant_of
constant_of_is x =
    kept_answer (λ n. IsSame n x) (reduced x) (reduced_is x) (reduced_same x)
    (λ n h c. constant_same n (reduced x) (same_through n x (reduced x) h (same_turned (reduced x) x (reduced_same x))) c)

-- the same numbers have the same answer
pub constant_of_once : (x y : Exact) → IsSame x y → constant_of x ≡ constant_of y
unfolding constant_of
constant_of_once x y h = ap kept (reduced_once x y h)

-- a constant in the one form is its own
pub constant_of_kept : (x : Exact) → IsReduced x → IsConstant x → constant_of x ≡ Some x
unfolding constant_of
constant_of_kept x h c = ap kept (reduced_of x h) ∙ ap (λ (b : Bool). if b then Some x else None) (constant_is_kept x h c)

pub one_form_is : (x : Exact) → IsReduced (reduced x) × IsSame (reduced x) x
one_form_is x = (reduced_is x, reduced_same x)

pub constant_of_some : (x n : Exact) → constant_of x ≡ Some n → IsReduced n × IsSame n x × IsConstant x
constant_of_some x n e =
    let r = answer_some (λ m. IsSame m x) (constant_of x) n (constant_of_is x) e in
    (r.0, r.2, constant_same n x r.2 r.1)

pub constant_of_none : (x : Exact) → constant_of x ≡ None → IsConstant x → ⊥
constant_of_none x e c = answer_none (λ m. IsSame m x) (constant_of x) (constant_of_is x) e x c refl
