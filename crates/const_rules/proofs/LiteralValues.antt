-- The constants that the texts of numbers stand for.
use Rattle.std.proofs.Common.{◌≡◌, ◌≢◌, ℕ, suc, ◌*◌, ◌/◌, ◌^◌, ◌%◌, ◌<◌, Bool, true, false, List, [], ◌∷◌, ◌++◌, length, refl, sym, ap, subst, ◌∙◌, arith}
use Rattle.std.specs.Prelude.{◌==◌, ◌&&◌, if◌then◌else◌, nat_lt, int_le, ℤ, pos, negsuc, ◌+ℤ◌, ◌-ℤ◌, Some, None}
use Rattle.std.specs.Char.{digit_value}
use Rattle.std.specs.Str.Parse.{AllDigits, digits_value, signed_digits_value, without_leading_sign}
use Rattle.std.proofs.lemmas.Bool.{eqb-true, eqb-false, ltb-true, lt-ltb, and_parts, and_from, false≢true}
use Rattle.std.proofs.lemmas.Nat.{div-add-mod'}
use Rattle.num_type.specs.Constants.{Exact, IsSame}
use Rattle.num_type.specs.Precision.{whole}
use Rattle.num_type.proofs.Constants.{zero_constant}
use Rattle.const_eval.specs.Literals.{IsTrimmed, IsShort, IsTenfold, IsDecimalValue, Nought, Short, IsValueOf, IsLiteral, mantissa_of, exponent_of, whole_part, fraction_part}
use Rattle.const_eval.proofs.Zeros.{same_trimmed}
use Rattle.const_eval.proofs.Fives.{lowered_tenfold, tenfold_lowered, no_tenfold}
use Rattle.const_rules.specs.Splits.{split}
use Rattle.const_rules.specs.OneForm.{constant_of, IsConstantWith}
use Rattle.const_rules.specs.LiteralValues.{are_digits, is_short, tenfold_of, tenfold_if, short_of, decimal_of, value_of, literal_of}
use Rattle.const_rules.proofs.Answers.{answer_as}
use Rattle.const_rules.proofs.OneForm.{zero_form, at_most, at_most_is, constant_of_is}
use Rattle.const_rules.proofs.Splits.{split_number, split_last}

-- Powers of 10

lowered_is : (digits k : ℕ) → IsConstantWith (IsTenfold digits (negsuc k)) (tenfold_of digits (negsuc k))
unfolding tenfold_of
lowered_is digits k = by (digits % 5 ^ suc k == 0) refl
  where
    by : (b : Bool) → (digits % 5 ^ suc k == 0) ≡ b → IsConstantWith (IsTenfold digits (negsuc k)) (if b then constant_of (record { significand = pos (digits / 5 ^ suc k); exponent = negsuc k }) else None)
    by true e =
        let c : ℕ = digits / 5 ^ suc k in
        let low : Exact = record { significand = pos c; exponent = negsuc k } in
        let whole_times : c * 5 ^ suc k ≡ digits = omega (arith, div-add-mod' digits (5 ^ suc k), eqb-true (digits % 5 ^ suc k) 0 e) in
        answer_as (λ n. IsSame n low) (IsTenfold digits (negsuc k)) (constant_of low)
        (λ n h. lowered_tenfold n c digits k whole_times h) (λ n h. tenfold_lowered n c digits k whole_times h) (constant_of_is low)
    by false e = λ n c h. no_tenfold n digits k (eqb-false (digits % 5 ^ suc k) 0 e) h

raised_is : (digits k : ℕ) → IsConstantWith (IsTenfold digits (pos k)) (tenfold_of digits (pos k))
unfolding tenfold_of
raised_is digits k = constant_of_is (whole (pos (digits * 10 ^ k)))

pub tenfold_is : (digits : ℕ) (tens : ℤ) → IsConstantWith (IsTenfold digits tens) (tenfold_of digits tens)
tenfold_is digits (pos k) = raised_is digits k
tenfold_is digits (negsuc k) = lowered_is digits k

-- Short numbers

short_from : (digits : ℕ) (tens : ℤ) → is_short digits tens ≡ true → IsShort digits tens
short_from digits tens e =
    let p = and_parts (nat_lt digits (10 ^ 17)) (int_le (negsuc 21) tens && int_le tens (pos 22)) e in
    let q = and_parts (int_le (negsuc 21) tens) (int_le tens (pos 22)) p.1 in
    record { few = ltb-true digits (10 ^ 17) p.0; least = at_most (negsuc 21) tens q.0; most = at_most tens (pos 22) q.1 }

short_is : (digits : ℕ) (tens : ℤ) → IsShort digits tens → is_short digits tens ≡ true
short_is digits tens h =
    and_from (nat_lt digits (10 ^ 17)) (int_le (negsuc 21) tens && int_le tens (pos 22)) (lt-ltb digits (10 ^ 17) h.few)
    (and_from (int_le (negsuc 21) tens) (int_le tens (pos 22)) (at_most_is (negsuc 21) tens h.least) (at_most_is tens (pos 22) h.most))

-- a number has one form without zeros at its end
pub same_value : (n digits : ℕ) (power tens : ℤ) (x : Exact) → 0 < n → IsTrimmed n power digits tens → IsDecimalValue n power x → IsShort digits tens × IsTenfold digits tens x
same_value n digits power tens x some t (Nought z m) = absurd (omega (arith, some, z))
same_value n digits power tens x some t (Short e u v short is) =
    let r = same_trimmed e digits v.zeros t.zeros v.last t.last (sym v.number ∙ t.number) in
    let same : u ≡ tens = v.raised ∙ ap (λ (k : ℕ). power +ℤ pos k) r.1 ∙ sym t.raised in
    let S : ℤ → Type 0 = λ z. IsShort digits z in
    let T : ℤ → Type 0 = λ z. IsTenfold digits z x in
    let short_digits : IsShort digits u = subst (λ (k : ℕ). IsShort k u) r.0 short in
    let tenfold_digits : IsTenfold digits u x = subst (λ (k : ℕ). IsTenfold k u x) r.0 is in
    (subst S same short_digits, subst T same tenfold_digits)

pub trimmed_is : (n : ℕ) (power : ℤ) → 0 < n → IsTrimmed n power (split 10 n).part (power +ℤ pos (split 10 n).power)
trimmed_is n power some = record {
  zeros = (split 10 n).power;
  number = sym (split_number 10 n n);
  raised = refl;
  last = split_last 10 n n (omega arith) some (omega arith);
}

short_of_is : (n : ℕ) (power : ℤ) (digits : ℕ) (tens : ℤ) → 0 < n → IsTrimmed n power digits tens → IsConstantWith (IsDecimalValue n power) (tenfold_if (is_short digits tens) digits tens)
short_of_is n power digits tens some t = by (is_short digits tens) refl
  where
    by : (b : Bool) → is_short digits tens ≡ b → IsConstantWith (IsDecimalValue n power) (tenfold_if b digits tens)
    by true e =
        answer_as (IsTenfold digits tens) (IsDecimalValue n power) (tenfold_of digits tens)
        (λ x h. Short digits tens t (short_from digits tens e) h) (λ x h. (same_value n digits power tens x some t h).1) (tenfold_is digits tens)
    by false e = λ x c h. false≢true (sym e ∙ short_is digits tens (same_value n digits power tens x some t h).0)

-- Decimal numbers

decimal_if : (n : ℕ) (power : ℤ) (b : Bool) → (n == 0) ≡ b → IsConstantWith (IsDecimalValue n power) (if b then Some (whole (pos 0)) else short_of (split 10 n) power)
decimal_if n power true e = (zero_form, zero_constant (whole (pos 0)) refl, Nought (eqb-true n 0 e) refl)
decimal_if n power false e =
    let none : n ≢ 0 = eqb-false n 0 e in
    let some : 0 < n = omega (arith, none) in
    short_of_is n power (split 10 n).part (power +ℤ pos (split 10 n).power) some (trimmed_is n power some)

pub decimal_is : (n : ℕ) (power : ℤ) → IsConstantWith (IsDecimalValue n power) (decimal_of n power)
unfolding decimal_of
decimal_is n power = decimal_if n power (n == 0) refl

-- Texts

digits_from : (s : List ℕ) → are_digits s ≡ true → AllDigits 10 s
digits_from [] e = tt
digits_from (c ∷ more) e =
    let p = and_parts (nat_lt (digit_value c) 10) (are_digits more) e in
    (ltb-true (digit_value c) 10 p.0, digits_from more p.1)

digits_are : (s : List ℕ) → AllDigits 10 s → are_digits s ≡ true
digits_are [] h = refl
digits_are (c ∷ more) h = and_from (nat_lt (digit_value c) 10) (are_digits more) (lt-ltb (digit_value c) 10 h.0) (digits_are more h.1)

-- the parts of a text with their digits
record IsParts (front back exponent : List ℕ) (x : Exact) : Type 0 where
  front_digits : AllDigits 10 front
  back_digits : AllDigits 10 back
  value : IsValueOf (digits_value 10 (front ++ back)) (length back) exponent x

value_is : (front back exponent : List ℕ) → IsConstantWith (IsParts front back exponent) (value_of front back exponent)
value_is front back exponent = by (are_digits front && (are_digits back && are_digits (without_leading_sign exponent))) refl
  where
    by : (b : Bool) → (are_digits front && (are_digits back && are_digits (without_leading_sign exponent))) ≡ b → IsConstantWith (IsParts front back exponent) (if b then decimal_of (digits_value 10 (front ++ back)) (signed_digits_value 10 exponent -ℤ pos (length back)) else None)
    by true e =
        let p = and_parts (are_digits front) (are_digits back && are_digits (without_leading_sign exponent)) e in
        let q = and_parts (are_digits back) (are_digits (without_leading_sign exponent)) p.1 in
        answer_as (IsDecimalValue (digits_value 10 (front ++ back)) (signed_digits_value 10 exponent -ℤ pos (length back))) (IsParts front back exponent)
        (decimal_of (digits_value 10 (front ++ back)) (signed_digits_value 10 exponent -ℤ pos (length back)))
        (λ x h. record { front_digits = digits_from front p.0; back_digits = digits_from back q.0; value = record { digits = digits_from (without_leading_sign exponent) q.1; value = h } })
        (λ x h. h.value.value)
        (decimal_is (digits_value 10 (front ++ back)) (signed_digits_value 10 exponent -ℤ pos (length back)))
    by false e = λ x c h. false≢true (sym e ∙ and_from (are_digits front) (are_digits back && are_digits (without_leading_sign exponent)) (digits_are front h.front_digits) (
        and_from (are_digits back) (are_digits (without_leading_sign exponent)) (digits_are back h.back_digits) (digits_are (without_leading_sign exponent) h.value.digits)
        ))

pub literal_of_is : (text : List ℕ) → IsConstantWith (IsLiteral text) (literal_of text)
unfolding literal_of
literal_of_is text =
    let front : List ℕ = whole_part (mantissa_of text) in
    let back : List ℕ = fraction_part (mantissa_of text) in
    let exponent : List ℕ = exponent_of text in
    answer_as (IsParts front back exponent) (IsLiteral text) (value_of front back exponent)
    (λ x h. record { whole_digits = h.front_digits; fraction_digits = h.back_digits; value = h.value })
    (λ x h. record { front_digits = h.whole_digits; back_digits = h.fraction_digits; value = h.value })
    (value_is front back exponent)
