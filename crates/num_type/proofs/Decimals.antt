-- Digits and canonical decimals of up to 64 digits.
use Rattle.std.proofs.Common.{◌≡◌, ◌≢◌, ℕ, zero, suc, ◌+◌, ◌*◌, ◌/◌, ◌%◌, ◌^◌, ◌<◌, ◌≤◌, List, [], ◌∷◌, ◌++◌, length, get_or, drop, refl, sym, ap, ◌∙◌, subst, append_assoc, append-nil, arith, length-append}
use lib.ListN.{get_or-append}
use Rattle.std.specs.Prelude.{ℤ, pos, negsuc, Option, Some, None, slice_get, unsigned_abs, neg_ℤ, option_map}
use Rattle.std.specs.Fmt.{decimal, signed_decimal}
use Rattle.num_type.specs.Decimals.{ReadsDecimal, ReadsDigits, ReadsValue}
use Rattle.std.specs.Char.{digit_value}
use Rattle.std.specs.Str.Parse.{AllDigits, digits_value, digits_value_after}
use Rattle.std.proofs.lemmas.Fmt.{decimal_digit, decimal_step_wide, decimal_by_steps_wide, decimal_is_IsNumeral_wide}
use Rattle.std.proofs.lemmas.Str.{digit_value_digit}
use Rattle.std.proofs.lemmas.Str.Parse.{digit_from_value}

pub value_grows : (n : ℕ) (ds : List ℕ) → n ≤ digits_value_after 10 n ds
value_grows n [] = omega arith
value_grows n (c ∷ cs) = omega (arith, value_grows (n * 10 + digit_value c) cs)

value_after : (n : ℕ) (ds : List ℕ) → 0 < n → AllDigits 10 ds → digits_value_after 10 n ds < 10 ^ 64 → decimal (digits_value_after 10 n ds) ≡ decimal n ++ ds
value_after n [] some d small = sym (append-nil (decimal n))
value_after n (c ∷ cs) some d small =
    let m : ℕ = n * 10 + digit_value c in
    let k = digit_value_digit c (digit_from_value c d.0) in
    let front : m / 10 ≡ n = omega (arith, d.0) in
    let end : 48 + m % 10 ≡ c = omega (arith, d.0) in
    value_after m cs (omega arith) d.1 small
    ∙ ap (λ x. x ++ cs) (decimal_step_wide m (omega arith) (omega (arith, value_grows m cs)) ∙ (λ i. decimal (front i) ++ (end i ∷ [])))
    ∙ append_assoc (decimal n) (c ∷ []) cs

-- digits without a leading zero, or just 0, are the decimal of their value
pub canonical : (ds : List ℕ) → AllDigits 10 ds → 0 < length ds → (get_or ds 0 0 ≡ 48 → length ds ≡ 1) → digits_value 10 ds < 10 ^ 64 → decimal (digits_value 10 ds) ≡ ds
canonical [] d some lead small = absurd (omega arith)
canonical (c ∷ []) d some lead small =
    let k = digit_value_digit c (digit_from_value c d.0) in
    decimal_digit (0 * 10 + digit_value c) (omega (arith, d.0)) ∙ ap (λ x. x ∷ []) (omega arith)
canonical (c ∷ e ∷ cs) d some lead small =
    let k = digit_value_digit c (digit_from_value c d.0) in
    let no : c ≡ 48 → ⊥ = λ z. omega (arith, lead z) in
    let is : 48 + (0 * 10 + digit_value c) ≡ c = omega arith in
    value_after (0 * 10 + digit_value c) (e ∷ cs) (omega arith) d.1 small
    ∙ ap (λ x. x ++ (e ∷ cs)) (decimal_digit (0 * 10 + digit_value c) (omega (arith, d.0)) ∙ ap (λ x. x ∷ []) is)

-- the first digit of a decimal is 0 only where it is alone
pub lead_alone : (n : ℕ) → n < 10 ^ 64 → (0 < length (decimal n)) × (get_or (decimal n) 0 0 ≡ 48 → length (decimal n) ≡ 1) × (0 < n → get_or (decimal n) 0 0 ≢ 48)
lead_alone n small =
    decimal_by_steps_wide (λ m ds. (0 < length ds) × (get_or ds 0 0 ≡ 48 → length ds ≡ 1) × (0 < m → get_or ds 0 0 ≢ 48))
    (λ m l. (omega arith, λ e. omega arith, λ a e. omega arith))
    (λ m ds l h.
    let first : get_or (ds ++ ((48 + m % 10) ∷ [])) 0 0 ≡ get_or ds 0 0 = get_or-append ds ((48 + m % 10) ∷ []) 0 0 h.0 in
    let no : get_or ds 0 0 ≢ 48 = h.2 (omega arith) in
    (omega (arith, length-append ds ((48 + m % 10) ∷ [])), λ e. absurd (no (sym first ∙ e)), λ a e. no (sym first ∙ e)))
    n small

-- the digits of a decimal, and their value
pub decimal_digits : (n : ℕ) → n < 2 ^ 128 → AllDigits 10 (decimal n) × (digits_value 10 (decimal n) ≡ n)
decimal_digits n h = let k = decimal_is_IsNumeral_wide n (omega arith) in (k.0.1, k.1)

-- digits without a leading zero are read by their value
pub read_canonical : (r : Option ℕ) (first : ℕ) (rest : List ℕ) → (first ≡ 48 → rest ≡ []) → ReadsValue r (first ∷ rest) → ReadsDigits r (first ∷ rest)
read_canonical (Some n) first rest lead h =
    let alone : get_or (first ∷ rest) 0 0 ≡ 48 → length (first ∷ rest) ≡ 1 = λ e. ap (λ l. length (first ∷ l)) (lead e) in
    let e = canonical (first ∷ rest) h.0 (omega arith) alone (omega (arith, h.1, h.2)) in
    (sym e ∙ ap decimal (sym h.1), h.2)
read_canonical None first rest lead h = λ n small e.
    let k = decimal_digits n small in
    let digits : AllDigits 10 (first ∷ rest) = subst (AllDigits 10) (sym e) k.0 in
    let value : digits_value 10 (first ∷ rest) ≡ n = ap (digits_value 10) e ∙ k.1 in
    omega (arith, h digits, value, small)

-- a leading zero before more
pub read_leading : (rest : List ℕ) → (rest ≡ [] → ⊥) → ReadsDigits None (48 ∷ rest)
read_leading [] some n small e = some refl
read_leading (c ∷ cs) some n small e =
    let k = lead_alone n (omega arith) in
    let one : length (decimal n) ≡ 1 = k.1 (ap (λ l. get_or l 0 0) (sym e)) in
    omega (arith, one, ap (λ l. length l) e)

pub read_empty : ReadsDigits None []
read_empty n small e = let k = lead_alone n (omega arith) in omega (arith, k.0, ap (λ l. length l) e)

digit_not_minus : (n : ℕ) (ds : List ℕ) → n < 2 ^ 128 → 45 ∷ ds ≡ decimal n → ⊥
digit_not_minus n ds small e =
    let k = decimal_digits n small in
    let digits : AllDigits 10 (45 ∷ ds) = subst (AllDigits 10) (sym e) k.0 in
    let in_range = digit_from_value 45 digits.0 in
    omega (arith, in_range)

tail_of : (ds es : List ℕ) → 45 ∷ ds ≡ 45 ∷ es → ds ≡ es
tail_of ds es e = cc

-- behind a minus
pub read_below : (n : ℕ) (ds : List ℕ) → ReadsDigits (Some n) ds → (n ≡ 0 → ⊥) → ReadsDecimal (Some (neg_ℤ (pos n))) (45 ∷ ds)
read_below zero ds h some = absurd (some refl)
read_below (suc n) ds h some = (ap (λ l. 45 ∷ l) h.0, omega (arith, h.1))

pub read_minus_zero : (n : ℕ) (ds : List ℕ) → ReadsDigits (Some n) ds → n ≡ 0 → ReadsDecimal None (45 ∷ ds)
read_minus_zero n ds h zero_n (pos m) small e = digit_not_minus m ds (omega (arith, small)) e
read_minus_zero n ds h zero_n (negsuc m) small e =
    let same : decimal n ≡ decimal (suc m) = sym h.0 ∙ tail_of ds (decimal (suc m)) e in
    let a = (decimal_digits n h.1).1 in
    let b = (decimal_digits (suc m) (omega (arith, small))).1 in
    omega (arith, a, b, ap (digits_value 10) same, zero_n)

pub read_no_below : (ds : List ℕ) → ReadsDigits None ds → ReadsDecimal None (45 ∷ ds)
read_no_below ds h (pos m) small e = digit_not_minus m ds (omega (arith, small)) e
read_no_below ds h (negsuc m) small e = h (suc m) (omega (arith, small)) (tail_of ds (decimal (suc m)) e)

-- without a minus
pub read_above : (r : Option ℕ) (ds : List ℕ) → (slice_get ds 0 ≡ Some 45 → ⊥) → ReadsDigits r ds → ReadsDecimal (option_map pos r) ds
read_above (Some n) ds other h = (h.0, h.1)
read_above None ds other h = λ z small e. by z small e
  where
    by : (z : ℤ) → unsigned_abs z < 2 ^ 128 → ds ≡ signed_decimal z → ⊥
    by (pos n) small e = h n small e
    by (negsuc n) small e = other (ap (λ l. slice_get l 0) e)

-- the value from a digit on
pub value_step : (n : ℕ) (bs : List ℕ) (i : ℕ) → i < length bs → digits_value_after 10 n (drop i bs) ≡ digits_value_after 10 (n * 10 + digit_value (get_or bs i 0)) (drop (suc i) bs)
value_step n [] i h = absurd (omega (arith, h))
value_step n (b ∷ bs) zero h = refl
value_step n (b ∷ bs) (suc i) h = value_step n bs i (omega (arith, h))

-- past the end nothing is left
pub value_end : (n : ℕ) (bs : List ℕ) (i : ℕ) → length bs ≤ i → (digits_value_after 10 n (drop i bs) ≡ n) × AllDigits 10 (drop i bs)
value_end n [] zero h = (refl, tt)
value_end n [] (suc i) h = (refl, tt)
value_end n (b ∷ bs) zero h = absurd (omega (arith, h))
value_end n (b ∷ bs) (suc i) h = value_end n bs i (omega (arith, h))

pub none_left : (rest : List ℕ) → length rest ≡ 0 → rest ≡ []
none_left [] h = refl
none_left (c ∷ cs) h = absurd (omega (arith, h))

pub read_nothing : ReadsDecimal None []
read_nothing = read_above None [] (λ e. cc) read_empty
