-- The text of a number token is a decimal, or one with its unit.
use Rattle.std.proofs.lemmas.Bool.{false≢true, cases_lt}
use Rattle.std.proofs.lemmas.List.{get_or-take, length-take-le, take-take, length-append}
use Rattle.std.proofs.Common.{◌≡◌, ℕ, ◌+◌, ◌-◌, ◌<◌, ◌≤◌, true, List, [], ◌∷◌, ◌++◌, length, take, get_or, refl, sym, ap, ◌∙◌, subst, inl, inr, arith}
use Rattle.fic_base.specs.Decimal.{AreDigits, MantissaTo, Whole, Pointed, Fraction, ExponentTo, Absent, Unsigned, Signed, IsDecimal, is_exponent_letter, is_sign}
use Rattle.mat_token.specs.Bytes.{is_digit}
use Rattle.mat_token.specs.Texts.{is_unit, UnitTo, Real, Imaginary, NumberTo}
use Rattle.mat_token.specs.Kept.{IsNumberText}
use Rattle.mat_token.proofs.Numbers.{digit_is, point_is, unit_range}

-- a byte of a front
front : (s : List ℕ) (n k : ℕ) → k < n → get_or s k 0 ≡ get_or (take n s) k 0
front s n k h = sym (get_or-take n s k 0 h)

front_digits : (s : List ℕ) (n from to : ℕ) → to ≤ n → AreDigits s from to → AreDigits (take n s) from to
front_digits s n from to low are k above below = subst (λ (b : ℕ). is_digit b ≡ true) (front s n k (omega (arith, low, below))) (are k above below)

mantissa_some : (s : List ℕ) (m : ℕ) → MantissaTo s m → 0 < m
mantissa_some s m (Whole some are) = some
mantissa_some s m (Pointed point some are is below more) = omega (arith, below)
mantissa_some s m (Fraction is below are) = omega (arith, below)

front_mantissa : (s : List ℕ) (n m : ℕ) → m ≤ n → MantissaTo s m → MantissaTo (take n s) m
front_mantissa s n m low (Whole some are) = Whole some (front_digits s n 0 m low are)
front_mantissa s n m low (Pointed point some are is below more) =
    Pointed point some (front_digits s n 0 point (omega (arith, low, below)) are) (sym (front s n point (omega (arith, low, below))) ∙ is) below (front_digits s n (point + 1) m low more)
front_mantissa s n m low (Fraction is below are) =
    Fraction (sym (front s n 0 (omega (arith, low, below))) ∙ is) below (front_digits s n 1 m low are)

front_power : (s : List ℕ) (n m : ℕ) → ExponentTo s m n → ExponentTo (take n s) m n
front_power s n m (Absent e) = Absent e
front_power s n m (Unsigned letter below are) =
    Unsigned (subst (λ (b : ℕ). is_exponent_letter b ≡ true) (front s n m (omega (arith, below))) letter) below (front_digits s n (m + 1) n (omega arith) are)
front_power s n m (Signed letter sign below are) =
    Signed (subst (λ (b : ℕ). is_exponent_letter b ≡ true) (front s n m (omega (arith, below))) letter)
    (subst (λ (b : ℕ). is_sign b ≡ true) (front s n (m + 1) (omega (arith, below))) sign) below (front_digits s n (m + 2) n (omega arith) are)

power_behind : (s : List ℕ) (m n : ℕ) → ExponentTo s m n → m ≤ n
power_behind s m n (Absent e) = omega (arith, e)
power_behind s m n (Unsigned letter below are) = omega (arith, below)
power_behind s m n (Signed letter sign below are) = omega (arith, below)

decimal : (s : List ℕ) (m n : ℕ) → n ≤ length s → MantissaTo s m → ExponentTo s m n → IsDecimal (take n s)
decimal s m n within digits power =
    (m, front_mantissa s n m (power_behind s m n power) digits, subst (λ (j : ℕ). ExponentTo (take n s) m j) (sym (length-take-le n s within)) (front_power s n m power))

-- the last byte of a decimal is a digit or a point
mantissa_last : (s : List ℕ) (m : ℕ) → MantissaTo s m → get_or s (m - 1) 0 ≤ 57
mantissa_last s m (Whole some are) = (digit_is _ (are (m - 1) (omega arith) (omega (arith, some)))).1
mantissa_last s m (Pointed point some are is below more) =
    elim (cases_lt (point + 1) m) as (λ _. get_or s (m - 1) 0 ≤ 57) [
      | inl h ↦ (digit_is _ (more (m - 1) (omega (arith, h)) (omega (arith, h)))).1
      | inr h ↦ let e : point ≡ m - 1 = omega (arith, h, below) in subst (λ (j : ℕ). get_or s j 0 ≤ 57) e (point_is _ is).1
    ]
mantissa_last s m (Fraction is below are) = (digit_is _ (are (m - 1) (omega (arith, below)) (omega (arith, below)))).1

decimal_last : (s : List ℕ) (m n : ℕ) → MantissaTo s m → ExponentTo s m n → get_or s (n - 1) 0 ≤ 57
decimal_last s m n digits (Absent e) = subst (λ (j : ℕ). get_or s (j - 1) 0 ≤ 57) e (mantissa_last s m digits)
decimal_last s m n digits (Unsigned letter below are) = (digit_is _ (are (n - 1) (omega (arith, below)) (omega (arith, below)))).1
decimal_last s m n digits (Signed letter sign below are) = (digit_is _ (are (n - 1) (omega (arith, below)) (omega (arith, below)))).1

last_byte : (digits : List ℕ) (unit : ℕ) → get_or (digits ++ unit ∷ []) (length digits) 0 ≡ unit
last_byte [] unit = refl
last_byte (d ∷ ds) unit = last_byte ds unit

without_last : (digits : List ℕ) (unit : ℕ) → take (length digits) (digits ++ unit ∷ []) ≡ digits
without_last [] unit = refl
without_last (d ∷ ds) unit = ap (λ (t : List ℕ). d ∷ t) (without_last ds unit)

no_unit_low : (b : ℕ) → b ≤ 57 → is_unit b ≡ true → ⊥
no_unit_low b low is = absurd (omega (arith, low, (unit_range b is).0))

one_more : (digits : List ℕ) (unit : ℕ) → length (digits ++ unit ∷ []) ≡ length digits + 1
one_more digits unit = length-append digits (unit ∷ [])

real_text : (s : List ℕ) (m n : ℕ) → n ≤ length s → MantissaTo s m → ExponentTo s m n → IsNumberText (take n s)
real_text s m n within digits power = record {
  real = λ _. decimal s m n within digits power;
  imaginary = λ ds unit is text.
      let size : n ≡ length ds + 1 = sym (length-take-le n s within) ∙ ap length text ∙ one_more ds unit in
      let low : get_or s (n - 1) 0 ≤ 57 = decimal_last s m n digits power in
      let same : get_or s (n - 1) 0 ≡ unit =
      ap (λ (j : ℕ). get_or s j 0) (let e : n - 1 ≡ length ds = omega (arith, size) in e)
      ∙ front s n (length ds) (omega (arith, size)) ∙ ap (λ (t : List ℕ). get_or t (length ds) 0) text ∙ last_byte ds unit in
      absurd (no_unit_low unit (omega (arith, low, same)) is);
}

imaginary_text : (s : List ℕ) (m n : ℕ) → n + 1 ≤ length s → MantissaTo s m → ExponentTo s m n → is_unit (get_or s n 0) ≡ true → IsNumberText (take (n + 1) s)
imaginary_text s m n within digits power is = record {
  real = λ none.
      let size : length (take (n + 1) s) ≡ n + 1 = length-take-le (n + 1) s within in
      let at : n ≡ length (take (n + 1) s) - 1 = omega (arith, size) in
      absurd (false≢true (sym none ∙ subst (λ (j : ℕ). is_unit (get_or (take (n + 1) s) j 0) ≡ true) at
      (subst (λ (b : ℕ). is_unit b ≡ true) (front s (n + 1) n (omega arith)) is)));
  imaginary = λ ds unit _ text.
      let size : n ≡ length ds = let e = sym (length-take-le (n + 1) s within) ∙ ap length text ∙ one_more ds unit in omega (arith, e) in
      let same : take n s ≡ ds =
      sym (take-take n (n + 1) s (omega arith)) ∙ ap (λ (j : ℕ). take j (take (n + 1) s)) size ∙ ap (take (length ds)) text ∙ without_last ds unit in
      subst IsDecimal same (decimal s m n (omega (arith, within)) digits power);
}

unit_text : (s : List ℕ) (m e n : ℕ) → n ≤ length s → MantissaTo s m → ExponentTo s m e → UnitTo s e n → IsNumberText (take n s)
unit_text s m e n within digits power (Real same) = real_text s m n within digits (subst (λ (j : ℕ). ExponentTo s m j) same power)
unit_text s m e n within digits power (Imaginary is ends same) =
    subst (λ (j : ℕ). IsNumberText (take j s)) same (imaginary_text s m e (omega (arith, within, same)) digits power is)

pub number_text : (s : List ℕ) (n : ℕ) → n ≤ length s → NumberTo s n → IsNumberText (take n s)
number_text s n within x = unit_text s x.mantissa x.exponent n within x.digits x.power x.unit
