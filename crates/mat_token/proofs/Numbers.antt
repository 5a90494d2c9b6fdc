-- The computed length of a number is that of the longest one.
use Rattle.std.proofs.lemmas.Bool.{false≢true, cases_lt}
use Rattle.std.proofs.lemmas.Bool.Decides.{Decides-eqb, nat_tests}
use Rattle.std.proofs.lemmas.List.{get_or-drop, drop-drop}
use Rattle.std.proofs.Common.{◌≡◌, ℕ, ◌+◌, ◌<◌, ◌≤◌, Bool, true, false, List, length, drop, get_or, refl, sym, ap, ◌∙◌, subst, ◌⊎◌, inl, inr, arith}
use Rattle.std.specs.Prelude.{if◌then◌else◌, ◌==◌, not, ◌&&◌, ◌||◌, nat_lt}
use Rattle.fic_base.specs.Decimal.{AreDigits, MantissaTo, Whole, Pointed, Fraction, ExponentTo, Absent, Unsigned, Signed, is_exponent_letter, is_sign}
use Rattle.mat_token.specs.declared.rule.Rule.TheVariants.{Number}
use Rattle.mat_token.specs.declared.rule.Context.{Context}
use Rattle.mat_token.specs.Bytes.{is_digit, is_name_byte}
use Rattle.mat_token.specs.Pieces.{digits_len, starts_point, fraction_len, head_len, mantissa_len, exponent_head, exponent_len, unit_len, real_len, number_len}
use Rattle.mat_token.specs.Texts.{is_unit, takes_point, point_belongs, KeepsPoint, UnitTo, Real, Imaginary, NumberTo, Longest}
use Rattle.mat_token.proofs.Runs.{run_end, run_all, run_most}

-- bytes

pub both : (a b : Bool) → (a && b) ≡ true → (a ≡ true) × (b ≡ true)
both true b h = (refl, h)
both false b h = absurd (false≢true h)

pub neither : (a b : Bool) → a ≡ true → b ≡ true → (a && b) ≡ true
neither a b h k = rw (h, k) refl

digit_range : (b : ℕ) → is_digit b ≡ true → (48 ≤ b) × (b ≤ 57)
digit_range b h = grind (arith, nat_tests)

letter_range : (b : ℕ) → is_exponent_letter b ≡ true → (68 ≤ b) × (b ≤ 101)
letter_range b h = grind (arith, nat_tests)

sign_range : (b : ℕ) → is_sign b ≡ true → (43 ≤ b) × (b ≤ 45)
sign_range b h = grind (arith, nat_tests)

pub unit_range : (b : ℕ) → is_unit b ≡ true → (105 ≤ b) × (b ≤ 106)
unit_range b h = grind (arith, nat_tests)

no_point : (b : ℕ) → is_digit b ≡ true → b ≡ 46 → ⊥
no_point b h e = absurd (omega (arith, (digit_range b h).0, e))

-- points

point_test : ℕ → ℕ → ℕ → Bool
point_test a b d = a == 46 && (not (takes_point b) && not (b == 46 && d == 46))

dropped : (s : List ℕ) (k j i : ℕ) → k + j ≡ i → get_or (drop k s) j 0 ≡ get_or s i 0
dropped s k j i e = get_or-drop k s j 0 ∙ ap (λ (n : ℕ). get_or s n 0) e

point_at : (s : List ℕ) (k : ℕ) → starts_point (drop k s) ≡ (get_or s k 0 == 46 && point_belongs s k)
unfolding point_test
point_at s k =
    ap (λ (a : ℕ). point_test a (get_or (drop k s) 1 0) (get_or (drop k s) 2 0)) (dropped s k 0 k (omega arith))
    ∙ ap (λ (b : ℕ). point_test (get_or s k 0) b (get_or (drop k s) 2 0)) (dropped s k 1 (k + 1) refl)
    ∙ ap (λ (d : ℕ). point_test (get_or s k 0) (get_or s (k + 1) 0) d) (dropped s k 2 (k + 2) refl)

-- the mantissa

-- the greatest mantissa, and what stands behind a shorter one
record Greatest (s : List ℕ) (to : ℕ) : Type 0 where
  is : MantissaTo s to
  keeps : KeepsPoint s to
  most : (a : ℕ) → MantissaTo s a → KeepsPoint s a → a ≤ to
  next : (a : ℕ) → MantissaTo s a → KeepsPoint s a → a < to → (46 ≤ get_or s a 0) × (get_or s a 0 ≤ 57)

-- digits from the start on, up to the first byte that is none
record Digits (s : List ℕ) (to : ℕ) : Type 0 where
  some : 0 < to
  are : AreDigits s 0 to
  most : (a : ℕ) → AreDigits s 0 a → a ≤ to

point_is_end : (s : List ℕ) (to point : ℕ) → Digits s to → AreDigits s 0 point → get_or s point 0 ≡ 46 → point ≡ to
point_is_end s to point d are is =
    elim (cases_lt point to) as (λ _. point ≡ to) [
      | inl h ↦ absurd (no_point _ (d.are point (omega arith) h) is)
      | inr h ↦ omega (arith, h, d.most point are)
    ]

pub digit_is : (b : ℕ) → is_digit b ≡ true → (46 ≤ b) × (b ≤ 57)
digit_is b h = let r = digit_range b h in (omega (arith, r.0), r.1)

pub point_is : (b : ℕ) → b ≡ 46 → (46 ≤ b) × (b ≤ 57)
point_is b h = (omega (arith, h), omega (arith, h))

pointed_keeps : (s : List ℕ) (h : ℕ) → Digits s h → get_or s h 0 ≡ 46 → point_belongs s h ≡ true → KeepsPoint s (run_end is_digit s (h + 1))
pointed_keeps s h d is belongs k some below point =
    elim (cases_lt k h) as (λ _. point_belongs s k ≡ true) [
      | inl lt ↦ absurd (no_point _ (d.are k (omega arith) lt) point)
      | inr ge ↦ elim (cases_lt h k) as (λ _. point_belongs s k ≡ true) [
        | inl gt ↦ absurd (no_point _ (run_all is_digit s (h + 1) k (omega (arith, gt)) below) point)
        | inr le ↦ let e : h ≡ k = omega (arith, ge, le) in subst (λ (j : ℕ). point_belongs s j ≡ true) e belongs
      ]
    ]

pointed_most : (s : List ℕ) (h a : ℕ) → Digits s h → get_or s h 0 ≡ 46 → MantissaTo s a → a ≤ run_end is_digit s (h + 1)
pointed_most s h a d is (Whole some are) = omega (arith, d.most a are)
pointed_most s h a d is (Pointed p some are point below more) =
    let e : p ≡ h = point_is_end s h p d are point in
    run_most is_digit s (h + 1) a refl (λ k from to. more k (omega (arith, e, from)) to)
pointed_most s h a d is (Fraction point some are) = absurd (no_point _ (d.are 0 (omega arith) d.some) point)

pointed_next : (s : List ℕ) (h a : ℕ) → Digits s h → get_or s h 0 ≡ 46 → MantissaTo s a → a < run_end is_digit s (h + 1) → (46 ≤ get_or s a 0) × (get_or s a 0 ≤ 57)
pointed_next s h a d is (Whole some are) below =
    elim (cases_lt a h) as (λ _. (46 ≤ get_or s a 0) × (get_or s a 0 ≤ 57)) [
      | inl lt ↦ digit_is _ (d.are a (omega arith) lt)
      | inr ge ↦ let e : h ≡ a = omega (arith, ge, d.most a are) in subst (λ (j : ℕ). (46 ≤ get_or s j 0) × (get_or s j 0 ≤ 57)) e (point_is _ is)
    ]
pointed_next s h a d is (Pointed p some are point after more) below =
    let e : p ≡ h = point_is_end s h p d are point in digit_is _ (run_all is_digit s (h + 1) a (omega (arith, e, after)) below)
pointed_next s h a d is (Fraction point some are) below = absurd (no_point _ (d.are 0 (omega arith) d.some) point)

pointed_greatest : (s : List ℕ) (h : ℕ) → Digits s h → get_or s h 0 ≡ 46 → point_belongs s h ≡ true → Greatest s (run_end is_digit s (h + 1))
pointed_greatest s h d is belongs = record {
  is = Pointed h d.some d.are is (omega arith) (run_all is_digit s (h + 1));
  keeps = pointed_keeps s h d is belongs;
  most = λ a m _. pointed_most s h a d is m;
  next = λ a m _. pointed_next s h a d is m;
}

whole_most : (s : List ℕ) (h a : ℕ) → Digits s h → starts_point (drop h s) ≡ false → MantissaTo s a → KeepsPoint s a → (a ≤ h) × AreDigits s 0 a
whole_most s h a d stops (Whole some are) keeps = (d.most a are, are)
whole_most s h a d stops (Pointed p some are point below more) keeps =
    let e : p ≡ h = point_is_end s h p d are point in
    let at : (get_or s p 0 == 46) ≡ true = (Decides-eqb (get_or s p 0) 46).1 point in
    let starts : starts_point (drop p s) ≡ true = point_at s p ∙ neither _ _ at (keeps p some below point) in
    absurd (false≢true (sym stops ∙ subst (λ (j : ℕ). starts_point (drop j s) ≡ true) e starts))
whole_most s h a d stops (Fraction point some are) keeps = absurd (no_point _ (d.are 0 (omega arith) d.some) point)

whole_greatest : (s : List ℕ) (h : ℕ) → Digits s h → starts_point (drop h s) ≡ false → Greatest s h
whole_greatest s h d stops = record {
  is = Whole d.some d.are;
  keeps = λ k some below point. absurd (no_point _ (d.are k (omega arith) below) point);
  most = λ a m keeps. (whole_most s h a d stops m keeps).0;
  next = λ a m keeps below. digit_is _ (d.are a (omega arith) below);
}

fraction_most : (s : List ℕ) (a : ℕ) → get_or s 0 0 ≡ 46 → MantissaTo s a → (1 ≤ a) × (a ≤ head_len s)
fraction_most s a is (Whole some are) = absurd (no_point _ (are 0 (omega arith) some) is)
fraction_most s a is (Pointed p some are point below more) = absurd (no_point _ (are 0 (omega arith) some) is)
fraction_most s a is (Fraction point some are) = (omega (arith, some), run_most is_digit s 1 a refl are)

one_digit : (s : List ℕ) → is_digit (get_or s 1 0) ≡ true → AreDigits s 1 2
one_digit s h k from to = let e : 1 ≡ k = omega (arith, from, to) in subst (λ (j : ℕ). is_digit (get_or s j 0) ≡ true) e h

fraction_greatest : (s : List ℕ) → get_or s 0 0 ≡ 46 → is_digit (get_or s 1 0) ≡ true → Greatest s (head_len s)
fraction_greatest s is digit = record {
  is = Fraction is (omega (arith, run_most is_digit s 1 2 refl (one_digit s digit))) (run_all is_digit s 1);
  keeps = λ k some below point. absurd (no_point _ (run_all is_digit s 1 k (omega (arith, some)) below) point);
  most = λ a m _. (fraction_most s a is m).1;
  next = λ a m _ below. digit_is _ (run_all is_digit s 1 a (fraction_most s a is m).0 below);
}

head_digits : (s : List ℕ) → is_digit (get_or s 0 0) ≡ true → Digits s (head_len s)
head_digits s first = record {
  some = omega arith;
  are = λ k from to. elim (cases_lt 0 k) as (λ _. is_digit (get_or s k 0) ≡ true) [
    | inl h ↦ run_all is_digit s 1 k (omega (arith, h)) to
    | inr h ↦ let e : 0 ≡ k = omega (arith, h) in subst (λ (j : ℕ). is_digit (get_or s j 0) ≡ true) e first
  ];
  most = λ a are. run_most is_digit s 1 a refl (λ k from to. are k (omega arith) to);
}

fraction_end : (s : List ℕ) (h : ℕ) → h + (1 + digits_len (drop 1 (drop h s))) ≡ run_end is_digit s (h + 1)
fraction_end s h = let e : digits_len (drop 1 (drop h s)) ≡ digits_len (drop (h + 1) s) = ap digits_len (drop-drop 1 h s) in omega (arith, e)

digits_greatest : (s : List ℕ) (h : ℕ) → Digits s h → Greatest s (h + fraction_len (drop h s))
digits_greatest s h d =
    elim (starts_point (drop h s)) as (λ v. starts_point (drop h s) ≡ v → Greatest s (h + (if v then 1 + digits_len (drop 1 (drop h s)) else 0))) [
      | true ↦ λ e.
          let parts = both _ _ (sym (point_at s h) ∙ e) in
          subst (Greatest s) (sym (fraction_end s h)) (pointed_greatest s h d ((Decides-eqb (get_or s h 0) 46).0 parts.0) parts.1)
      | false ↦ λ e. let same : h ≡ h + 0 = omega arith in subst (Greatest s) same (whole_greatest s h d e)
    ] refl

-- how a number begins
abbrev pub StartsNumber : List ℕ → Type 0
StartsNumber s = (is_digit (get_or s 0 0) ≡ true) ⊎ ((is_digit (get_or s 0 0) ≡ false) × (get_or s 0 0 ≡ 46) × (is_digit (get_or s 1 0) ≡ true))

choose_first : (v : Bool) (x y : ℕ) → v ≡ true → x ≡ (if v then x else y)
choose_first v x y h = rw h refl

choose_second : (v : Bool) (x y : ℕ) → v ≡ false → y ≡ (if v then x else y)
choose_second v x y h = rw h refl

mantissa_greatest : (s : List ℕ) → StartsNumber s → Greatest s (mantissa_len s)
mantissa_greatest s (inl h) = subst (Greatest s) (choose_first _ _ _ h) (digits_greatest s (head_len s) (head_digits s h))
mantissa_greatest s (inr h) = subst (Greatest s) (choose_second _ _ _ h.0) (fraction_greatest s h.1 h.2)

-- the exponent

-- the greatest exponent from an index on, and what stands behind a shorter one
record GreatestPower (s : List ℕ) (from to : ℕ) : Type 0 where
  is : ExponentTo s from to
  most : (b : ℕ) → ExponentTo s from b → b ≤ to
  next : (b : ℕ) → ExponentTo s from b → b < to → (48 ≤ get_or s b 0) × (get_or s b 0 ≤ 101)

digit_next : (b : ℕ) → is_digit b ≡ true → (48 ≤ b) × (b ≤ 101)
digit_next b h = let r = digit_range b h in (r.0, omega (arith, r.1))

letter_next : (b : ℕ) → is_exponent_letter b ≡ true → (48 ≤ b) × (b ≤ 101)
letter_next b h = let r = letter_range b h in (omega (arith, r.0), r.1)

no_sign : (b : ℕ) → is_digit b ≡ true → is_sign b ≡ true → ⊥
no_sign b h k = absurd (omega (arith, (digit_range b h).0, (sign_range b k).1))

-- no letter: no exponent
plain_power : (s : List ℕ) (from : ℕ) → is_exponent_letter (get_or s from 0) ≡ false → (b : ℕ) → ExponentTo s from b → b ≡ from
plain_power s from none b (Absent e) = sym e
plain_power s from none b (Unsigned letter below are) = absurd (false≢true (sym none ∙ letter))
plain_power s from none b (Signed letter sign below are) = absurd (false≢true (sym none ∙ letter))

plain_greatest : (s : List ℕ) (from : ℕ) → is_exponent_letter (get_or s from 0) ≡ false → GreatestPower s from from
plain_greatest s from none = record {
  is = Absent refl;
  most = λ b x. omega (arith, plain_power s from none b x);
  next = λ b x below. absurd (omega (arith, plain_power s from none b x, below));
}

-- with a sign: the digits begin 2 behind the letter, else 1
signed_most : (s : List ℕ) (from b : ℕ) → is_sign (get_or s (from + 1) 0) ≡ true → ExponentTo s from b →
    (b ≡ from) ⊎ ((from + 2 < b) × (b ≤ run_end is_digit s (from + 2)))
signed_most s from b sign (Absent e) = inl (sym e)
signed_most s from b sign (Unsigned letter below are) = absurd (no_sign (get_or s (from + 1) 0) (are (from + 1) (omega arith) below) sign)
signed_most s from b sign (Signed letter is below are) = inr (below, run_most is_digit s (from + 2) b refl are)

unsigned_most : (s : List ℕ) (from b : ℕ) → is_sign (get_or s (from + 1) 0) ≡ false → ExponentTo s from b →
    (b ≡ from) ⊎ ((from + 1 < b) × (b ≤ run_end is_digit s (from + 1)))
unsigned_most s from b sign (Absent e) = inl (sym e)
unsigned_most s from b sign (Unsigned letter below are) = inr (below, run_most is_digit s (from + 1) b refl are)
unsigned_most s from b sign (Signed letter is below are) = absurd (false≢true (sym sign ∙ is))

-- behind a shorter exponent stands the letter or a digit
power_next : (s : List ℕ) (from start b : ℕ) → is_exponent_letter (get_or s from 0) ≡ true → (b ≡ from) ⊎ ((start < b) × (b ≤ run_end is_digit s start)) →
    b < run_end is_digit s start → (48 ≤ get_or s b 0) × (get_or s b 0 ≤ 101)
power_next s from start b letter (inl e) below =
    subst (λ (j : ℕ). (48 ≤ get_or s j 0) × (get_or s j 0 ≤ 101)) (sym e) (letter_next _ letter)
power_next s from start b letter (inr h) below = digit_next _ (run_all is_digit s start b (omega (arith, h.0)) below)

at_most : (from start b to : ℕ) → from ≤ to → (b ≡ from) ⊎ ((start < b) × (b ≤ to)) → b ≤ to
at_most from start b to h (inl e) = omega (arith, h, e)
at_most from start b to h (inr k) = k.1

only_start : (from start b : ℕ) → (b ≡ from) ⊎ ((start < b) × (b ≤ start)) → b ≡ from
only_start from start b (inl e) = e
only_start from start b (inr k) = absurd (omega (arith, k.0, k.1))

power_digits : (s : List ℕ) (from h : ℕ) → digits_len (drop h (drop from s)) ≡ digits_len (drop (from + h) s)
power_digits s from h = ap digits_len (drop-drop h from s)

signed_greatest : (s : List ℕ) (from : ℕ) → is_exponent_letter (get_or s from 0) ≡ true → is_sign (get_or s (from + 1) 0) ≡ true →
    from + 2 < run_end is_digit s (from + 2) → GreatestPower s from (run_end is_digit s (from + 2))
signed_greatest s from letter sign some = record {
  is = Signed letter sign some (run_all is_digit s (from + 2));
  most = λ b x. at_most from (from + 2) b _ (omega (arith, some)) (signed_most s from b sign x);
  next = λ b x. power_next s from (from + 2) b letter (signed_most s from b sign x);
}

unsigned_greatest : (s : List ℕ) (from : ℕ) → is_exponent_letter (get_or s from 0) ≡ true → is_sign (get_or s (from + 1) 0) ≡ false →
    from + 1 < run_end is_digit s (from + 1) → GreatestPower s from (run_end is_digit s (from + 1))
unsigned_greatest s from letter sign some = record {
  is = Unsigned letter some (run_all is_digit s (from + 1));
  most = λ b x. at_most from (from + 1) b _ (omega (arith, some)) (unsigned_most s from b sign x);
  next = λ b x. power_next s from (from + 1) b letter (unsigned_most s from b sign x);
}

-- a letter, behind which no digit stands: no exponent
empty_greatest : (s : List ℕ) (from : ℕ) → ((b : ℕ) → ExponentTo s from b → b ≡ from) → GreatestPower s from from
empty_greatest s from only = record {
  is = Absent refl;
  most = λ b x. omega (arith, only b x);
  next = λ b x below. absurd (omega (arith, only b x, below));
}

-- the exponent behind a letter whose digits begin `h` on
abbrev Power : List ℕ → ℕ → ℕ → Type 0
Power s from h = GreatestPower s from (from + (if nat_lt 0 (digits_len (drop h (drop from s))) then h + digits_len (drop h (drop from s)) else 0))

power_cases : (s : List ℕ) (from h : ℕ) →
    (from + h < run_end is_digit s (from + h) → GreatestPower s from (run_end is_digit s (from + h))) →
    (run_end is_digit s (from + h) ≡ from + h → GreatestPower s from from) → Power s from h
power_cases s from h some none =
    let same : digits_len (drop h (drop from s)) ≡ digits_len (drop (from + h) s) = power_digits s from h in
    elim (nat_lt 0 (digits_len (drop h (drop from s)))) as (λ v. nat_lt 0 (digits_len (drop h (drop from s))) ≡ v → GreatestPower s from (from + (if v then h + digits_len (drop h (drop from s)) else 0))) [
      | true ↦ λ e.
          let more : 0 < digits_len (drop h (drop from s)) = grind (arith, nat_tests) in
          let to : run_end is_digit s (from + h) ≡ from + (h + digits_len (drop h (drop from s))) = omega (arith, same) in
          subst (GreatestPower s from) to (some (omega (arith, same, more)))
      | false ↦ λ e.
          let zero : digits_len (drop h (drop from s)) ≡ 0 = grind (arith, nat_tests) in
          let to : from ≡ from + 0 = omega arith in
          subst (GreatestPower s from) to (none (omega (arith, same, zero)))
    ] refl

signed_power : (s : List ℕ) (from : ℕ) → is_exponent_letter (get_or s from 0) ≡ true → is_sign (get_or s (from + 1) 0) ≡ true → Power s from 2
signed_power s from letter sign =
    power_cases s from 2 (signed_greatest s from letter sign)
    (λ e. empty_greatest s from (λ b x. only_start from (from + 2) b (subst (λ (j : ℕ). (b ≡ from) ⊎ ((from + 2 < b) × (b ≤ j))) e (signed_most s from b sign x))))

unsigned_power : (s : List ℕ) (from : ℕ) → is_exponent_letter (get_or s from 0) ≡ true → is_sign (get_or s (from + 1) 0) ≡ false → Power s from 1
unsigned_power s from letter sign =
    power_cases s from 1 (unsigned_greatest s from letter sign)
    (λ e. empty_greatest s from (λ b x. only_start from (from + 1) b (subst (λ (j : ℕ). (b ≡ from) ⊎ ((from + 1 < b) × (b ≤ j))) e (unsigned_most s from b sign x))))

lettered_power : (s : List ℕ) (from : ℕ) → is_exponent_letter (get_or s from 0) ≡ true → Power s from (exponent_head (drop from s))
lettered_power s from letter =
    let same : get_or (drop from s) 1 0 ≡ get_or s (from + 1) 0 = dropped s from 1 (from + 1) refl in
    elim (is_sign (get_or (drop from s) 1 0)) as (λ v. is_sign (get_or (drop from s) 1 0) ≡ v → Power s from (if v then 2 else 1)) [
      | true ↦ λ e. signed_power s from letter (sym (ap is_sign same) ∙ e)
      | false ↦ λ e. unsigned_power s from letter (sym (ap is_sign same) ∙ e)
    ] refl

power_greatest : (s : List ℕ) (from : ℕ) → GreatestPower s from (from + exponent_len (drop from s))
power_greatest s from =
    let same : get_or (drop from s) 0 0 ≡ get_or s from 0 = dropped s from 0 from (omega arith) in
    elim (is_exponent_letter (get_or (drop from s) 0 0)) as (λ v. is_exponent_letter (get_or (drop from s) 0 0) ≡ v →
    GreatestPower s from (from + (if v && nat_lt 0 (digits_len (drop (exponent_head (drop from s)) (drop from s)))
    then exponent_head (drop from s) + digits_len (drop (exponent_head (drop from s)) (drop from s)) else 0))) [
      | true ↦ λ e. lettered_power s from (sym (ap is_exponent_letter same) ∙ e)
      | false ↦ λ e. let to : from ≡ from + 0 = omega arith in subst (GreatestPower s from) to (plain_greatest s from (sym (ap is_exponent_letter same) ∙ e))
    ] refl

-- the unit

record GreatestUnit (s : List ℕ) (from to : ℕ) : Type 0 where
  is : UnitTo s from to
  most : (n : ℕ) → UnitTo s from n → n ≤ to

real_most : (s : List ℕ) (from n : ℕ) → ((get_or s from 0 == 105 || get_or s from 0 == 106) && not (is_name_byte (get_or s (from + 1) 0))) ≡ false → UnitTo s from n → n ≤ from
real_most s from n none (Real e) = omega (arith, e)
real_most s from n none (Imaginary is ends e) = absurd (false≢true (sym none ∙ neither _ _ is ends))

imaginary_most : (s : List ℕ) (from n : ℕ) → UnitTo s from n → n ≤ from + 1
imaginary_most s from n (Real e) = omega (arith, e)
imaginary_most s from n (Imaginary is ends e) = omega (arith, e)

unit_test : ℕ → ℕ → Bool
unit_test a b = (a == 105 || a == 106) && not (is_name_byte b)

unit_at : (s : List ℕ) (k : ℕ) → unit_test (get_or (drop k s) 0 0) (get_or (drop k s) 1 0) ≡ unit_test (get_or s k 0) (get_or s (k + 1) 0)
unit_at s k =
    ap (λ (a : ℕ). unit_test a (get_or (drop k s) 1 0)) (dropped s k 0 k (omega arith))
    ∙ ap (λ (b : ℕ). unit_test (get_or s k 0) b) (dropped s k 1 (k + 1) refl)

unit_greatest : (s : List ℕ) (from : ℕ) → GreatestUnit s from (from + unit_len (drop from s))
unfolding unit_test
unit_greatest s from =
    elim (unit_test (get_or (drop from s) 0 0) (get_or (drop from s) 1 0)) as (λ v. unit_test (get_or (drop from s) 0 0) (get_or (drop from s) 1 0) ≡ v → GreatestUnit s from (from + (if v then 1 else 0))) [
      | true ↦ λ e.
          let parts = both _ _ (sym (unit_at s from) ∙ e) in
          record { is = Imaginary parts.0 parts.1 refl; most = imaginary_most s from }
      | false ↦ λ e. record { is = Real (omega arith); most = λ n x. omega (arith, real_most s from n (sym (unit_at s from) ∙ e) x) }
    ] refl

-- numbers

-- behind a digit, a point or a letter that begins an exponent no unit stands
no_unit : (s : List ℕ) (from n : ℕ) → get_or s from 0 ≤ 101 → UnitTo s from n → n ≡ from
no_unit s from n low (Real e) = sym e
no_unit s from n low (Imaginary is ends e) = absurd (omega (arith, low, (unit_range (get_or s from 0) is).0))

no_power : (s : List ℕ) (from b : ℕ) → get_or s from 0 ≤ 57 → ExponentTo s from b → b ≡ from
no_power s from b low (Absent e) = sym e
no_power s from b low (Unsigned letter below are) = absurd (omega (arith, low, (letter_range (get_or s from 0) letter).0))
no_power s from b low (Signed letter sign below are) = absurd (omega (arith, low, (letter_range (get_or s from 0) letter).0))

power_most : (s : List ℕ) (from to b n : ℕ) → GreatestPower s from to → ExponentTo s from b → UnitTo s b n → n ≤ to + unit_len (drop to s)
power_most s from to b n g x u =
    elim (cases_lt b to) as (λ _. n ≤ to + unit_len (drop to s)) [
      | inl h ↦ omega (arith, h, no_unit s b n (g.next b x h).1 u)
      | inr h ↦
          let e : b ≡ to = omega (arith, h, g.most b x) in
          (unit_greatest s to).most n (subst (λ (j : ℕ). UnitTo s j n) e u)
    ]

number_most : (s : List ℕ) (mantissa to n : ℕ) → Greatest s mantissa → GreatestPower s mantissa to → mantissa ≤ to → NumberTo s n → n ≤ to + unit_len (drop to s)
number_most s mantissa to n g p low x =
    elim (cases_lt x.mantissa mantissa) as (λ _. n ≤ to + unit_len (drop to s)) [
      | inl h ↦
          let top : get_or s x.mantissa 0 ≤ 57 = (g.next x.mantissa x.digits x.point h).1 in
          let e : x.exponent ≡ x.mantissa = no_power s x.mantissa x.exponent top x.power in
          let u = subst (λ (j : ℕ). UnitTo s j n) e x.unit in
          omega (arith, h, low, no_unit s x.mantissa n (omega (arith, top)) u)
      | inr h ↦
          let e : x.mantissa ≡ mantissa = omega (arith, h, g.most x.mantissa x.digits x.point) in
          power_most s mantissa to x.exponent n p (subst (λ (j : ℕ). ExponentTo s j x.exponent) e x.power) x.unit
    ]

pub number_longest : (c : Context) (s : List ℕ) → StartsNumber s → number_len s ≤ length s → Longest c Number s (number_len s)
number_longest c s starts within =
    let g = mantissa_greatest s starts in
    let p = power_greatest s (mantissa_len s) in
    record {
      within = within;
      is = record {
        mantissa = mantissa_len s;
        exponent = real_len s;
        digits = g.is;
        point = g.keeps;
        power = p.is;
        unit = (unit_greatest s (real_len s)).is;
      };
      most = λ m fits x. number_most s (mantissa_len s) (real_len s) m g p (omega arith) x;
    }
