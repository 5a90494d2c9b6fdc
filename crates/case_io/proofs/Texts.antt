-- Canonical decimals.
use Rattle.std.proofs.Common.{inl, inr, ◌⊎◌, zero, suc, arith, length, get_or, ◌≡◌, ◌≢◌, ℕ, ◌<◌, Bool, true, false, not, ◌&&◌, List, [], ◌∷◌, refl, sym, ap, ◌∙◌, subst, nat_eq}
use Rattle.std.specs.Prelude.{if◌then◌else◌, ℤ, pos, negsuc, neg_ℤ, unsigned_abs, ◌^◌, nat_le}
use Rattle.std.specs.Fmt.{decimal, signed_decimal}
use Rattle.std.specs.Char.{digit_value}
use Rattle.std.specs.Str.Parse.{AllDigits, digits_value}
use Rattle.std.proofs.lemmas.Fmt.{decimal_digit}
use Rattle.std.proofs.lemmas.Str.{digit_value_digit}
use Rattle.std.proofs.lemmas.Str.Parse.{digit_from_value}
use Rattle.std.proofs.lemmas.Bool.{leb-true}
use Rattle.std.proofs.lemmas.Bool.Decides.{eqb_tells}
use Rattle.num_type.proofs.Decimals.{canonical, lead_alone, decimal_digits}
use Rattle.std.specs.List.{list_all}
use Rattle.fic_base.specs.Names.{is_digit}
use Rattle.shape_rules.specs.Pieces.{Lacks}
use Rattle.std.proofs.lemmas.Int.{ints}
use Rattle.std.specs.Prelude.{◌≤ℤ◌, None}
use Rattle.num_type.specs.Decimals.{ReadsDecimal}
use Rattle.case_io.specs.Cases.{Range, IsWithin}
use Rattle.case_io.specs.Plain.{is_digits, is_positive, is_canonical, value_of}

pub both : (a b : Bool) → (a && b) ≡ true → (a ≡ true) × (b ≡ true)
both true b h = (refl, h)
both false b h = absurd (cc)

pub none_is : (b : Bool) → b ≡ true → b ≡ false → ⊥
none_is b p q = cc

no_newline : (b : ℕ) → is_digit b ≡ true → b ≢ 10
no_newline b h e = none_is (is_digit b) h (ap is_digit e)

digits_lack : (t : List ℕ) → list_all is_digit t ≡ true → Lacks 10 t
digits_lack [] h = tt
digits_lack (b ∷ bs) h = let p = both (is_digit b) (list_all is_digit bs) h in (no_newline b p.0, digits_lack bs p.1)

all_digits : (t : List ℕ) → is_digits t ≡ true → list_all is_digit t ≡ true
all_digits [] h = absurd (cc)
all_digits (d ∷ []) h = ap (λ b. b && true) h
all_digits (d ∷ e ∷ more) h = (both (not (nat_eq d 48)) (list_all is_digit (d ∷ e ∷ more)) h).1

positive_digits : (t : List ℕ) → is_positive t ≡ true → list_all is_digit t ≡ true
positive_digits [] h = absurd (cc)
positive_digits (d ∷ more) h = all_digits (d ∷ more) (both (not (nat_eq d 48)) (is_digits (d ∷ more)) h).1

pub canonical_lacks : (t : List ℕ) → is_canonical t ≡ true → Lacks 10 t
canonical_lacks [] h = tt
canonical_lacks (b ∷ bs) h = by (nat_eq b 45) refl h
  where
    by : (m : Bool) → nat_eq b 45 ≡ m → (if m then is_positive bs else is_digits (b ∷ bs)) ≡ true → Lacks 10 (b ∷ bs)
    by true p q = (λ e. none_is (nat_eq b 45) p (ap (λ n. nat_eq n 45) e), digits_lack bs (positive_digits bs q))
    by false p q = digits_lack (b ∷ bs) (all_digits (b ∷ bs) q)

-- ---- values

-- the number of a text, by whether it has a minus
pub value_if : (b : ℕ) (bs : List ℕ) (m : Bool) → nat_eq b 45 ≡ m → value_of (b ∷ bs) ≡ (if m then neg_ℤ (pos (digits_value 10 bs)) else pos (digits_value 10 (b ∷ bs)))
value_if b bs m p = ap (λ x. if x then neg_ℤ (pos (digits_value 10 bs)) else pos (digits_value 10 (b ∷ bs))) p

no_minus : (b : ℕ) → digit_value b < 10 → nat_eq b 45 ≡ false
no_minus b h = by (eqb_tells b 45)
  where
    by : ((nat_eq b 45 ≡ true) × (b ≡ 45)) ⊎ ((nat_eq b 45 ≡ false) × (b ≢ 45)) → nat_eq b 45 ≡ false
    by (inl p) = let r = digit_from_value b h in absurd (omega (arith, r, p.1))
    by (inr p) = p.0

above : (n : ℕ) (text : List ℕ) → n < 2 ^ 128 → text ≡ decimal n → value_of text ≡ pos n
above n [] small e = let k = lead_alone n (omega arith) in absurd (omega (arith, k.0, ap length e))
above n (b ∷ bs) small e =
    let k = decimal_digits n small in
    let digits : AllDigits 10 (b ∷ bs) = subst (AllDigits 10) (sym e) k.0 in
    value_if b bs false (no_minus b digits.0) ∙ ap pos (ap (digits_value 10) e ∙ k.1)

-- the text of a number has its value
pub read_is : (z : ℤ) (text : List ℕ) → unsigned_abs z < 2 ^ 128 → text ≡ signed_decimal z → value_of text ≡ z
read_is (pos n) text small e = above n text small e
read_is (negsuc n) text small e = ap value_of e ∙ ap (λ m. neg_ℤ (pos m)) (decimal_digits (suc n) small).1

digit_is : (b : ℕ) → is_digit b ≡ true → digit_value b < 10
digit_is b h =
    let p = both (nat_le 48 b) (nat_le b 57) h in
    let least = leb-true 48 b p.0 in
    let most = leb-true b 57 p.1 in
    omega (arith, digit_value_digit b (least, most), least, most)

digits_are : (t : List ℕ) → list_all is_digit t ≡ true → AllDigits 10 t
digits_are [] h = tt
digits_are (b ∷ bs) h = let p = both (is_digit b) (list_all is_digit bs) h in (digit_is b p.0, digits_are bs p.1)

alone : (t : List ℕ) → is_digits t ≡ true → get_or t 0 0 ≡ 48 → length t ≡ 1
alone [] h e = absurd (cc)
alone (d ∷ []) h e = refl
alone (d ∷ b ∷ more) h e = absurd (none_is (not (nat_eq d 48)) (both (not (nat_eq d 48)) (list_all is_digit (d ∷ b ∷ more)) h).0 (ap (λ n. not (nat_eq n 48)) e))

some : (t : List ℕ) → is_digits t ≡ true → 0 < length t
some [] h = absurd (cc)
some (d ∷ more) h = omega arith

-- digits without a leading zero are the decimal of their value
pub digits_text : (t : List ℕ) → is_digits t ≡ true → digits_value 10 t < 2 ^ 128 → t ≡ decimal (digits_value 10 t)
digits_text t h small = sym (canonical t (digits_are t (all_digits t h)) (some t h) (alone t h) (omega (arith, small)))

size_of : (n : ℕ) → unsigned_abs (neg_ℤ (pos n)) ≡ n
size_of zero = refl
size_of (suc n) = refl

below : (bs : List ℕ) (b : ℕ) → b ≡ 45 → is_positive bs ≡ true → unsigned_abs (neg_ℤ (pos (digits_value 10 bs))) < 2 ^ 128 → b ∷ bs ≡ signed_decimal (neg_ℤ (pos (digits_value 10 bs)))
below [] b e h small = absurd (cc)
below (d ∷ more) b e h small =
    let p = both (not (nat_eq d 48)) (is_digits (d ∷ more)) h in
    by (digits_value 10 (d ∷ more)) (digits_text (d ∷ more) p.1 (subst (λ n. n < 2 ^ 128) (size_of (digits_value 10 (d ∷ more))) small)) p.0
  where
    by : (n : ℕ) → d ∷ more ≡ decimal n → not (nat_eq d 48) ≡ true → b ∷ d ∷ more ≡ signed_decimal (neg_ℤ (pos n))
    by zero q r = absurd (none_is (not (nat_eq d 48)) r (ap (λ l. not (nat_eq (get_or l 0 0) 48)) (q ∙ decimal_digit 0 (omega arith))))
    by (suc n) q r = λ i. e i ∷ q i

-- a canonical text is that of its number
pub text_is : (text : List ℕ) → is_canonical text ≡ true → unsigned_abs (value_of text) < 2 ^ 128 → text ≡ signed_decimal (value_of text)
text_is [] h small = absurd (cc)
text_is (b ∷ bs) h small = by (eqb_tells b 45)
  where
    by : ((nat_eq b 45 ≡ true) × (b ≡ 45)) ⊎ ((nat_eq b 45 ≡ false) × (b ≢ 45)) → b ∷ bs ≡ signed_decimal (value_of (b ∷ bs))
    by (inr p) =
        let value = value_if b bs false p.0 in
        let digits : is_digits (b ∷ bs) ≡ true = sym (ap (λ m. if m then is_positive bs else is_digits (b ∷ bs)) p.0) ∙ h in
        digits_text (b ∷ bs) digits (subst (λ z. unsigned_abs z < 2 ^ 128) value small) ∙ ap signed_decimal (sym value)
    by (inl p) =
        let value = value_if b bs true p.0 in
        let positive : is_positive bs ≡ true = sym (ap (λ m. if m then is_positive bs else is_digits (b ∷ bs)) p.0) ∙ h in
        below bs b p.1 positive (subst (λ z. unsigned_abs z < 2 ^ 128) value small) ∙ ap signed_decimal (sym value)

-- a number that no decimal within 2^128 has is out of every range within 2^64
pub too_wide : (text : List ℕ) (r : Range) → is_canonical text ≡ true → ReadsDecimal None text → neg_ℤ (pos (2 ^ 64)) ≤ℤ r.least → r.most ≤ℤ pos (2 ^ 64) → IsWithin r (value_of text) → ⊥
too_wide text r h none least most within =
    none (value_of text) small (text_is text h small)
  where
    small : unsigned_abs (value_of text) < 2 ^ 128
    small = omega (arith, ints, least, most, within.0, within.1)
