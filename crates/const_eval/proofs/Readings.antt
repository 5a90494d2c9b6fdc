-- What the parts of a literal's text come to.
use Rattle.std.proofs.Common.{◌≡◌, ◌≢◌, ◌⊎◌, inl, inr, ℕ, zero, suc, ◌+◌, ◌*◌, ◌^◌, ◌%◌, ◌<◌, List, ◌++◌, length, refl, sym, ap, subst, ◌∙◌, arith}
use Rattle.std.specs.Prelude.{Option, Some, None, IfSome, IfNone, take, drop, ℤ, pos, ◌+ℤ◌, ◌-ℤ◌, ◌≤ℤ◌, neg_ℤ}
use Rattle.std.specs.List.{prefix_len}
use Rattle.std.specs.Str.Parse.{AllDigits, digits_value, digits_value_after, signed_digits_value}
use Rattle.std.proofs.lemmas.Int.{ints}
use Rattle.num_type.specs.Constants.{Exact}
use Rattle.num_type.specs.View.{exact_of}
use Rattle.num_type.specs.declared.dyadic.Dyadic.{Dyadic}
use Rattle.const_eval.specs.Digits.{IsLong, IsPower, power_cap, number_of}
use Rattle.const_eval.specs.declared.run.Run.{Run}
use Rattle.const_eval.specs.Literals.{IsShort, IsTenfold, IsDecimalValue, Nought, Short, IsValueOf, NoValueOf, IsLiteral, NoLiteral, is_mantissa_byte, is_whole_byte, mantissa_of, exponent_of, whole_part, fraction_part}
use Rattle.const_eval.proofs.Zeros.{same_trimmed, long_least, long_after, after_append, ten_more}

-- a number of too many digits is the value of no literal
pub long_none : (n : ℕ) (power : ℤ) (x : Exact) → IsLong n → IsDecimalValue n power x → ⊥
long_none n power x long (Nought z m) = absurd (omega (arith, long_least n long, z))
long_none n power x long (Short digits tens trimmed short is) = absurd (omega (arith, long digits trimmed.zeros trimmed.number, short.few))

-- Exponents within reach

-- the power of 10 behind the digits
abbrev pub tens_of : ℤ → ℕ → ℕ → ℤ
tens_of power places zeros = (power -ℤ pos places) +ℤ pos zeros

reached : (text : List ℕ) (power : ℤ) (head places zeros : ℕ) → IsPower text power → places < 2 ^ 66 → zeros < 2 ^ 66 → IsShort head (tens_of power places zeros) → power ≡ signed_digits_value 10 text
reached text power head places zeros h p q short = by h.value
  where
    by : (power ≡ signed_digits_value 10 text) ⊎ ((pos power_cap ≤ℤ power) × (pos power_cap ≤ℤ signed_digits_value 10 text)) ⊎ ((power ≤ℤ neg_ℤ (pos power_cap)) × (signed_digits_value 10 text ≤ℤ neg_ℤ (pos power_cap))) → power ≡ signed_digits_value 10 text
    by (inl e) = e
    by (inr (inl far)) = absurd (omega (arith, ints, far.0, p, q, short.most))
    by (inr (inr far)) = absurd (omega (arith, ints, far.0, p, q, short.least))

-- and the same of the exponent that is written
reached_back : (text : List ℕ) (power : ℤ) (digits places zeros : ℕ) → IsPower text power → places < 2 ^ 66 → zeros < 2 ^ 66 → IsShort digits (tens_of (signed_digits_value 10 text) places zeros) → power ≡ signed_digits_value 10 text
reached_back text power digits places zeros h p q short = by h.value
  where
    by : (power ≡ signed_digits_value 10 text) ⊎ ((pos power_cap ≤ℤ power) × (pos power_cap ≤ℤ signed_digits_value 10 text)) ⊎ ((power ≤ℤ neg_ℤ (pos power_cap)) × (signed_digits_value 10 text ≤ℤ neg_ℤ (pos power_cap))) → power ≡ signed_digits_value 10 text
    by (inl e) = e
    by (inr (inl far)) = absurd (omega (arith, ints, far.1, p, q, short.most))
    by (inr (inr far)) = absurd (omega (arith, ints, far.1, p, q, short.least))

-- the value of digits that aren't all 0
pub short_value : (text : List ℕ) (power : ℤ) (head places zeros : ℕ) (x : Exact) → IsPower text power → places < 2 ^ 66 → zeros < 2 ^ 66 → head % 10 ≢ 0 → IsShort head (tens_of power places zeros) → IsTenfold head (tens_of power places zeros) x → IsValueOf (head * 10 ^ zeros) places text x
short_value text power head places zeros x h p q last short is =
    let e : power ≡ signed_digits_value 10 text = reached text power head places zeros h p q short in
    record {
      digits = h.all;
      value = Short head (tens_of power places zeros) (record { zeros = zeros; number = refl; raised = ap (λ (z : ℤ). tens_of z places zeros) e; last = last }) short is;
    }

-- and where there is none
pub no_short_value : (text : List ℕ) (power : ℤ) (head places zeros : ℕ) → IsPower text power → places < 2 ^ 66 → zeros < 2 ^ 66 → head % 10 ≢ 0 → (IsShort head (tens_of power places zeros) → (d : Dyadic) → IsTenfold head (tens_of power places zeros) (exact_of d) → ⊥) → NoValueOf (head * 10 ^ zeros) places text
no_short_value text power head places zeros h p q last none d is = by is.value
  where
    nought : (n k : ℕ) → n * 10 ^ k ≡ 0 → n ≡ 0
    nought n zero e = omega (arith, e)
    nought n (suc k) e = nought n k (omega (arith, e, ten_more n k))

    by : IsDecimalValue (head * 10 ^ zeros) (signed_digits_value 10 text -ℤ pos places) (exact_of d) → ⊥
    by (Nought z m) = last (omega (arith, nought head zeros z))
    by (Short digits tens trimmed short same) =
        let r = same_trimmed head digits zeros trimmed.zeros last trimmed.last trimmed.number in
        let t : tens ≡ tens_of (signed_digits_value 10 text) places zeros = trimmed.raised ∙ ap (λ (k : ℕ). tens_of (signed_digits_value 10 text) places k) (sym r.1) in
        let e : power ≡ signed_digits_value 10 text = reached_back text power digits places zeros h p q (subst (IsShort digits) t short) in
        let f : tens ≡ tens_of power places zeros = t ∙ ap (λ (z : ℤ). tens_of z places zeros) (sym e) in
        let P : ℕ → Type 0 = λ n. IsShort n (tens_of power places zeros) in
        let Q : ℕ → Type 0 = λ n. IsTenfold n (tens_of power places zeros) (exact_of d) in
        let R : ℤ → Type 0 = λ z. IsTenfold digits z (exact_of d) in
        none (subst P (sym r.0) (subst (IsShort digits) f short)) d (subst Q (sym r.0) (subst R f same))

-- 0
pub zero_value : (text : List ℕ) (power : ℤ) (head places zeros : ℕ) (x : Exact) → IsPower text power → head ≡ 0 → x.significand ≡ pos 0 → IsValueOf (head * 10 ^ zeros) places text x
zero_value text power head places zeros x h z m = record {
  digits = h.all;
  value = Nought (ap (λ (n : ℕ). n * 10 ^ zeros) z ∙ (let k : 0 * 10 ^ zeros ≡ 0 = omega arith in k)) m;
}

-- Whole texts

-- the digits before and behind the point as one number
value_at : (whole fraction : List ℕ) (start front run : ℕ) → start ≡ 0 → front ≡ digits_value_after 10 start whole → run ≡ digits_value_after 10 front fraction → run ≡ digits_value 10 (whole ++ fraction)
value_at whole fraction start front run z f r =
    r ∙ ap (λ (n : ℕ). digits_value_after 10 n fraction) (f ∙ ap (λ (n : ℕ). digits_value_after 10 n whole) z) ∙ sym (after_append 0 whole fraction)

pub literal_is : (text whole fraction exponent : List ℕ) (start front run places : ℕ) (x : Exact) → whole ≡ whole_part (mantissa_of text) → fraction ≡ fraction_part (mantissa_of text) → exponent ≡ exponent_of text → start ≡ 0 → front ≡ digits_value_after 10 start whole → run ≡ digits_value_after 10 front fraction → places ≡ length fraction → AllDigits 10 whole → AllDigits 10 fraction → IsValueOf run places exponent x → IsLiteral text x
literal_is text whole fraction exponent start front run places x w f e z a b p wd fd v =
    let n : run ≡ digits_value 10 (whole_part (mantissa_of text) ++ fraction_part (mantissa_of text)) = value_at whole fraction start front run z a b ∙ (λ i. digits_value 10 (w i ++ f i)) in
    let k : places ≡ length (fraction_part (mantissa_of text)) = p ∙ ap (λ (s : List ℕ). length s) f in
    record {
      whole_digits = subst (AllDigits 10) w wd;
      fraction_digits = subst (AllDigits 10) f fd;
      value = subst (λ (m : ℕ). IsValueOf m (length (fraction_part (mantissa_of text))) (exponent_of text) x) n (subst (λ (m : ℕ). IsValueOf run m (exponent_of text) x) k (subst (λ (s : List ℕ). IsValueOf run places s x) e v));
    }

pub no_literal : (text whole fraction exponent : List ℕ) (start front run places : ℕ) → whole ≡ whole_part (mantissa_of text) → fraction ≡ fraction_part (mantissa_of text) → exponent ≡ exponent_of text → start ≡ 0 → front ≡ digits_value_after 10 start whole → run ≡ digits_value_after 10 front fraction → places ≡ length fraction → NoValueOf run places exponent → NoLiteral text
no_literal text whole fraction exponent start front run places w f e z a b p none d is =
    let n : run ≡ digits_value 10 (whole_part (mantissa_of text) ++ fraction_part (mantissa_of text)) = value_at whole fraction start front run z a b ∙ (λ i. digits_value 10 (w i ++ f i)) in
    let k : places ≡ length (fraction_part (mantissa_of text)) = p ∙ ap (λ (s : List ℕ). length s) f in
    none d (subst (λ (s : List ℕ). IsValueOf run places s (exact_of d)) (sym e) (subst (λ (m : ℕ). IsValueOf run m (exponent_of text) (exact_of d)) (sym k) (subst (λ (m : ℕ). IsValueOf m (length (fraction_part (mantissa_of text))) (exponent_of text) (exact_of d)) (sym n) is.value)))

-- too many digits before the point, or with those behind it
pub long_whole : (text whole : List ℕ) (start : ℕ) → whole ≡ whole_part (mantissa_of text) → start ≡ 0 → (AllDigits 10 whole → IsLong (digits_value_after 10 start whole)) → NoLiteral text
long_whole text whole start w z long d is =
    let wd : AllDigits 10 whole = subst (AllDigits 10) (sym w) is.whole_digits in
    let l : IsLong (digits_value_after 10 0 (whole_part (mantissa_of text))) = subst IsLong (λ i. digits_value_after 10 (z i) (w i)) (long wd) in
    let all : IsLong (digits_value 10 (whole_part (mantissa_of text) ++ fraction_part (mantissa_of text))) =
    subst IsLong (sym (after_append 0 (whole_part (mantissa_of text)) (fraction_part (mantissa_of text)))) (long_after (digits_value_after 10 0 (whole_part (mantissa_of text))) (fraction_part (mantissa_of text)) is.fraction_digits l) in
    long_none (digits_value 10 (whole_part (mantissa_of text) ++ fraction_part (mantissa_of text))) (signed_digits_value 10 (exponent_of text) -ℤ pos (length (fraction_part (mantissa_of text)))) (exact_of d) all is.value.value

pub long_fraction : (text whole fraction : List ℕ) (start front : ℕ) → whole ≡ whole_part (mantissa_of text) → fraction ≡ fraction_part (mantissa_of text) → start ≡ 0 → front ≡ digits_value_after 10 start whole → (AllDigits 10 fraction → IsLong (digits_value_after 10 front fraction)) → NoLiteral text
long_fraction text whole fraction start front w f z a long d is =
    let fd : AllDigits 10 fraction = subst (AllDigits 10) (sym f) is.fraction_digits in
    let n : digits_value_after 10 front fraction ≡ digits_value 10 (whole_part (mantissa_of text) ++ fraction_part (mantissa_of text)) = value_at whole fraction start front (digits_value_after 10 front fraction) z a refl ∙ (λ i. digits_value 10 (w i ++ f i)) in
    long_none (digits_value 10 (whole_part (mantissa_of text) ++ fraction_part (mantissa_of text))) (signed_digits_value 10 (exponent_of text) -ℤ pos (length (fraction_part (mantissa_of text)))) (exact_of d) (subst IsLong n (long fd)) is.value.value

-- What the code makes of them

pub valued : (r : Option Dyadic) (text : List ℕ) (power : ℤ) (head places zeros digits : ℕ) (tens : ℤ) → digits ≡ head → tens ≡ tens_of power places zeros → IsPower text power → places < 2 ^ 66 → zeros < 2 ^ 66 → head % 10 ≢ 0 → IfSome r (λ d. IsShort digits tens) → IfSome r (λ d. IsTenfold digits tens (exact_of d)) → IfSome r (λ d. IsValueOf (head * 10 ^ zeros) places text (exact_of d))
valued None text power head places zeros digits tens e f h p q last short is = tt
valued (Some d) text power head places zeros digits tens e f h p q last short is =
    short_value text power head places zeros (exact_of d) h p q last (at_head short) (tenfold_head is)
  where
    at_head : IsShort digits tens → IsShort head (tens_of power places zeros)
    at_head s = let P : ℕ → Type 0 = λ n. IsShort n tens in subst (IsShort head) f (subst P e s)

    tenfold_head : IsTenfold digits tens (exact_of d) → IsTenfold head (tens_of power places zeros) (exact_of d)
    tenfold_head s =
        let P : ℕ → Type 0 = λ n. IsTenfold n tens (exact_of d) in
        let Q : ℤ → Type 0 = λ z. IsTenfold head z (exact_of d) in
        subst Q f (subst P e s)

pub not_valued : (r : Option Dyadic) (text : List ℕ) (power : ℤ) (head places zeros digits : ℕ) (tens : ℤ) → digits ≡ head → tens ≡ tens_of power places zeros → IsPower text power → places < 2 ^ 66 → zeros < 2 ^ 66 → head % 10 ≢ 0 → IfNone r (IsShort digits tens → (d : Dyadic) → IsTenfold digits tens (exact_of d) → ⊥) → IfNone r (NoValueOf (head * 10 ^ zeros) places text)
not_valued (Some d) text power head places zeros digits tens e f h p q last none = tt
not_valued None text power head places zeros digits tens e f h p q last none =
    no_short_value text power head places zeros h p q last (λ s d is. none (at_digits s) d (tenfold_digits d is))
  where
    at_digits : IsShort head (tens_of power places zeros) → IsShort digits tens
    at_digits s = let P : ℕ → Type 0 = λ n. IsShort n tens in subst P (sym e) (subst (IsShort head) (sym f) s)

    tenfold_digits : (d : Dyadic) → IsTenfold head (tens_of power places zeros) (exact_of d) → IsTenfold digits tens (exact_of d)
    tenfold_digits d s =
        let P : ℕ → Type 0 = λ n. IsTenfold n tens (exact_of d) in
        let Q : ℤ → Type 0 = λ z. IsTenfold head z (exact_of d) in
        subst P (sym e) (subst Q (sym f) s)

pub zero_run : (r : Run) → r.head ≡ 0 → number_of r ≡ 0
zero_run r z = ap (λ (n : ℕ). n * 10 ^ r.zeros) z ∙ (let k : 0 * 10 ^ r.zeros ≡ 0 = omega arith in k)

-- the parts that the code cuts a text into
pub parts : (text mantissa exponent whole fraction : List ℕ) (l p : ℕ) → l ≡ prefix_len is_mantissa_byte text → mantissa ≡ take l text → exponent ≡ drop (l + 1) text → p ≡ prefix_len is_whole_byte mantissa → whole ≡ take p mantissa → fraction ≡ drop (p + 1) mantissa → (whole ≡ whole_part (mantissa_of text)) × (fraction ≡ fraction_part (mantissa_of text)) × (exponent ≡ exponent_of text)
parts text mantissa exponent whole fraction l p le me ee pe we fe =
    let m : mantissa ≡ mantissa_of text = me ∙ ap (λ (n : ℕ). take n text) le in (
      we ∙ ap (λ (n : ℕ). take n mantissa) pe ∙ ap whole_part m,
      fe ∙ ap (λ (n : ℕ). drop (n + 1) mantissa) pe ∙ ap fraction_part m,
      ee ∙ ap (λ (n : ℕ). drop (n + 1) text) le,
    )

pub some_literal : (r : Option Dyadic) (text whole fraction exponent : List ℕ) (start front run : ℕ) → (whole ≡ whole_part (mantissa_of text)) × (fraction ≡ fraction_part (mantissa_of text)) × (exponent ≡ exponent_of text) → start ≡ 0 → front ≡ digits_value_after 10 start whole → run ≡ digits_value_after 10 front fraction → AllDigits 10 whole → AllDigits 10 fraction → IfSome r (λ d. IsValueOf run (length fraction) exponent (exact_of d)) → IfSome r (λ d. IsLiteral text (exact_of d))
some_literal None text whole fraction exponent start front run q z a b wd fd v = tt
some_literal (Some d) text whole fraction exponent start front run q z a b wd fd v =
    literal_is text whole fraction exponent start front run (length fraction) (exact_of d) q.0 q.1 q.2 z a b refl wd fd v

pub none_literal : (r : Option Dyadic) (text whole fraction exponent : List ℕ) (start front run : ℕ) → (whole ≡ whole_part (mantissa_of text)) × (fraction ≡ fraction_part (mantissa_of text)) × (exponent ≡ exponent_of text) → start ≡ 0 → front ≡ digits_value_after 10 start whole → run ≡ digits_value_after 10 front fraction → IfNone r (NoValueOf run (length fraction) exponent) → IfNone r (NoLiteral text)
none_literal (Some d) text whole fraction exponent start front run q z a b none = tt
none_literal None text whole fraction exponent start front run q z a b none =
    no_literal text whole fraction exponent start front run (length fraction) q.0 q.1 q.2 z a b refl none
