-- Numbers brought into a range.
use Rattle.std.proofs.Common.{subst, ℕ, ◌/◌, ◌%◌, ◌+◌, ◌*◌, ◌-◌, ◌^◌, ◌<◌, ◌≤◌, ◌≡◌, refl, ap, sym, ◌∙◌, Bool, true, false, ◌⊎◌, inl, inr, ltb, not, eqb, arith}
use Rattle.std.specs.Prelude.{ℤ, pos, ◌+ℤ◌, ◌*ℤ◌, ◌≤ℤ◌, neg_ℤ, nat_abs, bit_and}
use Rattle.std.proofs.lemmas.Int.{ints}
use Rattle.std.proofs.Math.Pow.{pow_mono}
use Rattle.std.proofs.lemmas.Nat.{pow_pos, pow-add, shr_split, mod_below, mul-le}
use Rattle.num_type.specs.Whole.{signed, is_below_zero}
use Rattle.num_type.specs.Types.{NumericType, least_of, greatest_of}
use Rattle.fi_quant.specs.Fit.{IsNearestIn, IsWrapped, IsFit}
use Rattle.fi_quant.specs.Split.{IsCongruent, IsOver}
use Rattle.std.proofs.Math.Nat.{le_refl, le_of_lt}
use Rattle.std.proofs.lemmas.Nat.Bits.{ones_shr}
use Rattle.std.proofs.lemmas.Bool.{ltb-true, ltb-false, eqb-true, eqb-false}
use Rattle.num_type.specs.declared.methods.Overflow.{Overflow}
use Rattle.num_type.specs.declared.methods.Overflow.TheVariants.{Saturate, Wrap}
use Rattle.fi_quant.proofs.Signs.{distrib, neg-mul, signed-mul, signed-parts}
use Rattle.fi_quant.proofs.Splits.{double, ones_of, low_is}

pub inside : (low high z : ℤ) → low ≤ℤ z → z ≤ℤ high → IsNearestIn low high z z
inside low high z a b = record { least = a; most = b; nearest = λ w h k. omega (arith, ints) }

pub above : (low high z : ℤ) → low ≤ℤ high → high ≤ℤ z → IsNearestIn low high z high
above low high z a b = record { least = a; most = omega (arith, ints); nearest = λ w h k. omega (arith, ints) }

pub below : (low high z : ℤ) → low ≤ℤ high → z ≤ℤ low → IsNearestIn low high z low
below low high z a b = record { least = omega (arith, ints); most = a; nearest = λ w h k. omega (arith, ints) }

-- ---- Saturate

-- the end of the range on the side of the sign
abbrev pub end_of : Bool → Bool → ℕ → ℤ
end_of true sg w = least_of sg w
end_of false sg w = greatest_of sg w

pow_up : (i j : ℕ) → i ≤ j → 2 ^ i ≤ 2 ^ j
pow_up i j h = pow_mono h

-- an end of the range is a number of 128 bits
pub end_below : (neg sg : Bool) (w : ℕ) → w ≤ 128 → nat_abs (end_of neg sg w) < 2 ^ 128
end_below true true w h = let p : 2 ^ (w - 1) ≤ 2 ^ 127 = pow_up (w - 1) 127 (omega arith) in omega (arith, ints)
end_below true false w h = omega arith
end_below false true w h = let p : 2 ^ (w - 1) ≤ 2 ^ 127 = pow_up (w - 1) 127 (omega arith) in omega (arith, pow_pos (w - 1))
end_below false false w h = let p : 2 ^ w ≤ 2 ^ 128 = pow_up w 128 h in omega (arith, pow_pos w)

-- a size from the end on gives the end
pub sat_end : (neg sg : Bool) (w n : ℕ) → nat_abs (end_of neg sg w) ≤ n → IsNearestIn (least_of sg w) (greatest_of sg w) (signed neg n) (end_of neg sg w)
sat_end true true w n h = below (least_of true w) (greatest_of true w) (signed true n) (omega (arith, ints, pow_pos (w - 1))) (omega (arith, ints))
sat_end true false w n h = below (least_of false w) (greatest_of false w) (signed true n) (omega (arith, ints, pow_pos w)) (omega (arith, ints))
sat_end false true w n h = above (least_of true w) (greatest_of true w) (signed false n) (omega (arith, ints, pow_pos (w - 1))) (omega (arith, ints))
sat_end false false w n h = above (least_of false w) (greatest_of false w) (signed false n) (omega (arith, ints, pow_pos w)) (omega (arith, ints))

-- a size up to the end stays
pub sat_same : (neg sg : Bool) (w n : ℕ) → n ≤ nat_abs (end_of neg sg w) → IsNearestIn (least_of sg w) (greatest_of sg w) (signed neg n) (signed neg n)
sat_same true true w n h = inside (least_of true w) (greatest_of true w) (signed true n) (omega (arith, ints)) (omega (arith, ints, pow_pos (w - 1)))
sat_same true false w n h = inside (least_of false w) (greatest_of false w) (signed true n) (omega (arith, ints)) (omega (arith, ints, pow_pos w))
sat_same false true w n h = inside (least_of true w) (greatest_of true w) (signed false n) (omega (arith, ints)) (omega (arith, ints, pow_pos (w - 1)))
sat_same false false w n h = inside (least_of false w) (greatest_of false w) (signed false n) (omega (arith, ints)) (omega (arith, ints, pow_pos w))

-- ---- Wrap

-- a size of up to 128 bits and a multiple of 2 ^ 128, at w bits
pub parts_of : (low c w : ℕ) → w ≤ 128 → low + c * 2 ^ 128 ≡ (low / 2 ^ w + c * 2 ^ (128 - w)) * 2 ^ w + low % 2 ^ w
parts_of low c w h =
    let e : 2 ^ 128 ≡ 2 ^ (128 - w) * 2 ^ w = sym (ap (λ (i : ℕ). 2 ^ i) (let k : (128 - w) + w ≡ 128 = omega arith in k)) ∙ pow-add 2 (128 - w) w in
    let f : c * 2 ^ 128 ≡ c * (2 ^ (128 - w) * 2 ^ w) = ap (λ (i : ℕ). c * i) e in
    omega (arith, f, shr_split low w)

pub same_pos : (d left m : ℕ) → IsCongruent m (pos (d * m + left)) (pos left)
same_pos d left m = record { turns = pos d; congruent = omega (arith, ints) }

pub same_neg_zero : (d m : ℕ) → IsCongruent m (neg_ℤ (pos (d * m + 0))) (pos 0)
same_neg_zero d m = record { turns = neg_ℤ (pos d); congruent = omega (arith, ints, neg-mul d m) }

pub same_neg : (d left m : ℕ) → left ≤ m → IsCongruent m (neg_ℤ (pos (d * m + left))) (pos (m - left))
same_neg d left m h = record { turns = neg_ℤ (pos (d + 1)); congruent = omega (arith, ints, neg-mul (d + 1) m) }

-- a number below 2 ^ w as one of the range
pub wrap_unsigned : (w bits : ℕ) (z : ℤ) → bits < 2 ^ w → IsCongruent (2 ^ w) z (pos bits) → IsWrapped (least_of false w) (greatest_of false w) (2 ^ w) z (pos bits)
wrap_unsigned w bits z h k = record { least = omega (arith, ints); most = omega (arith, ints); turns = k.turns; congruent = k.congruent }

pub wrap_small : (w bits : ℕ) (z : ℤ) → bits < 2 ^ (w - 1) → IsCongruent (2 ^ w) z (pos bits) → IsWrapped (least_of true w) (greatest_of true w) (2 ^ w) z (pos bits)
wrap_small w bits z h k = record { least = omega (arith, ints); most = omega (arith, ints); turns = k.turns; congruent = k.congruent }

pub wrap_large : (w bits : ℕ) (z : ℤ) → 0 < w → bits < 2 ^ w → 2 ^ (w - 1) ≤ bits → IsCongruent (2 ^ w) z (pos bits) → IsWrapped (least_of true w) (greatest_of true w) (2 ^ w) z (neg_ℤ (pos (2 ^ w - bits)))
wrap_large w bits z h b l k = record {
  least = omega (arith, ints, double w h);
  most = omega (arith, ints, pow_pos (w - 1));
  turns = k.turns +ℤ pos 1;
  congruent = let e = k.congruent in omega (arith, ints, distrib k.turns (pos 1) (2 ^ w));
}

-- the low w bits of a number, as the code computes them
pub con_pos : (low c w : ℕ) → w ≤ 128 → IsCongruent (2 ^ w) (pos (low + c * 2 ^ 128)) (pos (low % 2 ^ w))
con_pos low c w h = subst (λ (x : ℕ). IsCongruent (2 ^ w) (pos x) (pos (low % 2 ^ w))) (sym (parts_of low c w h)) (same_pos (low / 2 ^ w + c * 2 ^ (128 - w)) (low % 2 ^ w) (2 ^ w))

pub con_neg : (low c w : ℕ) → w ≤ 128 → IsCongruent (2 ^ w) (neg_ℤ (pos (low + c * 2 ^ 128))) (pos (2 ^ w - low % 2 ^ w))
con_neg low c w h = subst (λ (x : ℕ). IsCongruent (2 ^ w) (neg_ℤ (pos x)) (pos (2 ^ w - low % 2 ^ w))) (sym (parts_of low c w h)) (same_neg (low / 2 ^ w + c * 2 ^ (128 - w)) (low % 2 ^ w) (2 ^ w) (omega (arith, mod_below low (2 ^ w) (pow_pos w))))

pub con_zero : (low c w : ℕ) → w ≤ 128 → low % 2 ^ w ≡ 0 → IsCongruent (2 ^ w) (neg_ℤ (pos (low + c * 2 ^ 128))) (pos 0)
con_zero low c w h z =
    let d : ℕ = low / 2 ^ w + c * 2 ^ (128 - w) in
    let e : low + c * 2 ^ 128 ≡ d * 2 ^ w + 0 = parts_of low c w h ∙ ap (λ (i : ℕ). d * 2 ^ w + i) z in
    subst (λ (x : ℕ). IsCongruent (2 ^ w) (neg_ℤ (pos x)) (pos 0)) (sym e) (same_neg_zero d (2 ^ w))

-- where no number is taken from 2 ^ w
pub low_kept : (neg : Bool) (low c w q : ℕ) → w ≤ 128 → q ≡ low % 2 ^ w → (neg ≡ true → q ≡ 0) → IsCongruent (2 ^ w) (signed neg (low + c * 2 ^ 128)) (pos q)
low_kept false low c w q h e k = subst (λ (x : ℕ). IsCongruent (2 ^ w) (pos (low + c * 2 ^ 128)) (pos x)) (sym e) (con_pos low c w h)
low_kept true low c w q h e k =
    let z : low % 2 ^ w ≡ 0 = sym e ∙ k refl in
    subst (λ (x : ℕ). IsCongruent (2 ^ w) (neg_ℤ (pos (low + c * 2 ^ 128))) (pos x)) (sym (k refl)) (con_zero low c w h z)

pub low_turned : (neg : Bool) (low c w q : ℕ) → w ≤ 128 → neg ≡ true → q ≡ 2 ^ w - low % 2 ^ w → IsCongruent (2 ^ w) (signed neg (low + c * 2 ^ 128)) (pos q)
low_turned neg low c w q h n e = rw (n, e) (con_neg low c w h)

-- what the code takes from the mask
pub turned_is : (low w : ℕ) → w ≤ 128 → 0 < low % 2 ^ w → (2 ^ 128 - 1) / 2 ^ (128 - w) - bit_and low ((2 ^ 128 - 1) / 2 ^ (128 - w)) + 1 ≡ 2 ^ w - low % 2 ^ w
turned_is low w h z = omega (arith, ones_of w h, low_is low w h, mod_below low (2 ^ w) (pow_pos w))

-- the second half of the range of a signed type
pub wrap_then : (sg : Bool) (w bits : ℕ) (z q : ℤ) → sg ≡ true → 0 < w → bits < 2 ^ w → 2 ^ (w - 1) ≤ bits → IsCongruent (2 ^ w) z (pos bits) → q ≡ neg_ℤ (pos (2 ^ w - bits)) → IsWrapped (least_of sg w) (greatest_of sg w) (2 ^ w) z q
wrap_then true w bits z q s h b l k e = rw e (wrap_large w bits z h b l k)
wrap_then false w bits z q s h b l k e = cc

-- ---- the two actions, as `fit_wide` meets them
pub fit_end : (action : Overflow) (t : NumericType) (neg over : Bool) (low c : ℕ) (e : ℤ) → t.word ≤ 64 → action ≡ Saturate → e ≡ end_of neg t.signed t.word → IsOver over c → (over ≡ true) ⊎ (nat_abs e < low) → IsFit action t (signed neg (low + c * 2 ^ 128)) e
fit_end Saturate t neg over low c e bits a ee o d =
    let wide : t.word ≤ 128 = omega arith in
    let big : nat_abs (end_of neg t.signed t.word) < 2 ^ 128 = end_below neg t.signed t.word wide in
    let same : nat_abs e ≡ nat_abs (end_of neg t.signed t.word) = ap nat_abs ee in
    let past : nat_abs (end_of neg t.signed t.word) ≤ low + c * 2 ^ 128 = elim d [ inl v ↦ (let k : 0 < c = subst (λ (b : Bool). IsOver b c) v o in omega arith) | inr v ↦ omega arith ] in
    rw ee (sat_end neg t.signed t.word (low + c * 2 ^ 128) past)
fit_end Wrap t neg over low c e bits a ee o d = cc

pub fit_same : (action : Overflow) (t : NumericType) (neg over : Bool) (low c : ℕ) (e q : ℤ) → action ≡ Saturate → e ≡ end_of neg t.signed t.word → IsOver over c → (over ≡ false) × (low ≤ nat_abs e) → q ≡ signed neg low → IsFit action t (signed neg (low + c * 2 ^ 128)) q
fit_same Saturate t neg over low c e q a ee o v eq =
    let z : c ≡ 0 = subst (λ (b : Bool). IsOver b c) v.0 o in
    let l : low ≤ nat_abs e = v.1 in
    let same : nat_abs e ≡ nat_abs (end_of neg t.signed t.word) = ap nat_abs ee in
    let n : low + c * 2 ^ 128 ≡ low = omega arith in
    rw (n, eq) (sat_same neg t.signed t.word low (omega arith))
fit_same Wrap t neg over low c e q a ee o v eq = cc

-- ---- the exact values that `fit_wide` is given
pub fit_exact : (action : Overflow) (t : NumericType) (neg : Bool) (m : ℕ) (z q : ℤ) → signed neg m ≡ z → ((c : ℕ) → IsOver false c → IsFit action t (signed neg (m + c * 2 ^ 128)) q) → IsFit action t z q
fit_exact action t neg m z q e h =
    let n : m + 0 * 2 ^ 128 ≡ m = omega arith in
    subst (λ (x : ℤ). IsFit action t x q) (ap (signed neg) n ∙ e) (h 0 refl)

pub fit_over : (action : Overflow) (t : NumericType) (neg over : Bool) (low c : ℕ) (z q : ℤ) → IsOver over c → signed neg (low + c * 2 ^ 128) ≡ z → ((c : ℕ) → IsOver over c → IsFit action t (signed neg (low + c * 2 ^ 128)) q) → IsFit action t z q
fit_over action t neg over low c z q o e h = subst (λ (x : ℤ). IsFit action t x q) e (h c o)

-- a sum of sizes past 2 ^ 128
pub carry : (x y : ℕ) → x < 2 ^ 128 → y < 2 ^ 128 → IsOver (ltb ((x + y) % 2 ^ 128) x) ((x + y) / 2 ^ 128)
carry x y a b = at_test (ltb ((x + y) % 2 ^ 128) x) refl
  where
    at_test : (t : Bool) → ltb ((x + y) % 2 ^ 128) x ≡ t → IsOver t ((x + y) / 2 ^ 128)
    at_test true e = let l = ltb-true ((x + y) % 2 ^ 128) x e in omega arith
    at_test false e = let l = ltb-false ((x + y) % 2 ^ 128) x e in omega arith

-- a shifted size past 2 ^ 128
pub shifted_over : (x n : ℕ) → x < 2 ^ 128 → n < 128 → IsOver (ltb ((2 ^ 128 - 1) / 2 ^ n) x) (x * 2 ^ n / 2 ^ 128)
shifted_over x n a b = at_test (ltb ((2 ^ 128 - 1) / 2 ^ n) x) refl
  where
    top : (2 ^ 128 - 1) / 2 ^ n ≡ 2 ^ (128 - n) - 1
    top = ones_shr 128 n (le_of_lt b)

    whole : 2 ^ (128 - n) * 2 ^ n ≡ 2 ^ 128
    whole = sym (pow-add 2 (128 - n) n) ∙ ap (λ (i : ℕ). 2 ^ i) (let k : (128 - n) + n ≡ 128 = omega arith in k)

    at_test : (t : Bool) → ltb ((2 ^ 128 - 1) / 2 ^ n) x ≡ t → IsOver t (x * 2 ^ n / 2 ^ 128)
    at_test true e =
        let l = ltb-true ((2 ^ 128 - 1) / 2 ^ n) x e in
        let m : 2 ^ (128 - n) ≤ x = omega (arith, top, pow_pos (128 - n)) in
        let p : 2 ^ (128 - n) * 2 ^ n ≤ x * 2 ^ n = mul-le (2 ^ (128 - n)) (2 ^ n) x (2 ^ n) m (le_refl (2 ^ n)) in
        omega (arith, whole)
    at_test false e =
        let l = ltb-false ((2 ^ 128 - 1) / 2 ^ n) x e in
        let m : x + 1 ≤ 2 ^ (128 - n) = omega (arith, top, pow_pos (128 - n)) in
        let p : (x + 1) * 2 ^ n ≤ 2 ^ (128 - n) * 2 ^ n = mul-le (x + 1) (2 ^ n) (2 ^ (128 - n)) (2 ^ n) m (le_refl (2 ^ n)) in
        omega (arith, whole, pow_pos n)

-- a number times a power, by sign and size
pub scaled : (z : ℤ) (neg : Bool) (m p : ℕ) → neg ≡ is_below_zero z → m ≡ nat_abs z → signed neg (m * p) ≡ z *ℤ pos p
scaled z neg m p e f = sym (signed-mul neg m p) ∙ ap (λ (x : ℤ). x *ℤ pos p) (let k : signed neg m ≡ signed (is_below_zero z) (nat_abs z) = cc in k ∙ signed-parts z)

-- a size moved by n from 128 on
pub shifted_far : (x n : ℕ) → 128 ≤ n → 0 + x * 2 ^ (n - 128) * 2 ^ 128 ≡ x * 2 ^ n
shifted_far x n h =
    let e : 2 ^ n ≡ 2 ^ (n - 128) * 2 ^ 128 = sym (ap (λ (i : ℕ). 2 ^ i) (let k : (n - 128) + 128 ≡ n = omega arith in k)) ∙ pow-add 2 (n - 128) 128 in
    let f : x * 2 ^ n ≡ x * (2 ^ (n - 128) * 2 ^ 128) = ap (λ (i : ℕ). x * i) e in
    omega arith

pub far_over : (x n : ℕ) → IsOver (not (eqb x 0)) (x * 2 ^ (n - 128))
far_over x n = at_test (eqb x 0) refl
  where
    at_test : (t : Bool) → eqb x 0 ≡ t → IsOver (not t) (x * 2 ^ (n - 128))
    at_test true e = let z : x ≡ 0 = eqb-true x 0 e in let y : x * 2 ^ (n - 128) ≡ 0 * 2 ^ (n - 128) = ap (λ (i : ℕ). i * 2 ^ (n - 128)) z in omega arith
    at_test false e =
        let z : x ≡ 0 → ⊥ = eqb-false x 0 e in
        let y : 1 * 1 ≤ x * 2 ^ (n - 128) = mul-le 1 1 x (2 ^ (n - 128)) (omega arith) (pow_pos (n - 128)) in
        omega arith
