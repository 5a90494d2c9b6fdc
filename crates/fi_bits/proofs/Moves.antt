-- Where operations on bits leave each bit.
use Rattle.std.proofs.Common.{ℕ, ◌+◌, ◌-◌, ◌*◌, ◌/◌, ◌%◌, ◌^◌, ◌<◌, ◌≤◌, ◌≡◌, min, max, sym, ap, ◌∙◌, arith}
use Rattle.std.specs.Prelude.{pos, bit_and, bit_or, bit_xor}
use Rattle.std.specs.Int.{bit_at}
use Rattle.std.specs.Int.Bits.{xor_add_and}
use Rattle.std.proofs.lemmas.Nat.{pow_pos, mod_below, and_mask, div-add-mod'}
use Rattle.std.proofs.Math.Nat.{mod-eq_of_lt, div-le_self}
use Rattle.std.proofs.lemmas.Nat.Bits.{bit_at-zero, bit_at-lt, bit_at_above, bit_at_ones, bit_at_and, bit_at_or, bit_at_xor, bit_at_cat_low, bit_at_cat_high}
use Rattle.num_type.specs.Types.{NumericType}
use Rattle.fi_ops.specs.Elements.{Element}
use Rattle.fi_ops.specs.Bits.{bits_of, with_bits, word_type, left_shifted, right_shifted, complemented, anded, ored, xored, concatenated, sliced}
use Rattle.fi_bits.specs.Places.{bit_of, of_type}
use Rattle.fi_bits.proofs.Patterns.{bits_below, bits_there, bits_of_word}

-- ---- bits of numbers

at_rest : (n w i : ℕ) → i < w → bit_at (n % 2 ^ w) i ≡ bit_at n i
at_rest n w i h = sym (bit_at_cat_low (n / 2 ^ w) w (n % 2 ^ w) i h) ∙ ap (λ (x : ℕ). bit_at x i) (div-add-mod' n (2 ^ w))

at_up : (n k i : ℕ) → bit_at (n * 2 ^ k) (i + k) ≡ bit_at n i
at_up n k i =
    let e : n * 2 ^ k + 0 ≡ n * 2 ^ k = omega arith in
    let f : i + k - k ≡ i = omega arith in
    ap (λ (x : ℕ). bit_at x (i + k)) (sym e) ∙ bit_at_cat_high n k 0 (i + k) (pow_pos k) (omega arith) ∙ ap (bit_at n) f

at_low : (n k i : ℕ) → i < k → bit_at (n * 2 ^ k) i ≡ 0
at_low n k i h =
    let e : n * 2 ^ k + 0 ≡ n * 2 ^ k = omega arith in
    ap (λ (x : ℕ). bit_at x i) (sym e) ∙ bit_at_cat_low n k 0 i h ∙ bit_at-zero i

mod_less : (n k : ℕ) → n % 2 ^ k < 2 ^ k
mod_less n k = mod_below n (2 ^ k) (pow_pos k)

pub at_down : (n k i : ℕ) → bit_at (n / 2 ^ k) i ≡ bit_at n (i + k)
at_down n k i =
    let f : i + k - k ≡ i = omega arith in
    sym (ap (λ (x : ℕ). bit_at x (i + k)) (sym (div-add-mod' n (2 ^ k))) ∙ bit_at_cat_high (n / 2 ^ k) k (n % 2 ^ k) (i + k) (mod_less n k) (omega arith) ∙ ap (bit_at (n / 2 ^ k)) f)

mod_small : (n p : ℕ) → n < p → n % p ≡ n
mod_small n p h = mod-eq_of_lt h

-- the ones of a word without the bits of a number
ones_less : (w n : ℕ) → n < 2 ^ w → 2 ^ w - 1 - n ≡ bit_xor n (2 ^ w - 1)
ones_less w n h =
    let s = xor_add_and n (2 ^ w - 1) in
    let m : bit_and n (2 ^ w - 1) ≡ n = and_mask n w ∙ mod_small n (2 ^ w) h in
    omega (arith, s, m)

pub at_turned : (w n i : ℕ) → n < 2 ^ w → i < w → bit_at (2 ^ w - 1 - n) i ≡ 1 - bit_at n i
at_turned w n i h k =
    let o = bit_at_ones w i k in
    let l = bit_at-lt n i in
    let x = bit_at_xor n (2 ^ w - 1) i in
    let f : (bit_at n i + bit_at (2 ^ w - 1) i) % 2 ≡ (bit_at n i + 1) % 2 = ap (λ (b : ℕ). (bit_at n i + b) % 2) o in
    let g : (bit_at n i + 1) % 2 ≡ 1 - bit_at n i = turn (bit_at n i) l in
    ap (λ (b : ℕ). bit_at b i) (ones_less w n h) ∙ x ∙ f ∙ g
  where
    turn : (b : ℕ) → b < 2 → (b + 1) % 2 ≡ 1 - b
    turn b l = omega arith

-- ---- bits of elements

-- the bits of a pattern, as an element of its type
pub at_pattern : (t : NumericType) (u i : ℕ) → i < t.word → bit_of i (record { num = t; z = with_bits t u }) ≡ bit_at u i
at_pattern t u i h = ap (λ (x : ℕ). bit_at x i) (bits_there t u (omega arith)) ∙ at_rest u t.word i h

at_word : (w u i : ℕ) → i < w → bit_of i (record { num = word_type w; z = pos u }) ≡ bit_at u i
at_word w u i h = ap (λ (x : ℕ). bit_at x i) (bits_of_word w u (omega arith)) ∙ at_rest u w i h

pub left_moved : (k i : ℕ) (a : Element) → i + k < a.num.word → bit_of (i + k) (of_type a (left_shifted k a)) ≡ bit_of i a
unfolding left_shifted
left_moved k i a h = at_pattern a.num (bits_of a * 2 ^ k) (i + k) h ∙ at_up (bits_of a) k i

pub left_zeros : (k i : ℕ) (a : Element) → i < k → i < a.num.word → bit_of i (of_type a (left_shifted k a)) ≡ 0
unfolding left_shifted
left_zeros k i a h l = at_pattern a.num (bits_of a * 2 ^ k) i l ∙ at_low (bits_of a) k i h

pub right_moved : (k i : ℕ) (a : Element) → i + k < a.num.word → bit_of i (of_type a (right_shifted k a)) ≡ bit_of (i + k) a
unfolding right_shifted
right_moved k i a h = at_pattern a.num (bits_of a / 2 ^ k) i (omega arith) ∙ at_down (bits_of a) k i

-- a pattern has no bits from the word length on
at_end : (a : Element) (i : ℕ) → a.num.word ≤ i → bit_at (bits_of a) i ≡ 0
at_end a i h = bit_at_above (bits_of a) a.num.word i (bits_below a) h

quotient_below : (n k p : ℕ) → n < p → n / 2 ^ k < p
quotient_below n k p h = let d = div-le_self n (2 ^ k) in omega (arith, d)

pub right_zeros : (k i : ℕ) (a : Element) → 1 ≤ a.num.word → a.num.word ≤ i + k → bit_of i (of_type a (right_shifted k a)) ≡ 0
unfolding right_shifted
right_zeros k i a one h =
    let s : bits_of a / 2 ^ k % 2 ^ a.num.word ≡ bits_of a / 2 ^ k = mod_small (bits_of a / 2 ^ k) (2 ^ a.num.word) (quotient_below (bits_of a) k (2 ^ a.num.word) (bits_below a)) in
    ap (λ (x : ℕ). bit_at x i) (bits_there a.num (bits_of a / 2 ^ k) one ∙ s) ∙ at_down (bits_of a) k i ∙ at_end a (i + k) h

pub turned : (i : ℕ) (a : Element) → i < a.num.word → bit_of i (of_type a (complemented a)) ≡ 1 - bit_of i a
unfolding complemented
turned i a h = at_pattern a.num (2 ^ a.num.word - 1 - bits_of a) i h ∙ at_turned a.num.word (bits_of a) i (bits_below a) h

pub both : (i : ℕ) (a b : Element) → a.num ≡ b.num → i < a.num.word → bit_of i (of_type a (anded a b)) ≡ min (bit_of i a) (bit_of i b)
unfolding anded
both i a b e h = at_pattern a.num (bit_and (bits_of a) (bits_of b)) i h ∙ bit_at_and (bits_of a) (bits_of b) i

pub either : (i : ℕ) (a b : Element) → a.num ≡ b.num → i < a.num.word → bit_of i (of_type a (ored a b)) ≡ max (bit_of i a) (bit_of i b)
unfolding ored
either i a b e h = at_pattern a.num (bit_or (bits_of a) (bits_of b)) i h ∙ bit_at_or (bits_of a) (bits_of b) i

pub just_one : (i : ℕ) (a b : Element) → a.num ≡ b.num → i < a.num.word → bit_of i (of_type a (xored a b)) ≡ (bit_of i a + bit_of i b) % 2
unfolding xored
just_one i a b e h = at_pattern a.num (bit_xor (bits_of a) (bits_of b)) i h ∙ bit_at_xor (bits_of a) (bits_of b) i

pub second_kept : (i : ℕ) (a b : Element) → i < b.num.word → bit_of i (concatenated a b) ≡ bit_of i b
unfolding concatenated
second_kept i a b h =
    at_word (a.num.word + b.num.word) (bits_of a * 2 ^ b.num.word + bits_of b) i (omega arith)
    ∙ bit_at_cat_low (bits_of a) b.num.word (bits_of b) i h

pub first_kept : (i : ℕ) (a b : Element) → i < a.num.word → bit_of (i + b.num.word) (concatenated a b) ≡ bit_of i a
unfolding concatenated
first_kept i a b h =
    let f : i + b.num.word - b.num.word ≡ i = omega arith in
    at_word (a.num.word + b.num.word) (bits_of a * 2 ^ b.num.word + bits_of b) (i + b.num.word) (omega arith)
    ∙ bit_at_cat_high (bits_of a) b.num.word (bits_of b) (i + b.num.word) (bits_below b) (omega arith) ∙ ap (bit_at (bits_of a)) f

pub slice_kept : (l r i : ℕ) (a : Element) → 1 ≤ r → i < l - r + 1 → bit_of i (sliced l r a) ≡ bit_of (i + (r - 1)) a
unfolding sliced
slice_kept l r i a one h =
    at_word (l - r + 1) (bits_of a / 2 ^ (r - 1) % 2 ^ (l - r + 1)) i h
    ∙ at_rest (bits_of a / 2 ^ (r - 1)) (l - r + 1) i h ∙ at_down (bits_of a) (r - 1) i
