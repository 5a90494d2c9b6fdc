-- Bits of a shift to the right with sign.
use Rattle.std.proofs.Common.{ℕ, ◌+◌, ◌-◌, ◌/◌, ◌%◌, ◌^◌, ◌<◌, ◌≤◌, ◌≡◌, sym, ap, ◌∙◌, Bool, true, false, arith}
use Rattle.std.specs.Prelude.{ℤ, pos, negsuc}
use Rattle.std.specs.Int.{bit_at}
use Rattle.std.proofs.lemmas.Int.{ints}
use Rattle.std.proofs.lemmas.Nat.{pow_pos}
use Rattle.std.proofs.Math.Nat.{mod-eq_of_lt, div-le_self}
use Rattle.std.proofs.lemmas.Nat.Bits.{bit_at_above}
use Rattle.num_type.specs.Types.{IsInRange}
use Rattle.fi_quant.specs.Numbers.{floor_of, rounded}
use Rattle.fi_quant.proofs.Splits.{double}
use Rattle.fi_ops.specs.Elements.{Element, IsElement}
use Rattle.fi_ops.specs.Bits.{bits_of, sign_shifted}
use Rattle.fi_bits.specs.Places.{bit_of, of_type}
use Rattle.fi_bits.proofs.Moves.{at_down, at_turned}

mod_small : (n p : ℕ) → n < p → n % p ≡ n
mod_small n p h = mod-eq_of_lt h

-- an element by its parts
abbrev stored : Bool → ℕ → ℤ → ℤ → Element
stored s w f z = record { num = record { signed = s; word = w; fraction = f }; z = z }

-- the bits of a number that isn't below 0, and of one that is
above : (s : Bool) (w : ℕ) (f : ℤ) (n : ℕ) → n < 2 ^ w → bits_of (stored s w f (pos n)) ≡ n
unfolding bits_of
above s w f n h = mod_small n (2 ^ w) h

below : (s : Bool) (w : ℕ) (f : ℤ) (n : ℕ) → n < 2 ^ w → bits_of (stored s w f (negsuc n)) ≡ 2 ^ w - 1 - n
unfolding bits_of
below s w f n h = ap (λ (m : ℕ). 2 ^ w - 1 - m) (mod_small n (2 ^ w) h)

-- ---- sizes in a range

above_size : (s : Bool) (w : ℕ) (f : ℤ) (n : ℕ) → 1 ≤ w → IsInRange (record { signed = s; word = w; fraction = f }) (pos n) → n < 2 ^ w
above_size true w f n one h = omega (arith, ints, h.most, double w one, pow_pos (w - 1))
above_size false w f n one h = omega (arith, ints, h.most, pow_pos w)

signed_above_size : (w : ℕ) (f : ℤ) (n : ℕ) → IsInRange (record { signed = true; word = w; fraction = f }) (pos n) → n < 2 ^ (w - 1)
signed_above_size w f n h = omega (arith, ints, h.most, pow_pos (w - 1))

signed_below_size : (w : ℕ) (f : ℤ) (n : ℕ) → IsInRange (record { signed = true; word = w; fraction = f }) (negsuc n) → n < 2 ^ (w - 1)
signed_below_size w f n h = omega (arith, ints, h.least, pow_pos (w - 1))

half_below : (w n : ℕ) → 1 ≤ w → n < 2 ^ (w - 1) → n < 2 ^ w
half_below w n one h = omega (arith, double w one)

quotient_below : (n k p : ℕ) → n < p → n / 2 ^ k < p
quotient_below n k p h = let d = div-le_self n (2 ^ k) in omega (arith, d)

-- ---- each bit of the floor of z / 2 ^ k

-- of a number that isn't below 0
bits_above : (s : Bool) (w : ℕ) (f : ℤ) (n k i : ℕ) → n < 2 ^ w → bit_of i (stored s w f (pos (n / 2 ^ k))) ≡ bit_at n (i + k)
bits_above s w f n k i h = ap (λ (x : ℕ). bit_at x i) (above s w f (n / 2 ^ k) (quotient_below n k (2 ^ w) h)) ∙ at_down n k i

-- of one that is
bits_below : (s : Bool) (w : ℕ) (f : ℤ) (n k i : ℕ) → n < 2 ^ w → i < w → bit_of i (stored s w f (negsuc (n / 2 ^ k))) ≡ 1 - bit_at n (i + k)
bits_below s w f n k i h l =
    let q = quotient_below n k (2 ^ w) h in
    ap (λ (x : ℕ). bit_at x i) (below s w f (n / 2 ^ k) q) ∙ at_turned w (n / 2 ^ k) i q l ∙ ap (λ (b : ℕ). 1 - b) (at_down n k i)

own_above : (s : Bool) (w : ℕ) (f : ℤ) (n i : ℕ) → n < 2 ^ w → bit_of i (stored s w f (pos n)) ≡ bit_at n i
own_above s w f n i h = ap (λ (x : ℕ). bit_at x i) (above s w f n h)

own_below : (s : Bool) (w : ℕ) (f : ℤ) (n i : ℕ) → n < 2 ^ w → i < w → bit_of i (stored s w f (negsuc n)) ≡ 1 - bit_at n i
own_below s w f n i h l = ap (λ (x : ℕ). bit_at x i) (below s w f n h) ∙ at_turned w n i h l

moved_by : (s : Bool) (w : ℕ) (f z : ℤ) (k i : ℕ) → 1 ≤ w → IsInRange (record { signed = s; word = w; fraction = f }) z → i + k < w
    → bit_of i (stored s w f (floor_of z (2 ^ k))) ≡ bit_of (i + k) (stored s w f z)
moved_by s w f (pos n) k i one h l =
    let b = above_size s w f n one h in
    bits_above s w f n k i b ∙ sym (own_above s w f n (i + k) b)
moved_by true w f (negsuc n) k i one h l =
    let b = half_below w n one (signed_below_size w f n h) in
    bits_below true w f n k i b (omega arith) ∙ sym (own_below true w f n (i + k) b l)
moved_by false w f (negsuc n) k i one h l = absurd (omega (arith, ints, h.least))

signs_by : (w : ℕ) (f z : ℤ) (k i : ℕ) → 1 ≤ w → IsInRange (record { signed = true; word = w; fraction = f }) z → i < w → w ≤ i + k
    → bit_of i (stored true w f (floor_of z (2 ^ k))) ≡ bit_of (w - 1) (stored true w f z)
signs_by w f (pos n) k i one h l u =
    let b = signed_above_size w f n h in
    let c = half_below w n one b in
    bits_above true w f n k i c ∙ bit_at_above n (w - 1) (i + k) b (omega arith)
    ∙ sym (own_above true w f n (w - 1) c ∙ bit_at_above n (w - 1) (w - 1) b (omega arith))
signs_by w f (negsuc n) k i one h l u =
    let b = signed_below_size w f n h in
    let c = half_below w n one b in
    bits_below true w f n k i c l ∙ ap (λ (x : ℕ). 1 - x) (bit_at_above n (w - 1) (i + k) b (omega arith))
    ∙ sym (own_below true w f n (w - 1) c (omega arith) ∙ ap (λ (x : ℕ). 1 - x) (bit_at_above n (w - 1) (w - 1) b (omega arith)))

zeros_by : (w : ℕ) (f z : ℤ) (k i : ℕ) → 1 ≤ w → IsInRange (record { signed = false; word = w; fraction = f }) z → w ≤ i + k
    → bit_of i (stored false w f (floor_of z (2 ^ k))) ≡ 0
zeros_by w f (pos n) k i one h u =
    let b = above_size false w f n one h in
    bits_above false w f n k i b ∙ bit_at_above n w (i + k) b u
zeros_by w f (negsuc n) k i one h u = absurd (omega (arith, ints, h.least))

-- ---- the laws

pub sign_moved : (k i : ℕ) (a : Element) → IsElement a → i + k < a.num.word → bit_of i (of_type a (sign_shifted k a)) ≡ bit_of (i + k) a
unfolding sign_shifted rounded
sign_moved k i a h l = moved_by a.num.signed a.num.word a.num.fraction a.z k i h.one_bit h.in_range l

signs_at : (s : Bool) (w : ℕ) (f z : ℤ) (k i : ℕ) → s ≡ true → 1 ≤ w → IsInRange (record { signed = s; word = w; fraction = f }) z → i < w → w ≤ i + k
    → bit_of i (stored s w f (floor_of z (2 ^ k))) ≡ bit_of (w - 1) (stored s w f z)
signs_at true w f z k i e one h l u = signs_by w f z k i one h l u
signs_at false w f z k i e one h l u = cc

pub sign_signs : (k i : ℕ) (a : Element) → IsElement a → a.num.signed ≡ true → i < a.num.word → a.num.word ≤ i + k → bit_of i (of_type a (sign_shifted k a)) ≡ bit_of (a.num.word - 1) a
unfolding sign_shifted rounded
sign_signs k i a h s l u = signs_at a.num.signed a.num.word a.num.fraction a.z k i s h.one_bit h.in_range l u

zeros_at : (s : Bool) (w : ℕ) (f z : ℤ) (k i : ℕ) → s ≡ false → 1 ≤ w → IsInRange (record { signed = s; word = w; fraction = f }) z → w ≤ i + k
    → bit_of i (stored s w f (floor_of z (2 ^ k))) ≡ 0
zeros_at true w f z k i e one h u = cc
zeros_at false w f z k i e one h u = zeros_by w f z k i one h u

pub sign_zeros : (k i : ℕ) (a : Element) → IsElement a → a.num.signed ≡ false → a.num.word ≤ i + k → bit_of i (of_type a (sign_shifted k a)) ≡ 0
unfolding sign_shifted rounded
sign_zeros k i a h s u = zeros_at a.num.signed a.num.word a.num.fraction a.z k i s h.one_bit h.in_range u
