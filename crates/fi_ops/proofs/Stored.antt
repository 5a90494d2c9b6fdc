-- Stored bits and shifts.
use Rattle.std.proofs.Common.{ℕ, zero, suc, ◌+◌, ◌-◌, ◌*◌, ◌/◌, ◌%◌, ◌^◌, ◌<◌, ◌≤◌, ◌≡◌, refl, sym, ap, ◌∙◌, Bool, true, false, arith}
use Rattle.std.specs.Prelude.{ℤ, pos, negsuc, ◌+ℤ◌, ◌*ℤ◌, ◌≤ℤ◌, nat_abs, bit_and}
use Rattle.std.specs.Int.{int_rem_euclid}
use Rattle.std.proofs.lemmas.Int.{ints, by_lt_z}
use Rattle.std.proofs.Math.Pow.{pow_mono}
use Rattle.std.proofs.Math.Nat.{mod-eq_of_lt, suc-mul}
use Rattle.std.proofs.lemmas.Nat.{pow_pos, pow-add, mul-le, and_mask}
use Rattle.fi_quant.proofs.Signs.{neg-mul}
use Rattle.num_type.specs.Whole.{is_below_zero}
use Rattle.num_type.specs.Types.{NumericType, IsInRange, low, high, least_of, greatest_of}
use Rattle.fi_quant.specs.Round.{IsFloor}
use Rattle.fi_quant.proofs.Once.{scale_le}
use Rattle.fi_ops.specs.Elements.{Element}
use Rattle.fi_ops.specs.Bits.{bits_of, word_type, concatenated, sliced}
use Rattle.fi_ops.proofs.Ranges.{any_size}
use Rattle.fi_ops.proofs.Sizes.{product_most}

mod_small : (n p : ℕ) → n < p → n % p ≡ n
mod_small n p h = mod-eq_of_lt h

pow_up : (i j : ℕ) → i ≤ j → 2 ^ i ≤ 2 ^ j
pow_up i j h = pow_mono h

pub size_below : (a : Element) (m : ℕ) → 1 ≤ a.num.word → IsInRange a.num a.z → m ≡ nat_abs a.z → m < 2 ^ a.num.word
size_below a m one h e = let s = any_size a.num.signed a.num.word a.num.fraction a.z one h in omega (arith, s, e)

above : (z : ℤ) (m p : ℕ) → false ≡ is_below_zero z → m ≡ nat_abs z → m < p → m ≡ nat_abs (int_rem_euclid z (pos p))
above (pos n) m p f e h = e ∙ sym (mod_small n p (omega (arith, e, h)))
above (negsuc n) m p f e h = cc

pub bits_above : (a : Element) (m : ℕ) → 1 ≤ a.num.word → IsInRange a.num a.z → false ≡ is_below_zero a.z → m ≡ nat_abs a.z → m ≡ bits_of a
unfolding bits_of
bits_above a m one h f e = above a.z m (2 ^ a.num.word) f e (size_below a m one h e)

below : (z : ℤ) (m p : ℕ) → true ≡ is_below_zero z → m ≡ nat_abs z → m < p → p - m ≡ nat_abs (int_rem_euclid z (pos p))
below (pos n) m p f e h = cc
below (negsuc n) m p f e h = let s : n % p ≡ n = mod_small n p (omega (arith, e, h)) in omega (arith, ints, s, e, h)

pub bits_below : (a : Element) (w m : ℕ) → 1 ≤ a.num.word → IsInRange a.num a.z → true ≡ is_below_zero a.z → w ≡ a.num.word → m ≡ nat_abs a.z → 2 ^ w - m ≡ bits_of a
unfolding bits_of
bits_below a w m one h f e g = rw e (below a.z m (2 ^ a.num.word) f g (size_below a m one h g))

-- a shifted word stays within 128 bits
pub shift_stays : (u w k : ℕ) → u < 2 ^ w → w ≤ 64 → k < w → u * 2 ^ k % 2 ^ 128 ≡ u * 2 ^ k
shift_stays u w k h b l =
    let m = product_most u (2 ^ k) w k (omega arith) (omega arith) in
    let p : 2 ^ (w + k) ≤ 2 ^ 127 = pow_up (w + k) 127 (omega arith) in
    mod_small (u * 2 ^ k) (2 ^ 128) (omega arith)

grown : (n p : ℕ) → 1 ≤ p → n ≤ n * p
grown n p h = let m : n * 1 ≤ n * p = mul-le n 1 n p (omega arith) h in omega arith

shrink_below : (x : ℤ) (p : ℕ) → 1 ≤ p → x ≤ℤ pos 0 → (x *ℤ pos p) ≤ℤ x
shrink_below (pos zero) p h k = omega (arith, ints)
shrink_below (pos (suc n)) p h k = absurd (omega (arith, ints, k))
shrink_below (negsuc n) p h k = omega (arith, ints, grown (suc n) p h, neg-mul (suc n) p)

grow_above : (x : ℤ) (p : ℕ) → 1 ≤ p → pos 0 ≤ℤ x → x ≤ℤ (x *ℤ pos p)
grow_above (pos n) p h k = omega (arith, ints, grown n p h)
grow_above (negsuc n) p h k = absurd (omega (arith, ints, k))

low_below : (s : Bool) (w : ℕ) → least_of s w ≤ℤ pos 0
low_below true w = omega (arith, ints)
low_below false w = omega (arith, ints)

high_above : (s : Bool) (w : ℕ) → pos 0 ≤ℤ (greatest_of s w +ℤ pos 1)
high_above true w = omega (arith, ints)
high_above false w = omega (arith, ints)

-- a number of a range that holds -1 or 0 on the side of its sign, rounded down
floor_by : (bottom top z : ℤ) (p : ℕ) (q : ℤ) → 1 ≤ p → bottom ≤ℤ pos 0 → pos 0 ≤ℤ (top +ℤ pos 1) → bottom ≤ℤ z → z ≤ℤ top → IsFloor z p q → (bottom ≤ℤ q) × (q ≤ℤ top)
floor_by bottom top z p q one b t l h f = (least, most)
  where
    least : bottom ≤ℤ q
    least = by_lt_z q bottom (λ k. absurd (let s = scale_le (q +ℤ pos 1) bottom p (omega (arith, ints, k)) in let d = shrink_below bottom p one b in omega (arith, ints, f.most, s, d, l))) (λ k. k)

    most : q ≤ℤ top
    most = by_lt_z top q (λ k. absurd (let s = scale_le (top +ℤ pos 1) q p (omega (arith, ints, k)) in let d = grow_above (top +ℤ pos 1) p one t in omega (arith, ints, f.least, s, d, h))) (λ k. k)

pub floor_inside : (t : NumericType) (z : ℤ) (k : ℕ) (q : ℤ) → IsInRange t z → IsFloor z (2 ^ k) q → IsInRange t q
floor_inside t z k q h f = let r = floor_by (low t) (high t) z (2 ^ k) q (pow_pos k) (low_below t.signed t.word) (high_above t.signed t.word) h.least h.most f in record { least = r.0; most = r.1 }

-- ---- bits side by side

joined_below : (u v w x : ℕ) → u < 2 ^ w → v < 2 ^ x → u * 2 ^ x + v < 2 ^ (w + x)
joined_below u v w x h k =
    let m : suc u * 2 ^ x ≤ 2 ^ w * 2 ^ x = mul-le (suc u) (2 ^ x) (2 ^ w) (2 ^ x) h (omega arith) in
    omega (arith, suc-mul u (2 ^ x), pow-add 2 w x)

joined_stays : (u v w x : ℕ) → u < 2 ^ w → v < 2 ^ x → w ≤ 64 → x ≤ 64 → u * 2 ^ x % 2 ^ 128 ≡ u * 2 ^ x
joined_stays u v w x h k i j =
    let m = joined_below u v w x h k in
    let p : 2 ^ (w + x) ≤ 2 ^ 128 = pow_up (w + x) 128 (omega arith) in
    mod_small (u * 2 ^ x) (2 ^ 128) (omega arith)

same_power : (n m u : ℕ) → n ≡ m → u < 2 ^ m → u < 2 ^ n
same_power n m u e h = rw e h

pub concat_fits : (u v w x a b : ℕ) → w ≡ a → x ≡ b → u < 2 ^ a → v < 2 ^ b → a ≤ 64 → b ≤ 64 → u * 2 ^ x % 2 ^ 128 + v < 2 ^ (w + x)
concat_fits u v w x a b e f h k i j =
    let s = joined_stays u v w x (same_power w a u e h) (same_power x b v f k) (omega arith) (omega arith) in
    rw s (joined_below u v w x (same_power w a u e h) (same_power x b v f k))

packed : (n n' u u' : ℕ) → n ≡ n' → u ≡ u' → (let e : Element = record { num = word_type n; z = pos u } in e) ≡ (record { num = word_type n'; z = pos u' })
packed n n' u u' e f = rw (e, f) refl

pub concatenated_is : (a b : Element) (u v w x : ℕ) → w ≡ a.num.word → x ≡ b.num.word → u < 2 ^ a.num.word → v < 2 ^ b.num.word → a.num.word ≤ 64 → b.num.word ≤ 64 → u ≡ bits_of a → v ≡ bits_of b
    → (let e : Element = record { num = word_type (w + x); z = pos (u * 2 ^ x % 2 ^ 128 + v) } in e) ≡ concatenated a b
unfolding concatenated
concatenated_is a b u v w x e f h k i j p q =
    packed (w + x) (a.num.word + b.num.word) (u * 2 ^ x % 2 ^ 128 + v) (bits_of a * 2 ^ b.num.word + bits_of b) (omega arith)
    (ap (λ (n : ℕ). n + v) (joined_stays u v w x (same_power w a.num.word u e h) (same_power x b.num.word v f k) (omega arith) (omega arith)) ∙ rw (f, p, q) refl)

pub sliced_is : (a : Element) (l r u o : ℕ) → o ≡ 2 ^ (l - r + 1) - 1 → u ≡ bits_of a
    → (let e : Element = record { num = word_type (l - r + 1); z = pos (bit_and (u / 2 ^ (r - 1)) o) } in e) ≡ sliced l r a
unfolding sliced
sliced_is a l r u o e f =
    packed (l - r + 1) (l - r + 1) (bit_and (u / 2 ^ (r - 1)) o) (bits_of a / 2 ^ (r - 1) % 2 ^ (l - r + 1)) refl
    (ap (bit_and (u / 2 ^ (r - 1))) e ∙ and_mask (u / 2 ^ (r - 1)) (l - r + 1) ∙ ap (λ (n : ℕ). n / 2 ^ (r - 1) % 2 ^ (l - r + 1)) f)
