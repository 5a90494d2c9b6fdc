-- Patterns of bits and the stored integers that they stand for.
use Rattle.std.proofs.Common.{ℕ, ◌/◌, ◌%◌, ◌^◌, ◌<◌, ◌≤◌, ◌≡◌, refl, sym, ap, ◌∙◌, arith}
use Rattle.std.specs.Prelude.{ℤ, pos, neg_ℤ, ◌+ℤ◌, ◌*ℤ◌, nat_abs}
use Rattle.std.proofs.lemmas.Int.{ints}
use Rattle.std.proofs.lemmas.Nat.{pow_pos, mod_below, div-add-mod'}
use Rattle.std.proofs.lemmas.Nat.Bits.{same_from_bits_below}
use Rattle.num_type.specs.declared.methods.Overflow.TheVariants.{Wrap}
use Rattle.num_type.specs.Types.{NumericType, IsInRange}
use Rattle.fi_quant.specs.Split.{IsCongruent}
use Rattle.fi_quant.proofs.Fits.{wrap_unsigned}
use Rattle.fi_quant.proofs.Signs.{distrib}
use Rattle.fi_quant.proofs.Once.{fit_once}
use Rattle.fi_quant.proofs.Exist.{remainder_is, fitted_is, fitted_inside}
use Rattle.fi_ops.specs.Elements.{Element, IsElement}
use Rattle.fi_ops.specs.Bits.{bits_of, with_bits, word_type}
use Rattle.fi_bits.specs.Places.{bit_of}

pub bits_below : (a : Element) → bits_of a < 2 ^ a.num.word
unfolding bits_of
bits_below a =
    let r = remainder_is a.z (2 ^ a.num.word) (pow_pos a.num.word) in
    omega (arith, ints, r.least, r.most)

pub bits_same : (a : Element) → IsCongruent (2 ^ a.num.word) a.z (pos (bits_of a))
unfolding bits_of
bits_same a =
    let r = remainder_is a.z (2 ^ a.num.word) (pow_pos a.num.word) in
    record { turns = r.turns; congruent = omega (arith, ints, r.least, r.congruent) }

-- two patterns of one number are one
once : (w : ℕ) (z : ℤ) (u v : ℕ) → 1 ≤ w → u < 2 ^ w → v < 2 ^ w → IsCongruent (2 ^ w) z (pos u) → IsCongruent (2 ^ w) z (pos v) → u ≡ v
once w z u v one h k a b =
    let e : pos u ≡ pos v = fit_once Wrap (word_type w) z (pos u) (pos v) one (wrap_unsigned w u z h a) (wrap_unsigned w v z k b) in
    ap nat_abs e

whole : (u m : ℕ) → IsCongruent m (pos u) (pos (u % m))
whole u m = record { turns = pos (u / m); congruent = omega (arith, ints, div-add-mod' u m) }

chained : (m : ℕ) (x y z : ℤ) → IsCongruent m x y → IsCongruent m y z → IsCongruent m x z
chained m x y z a b = record { turns = a.turns +ℤ b.turns; congruent = omega (arith, ints, a.congruent, b.congruent, distrib a.turns b.turns m) }

negated : (s : ℤ) (p : ℕ) → neg_ℤ s *ℤ pos p ≡ neg_ℤ (s *ℤ pos p)
negated s p = grind (arith, ints)

with_same : (t : NumericType) (u : ℕ) → 1 ≤ t.word → IsCongruent (2 ^ t.word) (pos u) (with_bits t u)
unfolding with_bits
with_same t u one = let f = fitted_is Wrap t (pos u) one in record { turns = f.turns; congruent = f.congruent }

-- the bits of what a pattern stands for are its bits below the word length
pub bits_there : (t : NumericType) (u : ℕ) → 1 ≤ t.word → bits_of (record { num = t; z = with_bits t u }) ≡ u % 2 ^ t.word
bits_there t u one =
    let a : Element = record { num = t; z = with_bits t u } in
    once t.word (pos u) (bits_of a) (u % 2 ^ t.word) one (bits_below a) (mod_below u (2 ^ t.word) (pow_pos t.word))
    (chained (2 ^ t.word) (pos u) (with_bits t u) (pos (bits_of a)) (with_same t u one) (bits_same a)) (whole u (2 ^ t.word))

-- the bits of a number that is itself a pattern
pub bits_of_word : (w u : ℕ) → 1 ≤ w → bits_of (record { num = word_type w; z = pos u }) ≡ u % 2 ^ w
bits_of_word w u one =
    let a : Element = record { num = word_type w; z = pos u } in
    once w (pos u) (bits_of a) (u % 2 ^ w) one (bits_below a) (mod_below u (2 ^ w) (pow_pos w)) (bits_same a) (whole u (2 ^ w))

pub bits_back : (a : Element) → IsElement a → with_bits a.num (bits_of a) ≡ a.z
unfolding with_bits
bits_back a h =
    let c = bits_same a in
    fit_once Wrap a.num (pos (bits_of a)) (with_bits a.num (bits_of a)) a.z h.one_bit (fitted_is Wrap a.num (pos (bits_of a)) h.one_bit)
    (record { least = h.in_range.least; most = h.in_range.most; turns = neg_ℤ c.turns; congruent = omega (arith, ints, c.congruent, negated c.turns (2 ^ a.num.word)) })

pub with_inside : (t : NumericType) (u : ℕ) → 1 ≤ t.word → IsInRange t (with_bits t u)
unfolding with_bits
with_inside t u one = fitted_inside Wrap t (pos u) one

alike : (n n' : NumericType) (z z' : ℤ) → n ≡ n' → z ≡ z' → (let e : Element = record { num = n; z = z } in e) ≡ (record { num = n'; z = z' })
alike n n' z z' e f = rw (e, f) refl

same_number : (n n' : NumericType) (u u' : ℕ) → n ≡ n' → u ≡ u' → with_bits n u ≡ with_bits n' u'
same_number n n' u u' e f = rw (e, f) refl

power_along : (n n' : NumericType) (u : ℕ) → n ≡ n' → u < 2 ^ n'.word → u < 2 ^ n.word
power_along n n' u e h = rw e h

pub decided : (a b : Element) → IsElement a → IsElement b → a.num ≡ b.num → ((i : ℕ) → i < a.num.word → bit_of i a ≡ bit_of i b) → a ≡ b
decided a b h k e f =
    let u : bits_of a ≡ bits_of b = same_from_bits_below a.num.word (bits_of a) (bits_of b) (bits_below a) (power_along a.num b.num (bits_of b) e (bits_below b)) f in
    alike a.num b.num a.z b.z e (sym (bits_back a h) ∙ same_number a.num b.num (bits_of a) (bits_of b) e u ∙ bits_back b k)
