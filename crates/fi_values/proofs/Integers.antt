-- Stored integers that operations give are in the ranges of their types.
use Rattle.std.proofs.Common.{◌≡◌, ℕ, ◌+◌, ◌-◌, ◌*◌, ◌/◌, ◌^◌, ◌<◌, ◌≤◌, Bool, true, false, arith}
use Rattle.std.specs.Prelude.{ℤ, pos, neg_ℤ, ◌+ℤ◌, ◌-ℤ◌, Option}
use Rattle.std.proofs.lemmas.Int.{ints}
use Rattle.std.proofs.lemmas.Nat.{pow_pos, pow-add, mod_below, mul-le}
use Rattle.std.proofs.lemmas.Bool.{cond_both}
use Rattle.std.proofs.Math.Nat.{suc-mul}
use Rattle.num_type.specs.Constants.{Exact}
use Rattle.num_type.specs.Types.{NumericType, IsInRange}
use Rattle.num_type.specs.declared.methods.Rounding.TheVariants.{Floor}
use Rattle.num_type.specs.declared.methods.Overflow.TheVariants.{Wrap}
use Rattle.fi_quant.proofs.Exist.{fitted_inside, quantised_inside, rounded_is, remainder_is}
use Rattle.fi_math.specs.declared.fimath.Fimath.{Fimath}
use Rattle.fi_ops.specs.Elements.{Element}
use Rattle.fi_ops.specs.Bits.{bits_of, with_bits, left_shifted, right_shifted, sign_shifted, complemented, anded, ored, xored, word_type, concatenated, sliced}
use Rattle.fi_ops.specs.Operations as op
use Rattle.fi_ops.specs.Operations.{multiplied, joined, summed, subtracted, negated, absolute, aligned, common}
use Rattle.fi_ops.proofs.Ranges.{natural_unsigned}
use Rattle.fi_ops.proofs.Stored.{floor_inside}
use Rattle.fi_quant.specs.Numbers.{fitted}
use Rattle.fi_rules.specs.declared.work.Work.{Work}
use Rattle.fi_rules.specs.declared.work.Work.TheVariants as work
use Rattle.fi_eval.specs.Calls.{taken, taken_constant}
use Rattle.fi_eval.specs.Operators.{math_of, element, Turn, Negate, Remove, turned_element}
use Rattle.fi_values.specs.Arithmetic.{is_arithmetic}

-- ---- 0, and what is taken to a type

zero_by : (s : Bool) (w : ℕ) (f : ℤ) → IsInRange (record { signed = s; word = w; fraction = f }) (pos 0)
zero_by true w f = record { least = omega (arith, ints); most = omega (arith, ints) }
zero_by false w f = record { least = omega (arith, ints); most = omega (arith, ints) }

pub zero_in : (t : NumericType) → IsInRange t (pos 0)
zero_in t = zero_by t.signed t.word t.fraction

pub taken_in : (t : NumericType) (m : Option Fimath) (z f : ℤ) → 1 ≤ t.word → IsInRange t (taken t m z f)
taken_in t m z f h = quantised_inside (math_of m).rounding (math_of m).overflow t z f h

pub constant_in : (t : NumericType) (m : Option Fimath) (c : Exact) → 1 ≤ t.word → IsInRange t (taken_constant t m c)
constant_in t m c h = taken_in t m c.significand (neg_ℤ c.exponent) h

-- ---- operators

by_math_in : (m : Fimath) (t : NumericType) (z f : ℤ) → 1 ≤ t.word → IsInRange t (op.taken m t z f)
unfolding op.taken
by_math_in m t z f h = quantised_inside m.rounding m.overflow t z f h

pub multiplied_in : (m : Fimath) (t : NumericType) (a b : Element) → 1 ≤ t.word → IsInRange t (multiplied m t a b)
unfolding multiplied
multiplied_in m t a b h = by_math_in m t _ _ h

joined_in : (join : ℤ → ℤ → ℤ) (m : Fimath) (t : NumericType) (a b : Element) → 1 ≤ t.word → IsInRange t (joined join m t a b)
unfolding joined
joined_in join m t a b h =
    cond_both m.cast_before_sum (fitted m.overflow t (join (op.taken m t a.z a.num.fraction) (op.taken m t b.z b.num.fraction)))
    (op.taken m t (join (aligned (common a b) a) (aligned (common a b) b)) (common a b)) (IsInRange t)
    (λ e. fitted_inside m.overflow t _ h) (λ e. by_math_in m t _ _ h)

pub summed_in : (m : Fimath) (t : NumericType) (a b : Element) → 1 ≤ t.word → IsInRange t (summed m t a b)
summed_in m t a b h = joined_in (λ x y. x +ℤ y) m t a b h

pub subtracted_in : (m : Fimath) (t : NumericType) (a b : Element) → 1 ≤ t.word → IsInRange t (subtracted m t a b)
subtracted_in m t a b h = joined_in (λ x y. x -ℤ y) m t a b h

pub element_in : (w : Work) (m : Fimath) (t a b : NumericType) (x y : ℤ) → is_arithmetic w ≡ true → 1 ≤ t.word → IsInRange t (element w m t a b x y)
unfolding is_arithmetic
element_in work.Sum m t a b x y e h = summed_in m t _ _ h
element_in work.Difference m t a b x y e h = subtracted_in m t _ _ h
element_in work.Product m t a b x y e h = multiplied_in m t _ _ h
element_in work.Power m t a b x y e h = absurd (cc)
element_in work.Division m t a b x y e h = absurd (cc)
element_in work.Later m t a b x y e h = absurd (cc)

pub turned_in : (turn : Turn) (m : Fimath) (t : NumericType) (x : ℤ) → 1 ≤ t.word → IsInRange t (turned_element turn m t x)
unfolding negated absolute
turned_in Negate m t x h = fitted_inside m.overflow t _ h
turned_in Remove m t x h = fitted_inside m.overflow t _ h

-- ---- bits

with_in : (t : NumericType) (u : ℕ) → 1 ≤ t.word → IsInRange t (with_bits t u)
unfolding with_bits
with_in t u h = fitted_inside Wrap t (pos u) h

pub left_in : (k : ℕ) (a : Element) → 1 ≤ a.num.word → IsInRange a.num (left_shifted k a)
unfolding left_shifted
left_in k a h = with_in a.num _ h

pub right_in : (k : ℕ) (a : Element) → 1 ≤ a.num.word → IsInRange a.num (right_shifted k a)
unfolding right_shifted
right_in k a h = with_in a.num _ h

pub sign_in : (k : ℕ) (a : Element) → IsInRange a.num a.z → IsInRange a.num (sign_shifted k a)
unfolding sign_shifted
sign_in k a h = floor_inside a.num a.z k _ h (rounded_is Floor a.z k)

pub complemented_in : (a : Element) → 1 ≤ a.num.word → IsInRange a.num (complemented a)
unfolding complemented
complemented_in a h = with_in a.num _ h

pub anded_in : (a b : Element) → 1 ≤ a.num.word → IsInRange a.num (anded a b)
unfolding anded
anded_in a b h = with_in a.num _ h

pub ored_in : (a b : Element) → 1 ≤ a.num.word → IsInRange a.num (ored a b)
unfolding ored
ored_in a b h = with_in a.num _ h

pub xored_in : (a b : Element) → 1 ≤ a.num.word → IsInRange a.num (xored a b)
unfolding xored
xored_in a b h = with_in a.num _ h

bits_below : (a : Element) → bits_of a < 2 ^ a.num.word
unfolding bits_of
bits_below a =
    let r = remainder_is a.z (2 ^ a.num.word) (pow_pos a.num.word) in
    omega (arith, ints, r.least, r.most)

word_in : (w u : ℕ) → u < 2 ^ w → IsInRange (word_type w) (pos u)
word_in w u h = natural_unsigned w (pos 0) (pos u) (record { least = omega (arith, ints); most = omega (arith, ints) })

joined_below : (u v w x : ℕ) → u < 2 ^ w → v < 2 ^ x → u * 2 ^ x + v < 2 ^ (w + x)
joined_below u v w x h k =
    let m : (u + 1) * 2 ^ x ≤ 2 ^ w * 2 ^ x = mul-le (u + 1) (2 ^ x) (2 ^ w) (2 ^ x) (omega arith) (omega arith) in
    let e : (u + 1) * 2 ^ x ≡ u * 2 ^ x + 2 ^ x = omega (arith, suc-mul u (2 ^ x)) in
    omega (arith, pow-add 2 w x)

pub concatenated_in : (a b : Element) → IsInRange (word_type (a.num.word + b.num.word)) (concatenated a b).z
unfolding concatenated
concatenated_in a b = word_in (a.num.word + b.num.word) _ (joined_below (bits_of a) (bits_of b) a.num.word b.num.word (bits_below a) (bits_below b))

pub sliced_in : (l r : ℕ) (a : Element) → IsInRange (word_type (l - r + 1)) (sliced l r a).z
unfolding sliced
sliced_in l r a = word_in (l - r + 1) _ (mod_below (bits_of a / 2 ^ (r - 1)) (2 ^ (l - r + 1)) (pow_pos (l - r + 1)))
