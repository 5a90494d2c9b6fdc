-- The span of a result holds each result of numbers in the spans of the operands.
use Rattle.std.proofs.Common.{◌≡◌, refl, ℕ, zero, suc, ◌*◌, Bool, true, false, arith}
use Rattle.std.specs.Prelude.{ℤ, pos, negsuc, ◌*ℤ◌, neg_ℤ, ◌≤ℤ◌, int_le}
use Rattle.std.proofs.lemmas.Int.{ints}
use Rattle.std.proofs.Math.IntN.{*ℤ_comm}
use Rattle.fi_quant.proofs.Once.{scale_le}
use Rattle.const_rules.proofs.OneForm.{at_most}
use Rattle.fi_rules.specs.declared.work.Work.{Work}
use Rattle.fi_rules.specs.declared.work.Work.TheVariants as work
use Rattle.fi_values.specs.Arithmetic.{is_arithmetic}
use Rattle.node_rules.specs.Pairs.{Span, IsIn, span_worked, lesser, greater, spanning, items_worked}

twice : (k : ℕ) → pos k ≡ neg_ℤ (neg_ℤ (pos k))
twice zero = refl
twice (suc k) = refl

-- a product by a number below 0 turns the order
times_below : (a : ℤ) (n : ℕ) → a *ℤ negsuc n ≡ neg_ℤ (a *ℤ pos (suc n))
times_below (pos zero) n = refl
times_below (pos (suc m)) n = refl
times_below (negsuc m) n = twice (suc m * suc n)

turned_le : (a b : ℤ) (n : ℕ) → a ≤ℤ b → (b *ℤ negsuc n) ≤ℤ (a *ℤ negsuc n)
turned_le a b n h = let k : (a *ℤ pos (suc n)) ≤ℤ (b *ℤ pos (suc n)) = scale_le a b (suc n) h in rw (times_below a n, times_below b n) (omega (arith, ints, k))

-- ---- the lesser and the greater of two

not_at_most : (x y : ℤ) → int_le x y ≡ false → y ≤ℤ x
not_at_most x y e = omega (arith, ints, e)

below_both : (x y : ℤ) → (lesser x y ≤ℤ x) × (lesser x y ≤ℤ y)
below_both x y = of (int_le x y) refl
  where
    of : (b : Bool) → int_le x y ≡ b → (lesser x y ≤ℤ x) × (lesser x y ≤ℤ y)
    of true e = rw e (omega (arith, ints), at_most x y e)
    of false e = rw e (not_at_most x y e, omega (arith, ints))

above_both : (x y : ℤ) → (x ≤ℤ greater x y) × (y ≤ℤ greater x y)
above_both x y = of (int_le x y) refl
  where
    of : (b : Bool) → int_le x y ≡ b → (x ≤ℤ greater x y) × (y ≤ℤ greater x y)
    of true e = rw e (at_most x y e, omega (arith, ints))
    of false e = rw e (omega (arith, ints), not_at_most x y e)

-- between two numbers, whichever is the lesser
pub record IsBetween (x y z : ℤ) : Type 0 where
  pub from : lesser x y ≤ℤ z
  pub to : z ≤ℤ greater x y

between_up : (x y z : ℤ) → x ≤ℤ z → z ≤ℤ y → IsBetween x y z
between_up x y z h k =
    let l = (below_both x y).0 in
    let g = (above_both x y).1 in
    record { from = omega (arith, ints, l, h); to = omega (arith, ints, g, k) }

between_down : (x y z : ℤ) → y ≤ℤ z → z ≤ℤ x → IsBetween x y z
between_down x y z h k =
    let l = (below_both x y).1 in
    let g = (above_both x y).0 in
    record { from = omega (arith, ints, l, h); to = omega (arith, ints, g, k) }

-- ---- products

times_between : (lo hi a b : ℤ) → lo ≤ℤ a → a ≤ℤ hi → IsBetween (lo *ℤ b) (hi *ℤ b) (a *ℤ b)
times_between lo hi a (pos n) h k = between_up _ _ _ (scale_le lo a n h) (scale_le a hi n k)
times_between lo hi a (negsuc n) h k = between_down _ _ _ (turned_le a hi n k) (turned_le lo a n h)

times_between_left : (lo hi a b : ℤ) → lo ≤ℤ b → b ≤ℤ hi → IsBetween (a *ℤ lo) (a *ℤ hi) (a *ℤ b)
times_between_left lo hi a b h k = rw (*ℤ_comm a lo, *ℤ_comm a hi, *ℤ_comm a b) (times_between lo hi b a h k)

least : (x y z c e : ℤ) → c ≤ℤ x → e ≤ℤ y → lesser x y ≤ℤ z → lesser c e ≤ℤ z
least x y z c e h k m = of (int_le x y) refl
  where
    of : (b : Bool) → int_le x y ≡ b → lesser c e ≤ℤ z
    of true i = let n = rw i at m in let l = (below_both c e).0 in omega (arith, ints, l, h, n)
    of false i = let n = rw i at m in let l = (below_both c e).1 in omega (arith, ints, l, k, n)

most : (x y z c e : ℤ) → x ≤ℤ c → y ≤ℤ e → z ≤ℤ greater x y → z ≤ℤ greater c e
most x y z c e h k m = of (int_le x y) refl
  where
    of : (b : Bool) → int_le x y ≡ b → z ≤ℤ greater c e
    of true i = let n = rw i at m in let g = (above_both c e).1 in omega (arith, ints, g, k, n)
    of false i = let n = rw i at m in let g = (above_both c e).0 in omega (arith, ints, g, h, n)

product_in : (a b : ℤ) (p q : Span) → IsIn p a → IsIn q b → IsIn (spanning (p.lo *ℤ q.lo) (p.lo *ℤ q.hi) (p.hi *ℤ q.lo) (p.hi *ℤ q.hi)) (a *ℤ b)
product_in a b p q h k =
    let m = times_between p.lo p.hi a b h.from h.to in
    let u = times_between_left q.lo q.hi p.lo b k.from k.to in
    let v = times_between_left q.lo q.hi p.hi b k.from k.to in
    joined (p.lo *ℤ q.lo) (p.lo *ℤ q.hi) (p.hi *ℤ q.lo) (p.hi *ℤ q.hi) (p.lo *ℤ b) (p.hi *ℤ b) (a *ℤ b) u v m
  where
    joined : (c d e f x y z : ℤ) → IsBetween c d x → IsBetween e f y → IsBetween x y z → IsIn (spanning c d e f) z
    joined c d e f x y z u v m = record {
      from = least x y z (lesser c d) (lesser e f) u.from v.from m.from;
      to = most x y z (greater c d) (greater e f) u.to v.to m.to;
    }

-- ---- all of arithmetic

pub result_in : (w : Work) (a b : ℤ) (p q : Span) → is_arithmetic w ≡ true → IsIn p a → IsIn q b → IsIn (span_worked w p q) (items_worked w a b)
unfolding is_arithmetic span_worked items_worked
result_in work.Sum a b p q e h k = record { from = omega (arith, ints, h.from, k.from); to = omega (arith, ints, h.to, k.to) }
result_in work.Difference a b p q e h k = record { from = omega (arith, ints, h.from, k.to); to = omega (arith, ints, h.to, k.from) }
result_in work.Product a b p q e h k = product_in a b p q h k
result_in w a b p q e h k = absurd (cc)
