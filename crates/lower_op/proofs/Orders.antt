-- Orders of exact values at two fraction lengths, and relations in them.
use Rattle.std.proofs.Common.{◌≡◌, ℕ, ◌^◌, ◌<◌, Bool, true, false, refl, sym, ap, ◌∙◌, arith, Less, Equal, Greater}
use Rattle.std.specs.Prelude.{ℤ, pos, ◌+ℤ◌, ◌-ℤ◌, ◌*ℤ◌, ◌≤ℤ◌, ◌<ℤ◌, nat_abs, int_lt, int_le, not}
use Rattle.std.specs.Int.{int_max}
use Rattle.std.specs.Ordering.{MatchOrdering, int_cmp, ordering_reverse, is_eq, is_ne}
use Rattle.std.specs.declared.cmp.Ordering.{Ordering}
use Rattle.std.specs.Cmp.{int_cmp_is, int_ranks}
use Rattle.std.proofs.lemmas.Cmp.{int_cmp_total}
use Rattle.std.proofs.lemmas.Int.{ints, clamps}
use Rattle.fi_quant.proofs.Signs.{distrib}
use Rattle.fi_quant.proofs.Once.{scale_le}
use Rattle.fi_ops.specs.Elements.{Element}
use Rattle.fi_ops.specs.Operations.{aligned, compared}
use Rattle.c_tree.specs.declared.tree.CRel.{CRel}
use Rattle.c_tree.specs.declared.tree.CRel.TheVariants as rel
use Rattle.c_tree.specs.Meaning.{related, number_of}
use Rattle.lower_op.specs.Comparisons.{holds_in}
use Rattle.lower_op.specs.CompareShapes.{turned, digit}

-- ---- relations

less_is : (x y : ℤ) → x <ℤ y → int_lt x y ≡ true
less_is x y h = let e : true ≡ int_lt x y = omega (arith, ints) in sym e

less_is_not : (x y : ℤ) → y ≤ℤ x → int_lt x y ≡ false
less_is_not x y h = let e : false ≡ int_lt x y = omega (arith, ints) in sym e

most_is : (x y : ℤ) → x ≤ℤ y → int_le x y ≡ true
most_is x y h = let e : true ≡ int_le x y = omega (arith, ints) in sym e

most_is_not : (x y : ℤ) → y <ℤ x → int_le x y ≡ false
most_is_not x y h = let e : false ≡ int_le x y = omega (arith, ints) in sym e

not_equal : (o : Ordering) → not (is_eq o) ≡ is_ne o
not_equal Less = refl
not_equal Equal = refl
not_equal Greater = refl

-- a relation of C in the order of two numbers
pub related_is : (r : CRel) (x y : ℤ) (o : Ordering) → MatchOrdering o (x <ℤ y) (x ≡ y) (y <ℤ x) → related r x y ≡ holds_in r o
related_is rel.Eq x y o h = sym (ap is_eq (int_cmp_is x y o h))
related_is rel.Ne x y o h = sym (ap (λ (i : Ordering). not (is_eq i)) (int_cmp_is x y o h)) ∙ not_equal o
related_is rel.Lt x y Less h = less_is x y h
related_is rel.Lt x y Equal h = less_is_not x y (omega (arith, ints, h))
related_is rel.Lt x y Greater h = less_is_not x y (omega (arith, ints, h))
related_is rel.Le x y Less h = most_is x y (omega (arith, ints, h))
related_is rel.Le x y Equal h = most_is x y (omega (arith, ints, h))
related_is rel.Le x y Greater h = most_is_not x y h
related_is rel.Gt x y Less h = less_is_not y x (omega (arith, ints, h))
related_is rel.Gt x y Equal h = less_is_not y x (omega (arith, ints, h))
related_is rel.Gt x y Greater h = less_is y x h
related_is rel.Ge x y Less h = most_is_not y x h
related_is rel.Ge x y Equal h = most_is y x (omega (arith, ints, h))
related_is rel.Ge x y Greater h = most_is y x (omega (arith, ints, h))

pub turned_is : (r : CRel) (o : Ordering) → holds_in (turned r) o ≡ holds_in r (ordering_reverse o)
turned_is rel.Eq Less = refl
turned_is rel.Eq Equal = refl
turned_is rel.Eq Greater = refl
turned_is rel.Ne Less = refl
turned_is rel.Ne Equal = refl
turned_is rel.Ne Greater = refl
turned_is rel.Lt Less = refl
turned_is rel.Lt Equal = refl
turned_is rel.Lt Greater = refl
turned_is rel.Le Less = refl
turned_is rel.Le Equal = refl
turned_is rel.Le Greater = refl
turned_is rel.Gt Less = refl
turned_is rel.Gt Equal = refl
turned_is rel.Gt Greater = refl
turned_is rel.Ge Less = refl
turned_is rel.Ge Equal = refl
turned_is rel.Ge Greater = refl

pub digit_is : (b : Bool) → pos (digit b) ≡ number_of b
digit_is true = refl
digit_is false = refl

-- ---- scaled numbers

scale_lt : (a b : ℤ) (p : ℕ) → 0 < p → a <ℤ b → (a *ℤ pos p) <ℤ (b *ℤ pos p)
scale_lt a b p s h =
    let m = scale_le (a +ℤ pos 1) b p (omega (arith, ints)) in
    omega (arith, ints, distrib a (pos 1) p)

-- a multiple of p beside another one
pub level_order : (u q v : ℤ) (p : ℕ) → 0 < p → u ≡ q *ℤ pos p → int_cmp u (v *ℤ pos p) ≡ int_cmp q v
level_order u q v p s e = by (int_cmp q v) (int_ranks q v)
  where
    by : (o : Ordering) → MatchOrdering o (q <ℤ v) (q ≡ v) (v <ℤ q) → int_cmp u (v *ℤ pos p) ≡ o
    by Less h = let m = scale_lt q v p s h in sym (int_cmp_is u (v *ℤ pos p) Less (omega (arith, ints)))
    by Equal h = sym (int_cmp_is u (v *ℤ pos p) Equal (e ∙ ap (λ (i : ℤ). i *ℤ pos p) h))
    by Greater h = let m = scale_lt v q p s h in sym (int_cmp_is u (v *ℤ pos p) Greater (omega (arith, ints)))

-- a number between two multiples of p beside another one
pub above_less : (u q v : ℤ) (p : ℕ) → u <ℤ ((q +ℤ pos 1) *ℤ pos p) → q <ℤ v → int_cmp u (v *ℤ pos p) ≡ Less
above_less u q v p h l =
    let m = scale_le (q +ℤ pos 1) v p (omega (arith, ints)) in
    sym (int_cmp_is u (v *ℤ pos p) Less (omega (arith, ints)))

pub above_greater : (u q v : ℤ) (p : ℕ) → (q *ℤ pos p) <ℤ u → v ≤ℤ q → int_cmp u (v *ℤ pos p) ≡ Greater
above_greater u q v p h l =
    let m = scale_le v q p l in
    sym (int_cmp_is u (v *ℤ pos p) Greater (omega (arith, ints)))

-- ---- elements

aligned_is : (f : ℤ) (e : Element) (k : ℕ) → nat_abs (f -ℤ e.num.fraction) ≡ k → aligned f e ≡ e.z *ℤ pos (2 ^ k)
unfolding aligned
aligned_is f e k h = ap (λ (i : ℕ). e.z *ℤ pos (2 ^ i)) h

pub times_one : (z : ℤ) → z *ℤ pos (2 ^ 0) ≡ z
times_one z = omega (arith, ints)

-- the first is finer by k bits, or none
pub order_left : (a b : Element) (k : ℕ) → a.num.fraction ≡ b.num.fraction +ℤ pos k → compared a b ≡ int_cmp a.z (b.z *ℤ pos (2 ^ k))
unfolding compared
order_left a b k h =
    let p : nat_abs (int_max a.num.fraction b.num.fraction -ℤ a.num.fraction) ≡ 0 = omega (arith, ints, clamps) in
    let q : nat_abs (int_max a.num.fraction b.num.fraction -ℤ b.num.fraction) ≡ k = omega (arith, ints, clamps) in
    let l : aligned (int_max a.num.fraction b.num.fraction) a ≡ a.z = aligned_is (int_max a.num.fraction b.num.fraction) a 0 p ∙ times_one a.z in
    let r : aligned (int_max a.num.fraction b.num.fraction) b ≡ b.z *ℤ pos (2 ^ k) = aligned_is (int_max a.num.fraction b.num.fraction) b k q in
    ap (λ (i : ℤ). int_cmp i (aligned (int_max a.num.fraction b.num.fraction) b)) l ∙ ap (λ (i : ℤ). int_cmp a.z i) r

-- the second is
pub order_right : (a b : Element) (k : ℕ) → b.num.fraction ≡ a.num.fraction +ℤ pos k → compared a b ≡ ordering_reverse (int_cmp b.z (a.z *ℤ pos (2 ^ k)))
unfolding compared
order_right a b k h =
    let p : nat_abs (int_max a.num.fraction b.num.fraction -ℤ b.num.fraction) ≡ 0 = omega (arith, ints, clamps) in
    let q : nat_abs (int_max a.num.fraction b.num.fraction -ℤ a.num.fraction) ≡ k = omega (arith, ints, clamps) in
    let r : aligned (int_max a.num.fraction b.num.fraction) b ≡ b.z = aligned_is (int_max a.num.fraction b.num.fraction) b 0 p ∙ times_one b.z in
    let l : aligned (int_max a.num.fraction b.num.fraction) a ≡ a.z *ℤ pos (2 ^ k) = aligned_is (int_max a.num.fraction b.num.fraction) a k q in
    ap (λ (i : ℤ). int_cmp i (aligned (int_max a.num.fraction b.num.fraction) b)) l
    ∙ (ap (λ (i : ℤ). int_cmp (a.z *ℤ pos (2 ^ k)) i) r ∙ int_cmp_total.antisymm (a.z *ℤ pos (2 ^ k)) b.z)
