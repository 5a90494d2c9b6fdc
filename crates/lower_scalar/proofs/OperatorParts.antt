-- The parts of operations on real operands compute them.
use Rattle.std.proofs.Common.{◌≡◌, ℕ, zero, suc, ◌+◌, ◌-◌, ◌*◌, ◌/◌, ◌^◌, ◌%◌, ◌<◌, ◌≤◌, Bool, true, false, ◌||◌, List, [], ◌∷◌, ℤ, pos, negsuc, ◌+ℤ◌, ◌*ℤ◌, ◌≤ℤ◌, ◌<ℤ◌, Some, refl, sym, ap, ◌∙◌, subst, arith}
use Rattle.std.specs.Prelude.{◌-ℤ◌, neg_ℤ, nat_abs, unsigned_abs, max, All}
use Rattle.std.proofs.lemmas.Int.{ints, by_lt_z}
use Rattle.std.proofs.lemmas.Nat.{pow_pos, mod_below}
use Rattle.std.proofs.lemmas.List.Elements.{All-head, All-tail}
use Rattle.std.proofs.Math.Pow.{pow_mono}
use Rattle.num_type.specs.declared.methods.Overflow.{Overflow}
use Rattle.num_type.specs.declared.methods.Overflow.TheVariants.{Saturate, Wrap}
use Rattle.num_type.specs.Types.{NumericType, IsInRange, least_of, greatest_of}
use Rattle.fi_quant.specs.Fit.{IsFit}
use Rattle.fi_quant.specs.Numbers.{fitted, quantised}
use Rattle.fi_quant.proofs.Fits.{above, below}
use Rattle.fi_quant.proofs.Once.{fit_once}
use Rattle.fi_quant.proofs.Exist.{fitted_is}
use Rattle.fi_quant.proofs.Exact.{fitted_same}
use Rattle.fi_quant.proofs.Splits.{double}
use Rattle.fi_math.specs.declared.fimath.Fimath.{Fimath}
use Rattle.fi_math.specs.Full.{full_product}
use Rattle.fi_ops.specs.Operations.{multiplied, taken, negated, absolute}
use Rattle.fi_ops.proofs.Ranges.{product_inside}
use Rattle.c_tree.specs.declared.tree.CWord.TheVariants.{I64, U64}
use Rattle.c_tree.specs.declared.tree.COp.TheVariants as op
use Rattle.c_tree.specs.Tree.{Exp, Signed, Unsigned, Var, Neg, Binary, Choose}
use Rattle.c_tree.specs.Depth.{exp_depth}
use Rattle.c_tree.specs.WellFormed.{Scope}
use Rattle.c_tree.specs.Meaning.{State, Word, Int64, Uint64, wrapped}
use Rattle.lower_scalar.specs.Part.{Part, Operand, Stands, AllStand, IsTyped, word, word_for, reach, deepest, IsPart, on_one, on_two}
use Rattle.lower_scalar.specs.Shapes.{resigned, is_less, alone, over_one, quantised_part}
use Rattle.lower_scalar.specs.Operators.{element, product_of, multiplied_part, Multiplies, turned, turned_least, turned_plain, negated_by, negated_part, Negates, absolute_by, absolute_part, TakesSign}
use Rattle.lower_scalar.proofs.Says.{IsInt64, Says, signed_says, unsigned_says, mul_says, product_says, difference_says, neg_says, less_says}
use Rattle.lower_scalar.proofs.Typed.{Typed, t_signed, t_unsigned, t_sub, t_mul, t_neg, t_choose}
use Rattle.lower_scalar.proofs.Words.{IsUint64, IsWord, IsBits, any_bits, Holds, x_says, resigned_says}
use Rattle.lower_scalar.proofs.FitShapes.{range_word, half_most, wrapped_says, wrapped_bits}
use Rattle.lower_scalar.proofs.Formed.{Declares, half_ones_most, t_x, t_resigned, t_wrapped}
use Rattle.lower_scalar.proofs.Sizes.{IsSized, resigned_sized}
use Rattle.lower_scalar.proofs.Within.{IsPartWithin, is_part, IsMadeOf, made_part, same_part}
use Rattle.lower_scalar.proofs.QuantiseParts.{of, stands_says, type_word, one_part, alone_part, quantised_within}

-- ---- products

or_left : (a b : Bool) → a ≡ true → (a || b) ≡ true
or_left true b e = refl
or_left false b e = absurd (cc)

or_right : (a b : Bool) → b ≡ true → (a || b) ≡ true
or_right true b e = refl
or_right false b e = e

-- an operand of a type that leaves a bit for the sign is a word of a result's signedness
widened_word : (s so : Bool) (w : ℕ) (z : ℤ) → (so ≡ true → s ≡ true) → w ≤ 64 → (so ≡ false → s ≡ true → w ≤ 63) → least_of so w ≤ℤ z → z ≤ℤ greatest_of so w → IsWord s z
widened_word true true w z up lim room a b = range_word true w z lim a b
widened_word true false w z up lim room a b = let m : 2 ^ w ≤ 2 ^ 63 = pow_mono (room refl refl) in let p = pow_pos w in record { least = omega (arith, ints, a); most = omega (arith, ints, b, m, p) }
widened_word false true w z up lim room a b = absurd (let e : false ≡ true = up refl in cc)
widened_word false false w z up lim room a b = range_word false w z lim a b

product_word : {a b : Exp} {st : State} (s : Bool) (x y : ℤ) → IsWord s x → IsWord s y → IsWord s (x *ℤ y) → Says a st (word s x) → Says b st (word s y) → Says (Binary op.Mul a b) st (word s (x *ℤ y))
product_word true x y i j k p q = mul_says x y k p q
product_word false (pos m) (pos n) i j k p q = product_says m n (omega (arith, ints, k.most)) p q
product_word false (pos m) (negsuc n) i j k p q = absurd (omega (arith, ints, j.least))
product_word false (negsuc m) y i j k p q = absurd (omega (arith, ints, i.least))

product_made : (a b : Operand) → 1 ≤ a.num.word → 1 ≤ b.num.word → a.num.word + b.num.word ≤ 64 → IsMadeOf (a ∷ b ∷ []) (record { num = full_product a.num b.num; exp = product_of a b }) (on_two (λ x y. x *ℤ y))
product_made a b ea eb lim = record {
  typed = λ c h.
      let ta : Typed c a.exp (word_for a.num.signed) = record { is = (All-head (IsTyped c) a (b ∷ []) h).typed } in
      let tb : Typed c b.exp (word_for b.num.signed) = record { is = (All-head (IsTyped c) b [] (All-tail (IsTyped c) a (b ∷ []) h)).typed } in
      record { typed = (t_mul (word_for s) (t_resigned a.num.signed s ta) (t_resigned b.num.signed s tb)).is };
  stands = stands;
}
  where
    s : Bool
    s = a.num.signed || b.num.signed

    two : (st : State) (x y : ℤ) → Stands st a x → Stands st b y → Stands st (record { num = full_product a.num b.num; exp = product_of a b }) (x *ℤ y)
    two st x y hx hy =
        let i = hx.in_range in
        let j = hy.in_range in
        let r = product_inside a.num b.num x y ea eb i j in
        let wx : IsWord (a.num.signed || b.num.signed) x = widened_word (a.num.signed || b.num.signed) a.num.signed a.num.word x (or_left a.num.signed b.num.signed) (omega (arith, lim)) (λ e f. omega (arith, lim, eb)) i.least i.most in
        let wy : IsWord (a.num.signed || b.num.signed) y = widened_word (a.num.signed || b.num.signed) b.num.signed b.num.word y (or_right a.num.signed b.num.signed) (omega (arith, lim)) (λ e f. omega (arith, lim, ea)) j.least j.most in
        let wr : IsWord (a.num.signed || b.num.signed) (x *ℤ y) = range_word (a.num.signed || b.num.signed) (a.num.word + b.num.word) (x *ℤ y) lim r.least r.most in
        record {
          in_range = r;
          gives = (product_word (a.num.signed || b.num.signed) x y wx wy wr
              (resigned_says a.num.signed (a.num.signed || b.num.signed) x (type_word a.num x (omega (arith, lim)) i) wx (stands_says st a x hx))
              (resigned_says b.num.signed (a.num.signed || b.num.signed) y (type_word b.num y (omega (arith, lim)) j) wy (stands_says st b y hy))).says;
        }

    stands : (st : State) (zs : List ℤ) → AllStand st (a ∷ b ∷ []) zs → Stands st (record { num = full_product a.num b.num; exp = product_of a b }) (on_two (λ x y. x *ℤ y) zs)
    stands st [] h = absurd h
    stands st (x ∷ []) h = absurd h.1
    stands st (x ∷ y ∷ []) h = two st x y h.0 h.1.0
    stands st (x ∷ y ∷ z ∷ zs) h = absurd h.1.1

product_sized : (a b : Operand) (r : ℕ) → reach a.exp ≤ r → reach b.exp ≤ r → IsSized (product_of a b) (deepest (a ∷ b ∷ []) + 2) r
product_sized a b r ra rb =
    let pa : IsSized a.exp (deepest (a ∷ b ∷ [])) r = record { depth = omega arith; reads = ra } in
    let pb : IsSized b.exp (deepest (a ∷ b ∷ [])) r = record { depth = omega arith; reads = rb } in
    let qa = resigned_sized a.num.signed (a.num.signed || b.num.signed) (deepest (a ∷ b ∷ [])) r a.exp pa in
    let qb = resigned_sized b.num.signed (a.num.signed || b.num.signed) (deepest (a ∷ b ∷ [])) r b.exp pb in
    let da = qa.depth in
    let db = qb.depth in
    let la = qa.reads in
    let lb = qb.reads in
    record { depth = omega arith; reads = omega arith }

pub multiplied_is_part : (m : Fimath) (t : NumericType) (a b : Operand) (x : ℕ) → 1 ≤ t.word → t.word ≤ 64 → 1 ≤ a.num.word → 1 ≤ b.num.word → a.num.word + b.num.word ≤ 64 → reach a.exp ≤ x → reach b.exp ≤ x → Multiplies m t a b x (multiplied_part m t a b x)
unfolding multiplied taken
multiplied_is_part m t a b x one lim ea eb room ra rb =
    let size = product_sized a b x ra rb in
    let q = quantised_within m.rounding m.overflow t (full_product a.num b.num) (product_of a b) x one lim (omega (arith, ea)) room size.reads in
    let f : ℤ → ℤ = λ z. quantised m.rounding m.overflow t z (a.num.fraction +ℤ b.num.fraction) in
    let w = made_part 20 2 (a ∷ b ∷ []) (record { num = full_product a.num b.num; exp = product_of a b }) f (on_two (λ i j. i *ℤ j)) x t.signed (multiplied_part m t a b x) (omega (arith, size.depth)) (product_made a b ea eb room) q in
    is_part 22 (a ∷ b ∷ []) x t.signed (on_two (λ i j. f (i *ℤ j))) (multiplied_part m t a b x) (omega arith)
    (same_part 22 (a ∷ b ∷ []) x t.signed (λ zs. f (on_two (λ i j. i *ℤ j) zs)) (on_two (λ i j. f (i *ℤ j))) (multiplied_part m t a b x) same w)
  where
    same : (st : State) (zs : List ℤ) → AllStand st (a ∷ b ∷ []) zs
        → quantised m.rounding m.overflow t (on_two (λ i j. i *ℤ j) zs) (a.num.fraction +ℤ b.num.fraction) ≡ on_two (λ i j. quantised m.rounding m.overflow t (i *ℤ j) (a.num.fraction +ℤ b.num.fraction)) zs
    same st [] h = absurd h
    same st (x ∷ []) h = absurd h.1
    same st (x ∷ y ∷ []) h = refl
    same st (x ∷ y ∷ z ∷ zs) h = absurd h.1.1

-- ---- signs

-- a type of w bits, by its signedness
abbrev type_by : Bool → ℕ → ℤ → NumericType
type_by s w f = record { signed = s; word = w; fraction = f }

-- the one number that the action gives
fitted_is_this : (a : Overflow) (t : NumericType) (z q : ℤ) → 1 ≤ t.word → IsFit a t z q → q ≡ fitted a t z
fitted_is_this a t z q one h = fit_once a t z q (fitted a t z) one h (fitted_is a t z one)

turned_says : (a : Overflow) (st : State) (w x : ℕ) (f z : ℤ) → 1 ≤ w → w ≤ 64 → IsInRange (type_by true w f) z → Holds st x true z → Says (turned a w x) st (Int64 (fitted a (type_by true w f) (neg_ℤ z)))
turned_says a st w x f z one lim i h =
    by_lt_z z (neg_ℤ (pos (2 ^ (w - 1) - 1)))
    (λ n. subst (λ v. Says (turned a w x) st (Int64 v)) (fitted_is_this a (type_by true w f) (neg_ℤ z) (end a) one (is_end a n)) (less_says z (neg_ℤ (pos (2 ^ (w - 1) - 1))) (Int64 (end a)) var edge (λ g. end_says a) (λ g. absurd (omega (arith, ints, n, g)))))
    (λ n.
    let inside : IsInRange (type_by true w f) (neg_ℤ z) = record { least = omega (arith, ints, i.most, p); most = omega (arith, ints, n) } in
    subst (λ v. Says (turned a w x) st (Int64 v)) (sym (fitted_same a (type_by true w f) (neg_ℤ z) one inside))
    (less_says z (neg_ℤ (pos (2 ^ (w - 1) - 1))) (Int64 (neg_ℤ z)) var edge (λ g. absurd (omega (arith, ints, n, g))) (λ g. neg_says z (range_word true w (neg_ℤ z) lim inside.least inside.most) var)))
  where
    p : 0 < 2 ^ (w - 1)
    p = pow_pos (w - 1)

    m : 2 ^ (w - 1) ≤ 2 ^ 63
    m = half_most w lim

    var : Says (Var x) st (Int64 z)
    var = x_says st x true z h

    edge : Says (Neg (Signed (2 ^ (w - 1) - 1))) st (Int64 (neg_ℤ (pos (2 ^ (w - 1) - 1))))
    edge = neg_says (pos (2 ^ (w - 1) - 1)) (record { least = omega (arith, ints, m); most = omega (arith, ints) }) (signed_says (2 ^ (w - 1) - 1) st)

    end : Overflow → ℤ
    end Saturate = pos (2 ^ (w - 1) - 1)
    end Wrap = z

    end_says : (a : Overflow) → Says (turned_least a w x) st (Int64 (end a))
    end_says Saturate = signed_says (2 ^ (w - 1) - 1) st
    end_says Wrap = var

    is_end : (a : Overflow) → z <ℤ neg_ℤ (pos (2 ^ (w - 1) - 1)) → IsFit a (type_by true w f) (neg_ℤ z) (end a)
    is_end Saturate n = above (neg_ℤ (pos (2 ^ (w - 1)))) (pos (2 ^ (w - 1) - 1)) (neg_ℤ z) (omega (arith, ints)) (omega (arith, ints, n))
    is_end Wrap n = record { least = i.least; most = i.most; turns = pos 1; congruent = omega (arith, ints, n, i.least, p, double w one) }

t_turned : (a : Overflow) (c : Scope) (w x : ℕ) → w ≤ 64 → Declares c x true → Typed c (turned a w x) I64
t_turned a c w x lim h = t_choose I64 I64 (t_x c x true h) (t_neg (t_signed c (2 ^ (w - 1) - 1) (half_ones_most w lim))) (end a) (t_neg (t_x c x true h))
  where
    end : (a : Overflow) → Typed c (turned_least a w x) I64
    end Saturate = t_signed c (2 ^ (w - 1) - 1) (half_ones_most w lim)
    end Wrap = t_x c x true h

turned_sized : (a : Overflow) (w x : ℕ) → IsSized (turned a w x) 10 (suc x)
turned_sized Saturate w x = record { depth = omega arith; reads = omega arith }
turned_sized Wrap w x = record { depth = omega arith; reads = omega arith }

plain_turned_says : (a : Overflow) (st : State) (w : ℕ) (e : Exp) (f z : ℤ) → 1 ≤ w → w ≤ 64 → IsInRange (type_by false w f) z → Says e st (word false z) → Says (turned_plain a w e) st (word false (fitted a (type_by false w f) (neg_ℤ z)))
plain_turned_says a st w e f (negsuc n) one lim i p = absurd (omega (arith, ints, i.least))
plain_turned_says Saturate st w e f (pos n) one lim i p =
    subst (λ v. Says (Unsigned 0) st (word false v)) (fitted_is_this Saturate (type_by false w f) (neg_ℤ (pos n)) (pos 0) one (below (pos 0) (pos (2 ^ w - 1)) (neg_ℤ (pos n)) (omega (arith, ints)) (omega (arith, ints)))) (unsigned_says 0 st)
plain_turned_says Wrap st w e f (pos n) one lim i p =
    let minus : Says (Binary op.Sub (Unsigned 0) e) st (Uint64 (wrapped 64 (pos 0 -ℤ pos n))) = difference_says 0 n (unsigned_says 0 st) p in
    let r = wrapped_says false w (wrapped 64 (pos 0 -ℤ pos n)) one lim minus in
    let same : pos 0 -ℤ pos n ≡ neg_ℤ (pos n) = omega (arith, ints) in
    let bits_is : IsBits (neg_ℤ (pos n)) (wrapped 64 (pos 0 -ℤ pos n)) = subst (λ v. IsBits v (wrapped 64 (pos 0 -ℤ pos n))) same (any_bits (pos 0 -ℤ pos n)) in
    let fit = wrapped_bits false w (wrapped 64 (pos 0 -ℤ pos n)) (neg_ℤ (pos n)) r.number lim bits_is r.is in
    subst (λ v. Says (turned_plain Wrap w e) st (word false v)) (fitted_is_this Wrap (type_by false w f) (neg_ℤ (pos n)) r.number one fit) r.says

t_plain_turned : (a : Overflow) (c : Scope) (w : ℕ) (e : Exp) → w ≤ 64 → Typed c e U64 → Typed c (turned_plain a w e) U64
t_plain_turned Saturate c w e lim p = t_unsigned c 0 (omega arith)
t_plain_turned Wrap c w e lim p = t_wrapped false w lim (t_sub U64 (t_unsigned c 0 (omega arith)) p)

plain_turned_sized : (a : Overflow) (w r : ℕ) (e : Exp) → reach e ≤ r → IsSized (turned_plain a w e) (exp_depth e + 20) r
plain_turned_sized Saturate w r e h = record { depth = omega arith; reads = omega arith }
plain_turned_sized Wrap w r e h = record { depth = omega arith; reads = omega arith }

pub negated_is_part : (m : Fimath) (t : NumericType) (e : Exp) (x : ℕ) → 1 ≤ t.word → t.word ≤ 64 → reach e ≤ x → Negates m t e x (negated_part m.overflow t e x)
unfolding negated
negated_is_part m t e x one lim low = by t.signed t.word t.fraction one lim
  where
    by : (s : Bool) (w : ℕ) (f : ℤ) → 1 ≤ w → w ≤ 64 → IsPart (of (type_by s w f) e) x s (on_one (λ z. fitted m.overflow (type_by s w f) (neg_ℤ z))) (negated_by s m.overflow w e x)
    by true w f one lim =
        let size = turned_sized m.overflow w x in
        is_part 20 (of (type_by true w f) e) x true (on_one (λ z. fitted m.overflow (type_by true w f) (neg_ℤ z))) (negated_by true m.overflow w e x) (omega arith)
        (one_part (type_by true w f) e x (turned m.overflow w x) true (λ z. fitted m.overflow (type_by true w f) (neg_ℤ z)) low (record { depth = omega (arith, size.depth); reads = size.reads })
        (λ c h. t_turned m.overflow c w x lim h) (λ st z i h. turned_says m.overflow st w x f z one lim i h))
    by false w f one lim =
        is_part 20 (of (type_by false w f) e) x false (on_one (λ z. fitted m.overflow (type_by false w f) (neg_ℤ z))) (negated_by false m.overflow w e x) (omega arith)
        (alone_part (type_by false w f) e x (turned_plain m.overflow w e) false (λ z. fitted m.overflow (type_by false w f) (neg_ℤ z)) (plain_turned_sized m.overflow w x e low)
        (λ c h. t_plain_turned m.overflow c w e lim h) (λ st z s. plain_turned_says m.overflow st w e f z one lim s.in_range (stands_says st (record { num = type_by false w f; exp = e }) z s)))

absolute_says : (a : Overflow) (st : State) (w x : ℕ) (f z : ℤ) → 1 ≤ w → w ≤ 64 → IsInRange (type_by true w f) z → Holds st x true z
    → Says (Choose (is_less (Var x) (Signed 0)) (turned a w x) (Var x)) st (Int64 (fitted a (type_by true w f) (pos (nat_abs z))))
absolute_says a st w x f z one lim i h =
    less_says z (pos 0) (Int64 (fitted a (type_by true w f) (pos (nat_abs z)))) (x_says st x true z h) (signed_says 0 st)
    (λ n. let e : neg_ℤ z ≡ pos (nat_abs z) = omega (arith, ints, n) in subst (λ v. Says (turned a w x) st (Int64 (fitted a (type_by true w f) v))) e (turned_says a st w x f z one lim i h))
    (λ n.
    let e : z ≡ pos (nat_abs z) = omega (arith, ints, n) in
    subst (λ v. Says (Var x) st (Int64 (fitted a (type_by true w f) v))) e
    (subst (λ v. Says (Var x) st (Int64 v)) (sym (fitted_same a (type_by true w f) z one i)) (x_says st x true z h)))

pub absolute_is_part : (m : Fimath) (t : NumericType) (e : Exp) (x : ℕ) → 1 ≤ t.word → t.word ≤ 64 → reach e ≤ x → TakesSign m t e x (absolute_part m.overflow t e x)
unfolding absolute
absolute_is_part m t e x one lim low = by t.signed t.word t.fraction one lim
  where
    by : (s : Bool) (w : ℕ) (f : ℤ) → 1 ≤ w → w ≤ 64 → IsPart (of (type_by s w f) e) x s (on_one (λ z. fitted m.overflow (type_by s w f) (pos (nat_abs z)))) (absolute_by s m.overflow w e x)
    by true w f one lim =
        let size = turned_sized m.overflow w x in
        let d = size.depth in
        let r = size.reads in
        is_part 20 (of (type_by true w f) e) x true (on_one (λ z. fitted m.overflow (type_by true w f) (pos (nat_abs z)))) (absolute_by true m.overflow w e x) (omega arith)
        (one_part (type_by true w f) e x (Choose (is_less (Var x) (Signed 0)) (turned m.overflow w x) (Var x)) true (λ z. fitted m.overflow (type_by true w f) (pos (nat_abs z))) low (record { depth = omega arith; reads = omega arith })
        (λ c h. t_choose I64 I64 (t_x c x true h) (t_signed c 0 (omega arith)) (t_turned m.overflow c w x lim h) (t_x c x true h)) (λ st z i h. absolute_says m.overflow st w x f z one lim i h))
    by false w f one lim =
        is_part 20 (of (type_by false w f) e) x false (on_one (λ z. fitted m.overflow (type_by false w f) (pos (nat_abs z)))) (absolute_by false m.overflow w e x) (omega arith)
        (alone_part (type_by false w f) e x e false (λ z. fitted m.overflow (type_by false w f) (pos (nat_abs z))) (record { depth = omega arith; reads = low }) (λ c h. h)
        (λ st z s.
        let i = s.in_range in
        let k : z ≡ pos (nat_abs z) = omega (arith, ints, i.least) in
        subst (λ v. Says e st (word false (fitted m.overflow (type_by false w f) v))) k
        (subst (λ v. Says e st (word false v)) (sym (fitted_same m.overflow (type_by false w f) z one i)) (stands_says st (record { num = type_by false w f; exp = e }) z s))))
