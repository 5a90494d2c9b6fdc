-- The parts of exact sums and differences compute them.
use Rattle.std.proofs.Common.{◌≡◌, ℕ, zero, suc, ◌+◌, ◌-◌, ◌*◌, ◌^◌, ◌<◌, ◌≤◌, max, Bool, true, false, not, ◌||◌, ◌&&◌, ◌⊎◌, inl, inr, List, [], ◌∷◌, ℤ, pos, negsuc, ◌+ℤ◌, ◌*ℤ◌, ◌≤ℤ◌, ◌<ℤ◌, Some, refl, sym, ap, ◌∙◌, subst, arith, if◌then◌else◌}
use Rattle.std.specs.Prelude.{◌-ℤ◌, nat_abs, All}
use Rattle.std.specs.Int.{int_max}
use Rattle.std.proofs.lemmas.Int.{ints, clamps}
use Rattle.std.proofs.lemmas.Nat.{pow_pos}
use Rattle.std.proofs.lemmas.List.Elements.{All-head, All-tail}
use Rattle.num_type.specs.Types.{NumericType, IsInRange, least_of, greatest_of}
use Rattle.fi_quant.specs.Numbers.{quantised}
use Rattle.fi_quant.proofs.Exact.{quantised_same}
use Rattle.fi_quant.proofs.Signs.{neg-mul}
use Rattle.fi_math.specs.declared.fimath.Fimath.{Fimath}
use Rattle.fi_math.specs.Full.{full_sum, aligned_word}
use Rattle.fi_ops.specs.Elements.{Element, IsElement}
use Rattle.fi_ops.specs.Operations.{common, aligned, taken, summed, subtracted}
use Rattle.fi_ops.proofs.Ranges.{left_inside, right_inside, sum_inside, difference_inside}
use Rattle.fi_ops.proofs.Full.{sum_exact}
use Rattle.fi_ops.proofs.Taken.{joined_exact}
use Rattle.c_tree.specs.declared.tree.CWord.TheVariants.{I64, U64}
use Rattle.c_tree.specs.declared.tree.COp.TheVariants as op
use Rattle.c_tree.specs.Tree.{Exp, Cast, Binary}
use Rattle.c_tree.specs.Depth.{exp_depth}
use Rattle.c_tree.specs.WellFormed.{Scope}
use Rattle.c_tree.specs.Meaning.{State, Word, Int64, Uint64}
use Rattle.lower_scalar.specs.Part.{Part, Operand, Stands, AllStand, IsTyped, word, word_for, reach, deepest, IsPart, on_two}
use Rattle.lower_scalar.specs.Shapes.{resigned, raised, quantised_part}
use Rattle.lower_scalar.specs.Operators.{element, aligned_of, sum_of, exact_sum_part, Adds, difference_by, difference_of, difference_type, exact_difference_part, Subtracts}
use Rattle.lower_scalar.proofs.Says.{IsInt64, Says, add_says, sub_says, plus_says, number_says}
use Rattle.lower_scalar.proofs.Typed.{Typed, t_add, t_sub, t_number}
use Rattle.lower_scalar.proofs.Words.{IsUint64, IsWord, resigned_says, at_number}
use Rattle.lower_scalar.proofs.FitShapes.{range_word}
use Rattle.lower_scalar.proofs.Raised.{factor_word, raised_says}
use Rattle.lower_scalar.proofs.Formed.{t_raised, t_resigned}
use Rattle.lower_scalar.proofs.Sizes.{IsSized, raised_sized, resigned_sized}
use Rattle.lower_scalar.proofs.Within.{IsPartWithin, is_part, IsMadeOf, made_part, same_part}
use Rattle.lower_scalar.proofs.QuantiseParts.{stands_says, type_word, raised_most, quantised_within}

-- ---- aligned operands

-- how far an operand is raised
abbrev by : NumericType → Operand → ℕ
by t o = nat_abs (t.fraction -ℤ o.num.fraction)

aligned_says : (s : Bool) (t : NumericType) (o : Operand) (st : State) (z : ℤ) → o.num.word ≤ 64 → Stands st o z → IsWord s (z *ℤ pos (2 ^ by t o)) → Says (aligned_of s t.fraction o) st (word s (z *ℤ pos (2 ^ by t o)))
aligned_says s t o st z lim h w = raised_says s (by t o) z w (resigned_says o.num.signed s z (type_word o.num z lim h.in_range) (factor_word s z (by t o) w) (stands_says st o z h))

t_aligned : (c : Scope) (s : Bool) (t : NumericType) (o : Operand) → by t o < 64 → IsTyped c o → Typed c (aligned_of s t.fraction o) (word_for s)
t_aligned c s t o near h = let p : Typed c o.exp (word_for o.num.signed) = record { is = h.typed } in t_raised s (by t o) near (t_resigned o.num.signed s p)

aligned_sized : (s : Bool) (t : NumericType) (o : Operand) (d r : ℕ) → exp_depth o.exp ≤ d → reach o.exp ≤ r → IsSized (aligned_of s t.fraction o) (d + 11) r
aligned_sized s t o d r a b =
    let p : IsSized o.exp d r = record { depth = a; reads = b } in
    let q = raised_sized s (by t o) (d + 1) r (resigned o.num.signed s o.exp) (resigned_sized o.num.signed s d r o.exp p) in
    record { depth = omega (arith, q.depth); reads = q.reads }

sum_word : {a b : Exp} {st : State} (s : Bool) (x y : ℤ) → IsWord s x → IsWord s y → IsWord s (x +ℤ y) → Says a st (word s x) → Says b st (word s y) → Says (Binary op.Add a b) st (word s (x +ℤ y))
sum_word true x y i j k p q = add_says x y k p q
sum_word false (pos m) (pos n) i j k p q = plus_says m n (omega (arith, ints, k.most)) p q
sum_word false (pos m) (negsuc n) i j k p q = absurd (omega (arith, ints, j.least))
sum_word false (negsuc m) y i j k p q = absurd (omega (arith, ints, i.least))

-- what is known of two operands whose full sum has at most 64 bits
pub record CanAdd (a b : Operand) : Type 0 where
  pub left : 1 ≤ a.num.word
  pub right : 1 ≤ b.num.word
  pub room : (full_sum a.num b.num).word ≤ 64

left_bits : (a b : Operand) → (full_sum a.num b.num).word ≤ 64 → a.num.word + by (full_sum a.num b.num) a ≤ 63
left_bits a b h = omega (arith, h)

right_bits : (a b : Operand) → (full_sum a.num b.num).word ≤ 64 → b.num.word + by (full_sum a.num b.num) b ≤ 63
right_bits a b h = omega (arith, h)

both_typed : (c : Scope) (a b : Operand) → All (IsTyped c) (a ∷ b ∷ []) → IsTyped c a × IsTyped c b
both_typed c a b h = (All-head (IsTyped c) a (b ∷ []) h, All-head (IsTyped c) b [] (All-tail (IsTyped c) a (b ∷ []) h))

-- ---- sums

sum_made : (a b : Operand) → CanAdd a b → IsMadeOf (a ∷ b ∷ []) (record { num = full_sum a.num b.num; exp = sum_of a b }) (on_two (λ x y. x *ℤ pos (2 ^ by (full_sum a.num b.num) a) +ℤ y *ℤ pos (2 ^ by (full_sum a.num b.num) b)))
sum_made a b can = record {
  typed = λ c h.
      let e = both_typed c a b h in
      let la = left_bits a b can.room in
      let lb = right_bits a b can.room in
      record { typed = (t_add (word_for t.signed) (t_aligned c t.signed t a (omega (arith, la)) e.0) (t_aligned c t.signed t b (omega (arith, lb)) e.1)).is };
  stands = stands;
}
  where
    t : NumericType
    t = full_sum a.num b.num

    two : (st : State) (x y : ℤ) → Stands st a x → Stands st b y → Stands st (record { num = full_sum a.num b.num; exp = sum_of a b }) (x *ℤ pos (2 ^ by (full_sum a.num b.num) a) +ℤ y *ℤ pos (2 ^ by (full_sum a.num b.num) b))
    two st x y hx hy =
        let f : NumericType = full_sum a.num b.num in
        let la = left_bits a b can.room in
        let lb = right_bits a b can.room in
        let ix = left_inside a.num b.num x can.left hx.in_range in
        let iy = right_inside a.num b.num y can.right hy.in_range in
        let ir = sum_inside a.num b.num x y can.left can.right hx.in_range hy.in_range in
        let wx = range_word f.signed f.word (x *ℤ pos (2 ^ by (full_sum a.num b.num) a)) can.room ix.least ix.most in
        let wy = range_word f.signed f.word (y *ℤ pos (2 ^ by (full_sum a.num b.num) b)) can.room iy.least iy.most in
        let wr = range_word f.signed f.word (x *ℤ pos (2 ^ by (full_sum a.num b.num) a) +ℤ y *ℤ pos (2 ^ by (full_sum a.num b.num) b)) can.room ir.least ir.most in
        record {
          in_range = ir;
          gives = (sum_word (full_sum a.num b.num).signed (x *ℤ pos (2 ^ by (full_sum a.num b.num) a)) (y *ℤ pos (2 ^ by (full_sum a.num b.num) b)) wx wy wr
              (aligned_says (full_sum a.num b.num).signed (full_sum a.num b.num) a st x (omega (arith, la)) hx wx)
              (aligned_says (full_sum a.num b.num).signed (full_sum a.num b.num) b st y (omega (arith, lb)) hy wy)).says;
        }

    stands : (st : State) (zs : List ℤ) → AllStand st (a ∷ b ∷ []) zs → Stands st (record { num = full_sum a.num b.num; exp = sum_of a b }) (on_two (λ x y. x *ℤ pos (2 ^ by (full_sum a.num b.num) a) +ℤ y *ℤ pos (2 ^ by (full_sum a.num b.num) b)) zs)
    stands st [] h = absurd h
    stands st (x ∷ []) h = absurd h.1
    stands st (x ∷ y ∷ []) h = two st x y h.0 h.1.0
    stands st (x ∷ y ∷ z ∷ zs) h = absurd h.1.1

sum_sized : (a b : Operand) (r : ℕ) → reach a.exp ≤ r → reach b.exp ≤ r → IsSized (sum_of a b) (deepest (a ∷ b ∷ []) + 12) r
sum_sized a b r ra rb =
    let qa = aligned_sized (full_sum a.num b.num).signed (full_sum a.num b.num) a (deepest (a ∷ b ∷ [])) r (omega arith) ra in
    let qb = aligned_sized (full_sum a.num b.num).signed (full_sum a.num b.num) b (deepest (a ∷ b ∷ [])) r (omega arith) rb in
    let da = qa.depth in
    let db = qb.depth in
    let la = qa.reads in
    let lb = qb.reads in
    record { depth = omega arith; reads = omega arith }

exact_value : (m : Fimath) (t : NumericType) (a b : Operand) (st : State) (x y : ℤ) → CanAdd a b → (m.cast_before_sum ≡ false) ⊎ (t ≡ full_sum a.num b.num) → Stands st a x → Stands st b y
    → quantised m.rounding m.overflow t (x *ℤ pos (2 ^ by (full_sum a.num b.num) a) +ℤ y *ℤ pos (2 ^ by (full_sum a.num b.num) b)) (full_sum a.num b.num).fraction ≡ summed m t (element a.num x) (element b.num y)
unfolding taken aligned
exact_value m t a b st x y can (inl e) hx hy =
    joined_exact (λ i j. i +ℤ j) m t (element a.num x) (element b.num y)
    (quantised m.rounding m.overflow t (x *ℤ pos (2 ^ by (full_sum a.num b.num) a) +ℤ y *ℤ pos (2 ^ by (full_sum a.num b.num) b)) (full_sum a.num b.num).fraction) e refl
exact_value m t a b st x y can (inr e) hx hy =
    let ea : IsElement (element a.num x) = record { one_bit = can.left; in_range = hx.in_range } in
    let eb : IsElement (element b.num y) = record { one_bit = can.right; in_range = hy.in_range } in
    let ir = sum_inside a.num b.num x y can.left can.right hx.in_range hy.in_range in
    subst (λ u. quantised m.rounding m.overflow u (x *ℤ pos (2 ^ by (full_sum a.num b.num) a) +ℤ y *ℤ pos (2 ^ by (full_sum a.num b.num) b)) (full_sum a.num b.num).fraction ≡ summed m u (element a.num x) (element b.num y)) (sym e)
    (quantised_same m.rounding m.overflow (full_sum a.num b.num) (x *ℤ pos (2 ^ by (full_sum a.num b.num) a) +ℤ y *ℤ pos (2 ^ by (full_sum a.num b.num) b)) (full_sum a.num b.num).fraction (omega arith) refl ir
    ∙ sym (sum_exact m (element a.num x) (element b.num y) ea eb))

pub exact_sum_is_part : (m : Fimath) (t : NumericType) (a b : Operand) (x : ℕ) → 1 ≤ t.word → t.word ≤ 64 → CanAdd a b → (m.cast_before_sum ≡ false) ⊎ (t ≡ full_sum a.num b.num) → reach a.exp ≤ x → reach b.exp ≤ x → Adds m t a b x (exact_sum_part m t a b x)
exact_sum_is_part m t a b x one lim can e ra rb =
    let size = sum_sized a b x ra rb in
    let q = quantised_within m.rounding m.overflow t (full_sum a.num b.num) (sum_of a b) x one lim (omega arith) can.room size.reads in
    let g : List ℤ → ℤ = on_two (λ i j. i *ℤ pos (2 ^ by (full_sum a.num b.num) a) +ℤ j *ℤ pos (2 ^ by (full_sum a.num b.num) b)) in
    let f : ℤ → ℤ = λ z. quantised m.rounding m.overflow t z (full_sum a.num b.num).fraction in
    let w = made_part 20 12 (a ∷ b ∷ []) (record { num = full_sum a.num b.num; exp = sum_of a b }) f g x t.signed (exact_sum_part m t a b x) size.depth (sum_made a b can) q in
    is_part 32 (a ∷ b ∷ []) x t.signed (on_two (λ i j. summed m t (element a.num i) (element b.num j))) (exact_sum_part m t a b x) (omega arith)
    (same_part 32 (a ∷ b ∷ []) x t.signed (λ zs. f (g zs)) (on_two (λ i j. summed m t (element a.num i) (element b.num j))) (exact_sum_part m t a b x) same w)
  where
    same : (st : State) (zs : List ℤ) → AllStand st (a ∷ b ∷ []) zs
        → quantised m.rounding m.overflow t (on_two (λ i j. i *ℤ pos (2 ^ by (full_sum a.num b.num) a) +ℤ j *ℤ pos (2 ^ by (full_sum a.num b.num) b)) zs) (full_sum a.num b.num).fraction
        ≡ on_two (λ i j. summed m t (element a.num i) (element b.num j)) zs
    same st [] h = absurd h
    same st (i ∷ []) h = absurd h.1
    same st (i ∷ j ∷ []) h = exact_value m t a b st i j can e h.0 h.1.0
    same st (i ∷ j ∷ k ∷ zs) h = absurd h.1.1

-- ---- differences

-- an aligned unsigned operand leaves a bit
plain_most : (w n : ℕ) (z : ℤ) → w + n ≤ 63 → least_of false w ≤ℤ z → z ≤ℤ greatest_of false w → IsInt64 (z *ℤ pos (2 ^ n))
plain_most w n (pos m) h a b =
    let c = raised_most m w 63 n (omega (arith, ints, b, pow_pos w)) h in
    record { least = omega (arith, ints); most = omega (arith, ints, c) }
plain_most w n (negsuc m) h a b = absurd (omega (arith, ints, a))

plain_least : (n : ℕ) (z : ℤ) → pos 0 ≤ℤ z → pos 0 ≤ℤ (z *ℤ pos (2 ^ n))
plain_least n (pos m) h = omega (arith, ints)
plain_least n (negsuc m) h = absurd (omega (arith, ints, h))

or_false : (a b : Bool) → (a || b) ≡ false → (a ≡ false) × (b ≡ false)
or_false true b e = absurd (cc)
or_false false b e = (refl, e)

-- an unsigned word below 2 ^ 63 as an int64_t
as_number : {e : Exp} {st : State} (z : ℤ) → pos 0 ≤ℤ z → IsInt64 z → Says e st (word false z) → Says (Cast I64 e) st (Int64 z)
as_number (pos n) a i p = number_says n (omega (arith, ints, i.most)) p
as_number (negsuc n) a i p = absurd (omega (arith, ints, a))

difference_made : (a b : Operand) → CanAdd a b → IsMadeOf (a ∷ b ∷ []) (record { num = difference_type (full_sum a.num b.num); exp = difference_of a b }) (on_two (λ x y. x *ℤ pos (2 ^ by (full_sum a.num b.num) a) -ℤ y *ℤ pos (2 ^ by (full_sum a.num b.num) b)))
difference_made a b can = record { typed = λ c h. typed_by c (a.num.signed || b.num.signed) (both_typed c a b h); stands = stands }
  where
    typed_by : (c : Scope) (s : Bool) → IsTyped c a × IsTyped c b → IsTyped c (record { num = difference_type (full_sum a.num b.num); exp = difference_by s (full_sum a.num b.num).fraction a b })
    typed_by c true e =
        let la = left_bits a b can.room in
        let lb = right_bits a b can.room in
        record { typed = (t_sub I64 (t_aligned c true (full_sum a.num b.num) a (omega (arith, la)) e.0) (t_aligned c true (full_sum a.num b.num) b (omega (arith, lb)) e.1)).is }
    typed_by c false e =
        let la = left_bits a b can.room in
        let lb = right_bits a b can.room in
        record { typed = (t_sub I64 (t_number (t_aligned c false (full_sum a.num b.num) a (omega (arith, la)) e.0)) (t_number (t_aligned c false (full_sum a.num b.num) b (omega (arith, lb)) e.1))).is }

    two : (st : State) (x y : ℤ) → Stands st a x → Stands st b y → Stands st (record { num = difference_type (full_sum a.num b.num); exp = difference_of a b }) (x *ℤ pos (2 ^ by (full_sum a.num b.num) a) -ℤ y *ℤ pos (2 ^ by (full_sum a.num b.num) b))
    two st x y hx hy = some (a.num.signed || b.num.signed) refl
      where
        inside : (z : ℤ) → IsInt64 z → IsInRange (difference_type (full_sum a.num b.num)) z
        inside z i = record { least = i.least; most = omega (arith, ints, i.most) }

        some : (s : Bool) → (a.num.signed || b.num.signed) ≡ s → Stands st (record { num = difference_type (full_sum a.num b.num); exp = difference_by s (full_sum a.num b.num).fraction a b }) (x *ℤ pos (2 ^ by (full_sum a.num b.num) a) -ℤ y *ℤ pos (2 ^ by (full_sum a.num b.num) b))
        some true e =
            let u : ℤ = x *ℤ pos (2 ^ by (full_sum a.num b.num) a) in
            let v : ℤ = y *ℤ pos (2 ^ by (full_sum a.num b.num) b) in
            let la = left_bits a b can.room in
            let lb = right_bits a b can.room in
            let iu = left_inside a.num b.num x can.left hx.in_range in
            let iv = right_inside a.num b.num y can.right hy.in_range in
            let ir = difference_inside a.num b.num x y e can.left can.right hx.in_range hy.in_range in
            let wu : IsInt64 u = subst (λ i. IsWord i u) e (range_word (a.num.signed || b.num.signed) (full_sum a.num b.num).word u can.room iu.least iu.most) in
            let wv : IsInt64 v = subst (λ i. IsWord i v) e (range_word (a.num.signed || b.num.signed) (full_sum a.num b.num).word v can.room iv.least iv.most) in
            let wr : IsInt64 (u -ℤ v) = subst (λ i. IsWord i (u -ℤ v)) e (range_word (a.num.signed || b.num.signed) (full_sum a.num b.num).word (u -ℤ v) can.room ir.least ir.most) in
            record {
              in_range = inside (u -ℤ v) wr;
              gives = (sub_says u v wr (aligned_says true (full_sum a.num b.num) a st x (omega (arith, la)) hx wu) (aligned_says true (full_sum a.num b.num) b st y (omega (arith, lb)) hy wv)).says;
            }
        some false e =
            let u : ℤ = x *ℤ pos (2 ^ by (full_sum a.num b.num) a) in
            let v : ℤ = y *ℤ pos (2 ^ by (full_sum a.num b.num) b) in
            let la = left_bits a b can.room in
            let lb = right_bits a b can.room in
            let s = or_false a.num.signed b.num.signed e in
            let i = hx.in_range in
            let j = hy.in_range in
            let xl : pos 0 ≤ℤ x = subst (λ k. least_of k a.num.word ≤ℤ x) s.0 i.least in
            let yl : pos 0 ≤ℤ y = subst (λ k. least_of k b.num.word ≤ℤ y) s.1 j.least in
            let xm : x ≤ℤ greatest_of false a.num.word = subst (λ k. x ≤ℤ greatest_of k a.num.word) s.0 i.most in
            let ym : y ≤ℤ greatest_of false b.num.word = subst (λ k. y ≤ℤ greatest_of k b.num.word) s.1 j.most in
            let wu : IsInt64 u = plain_most a.num.word (by (full_sum a.num b.num) a) x la xl xm in
            let wv : IsInt64 v = plain_most b.num.word (by (full_sum a.num b.num) b) y lb yl ym in
            let zu : pos 0 ≤ℤ u = plain_least (by (full_sum a.num b.num) a) x xl in
            let zv : pos 0 ≤ℤ v = plain_least (by (full_sum a.num b.num) b) y yl in
            let pu : IsUint64 u = record { least = zu; most = omega (arith, ints, wu.most) } in
            let pv : IsUint64 v = record { least = zv; most = omega (arith, ints, wv.most) } in
            let wr : IsInt64 (u -ℤ v) = record { least = omega (arith, ints, zu, wv.most); most = omega (arith, ints, zv, wu.most) } in
            record {
              in_range = inside (u -ℤ v) wr;
              gives = (sub_says u v wr (as_number u zu wu (aligned_says false (full_sum a.num b.num) a st x (omega (arith, la)) hx pu)) (as_number v zv wv (aligned_says false (full_sum a.num b.num) b st y (omega (arith, lb)) hy pv))).says;
            }

    stands : (st : State) (zs : List ℤ) → AllStand st (a ∷ b ∷ []) zs → Stands st (record { num = difference_type (full_sum a.num b.num); exp = difference_of a b }) (on_two (λ x y. x *ℤ pos (2 ^ by (full_sum a.num b.num) a) -ℤ y *ℤ pos (2 ^ by (full_sum a.num b.num) b)) zs)
    stands st [] h = absurd h
    stands st (x ∷ []) h = absurd h.1
    stands st (x ∷ y ∷ []) h = two st x y h.0 h.1.0
    stands st (x ∷ y ∷ z ∷ zs) h = absurd h.1.1

difference_sized : (a b : Operand) (r : ℕ) → reach a.exp ≤ r → reach b.exp ≤ r → IsSized (difference_of a b) (deepest (a ∷ b ∷ []) + 13) r
difference_sized a b r ra rb = sized (a.num.signed || b.num.signed)
  where
    sized : (s : Bool) → IsSized (difference_by s (full_sum a.num b.num).fraction a b) (deepest (a ∷ b ∷ []) + 13) r
    sized true =
        let qa = aligned_sized true (full_sum a.num b.num) a (deepest (a ∷ b ∷ [])) r (omega arith) ra in
        let qb = aligned_sized true (full_sum a.num b.num) b (deepest (a ∷ b ∷ [])) r (omega arith) rb in
        let da = qa.depth in
        let db = qb.depth in
        let la = qa.reads in
        let lb = qb.reads in
        record { depth = omega arith; reads = omega arith }
    sized false =
        let qa = aligned_sized false (full_sum a.num b.num) a (deepest (a ∷ b ∷ [])) r (omega arith) ra in
        let qb = aligned_sized false (full_sum a.num b.num) b (deepest (a ∷ b ∷ [])) r (omega arith) rb in
        let da = qa.depth in
        let db = qb.depth in
        let la = qa.reads in
        let lb = qb.reads in
        record { depth = omega arith; reads = omega arith }

exact_left : (m : Fimath) (t : NumericType) (a b : Operand) (x y : ℤ) → m.cast_before_sum ≡ false
    → quantised m.rounding m.overflow t (x *ℤ pos (2 ^ by (full_sum a.num b.num) a) -ℤ y *ℤ pos (2 ^ by (full_sum a.num b.num) b)) (full_sum a.num b.num).fraction ≡ subtracted m t (element a.num x) (element b.num y)
unfolding taken aligned
exact_left m t a b x y e =
    joined_exact (λ i j. i -ℤ j) m t (element a.num x) (element b.num y)
    (quantised m.rounding m.overflow t (x *ℤ pos (2 ^ by (full_sum a.num b.num) a) -ℤ y *ℤ pos (2 ^ by (full_sum a.num b.num) b)) (full_sum a.num b.num).fraction) e refl

pub exact_difference_is_part : (m : Fimath) (t : NumericType) (a b : Operand) (x : ℕ) → 1 ≤ t.word → t.word ≤ 64 → CanAdd a b → m.cast_before_sum ≡ false → reach a.exp ≤ x → reach b.exp ≤ x → Subtracts m t a b x (exact_difference_part m t a b x)
exact_difference_is_part m t a b x one lim can e ra rb =
    let size = difference_sized a b x ra rb in
    let q = quantised_within m.rounding m.overflow t (difference_type (full_sum a.num b.num)) (difference_of a b) x one lim (omega arith) (omega arith) size.reads in
    let g : List ℤ → ℤ = on_two (λ i j. i *ℤ pos (2 ^ by (full_sum a.num b.num) a) -ℤ j *ℤ pos (2 ^ by (full_sum a.num b.num) b)) in
    let f : ℤ → ℤ = λ z. quantised m.rounding m.overflow t z (full_sum a.num b.num).fraction in
    let w = made_part 20 13 (a ∷ b ∷ []) (record { num = difference_type (full_sum a.num b.num); exp = difference_of a b }) f g x t.signed (exact_difference_part m t a b x) size.depth (difference_made a b can) q in
    is_part 33 (a ∷ b ∷ []) x t.signed (on_two (λ i j. subtracted m t (element a.num i) (element b.num j))) (exact_difference_part m t a b x) (omega arith)
    (same_part 33 (a ∷ b ∷ []) x t.signed (λ zs. f (g zs)) (on_two (λ i j. subtracted m t (element a.num i) (element b.num j))) (exact_difference_part m t a b x) same w)
  where
    same : (st : State) (zs : List ℤ) → AllStand st (a ∷ b ∷ []) zs
        → quantised m.rounding m.overflow t (on_two (λ i j. i *ℤ pos (2 ^ by (full_sum a.num b.num) a) -ℤ j *ℤ pos (2 ^ by (full_sum a.num b.num) b)) zs) (full_sum a.num b.num).fraction
        ≡ on_two (λ i j. subtracted m t (element a.num i) (element b.num j)) zs
    same st [] h = absurd h
    same st (i ∷ []) h = absurd h.1
    same st (i ∷ j ∷ []) h = exact_left m t a b i j e
    same st (i ∷ j ∷ k ∷ zs) h = absurd h.1.1
