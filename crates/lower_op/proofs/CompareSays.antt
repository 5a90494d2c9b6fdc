-- What the shapes of comparisons give.
use Rattle.std.proofs.Common.{◌≡◌, ℕ, ◌+◌, ◌^◌, ◌%◌, ◌<◌, ◌≤◌, Bool, true, false, ℤ, pos, negsuc, ◌+ℤ◌, ◌*ℤ◌, ◌≤ℤ◌, ◌<ℤ◌, refl, sym, ap, ◌∙◌, subst, arith, inl, inr, Less, Equal, Greater, if◌then◌else◌}
use Rattle.std.specs.Prelude.{neg_ℤ, nat_lt}
use Rattle.std.specs.Ordering.{int_cmp}
use Rattle.std.specs.declared.cmp.Ordering.{Ordering}
use Rattle.std.specs.Cmp.{int_ranks}
use Rattle.std.proofs.lemmas.Bool.{cases_lt, ltb-true, ltb-false}
use Rattle.std.proofs.lemmas.Int.{ints, by_lt_z}
use Rattle.std.proofs.lemmas.Nat.{pow_pos}
use Rattle.std.proofs.Math.Pow.{pow_mono}
use Rattle.num_type.specs.declared.methods.Rounding.TheVariants.{Floor}
use Rattle.fi_quant.specs.Round.{IsFloor}
use Rattle.fi_quant.specs.Numbers.{floor_of}
use Rattle.fi_quant.proofs.Exist.{floor_is}
use Rattle.fi_quant.proofs.Once.{rounded_once}
use Rattle.fi_quant.proofs.Signs.{neg-mul}
use Rattle.c_tree.specs.declared.tree.CRel.{CRel}
use Rattle.c_tree.specs.declared.tree.CRel.TheVariants as rel
use Rattle.c_tree.specs.Tree.{Exp, Signed, Var}
use Rattle.c_tree.specs.Tokens.{tokens}
use Rattle.c_tree.specs.Outcome.{Completes, ◌>>=◌, bind}
use Rattle.c_tree.specs.Meaning.{Word, Int64, Uint64, State, value, compared, related, number_of}
use Rattle.lower_scalar.specs.Part.{word}
use Rattle.lower_scalar.specs.Shapes.{floor_shift, far_floor, low_bits, bits_of}
use Rattle.lower_scalar.proofs.Says.{Says, signed_says, unsigned_says, plain_bits_says, less_says, below_says}
use Rattle.lower_scalar.proofs.Words.{IsWord, bits, bits_are, rest_is, floor_word, Holds, x_says, bits_of_says, low_bits_says, constant_says, minus_one_says, by_sign_says}
use Rattle.lower_scalar.proofs.Rows.{far_floor_below, far_floor as far_floor_row}
use Rattle.lower_scalar.proofs.RoundShapes.{floor_says}
use Rattle.lower_op.specs.Comparisons.{holds_in}
use Rattle.lower_op.specs.CompareShapes.{digit, truth_of, compare_words, compare_above, floor_at, rest_at, where_rest, compare_floor}
use Rattle.lower_op.proofs.Orders.{related_is, digit_is, level_order, above_less, above_greater}

-- ---- whole numbers

truth_says : {a b : Exp} {st : State} (r : CRel) (x y : Word) (v : Bool) → ((at : ℕ) → compared at r x y ≡ Completes v) → Says a st x → Says b st y → Says (truth_of r a b) st (Int64 (number_of v))
unfolding bind
truth_says {a} {b} {st} r x y v h p q = record {
  says = λ at.
      ap (λ g. (g >>= (λ i. value b st (at + 4 + 1 + tokens a) >>= (λ j. compared (at + 4 + tokens a) r i j))) >>= (λ t. Completes (Int64 (number_of t)))) (p.says (at + 4))
      ∙ (ap (λ g. (g >>= (λ j. compared (at + 4 + tokens a) r x j)) >>= (λ t. Completes (Int64 (number_of t)))) (q.says (at + 4 + 1 + tokens a))
      ∙ ap (λ g. g >>= (λ t. Completes (Int64 (number_of t)))) (h (at + 4 + tokens a)));
}

-- a constant truth value
digit_says : (st : State) (b c : Bool) → c ≡ b → Says (Signed (digit b)) st (Int64 (number_of c))
digit_says st b c e = subst (λ (z : ℤ). Says (Signed (digit b)) st (Int64 z)) (digit_is b ∙ sym (ap number_of e)) (signed_says (digit b) st)

pub words_say : (r : CRel) (st : State) (s t : Bool) (x y : ℕ) (f v : ℤ) → IsWord s f → IsWord t v → Holds st x s f → Holds st y t v → Says (compare_words r s x t y) st (Int64 (number_of (related r f v)))
unfolding compared
words_say r st true true x y f v i j h g = truth_says r (Int64 f) (Int64 v) (related r f v) (λ at. refl) (x_says st x true f h) (x_says st y true v g)
words_say r st false false x y (pos m) (pos n) i j h g = truth_says r (Uint64 m) (Uint64 n) (related r (pos m) (pos n)) (λ at. refl) (x_says st x false (pos m) h) (x_says st y false (pos n) g)
words_say r st false false x y (negsuc m) v i j h g = absurd (omega (arith, ints, i.least))
words_say r st false false x y (pos m) (negsuc n) i j h g = absurd (omega (arith, ints, j.least))
words_say r st true false x y f (negsuc n) i j h g = absurd (omega (arith, ints, j.least))
words_say r st true false x y (pos m) (pos n) i j h g =
    less_says (pos m) (pos 0) (Int64 (number_of (related r (pos m) (pos n)))) (x_says st x true (pos m) h) (signed_says 0 st)
    (λ l. absurd (omega (arith, ints, l)))
    (λ l. truth_says r (Uint64 m) (Uint64 n) (related r (pos m) (pos n)) (λ at. refl) (plain_bits_says m (omega (arith, ints, i.most)) (x_says st x true (pos m) h)) (x_says st y false (pos n) g))
words_say r st true false x y (negsuc m) (pos n) i j h g =
    less_says (negsuc m) (pos 0) (Int64 (number_of (related r (negsuc m) (pos n)))) (x_says st x true (negsuc m) h) (signed_says 0 st)
    (λ l. digit_says st (holds_in r Less) (related r (negsuc m) (pos n)) (related_is r (negsuc m) (pos n) Less (omega (arith, ints))))
    (λ l. absurd (omega (arith, ints, l)))
words_say r st false true x y (negsuc m) v i j h g = absurd (omega (arith, ints, i.least))
words_say r st false true x y (pos m) (pos n) i j h g =
    less_says (pos n) (pos 0) (Int64 (number_of (related r (pos m) (pos n)))) (x_says st y true (pos n) g) (signed_says 0 st)
    (λ l. absurd (omega (arith, ints, l)))
    (λ l. truth_says r (Uint64 m) (Uint64 n) (related r (pos m) (pos n)) (λ at. refl) (x_says st x false (pos m) h) (plain_bits_says n (omega (arith, ints, j.most)) (x_says st y true (pos n) g)))
words_say r st false true x y (pos m) (negsuc n) i j h g =
    less_says (negsuc n) (pos 0) (Int64 (number_of (related r (pos m) (negsuc n)))) (x_says st y true (negsuc n) g) (signed_says 0 st)
    (λ l. digit_says st (holds_in r Greater) (related r (pos m) (negsuc n)) (related_is r (pos m) (negsuc n) Greater (omega (arith, ints))))
    (λ l. absurd (omega (arith, ints, l)))

-- the same by the order of the two
words_in : (r : CRel) (st : State) (s t : Bool) (x y : ℕ) (f v : ℤ) (b : Bool) → related r f v ≡ b → IsWord s f → IsWord t v → Holds st x s f → Holds st y t v → Says (compare_words r s x t y) st (Int64 (number_of b))
words_in r st s t x y f v b e i j h g = subst (λ (c : Bool). Says (compare_words r s x t y) st (Int64 (number_of c))) e (words_say r st s t x y f v i j h g)

-- ---- the floor, and what is left

pub floor_at_says : (st : State) (s : Bool) (x k : ℕ) (u : ℤ) → IsWord s u → Holds st x s u → Says (floor_at s x k) st (word s (floor_of u (2 ^ k)))
floor_at_says st s x k u i h = by (nat_lt k 64) refl
  where
    far : (s : Bool) → 64 ≤ k → IsWord s u → Holds st x s u → Says (far_floor s x) st (word s (floor_of u (2 ^ k)))
    far true l i h =
        let wide : 2 ^ 64 ≤ 2 ^ k = pow_mono l in
        by_lt_z u (pos 0)
        (λ n.
        let same : negsuc 0 ≡ floor_of u (2 ^ k) = rounded_once Floor u k (negsuc 0) (floor_of u (2 ^ k)) (far_floor_below u (2 ^ k) n (omega (arith, ints, i.least, wide))) (floor_is u (2 ^ k) (pow_pos k)) in
        subst (λ (z : ℤ). Says (far_floor true x) st (Int64 z)) same (by_sign_says st x true u (Int64 (negsuc 0)) i h (λ t g. minus_one_says st) (λ g. absurd (omega (arith, ints, n, g)))))
        (λ n.
        let same : pos 0 ≡ floor_of u (2 ^ k) = rounded_once Floor u k (pos 0) (floor_of u (2 ^ k)) (far_floor_row u (2 ^ k) n (omega (arith, ints, i.most, wide))) (floor_is u (2 ^ k) (pow_pos k)) in
        subst (λ (z : ℤ). Says (far_floor true x) st (Int64 z)) same (by_sign_says st x true u (Int64 (pos 0)) i h (λ t g. absurd (omega (arith, ints, n, g))) (λ g. constant_says st true 0)))
    far false l i h =
        let wide : 2 ^ 64 ≤ 2 ^ k = pow_mono l in
        let same : pos 0 ≡ floor_of u (2 ^ k) = rounded_once Floor u k (pos 0) (floor_of u (2 ^ k)) (far_floor_row u (2 ^ k) i.least (omega (arith, ints, i.most, wide))) (floor_is u (2 ^ k) (pow_pos k)) in
        subst (λ (z : ℤ). Says (far_floor false x) st (word false z)) same (constant_says st false 0)

    by : (b : Bool) → nat_lt k 64 ≡ b → Says (if b then floor_shift s x k else far_floor s x) st (word s (floor_of u (2 ^ k)))
    by true e = floor_says st x s u k (ltb-true k 64 e) i h
    by false e = far s (ltb-false k 64 e) i h

-- what is left behind the floor: 0 where it is nothing, and more where it is something
record SaysRest (e : Exp) (st : State) (u q : ℤ) (p : ℕ) : Type 0 where
  number : ℕ
  gives : Says e st (Uint64 number)
  none : number ≡ 0 → u ≡ q *ℤ pos p
  some : 0 < number → (q *ℤ pos p) <ℤ u

rest_at_says : (st : State) (s : Bool) (x k : ℕ) (u : ℤ) → IsWord s u → Holds st x s u → SaysRest (rest_at s x k) st u (floor_of u (2 ^ k)) (2 ^ k)
rest_at_says st s x k u i h = by (nat_lt k 64) refl
  where
    q : ℤ
    q = floor_of u (2 ^ k)

    floor : IsFloor u (2 ^ k) (floor_of u (2 ^ k))
    floor = floor_is u (2 ^ k) (pow_pos k)

    zero_bits : (s : Bool) (u : ℤ) → IsWord s u → bits s u ≡ 0 → u ≡ pos 0
    zero_bits true (pos n) i e = omega (arith, ints, i.most, e)
    zero_bits true (negsuc n) i e = absurd (omega (arith, ints, i.least, e))
    zero_bits false (pos n) i e = omega (arith, ints, e)
    zero_bits false (negsuc n) i e = absurd (omega (arith, ints, i.least))

    some_bits : (s : Bool) (u : ℤ) → IsWord s u → 0 < bits s u → u ≡ pos 0 → ⊥
    some_bits true (pos n) i l e = omega (arith, ints, l, e)
    some_bits true (negsuc n) i l e = omega (arith, ints, e)
    some_bits false (pos n) i l e = omega (arith, ints, l, e)
    some_bits false (negsuc n) i l e = omega (arith, ints, e)

    least : (s : Bool) → IsWord s u → neg_ℤ (pos (2 ^ 63)) ≤ℤ u
    least true i = i.least
    least false i = omega (arith, ints, i.least)

    most : (s : Bool) → IsWord s u → u <ℤ pos (2 ^ 64)
    most true i = omega (arith, ints, i.most)
    most false i = i.most

    far : 64 ≤ k → SaysRest (bits_of s (Var x)) st u (floor_of u (2 ^ k)) (2 ^ k)
    far l =
        let wide : 2 ^ 64 ≤ 2 ^ k = pow_mono l in
        let a = least s i in
        let b = most s i in
        record {
          number = bits s u;
          gives = bits_of_says s u (x_says st x s u h);
          none = λ e.
              let z : u ≡ pos 0 = zero_bits s u i e in
              let same : pos 0 ≡ floor_of u (2 ^ k) = rounded_once Floor u k (pos 0) (floor_of u (2 ^ k)) (far_floor_row u (2 ^ k) (omega (arith, ints, z)) (omega (arith, ints, z, wide))) floor in
              subst (λ (j : ℤ). u ≡ j *ℤ pos (2 ^ k)) same (omega (arith, ints, z));
          some = λ g.
              by_lt_z u (pos 0)
              (λ n.
              let same : negsuc 0 ≡ floor_of u (2 ^ k) = rounded_once Floor u k (negsuc 0) (floor_of u (2 ^ k)) (far_floor_below u (2 ^ k) n (omega (arith, ints, a, wide))) floor in
              subst (λ (j : ℤ). (j *ℤ pos (2 ^ k)) <ℤ u) same (omega (arith, ints, neg-mul 1 (2 ^ k), a, wide)))
              (λ n.
              let same : pos 0 ≡ floor_of u (2 ^ k) = rounded_once Floor u k (pos 0) (floor_of u (2 ^ k)) (far_floor_row u (2 ^ k) n (omega (arith, ints, b, wide))) floor in
              subst (λ (j : ℤ). (j *ℤ pos (2 ^ k)) <ℤ u) same
              (by_lt_z (pos 0) u (λ m. omega (arith, ints, m)) (λ m. absurd (some_bits s u i g (omega (arith, ints, n, m))))));
        }

    near : k < 64 → SaysRest (low_bits s x k) st u (floor_of u (2 ^ k)) (2 ^ k)
    near l =
        let e : u ≡ floor_of u (2 ^ k) *ℤ pos (2 ^ k) +ℤ pos (bits s u % 2 ^ k) = rest_is u (floor_of u (2 ^ k)) k (bits s u) (omega (arith, l)) (bits_are s u i) floor in
        record {
          number = bits s u % 2 ^ k;
          gives = low_bits_says st x s u k h;
          none = λ g. omega (arith, ints, e, g);
          some = λ g. omega (arith, ints, e, g);
        }

    by : (b : Bool) → nat_lt k 64 ≡ b → SaysRest (if b then low_bits s x k else bits_of s (Var x)) st u (floor_of u (2 ^ k)) (2 ^ k)
    by true e = near (ltb-true k 64 e)
    by false e = far (ltb-false k 64 e)

-- ---- two fraction lengths

-- a word u, of which the floor of u / 2 ^ k stands in f, and a word v
pub record HoldsBoth (st : State) (s : Bool) (x k f : ℕ) (t : Bool) (y : ℕ) (u v : ℤ) : Type 0 where
  pub number : Holds st x s u
  pub floor : Holds st f s (floor_of u (2 ^ k))
  pub other : Holds st y t v
  pub is_word : IsWord s u
  pub is_other : IsWord t v
  pub some : 1 ≤ k

-- the relations of u and v * 2 ^ k where u isn't a multiple of 2 ^ k
above_says : (r : CRel) (st : State) (s : Bool) (x k f : ℕ) (t : Bool) (y : ℕ) (u v : ℤ) → HoldsBoth st s x k f t y u v → (floor_of u (2 ^ k) *ℤ pos (2 ^ k)) <ℤ u
    → Says (compare_above r s f t y) st (Int64 (number_of (holds_in r (int_cmp u (v *ℤ pos (2 ^ k))))))
above_says r st s x k f t y u v h g =
    by_lt_z (floor_of u (2 ^ k)) v
    (λ l. subst (λ (o : Ordering). Says (compare_above r s f t y) st (Int64 (number_of (holds_in r o)))) (sym (above_less u (floor_of u (2 ^ k)) v (2 ^ k) (floor_is u (2 ^ k) (pow_pos k)).most l)) (less r l))
    (λ l. subst (λ (o : Ordering). Says (compare_above r s f t y) st (Int64 (number_of (holds_in r o)))) (sym (above_greater u (floor_of u (2 ^ k)) v (2 ^ k) g l)) (greater r l))
  where
    words : (r : CRel) (b : Bool) → related r (floor_of u (2 ^ k)) v ≡ b → Says (compare_words r s f t y) st (Int64 (number_of b))
    words r b e = words_in r st s t f y (floor_of u (2 ^ k)) v b e (floor_word s u k h.some h.is_word) h.is_other h.floor h.other

    less : (r : CRel) → floor_of u (2 ^ k) <ℤ v → Says (compare_above r s f t y) st (Int64 (number_of (holds_in r Less)))
    less rel.Eq l = signed_says 0 st
    less rel.Ne l = signed_says 1 st
    less rel.Lt l = words rel.Lt true (related_is rel.Lt (floor_of u (2 ^ k)) v Less l)
    less rel.Le l = words rel.Lt true (related_is rel.Lt (floor_of u (2 ^ k)) v Less l)
    less rel.Gt l = words rel.Ge false (related_is rel.Ge (floor_of u (2 ^ k)) v Less l)
    less rel.Ge l = words rel.Ge false (related_is rel.Ge (floor_of u (2 ^ k)) v Less l)

    not_less : v ≤ℤ floor_of u (2 ^ k) → related rel.Lt (floor_of u (2 ^ k)) v ≡ false
    not_less l = by_lt_z v (floor_of u (2 ^ k))
        (λ m. related_is rel.Lt (floor_of u (2 ^ k)) v Greater m)
        (λ m. related_is rel.Lt (floor_of u (2 ^ k)) v Equal (omega (arith, ints, l, m)))

    at_least : v ≤ℤ floor_of u (2 ^ k) → related rel.Ge (floor_of u (2 ^ k)) v ≡ true
    at_least l = by_lt_z v (floor_of u (2 ^ k))
        (λ m. related_is rel.Ge (floor_of u (2 ^ k)) v Greater m)
        (λ m. related_is rel.Ge (floor_of u (2 ^ k)) v Equal (omega (arith, ints, l, m)))

    greater : (r : CRel) → v ≤ℤ floor_of u (2 ^ k) → Says (compare_above r s f t y) st (Int64 (number_of (holds_in r Greater)))
    greater rel.Eq l = signed_says 0 st
    greater rel.Ne l = signed_says 1 st
    greater rel.Lt l = words rel.Lt false (not_less l)
    greater rel.Le l = words rel.Lt false (not_less l)
    greater rel.Gt l = words rel.Ge true (at_least l)
    greater rel.Ge l = words rel.Ge true (at_least l)

-- and where it is one
level_says : (r : CRel) (st : State) (s : Bool) (x k f : ℕ) (t : Bool) (y : ℕ) (u v : ℤ) → HoldsBoth st s x k f t y u v → u ≡ floor_of u (2 ^ k) *ℤ pos (2 ^ k)
    → Says (compare_words r s f t y) st (Int64 (number_of (holds_in r (int_cmp u (v *ℤ pos (2 ^ k))))))
level_says r st s x k f t y u v h e =
    words_in r st s t f y (floor_of u (2 ^ k)) v (holds_in r (int_cmp u (v *ℤ pos (2 ^ k))))
    (related_is r (floor_of u (2 ^ k)) v (int_cmp (floor_of u (2 ^ k)) v) (int_ranks (floor_of u (2 ^ k)) v) ∙ ap (holds_in r) (sym (level_order u (floor_of u (2 ^ k)) v (2 ^ k) (pow_pos k) e)))
    (floor_word s u k h.some h.is_word) h.is_other h.floor h.other

pub compare_floor_says : (r : CRel) (st : State) (s : Bool) (x k f : ℕ) (t : Bool) (y : ℕ) (u v : ℤ) → HoldsBoth st s x k f t y u v
    → Says (compare_floor r s x k f t y) st (Int64 (number_of (holds_in r (int_cmp u (v *ℤ pos (2 ^ k))))))
unfolding compare_floor
compare_floor_says r st s x k f t y u v h = by r
  where
    rest : SaysRest (rest_at s x k) st u (floor_of u (2 ^ k)) (2 ^ k)
    rest = rest_at_says st s x k u h.is_word h.number

    chosen : (r : CRel) → Says (where_rest s x k (compare_above r s f t y) (compare_words r s f t y)) st (Int64 (number_of (holds_in r (int_cmp u (v *ℤ pos (2 ^ k))))))
    chosen r =
        below_says 0 rest.number (Int64 (number_of (holds_in r (int_cmp u (v *ℤ pos (2 ^ k)))))) (unsigned_says 0 st) rest.gives
        (λ n. above_says r st s x k f t y u v h (rest.some n)) (λ n. level_says r st s x k f t y u v h (rest.none (omega (arith, n))))

    plain : (r : CRel) → ((floor_of u (2 ^ k) *ℤ pos (2 ^ k)) <ℤ u → Says (compare_words r s f t y) st (Int64 (number_of (holds_in r (int_cmp u (v *ℤ pos (2 ^ k)))))))
        → Says (compare_words r s f t y) st (Int64 (number_of (holds_in r (int_cmp u (v *ℤ pos (2 ^ k))))))
    plain r g = elim (cases_lt 0 rest.number) [
      | inl n ↦ g (rest.some n)
      | inr n ↦ level_says r st s x k f t y u v h (rest.none (omega (arith, n)))
    ]

    by : (r : CRel) → Says (compare_floor r s x k f t y) st (Int64 (number_of (holds_in r (int_cmp u (v *ℤ pos (2 ^ k))))))
    by rel.Eq = chosen rel.Eq
    by rel.Ne = chosen rel.Ne
    by rel.Lt = plain rel.Lt (above_says rel.Lt st s x k f t y u v h)
    by rel.Le = chosen rel.Le
    by rel.Gt = chosen rel.Gt
    by rel.Ge = plain rel.Ge (above_says rel.Ge st s x k f t y u v h)
