-- The parts of comparisons compute them.
use Rattle.std.proofs.Common.{◌≡◌, ℕ, zero, suc, ◌+◌, ◌-◌, ◌^◌, ◌<◌, ◌≤◌, Bool, true, false, [], ◌∷◌, ℤ, pos, negsuc, ◌+ℤ◌, ◌*ℤ◌, refl, sym, ap, ◌∙◌, subst, arith, if◌then◌else◌, Less, Greater}
use Rattle.std.specs.Prelude.{◌-ℤ◌, nat_lt}
use Rattle.std.specs.Ordering.{int_cmp}
use Rattle.std.specs.declared.cmp.Ordering.{Ordering}
use Rattle.std.specs.Cmp.{int_ranks}
use Rattle.std.proofs.lemmas.Bool.{ltb-true}
use Rattle.std.proofs.lemmas.Int.{ints}
use Rattle.fi_quant.specs.Numbers.{floor_of}
use Rattle.fi_ops.specs.Operations.{compared}
use Rattle.c_tree.specs.declared.tree.CRel.{CRel}
use Rattle.c_tree.specs.declared.tree.CRel.TheVariants as rel
use Rattle.c_tree.specs.declared.tree.CWord.{CWord}
use Rattle.c_tree.specs.declared.tree.CWord.TheVariants.{I64, U64}
use Rattle.c_tree.specs.Tree.{Exp, Signed, Var}
use Rattle.c_tree.specs.WellFormed.{Scope, given, is_one_type}
use Rattle.c_tree.specs.Meaning.{Int64, number_of}
use Rattle.lower_scalar.specs.Part.{Operand, on_two, word_for}
use Rattle.lower_scalar.specs.Shapes.{floor_shift, far_floor, low_bits, bits_of}
use Rattle.lower_scalar.specs.Operators.{element}
use Rattle.lower_scalar.proofs.Says.{Says}
use Rattle.lower_scalar.proofs.Typed.{Typed, t_signed, t_unsigned, t_constant, t_and, t_bits, t_choose}
use Rattle.lower_scalar.proofs.Words.{IsWord}
use Rattle.lower_scalar.proofs.Formed.{Declares, ones_most, t_x, t_minus_one, t_bits_of, t_by_sign, t_floor}
use Rattle.lower_scalar.proofs.Sizes.{IsSized, floor_sized}
use Rattle.lower_scalar.proofs.Within.{is_part}
use Rattle.lower_scalar.proofs.QuantiseParts.{type_word}
use Rattle.lower_scalar.proofs.CastSums.{CanTake}
use Rattle.lower_op.specs.Comparisons.{holds_in, Compares}
use Rattle.lower_op.specs.CompareShapes.{digit, turned, truth_of, compare_words, floor_at, rest_at, where_rest, compare_floor, level_part, left_finer_part, right_finer_part, compared_by, compared_part}
use Rattle.lower_op.proofs.Orders.{related_is, turned_is, times_one, order_left, order_right}
use Rattle.lower_op.proofs.Pairs.{both_part, both_and_part}
use Rattle.lower_op.proofs.CompareSays.{words_say, floor_at_says, compare_floor_says}

-- ---- types

t_truth : {c : Scope} {a b : Exp} (r : CRel) (w : CWord) → Typed c a w → Typed c b w → Typed c (truth_of r a b) I64
unfolding is_one_type given
t_truth r I64 p q = record { is = λ i. given (is_one_type (p.is i) (q.is i)) I64 }
t_truth r U64 p q = record { is = λ i. given (is_one_type (p.is i) (q.is i)) I64 }

t_digit : (c : Scope) (b : Bool) → Typed c (Signed (digit b)) I64
t_digit c true = t_signed c 1 (omega arith)
t_digit c false = t_signed c 0 (omega arith)

t_words : (r : CRel) (c : Scope) (s t : Bool) (x y : ℕ) → Declares c x s → Declares c y t → Typed c (compare_words r s x t y) I64
t_words r c true true x y h g = t_truth r I64 (t_x c x true h) (t_x c y true g)
t_words r c true false x y h g =
    t_choose I64 I64 (t_x c x true h) (t_signed c 0 (omega arith)) (t_digit c (holds_in r Less)) (t_truth r U64 (t_bits (t_x c x true h)) (t_x c y false g))
t_words r c false true x y h g =
    t_choose I64 I64 (t_x c y true g) (t_signed c 0 (omega arith)) (t_digit c (holds_in r Greater)) (t_truth r U64 (t_x c x false h) (t_bits (t_x c y true g)))
t_words r c false false x y h g = t_truth r U64 (t_x c x false h) (t_x c y false g)

t_floor_at : (c : Scope) (s : Bool) (x k : ℕ) → Declares c x s → Typed c (floor_at s x k) (word_for s)
t_floor_at c s x k h = by (nat_lt k 64) refl
  where
    far : (s : Bool) → Declares c x s → Typed c (far_floor s x) (word_for s)
    far true h = t_by_sign x true I64 h (λ e. t_minus_one c) (t_constant c true 0 (omega arith))
    far false h = t_constant c false 0 (omega arith)

    by : (b : Bool) → nat_lt k 64 ≡ b → Typed c (if b then floor_shift s x k else far_floor s x) (word_for s)
    by true e = let l = ltb-true k 64 e in t_floor c x s k (omega (arith, l)) h
    by false e = far s h

t_where : {some none : Exp} (c : Scope) (s : Bool) (x k : ℕ) → Declares c x s → Typed c some I64 → Typed c none I64 → Typed c (where_rest s x k some none) I64
t_where c s x k h p q = t_choose U64 I64 (t_unsigned c 0 (omega arith)) (by (nat_lt k 64) refl) p q
  where
    by : (b : Bool) → nat_lt k 64 ≡ b → Typed c (if b then low_bits s x k else bits_of s (Var x)) U64
    by true e = let l = ltb-true k 64 e in t_and (t_bits_of s (t_x c x s h)) (t_unsigned c (2 ^ k - 1) (ones_most k (omega (arith, l))))
    by false e = t_bits_of s (t_x c x s h)

t_compare_floor : (r : CRel) (c : Scope) (s : Bool) (x k f : ℕ) (t : Bool) (y : ℕ) → Declares c x s → Declares c f s → Declares c y t → Typed c (compare_floor r s x k f t y) I64
unfolding compare_floor
t_compare_floor rel.Eq c s x k f t y h j g = t_where c s x k h (t_signed c 0 (omega arith)) (t_words rel.Eq c s t f y j g)
t_compare_floor rel.Ne c s x k f t y h j g = t_where c s x k h (t_signed c 1 (omega arith)) (t_words rel.Ne c s t f y j g)
t_compare_floor rel.Lt c s x k f t y h j g = t_words rel.Lt c s t f y j g
t_compare_floor rel.Le c s x k f t y h j g = t_where c s x k h (t_words rel.Lt c s t f y j g) (t_words rel.Le c s t f y j g)
t_compare_floor rel.Gt c s x k f t y h j g = t_where c s x k h (t_words rel.Ge c s t f y j g) (t_words rel.Gt c s t f y j g)
t_compare_floor rel.Ge c s x k f t y h j g = t_words rel.Ge c s t f y j g

-- ---- sizes

words_sized : (r : CRel) (s t : Bool) (x y n : ℕ) → x < n → y < n → IsSized (compare_words r s x t y) 6 n
words_sized r true true x y n h g = record { depth = omega arith; reads = omega arith }
words_sized r true false x y n h g = record { depth = omega arith; reads = omega arith }
words_sized r false true x y n h g = record { depth = omega arith; reads = omega arith }
words_sized r false false x y n h g = record { depth = omega arith; reads = omega arith }

floor_at_sized : (s : Bool) (x k : ℕ) → IsSized (floor_at s x k) 20 (suc x)
floor_at_sized s x k = by (nat_lt k 64)
  where
    far : (s : Bool) → IsSized (far_floor s x) 20 (suc x)
    far true = record { depth = omega arith; reads = omega arith }
    far false = record { depth = omega arith; reads = omega arith }

    by : (b : Bool) → IsSized (if b then floor_shift s x k else far_floor s x) 20 (suc x)
    by true = floor_sized s x k
    by false = far s

rest_sized : (s : Bool) (x k : ℕ) → IsSized (rest_at s x k) 6 (suc x)
rest_sized s x k = by s (nat_lt k 64)
  where
    by : (s b : Bool) → IsSized (if b then low_bits s x k else bits_of s (Var x)) 6 (suc x)
    by true true = record { depth = omega arith; reads = omega arith }
    by true false = record { depth = omega arith; reads = omega arith }
    by false true = record { depth = omega arith; reads = omega arith }
    by false false = record { depth = omega arith; reads = omega arith }

where_sized : (s : Bool) (x k n : ℕ) (some none : Exp) → x < n → IsSized some 6 n → IsSized none 6 n → IsSized (where_rest s x k some none) 20 n
where_sized s x k n some none l p q =
    let h = rest_sized s x k in
    let a = h.depth in
    let b = h.reads in
    let c = p.depth in
    let d = p.reads in
    let e = q.depth in
    let f = q.reads in
    record { depth = omega arith; reads = omega arith }

digit_sized : (m n : ℕ) → IsSized (Signed m) 6 n
digit_sized m n = record { depth = omega arith; reads = omega arith }

compare_floor_sized : (r : CRel) (s : Bool) (x k f : ℕ) (t : Bool) (y n : ℕ) → x < n → f < n → y < n → IsSized (compare_floor r s x k f t y) 20 n
unfolding compare_floor
compare_floor_sized r s x k f t y n h j g = by r
  where
    words : (r : CRel) → IsSized (compare_words r s f t y) 6 n
    words r = words_sized r s t f y n j g

    plain : (r : CRel) → IsSized (compare_words r s f t y) 20 n
    plain r = let w = words r in record { depth = omega (arith, w.depth); reads = w.reads }

    by : (r : CRel) → IsSized (compare_floor r s x k f t y) 20 n
    by rel.Eq = where_sized s x k n (Signed 0) (compare_words rel.Eq s f t y) h (digit_sized 0 n) (words rel.Eq)
    by rel.Ne = where_sized s x k n (Signed 1) (compare_words rel.Ne s f t y) h (digit_sized 1 n) (words rel.Ne)
    by rel.Lt = plain rel.Lt
    by rel.Le = where_sized s x k n (compare_words rel.Lt s f t y) (compare_words rel.Le s f t y) h (words rel.Lt) (words rel.Le)
    by rel.Gt = where_sized s x k n (compare_words rel.Ge s f t y) (compare_words rel.Gt s f t y) h (words rel.Ge) (words rel.Gt)
    by rel.Ge = plain rel.Ge

-- ---- parts

-- what the part gives
abbrev result : CRel → Operand → Operand → ℤ → ℤ → ℤ
result r a b z y = number_of (holds_in r (compared (element a.num z) (element b.num y)))

level_is_part : (r : CRel) (a b : Operand) (x : ℕ) → CanTake a x → CanTake b x → a.num.fraction ≡ b.num.fraction → Compares r a b x (level_part r a b x)
level_is_part r a b x ca cb d =
    let size = words_sized r a.num.signed b.num.signed x (x + 1) (suc (x + 1)) (omega arith) (omega arith) in
    is_part 20 (a ∷ b ∷ []) x true (on_two (result r a b)) (level_part r a b x) (omega arith)
    (both_part a b x (compare_words r a.num.signed x b.num.signed (x + 1)) (result r a b) ca.reads cb.reads (record { depth = omega (arith, size.depth); reads = size.reads })
    (λ c h g. t_words r c a.num.signed b.num.signed x (x + 1) h g)
    (λ st z y i j h g.
    let order : compared (element a.num z) (element b.num y) ≡ int_cmp z y = order_left (element a.num z) (element b.num y) 0 (omega (arith, ints, d)) ∙ ap (int_cmp z) (times_one y) in
    subst (λ (o : Bool). Says (compare_words r a.num.signed x b.num.signed (x + 1)) st (Int64 (number_of o)))
    (related_is r z y (int_cmp z y) (int_ranks z y) ∙ ap (holds_in r) (sym order))
    (words_say r st a.num.signed b.num.signed x (x + 1) z y (type_word a.num z ca.most i) (type_word b.num y cb.most j) h g)))

left_finer_is_part : (r : CRel) (a b : Operand) (x k : ℕ) → CanTake a x → CanTake b x → 1 ≤ k → a.num.fraction ≡ b.num.fraction +ℤ pos k → Compares r a b x (left_finer_part r a b x k)
left_finer_is_part r a b x k ca cb some d =
    let small = floor_at_sized a.num.signed x k in
    is_part 20 (a ∷ b ∷ []) x true (on_two (result r a b)) (left_finer_part r a b x k) (omega arith)
    (both_and_part a b x a.num.signed (floor_at a.num.signed x k) (compare_floor r a.num.signed x k (x + 2) b.num.signed (x + 1)) (result r a b) ca.reads cb.reads
    (record { depth = small.depth; reads = let l = small.reads in omega (arith, l) })
    (compare_floor_sized r a.num.signed x k (x + 2) b.num.signed (x + 1) (suc (x + 2)) (omega arith) (omega arith) (omega arith))
    (λ c h g. t_floor_at c a.num.signed x k h)
    (λ c h g j. t_compare_floor r c a.num.signed x k (x + 2) b.num.signed (x + 1) h j g)
    (λ z y i j.
    let iz : IsWord a.num.signed z = type_word a.num z ca.most i in
    let iy : IsWord b.num.signed y = type_word b.num y cb.most j in (
      floor_of z (2 ^ k),
      (λ st h g. floor_at_says st a.num.signed x k z iz h),
      (λ st h g l.
          subst (λ (o : Ordering). Says (compare_floor r a.num.signed x k (x + 2) b.num.signed (x + 1)) st (Int64 (number_of (holds_in r o)))) (sym (order_left (element a.num z) (element b.num y) k d))
          (compare_floor_says r st a.num.signed x k (x + 2) b.num.signed (x + 1) z y (record { number = h; floor = l; other = g; is_word = iz; is_other = iy; some = some }))),
    )))

right_finer_is_part : (r : CRel) (a b : Operand) (x k : ℕ) → CanTake a x → CanTake b x → 1 ≤ k → b.num.fraction ≡ a.num.fraction +ℤ pos k → Compares r a b x (right_finer_part r a b x k)
right_finer_is_part r a b x k ca cb some d =
    let small = floor_at_sized b.num.signed (x + 1) k in
    is_part 20 (a ∷ b ∷ []) x true (on_two (result r a b)) (right_finer_part r a b x k) (omega arith)
    (both_and_part a b x b.num.signed (floor_at b.num.signed (x + 1) k) (compare_floor (turned r) b.num.signed (x + 1) k (x + 2) a.num.signed x) (result r a b) ca.reads cb.reads
    small
    (compare_floor_sized (turned r) b.num.signed (x + 1) k (x + 2) a.num.signed x (suc (x + 2)) (omega arith) (omega arith) (omega arith))
    (λ c h g. t_floor_at c b.num.signed (x + 1) k g)
    (λ c h g j. t_compare_floor (turned r) c b.num.signed (x + 1) k (x + 2) a.num.signed x g j h)
    (λ z y i j.
    let iz : IsWord a.num.signed z = type_word a.num z ca.most i in
    let iy : IsWord b.num.signed y = type_word b.num y cb.most j in (
      floor_of y (2 ^ k),
      (λ st h g. floor_at_says st b.num.signed (x + 1) k y iy g),
      (λ st h g l.
          subst (λ (o : Bool). Says (compare_floor (turned r) b.num.signed (x + 1) k (x + 2) a.num.signed x) st (Int64 (number_of o)))
          (turned_is r (int_cmp y (z *ℤ pos (2 ^ k))) ∙ ap (holds_in r) (sym (order_right (element a.num z) (element b.num y) k d)))
          (compare_floor_says (turned r) st b.num.signed (x + 1) k (x + 2) a.num.signed x y z (record { number = g; floor = l; other = h; is_word = iy; is_other = iz; some = some }))),
    )))

by_difference : (n : ℤ) (r : CRel) (a b : Operand) (x : ℕ) → CanTake a x → CanTake b x → a.num.fraction -ℤ b.num.fraction ≡ n → Compares r a b x (compared_by n r a b x)
unfolding compared_by
by_difference (pos zero) r a b x ca cb d = level_is_part r a b x ca cb (omega (arith, ints, d))
by_difference (pos (suc k)) r a b x ca cb d = left_finer_is_part r a b x (suc k) ca cb (omega arith) (omega (arith, ints, d))
by_difference (negsuc k) r a b x ca cb d = right_finer_is_part r a b x (suc k) ca cb (omega arith) (omega (arith, ints, d))

pub compared_is_part : (r : CRel) (a b : Operand) (x : ℕ) → CanTake a x → CanTake b x → Compares r a b x (compared_part r a b x)
compared_is_part r a b x ca cb = by_difference (a.num.fraction -ℤ b.num.fraction) r a b x ca cb refl

-- ---- what the code emits

pub part_level : (r : CRel) (a b : Operand) (x : ℕ) → a.num.fraction ≡ b.num.fraction → level_part r a b x ≡ compared_part r a b x
unfolding compared_by
part_level r a b x h = ap (λ n. compared_by n r a b x) (let k : pos 0 ≡ a.num.fraction -ℤ b.num.fraction = omega (arith, ints) in k)

pub part_left : (r : CRel) (a b : Operand) (x k : ℕ) → 1 ≤ k → a.num.fraction ≡ b.num.fraction +ℤ pos k → left_finer_part r a b x k ≡ compared_part r a b x
unfolding compared_by
part_left r a b x k one h = by k one h
  where
    by : (k : ℕ) → 1 ≤ k → a.num.fraction ≡ b.num.fraction +ℤ pos k → left_finer_part r a b x k ≡ compared_part r a b x
    by zero one h = absurd (omega (arith, one))
    by (suc j) one h = ap (λ n. compared_by n r a b x) (let i : pos (suc j) ≡ a.num.fraction -ℤ b.num.fraction = omega (arith, ints, h) in i)

pub part_right : (r : CRel) (a b : Operand) (x k : ℕ) → 1 ≤ k → b.num.fraction ≡ a.num.fraction +ℤ pos k → right_finer_part r a b x k ≡ compared_part r a b x
unfolding compared_by
part_right r a b x k one h = by k one h
  where
    by : (k : ℕ) → 1 ≤ k → b.num.fraction ≡ a.num.fraction +ℤ pos k → right_finer_part r a b x k ≡ compared_part r a b x
    by zero one h = absurd (omega (arith, one))
    by (suc j) one h = ap (λ n. compared_by n r a b x) (let i : negsuc j ≡ a.num.fraction -ℤ b.num.fraction = omega (arith, ints, h) in i)
