-- The parts of sums and differences of operands that are taken to the type first.
use Rattle.std.proofs.Common.{◌≡◌, ℕ, zero, suc, ◌+◌, ◌-◌, ◌^◌, ◌<◌, ◌≤◌, Bool, true, false, List, [], ◌∷◌, length, ℤ, pos, negsuc, ◌+ℤ◌, ◌≤ℤ◌, refl, sym, ap, ◌∙◌, subst, arith, if◌then◌else◌}
use Rattle.std.specs.Prelude.{◌-ℤ◌, nat_lt, nat_eq}
use Rattle.std.proofs.lemmas.Int.{ints}
use Rattle.num_type.specs.declared.methods.Rounding.{Rounding}
use Rattle.num_type.specs.declared.methods.Overflow.{Overflow}
use Rattle.num_type.specs.declared.methods.Overflow.TheVariants.{Saturate, Wrap}
use Rattle.num_type.specs.Types.{NumericType, IsInRange, least_of, greatest_of}
use Rattle.fi_quant.specs.Fit.{IsFit}
use Rattle.fi_quant.specs.Numbers.{fitted, quantised}
use Rattle.fi_quant.proofs.Once.{fit_once}
use Rattle.fi_quant.proofs.Exist.{fitted_is, quantised_inside}
use Rattle.fi_math.specs.declared.fimath.Fimath.{Fimath}
use Rattle.fi_ops.specs.Operations.{taken, summed, subtracted}
use Rattle.fi_ops.proofs.Taken.{joined_cast}
use Rattle.c_tree.specs.declared.tree.CWord.TheVariants.{I64, U64}
use Rattle.c_tree.specs.declared.tree.COp.TheVariants as op
use Rattle.c_tree.specs.Tree.{Exp, Signed, Unsigned, Var, Neg, Binary, Choose}
use Rattle.c_tree.specs.WellFormed.{Scope}
use Rattle.c_tree.specs.Meaning.{State, Word}
use Rattle.lower_scalar.specs.Part.{Part, Operand, word, word_for, reach, IsPart, on_one, on_two}
use Rattle.lower_scalar.specs.Shapes.{bits_of, top, least, below_minus, raised, raised_fitted, resigned, fitted as fitted_exp, floor_shift, round_shift, round_far, holds_raised, alone, over_one, over_two, over_three, raised_part, lowered_part, quantised_by, quantised_part}
use Rattle.lower_scalar.specs.Operators.{element, sum_saturated, difference_saturated, sum_fitted, difference_fitted, behind, joined_part, left_part, right_part, cast_sum_part, cast_difference_part, Adds, Subtracts}
use Rattle.lower_scalar.proofs.Says.{Says}
use Rattle.lower_scalar.proofs.Typed.{Typed, t_signed, t_unsigned, t_add, t_sub, t_choose}
use Rattle.lower_scalar.proofs.Words.{Holds}
use Rattle.lower_scalar.proofs.FitShapes.{IsFitIn, SaysFit}
use Rattle.lower_scalar.proofs.Formed.{Declares, ones_most, half_ones_most, t_x, t_below_minus, t_bits_of, t_wrapped}
use Rattle.lower_scalar.proofs.Sizes.{IsSized}
use Rattle.lower_scalar.proofs.Within.{IsPartWithin, is_part}
use Rattle.lower_scalar.proofs.QuantiseParts.{quantised_within}
use Rattle.lower_scalar.proofs.Both.{joined_is_part}
use Rattle.lower_scalar.proofs.SumShapes.{sum_fitted_says, difference_fitted_says}

-- ---- types and sizes

t_sum_saturated : (c : Scope) (t : Bool) (w x y : ℕ) → w ≤ 64 → Declares c x t → Declares c y t → Typed c (sum_saturated t w x y) (word_for t)
t_sum_saturated c true w x y l h g =
    let low : Typed c (least true w) I64 = t_below_minus c (2 ^ (w - 1) - 1) (half_ones_most w l) in
    let high : Typed c (Signed (2 ^ (w - 1) - 1)) I64 = t_signed c (2 ^ (w - 1) - 1) (half_ones_most w l) in
    let sum : Typed c (Binary op.Add (Var x) (Var y)) I64 = t_add I64 (t_x c x true h) (t_x c y true g) in
    t_choose I64 I64 (t_x c y true g) (t_signed c 0 (omega arith)) (t_choose I64 I64 (t_x c x true h) (t_sub I64 low (t_x c y true g)) low sum) (t_choose I64 I64 (t_sub I64 high (t_x c y true g)) (t_x c x true h) high sum)
t_sum_saturated c false w x y l h g =
    let high : Typed c (Unsigned (2 ^ w - 1)) U64 = t_unsigned c (2 ^ w - 1) (ones_most w l) in
    t_choose U64 U64 (t_sub U64 high (t_x c y false g)) (t_x c x false h) high (t_add U64 (t_x c x false h) (t_x c y false g))

t_difference_saturated : (c : Scope) (t : Bool) (w x y : ℕ) → w ≤ 64 → Declares c x t → Declares c y t → Typed c (difference_saturated t w x y) (word_for t)
t_difference_saturated c true w x y l h g =
    let low : Typed c (least true w) I64 = t_below_minus c (2 ^ (w - 1) - 1) (half_ones_most w l) in
    let high : Typed c (Signed (2 ^ (w - 1) - 1)) I64 = t_signed c (2 ^ (w - 1) - 1) (half_ones_most w l) in
    let rest : Typed c (Binary op.Sub (Var x) (Var y)) I64 = t_sub I64 (t_x c x true h) (t_x c y true g) in
    t_choose I64 I64 (t_x c y true g) (t_signed c 0 (omega arith)) (t_choose I64 I64 (t_add I64 high (t_x c y true g)) (t_x c x true h) high rest) (t_choose I64 I64 (t_x c x true h) (t_add I64 low (t_x c y true g)) low rest)
t_difference_saturated c false w x y l h g = t_choose U64 U64 (t_x c x false h) (t_x c y false g) (t_unsigned c 0 (omega arith)) (t_sub U64 (t_x c x false h) (t_x c y false g))

t_sum_fitted : (a : Overflow) (c : Scope) (t : Bool) (w x y : ℕ) → w ≤ 64 → Declares c x t → Declares c y t → Typed c (sum_fitted a t w x y) (word_for t)
t_sum_fitted Saturate c t w x y l h g = t_sum_saturated c t w x y l h g
t_sum_fitted Wrap c t w x y l h g = t_wrapped t w l (t_add U64 (t_bits_of t (t_x c x t h)) (t_bits_of t (t_x c y t g)))

t_difference_fitted : (a : Overflow) (c : Scope) (t : Bool) (w x y : ℕ) → w ≤ 64 → Declares c x t → Declares c y t → Typed c (difference_fitted a t w x y) (word_for t)
t_difference_fitted Saturate c t w x y l h g = t_difference_saturated c t w x y l h g
t_difference_fitted Wrap c t w x y l h g = t_wrapped t w l (t_sub U64 (t_bits_of t (t_x c x t h)) (t_bits_of t (t_x c y t g)))

sum_fitted_sized : (a : Overflow) (t : Bool) (w k : ℕ) → IsSized (sum_fitted a t w k (suc k)) 20 (suc (suc k))
sum_fitted_sized Saturate true w k = record { depth = omega arith; reads = omega arith }
sum_fitted_sized Saturate false w k = record { depth = omega arith; reads = omega arith }
sum_fitted_sized Wrap true w k = record { depth = omega arith; reads = omega arith }
sum_fitted_sized Wrap false w k = record { depth = omega arith; reads = omega arith }

difference_fitted_sized : (a : Overflow) (t : Bool) (w k : ℕ) → IsSized (difference_fitted a t w k (suc k)) 20 (suc (suc k))
difference_fitted_sized Saturate true w k = record { depth = omega arith; reads = omega arith }
difference_fitted_sized Saturate false w k = record { depth = omega arith; reads = omega arith }
difference_fitted_sized Wrap true w k = record { depth = omega arith; reads = omega arith }
difference_fitted_sized Wrap false w k = record { depth = omega arith; reads = omega arith }

-- a part that quantises has three variables of its own at most
pub few_words : (m : Rounding) (a : Overflow) (t from : NumericType) (e : Exp) (x : ℕ) → length (quantised_part m a t from e x).words ≤ 100
unfolding quantised_by raised_part lowered_part
few_words m a t from e x = by (t.fraction -ℤ from.fraction)
  where
    up : (b c : Bool) (p : Exp) (q r : Exp) → length (if b then alone p else (if c then over_one from.signed e x q else over_one from.signed e x r)).words ≤ 100
    up true c p q r = omega arith
    up false true p q r = omega arith
    up false false p q r = omega arith

    down : (b : Bool) (p q r u v : Exp) → length (if b then over_three from.signed e x p q r else over_two from.signed e x u v).words ≤ 100
    down true p q r u v = omega arith
    down false p q r u v = omega arith

    by : (d : ℤ) → length (quantised_by d m a t from e x).words ≤ 100
    by (pos n) = up (holds_raised t.signed t.word from.signed from.word n) (nat_eq n 0) (raised t.signed n (resigned from.signed t.signed e)) (fitted_exp a t.signed t.word from.signed x) (raised_fitted a t.signed t.word from.signed x n)
    by (negsuc j) = down (nat_lt (suc j) 64) (floor_shift from.signed x (suc j)) (round_shift m from.signed x (x + 1) (suc j)) (fitted_exp a t.signed t.word from.signed (x + 2)) (round_far m from.signed x (suc j)) (fitted_exp a t.signed t.word from.signed (x + 1))

-- ---- the parts

-- what is known of an operand and its result's type
pub record CanTake (o : Operand) (x : ℕ) : Type 0 where
  pub some : 1 ≤ o.num.word
  pub most : o.num.word ≤ 64
  pub reads : reach o.exp ≤ x

-- the number of a fit is that of the function
fit_number : (a : Overflow) (t : NumericType) (z q : ℤ) → 1 ≤ t.word → IsFitIn a t.signed t.word z q → q ≡ fitted a t z
fit_number Saturate t z q one h = fit_once Saturate t z q (fitted Saturate t z) one h (fitted_is Saturate t z one)
fit_number Wrap t z q one h = fit_once Wrap t z q (fitted Wrap t z) one h (fitted_is Wrap t z one)

cast_value : (join : ℤ → ℤ → ℤ) (m : Fimath) (t : NumericType) (a b : Operand) (u v q : ℤ) (e : Exp) (st : State) → 1 ≤ t.word → IsFitIn m.overflow t.signed t.word (join (quantised m.rounding m.overflow t u a.num.fraction) (quantised m.rounding m.overflow t v b.num.fraction)) q → Says e st (word t.signed q)
    → Says e st (word t.signed (fitted m.overflow t (join (quantised m.rounding m.overflow t u a.num.fraction) (quantised m.rounding m.overflow t v b.num.fraction))))
cast_value join m t a b u v q e st one h p = subst (λ (i : ℤ). Says e st (word t.signed i)) (fit_number m.overflow t (join (quantised m.rounding m.overflow t u a.num.fraction) (quantised m.rounding m.overflow t v b.num.fraction)) q one h) p

sum_is : (m : Fimath) (t : NumericType) (a b : Operand) (u v : ℤ) → m.cast_before_sum ≡ true
    → fitted m.overflow t (quantised m.rounding m.overflow t u a.num.fraction +ℤ quantised m.rounding m.overflow t v b.num.fraction) ≡ summed m t (element a.num u) (element b.num v)
unfolding taken
sum_is m t a b u v c = joined_cast (λ i j. i +ℤ j) m t (element a.num u) (element b.num v) (fitted m.overflow t (quantised m.rounding m.overflow t u a.num.fraction +ℤ quantised m.rounding m.overflow t v b.num.fraction)) c refl

difference_is : (m : Fimath) (t : NumericType) (a b : Operand) (u v : ℤ) → m.cast_before_sum ≡ true
    → fitted m.overflow t (quantised m.rounding m.overflow t u a.num.fraction -ℤ quantised m.rounding m.overflow t v b.num.fraction) ≡ subtracted m t (element a.num u) (element b.num v)
unfolding taken
difference_is m t a b u v c = joined_cast (λ i j. i -ℤ j) m t (element a.num u) (element b.num v) (fitted m.overflow t (quantised m.rounding m.overflow t u a.num.fraction -ℤ quantised m.rounding m.overflow t v b.num.fraction)) c refl

pub cast_sum_is_part : (m : Fimath) (t : NumericType) (a b : Operand) (x : ℕ) → 1 ≤ t.word → t.word ≤ 64 → CanTake a x → CanTake b x → m.cast_before_sum ≡ true → Adds m t a b x (cast_sum_part m t a b x)
cast_sum_is_part m t a b x one lim ca cb c =
    let k : ℕ = behind x (left_part m t a x) (right_part m t a b x) in
    let low : reach b.exp ≤ x + length (left_part m t a x).words = let r = cb.reads in omega (arith, r) in
    is_part 20 (a ∷ b ∷ []) x t.signed (on_two (λ i j. summed m t (element a.num i) (element b.num j))) (cast_sum_part m t a b x) (omega arith)
    (joined_is_part a b x t.signed t.signed (λ z. quantised m.rounding m.overflow t z a.num.fraction) (λ z. quantised m.rounding m.overflow t z b.num.fraction) (λ i j. summed m t (element a.num i) (element b.num j))
    (left_part m t a x) (right_part m t a b x) (sum_fitted m.overflow t.signed t.word k (suc k)) 20 (omega arith)
    (few_words m.rounding m.overflow t a.num a.exp x) (few_words m.rounding m.overflow t b.num b.exp (x + length (left_part m t a x).words)) cb.reads
    (quantised_within m.rounding m.overflow t a.num a.exp x one lim ca.some ca.most ca.reads)
    (quantised_within m.rounding m.overflow t b.num b.exp (x + length (left_part m t a x).words) one lim cb.some cb.most low)
    (sum_fitted_sized m.overflow t.signed t.word k)
    (λ s g h. t_sum_fitted m.overflow s t.signed t.word k (suc k) lim g h)
    (λ st u v iu iv hu hv.
    let ru = quantised_inside m.rounding m.overflow t u a.num.fraction one in
    let rv = quantised_inside m.rounding m.overflow t v b.num.fraction one in
    let s = sum_fitted_says m.overflow st t.signed t.word k (suc k) (quantised m.rounding m.overflow t u a.num.fraction) (quantised m.rounding m.overflow t v b.num.fraction) one lim ru.least ru.most rv.least rv.most hu hv in
    subst (λ (i : ℤ). Says (sum_fitted m.overflow t.signed t.word k (suc k)) st (word t.signed i)) (sum_is m t a b u v c)
    (cast_value (λ i j. i +ℤ j) m t a b u v s.number (sum_fitted m.overflow t.signed t.word k (suc k)) st one s.is s.says)))

pub cast_difference_is_part : (m : Fimath) (t : NumericType) (a b : Operand) (x : ℕ) → 1 ≤ t.word → t.word ≤ 64 → CanTake a x → CanTake b x → m.cast_before_sum ≡ true → Subtracts m t a b x (cast_difference_part m t a b x)
cast_difference_is_part m t a b x one lim ca cb c =
    let k : ℕ = behind x (left_part m t a x) (right_part m t a b x) in
    let low : reach b.exp ≤ x + length (left_part m t a x).words = let r = cb.reads in omega (arith, r) in
    is_part 20 (a ∷ b ∷ []) x t.signed (on_two (λ i j. subtracted m t (element a.num i) (element b.num j))) (cast_difference_part m t a b x) (omega arith)
    (joined_is_part a b x t.signed t.signed (λ z. quantised m.rounding m.overflow t z a.num.fraction) (λ z. quantised m.rounding m.overflow t z b.num.fraction) (λ i j. subtracted m t (element a.num i) (element b.num j))
    (left_part m t a x) (right_part m t a b x) (difference_fitted m.overflow t.signed t.word k (suc k)) 20 (omega arith)
    (few_words m.rounding m.overflow t a.num a.exp x) (few_words m.rounding m.overflow t b.num b.exp (x + length (left_part m t a x).words)) cb.reads
    (quantised_within m.rounding m.overflow t a.num a.exp x one lim ca.some ca.most ca.reads)
    (quantised_within m.rounding m.overflow t b.num b.exp (x + length (left_part m t a x).words) one lim cb.some cb.most low)
    (difference_fitted_sized m.overflow t.signed t.word k)
    (λ s g h. t_difference_fitted m.overflow s t.signed t.word k (suc k) lim g h)
    (λ st u v iu iv hu hv.
    let ru = quantised_inside m.rounding m.overflow t u a.num.fraction one in
    let rv = quantised_inside m.rounding m.overflow t v b.num.fraction one in
    let s = difference_fitted_says m.overflow st t.signed t.word k (suc k) (quantised m.rounding m.overflow t u a.num.fraction) (quantised m.rounding m.overflow t v b.num.fraction) one lim ru.least ru.most rv.least rv.most hu hv in
    subst (λ (i : ℤ). Says (difference_fitted m.overflow t.signed t.word k (suc k)) st (word t.signed i)) (difference_is m t a b u v c)
    (cast_value (λ i j. i -ℤ j) m t a b u v s.number (difference_fitted m.overflow t.signed t.word k (suc k)) st one s.is s.says)))
