-- The types of the expressions that lowering emits.
use Rattle.std.proofs.Common.{◌≡◌, ℕ, suc, ◌+◌, ◌-◌, ◌*◌, ◌/◌, ◌^◌, ◌<◌, ◌≤◌, Bool, true, false, not, ◌&&◌, Some, refl, sym, ap, ◌∙◌, subst, arith, if◌then◌else◌}
use Rattle.std.specs.Prelude.{slice_get, nat_lt, nat_eq}
use Rattle.std.proofs.lemmas.Nat.{pow_pos, pow_below}
use Rattle.std.proofs.lemmas.Bool.{ltb-true}
use Rattle.std.proofs.Math.Pow.{pow_mono}
use Rattle.std.proofs.Math.Nat.{div-le_self}
use Rattle.fi_quant.proofs.Splits.{double}
use Rattle.num_type.specs.declared.methods.Rounding.{Rounding}
use Rattle.num_type.specs.declared.methods.Rounding.TheVariants.{Ceiling, Floor, Zero, Nearest, Round, Convergent}
use Rattle.num_type.specs.declared.methods.Overflow.{Overflow}
use Rattle.num_type.specs.declared.methods.Overflow.TheVariants.{Saturate, Wrap}
use Rattle.c_tree.specs.declared.tree.CWord.{CWord}
use Rattle.c_tree.specs.declared.tree.CWord.TheVariants.{I64, U64}
use Rattle.c_tree.specs.declared.tree.COp.TheVariants as op
use Rattle.c_tree.specs.Tree.{Exp, Signed, Unsigned, Var, Cast, Neg, Binary, Choose, Compare}
use Rattle.c_tree.specs.WellFormed.{Scope}
use Rattle.lower_scalar.specs.Part.{word_for}
use Rattle.lower_scalar.specs.Shapes.{constant, minus_one, below_minus, bits_of, resigned, is_less, by_sign, floor_shift, low_bits, step_above, round_shift, one_above, half_above, least_below, round_far, top, least, saturated, cut, wrapped, fitted, raised, raised_inside, bottom, raised_saturated, raised_wrapped, raised_fitted, shifted_bits}
use Rattle.lower_scalar.proofs.Words.{halved}
use Rattle.lower_scalar.proofs.Typed.{Typed, t_signed, t_unsigned, t_constant, t_var, t_add, t_sub, t_mul, t_and, t_shr, t_neg, t_bits, t_number, t_choose}

-- the variable is a word of this signedness
abbrev pub Declares : Scope → ℕ → Bool → Type 0
Declares c x s = slice_get c.words x ≡ Some (word_for s)

pub ones_most : (k : ℕ) → k ≤ 64 → 2 ^ k - 1 < 2 ^ 64
ones_most k h = let m : 2 ^ k ≤ 2 ^ 64 = pow_mono h in omega (arith, m, pow_pos k)

pub half_ones_most : (w : ℕ) → w ≤ 64 → 2 ^ (w - 1) - 1 < 2 ^ 63
half_ones_most w h = let m : 2 ^ (w - 1) ≤ 2 ^ 63 = pow_mono (let l : w - 1 ≤ 63 = omega arith in l) in omega (arith, m, pow_pos (w - 1))

pub t_x : (c : Scope) (x : ℕ) (s : Bool) → Declares c x s → Typed c (Var x) (word_for s)
t_x c x s h = t_var c x (word_for s) h

pub t_minus_one : (c : Scope) → Typed c minus_one I64
t_minus_one c = t_neg (t_signed c 1 (omega arith))

pub t_below_minus : (c : Scope) (n : ℕ) → n < 2 ^ 63 → Typed c (below_minus n) I64
t_below_minus c n h = t_sub I64 (t_neg (t_signed c n h)) (t_signed c 1 (omega arith))

pub t_bits_of : {c : Scope} {e : Exp} (s : Bool) → Typed c e (word_for s) → Typed c (bits_of s e) U64
t_bits_of true p = t_bits p
t_bits_of false p = p

pub t_resigned : {c : Scope} {e : Exp} (s t : Bool) → Typed c e (word_for s) → Typed c (resigned s t e) (word_for t)
t_resigned true true p = p
t_resigned true false p = t_bits p
t_resigned false true p = t_number p
t_resigned false false p = p

pub t_by_sign : {c : Scope} {a b : Exp} (x : ℕ) (s : Bool) (w : CWord) → Declares c x s → (s ≡ true → Typed c a w) → Typed c b w → Typed c (by_sign s x a b) w
t_by_sign {c} x true w h p q = t_choose I64 w (t_x c x true h) (t_signed c 0 (omega arith)) (p refl) q
t_by_sign x false w h p q = q

-- ---- rounding

pub t_floor : (c : Scope) (x : ℕ) (s : Bool) (k : ℕ) → k ≤ 64 → Declares c x s → Typed c (floor_shift s x k) (word_for s)
t_floor c x true k l h =
    let by : Typed c (Unsigned k) U64 = t_unsigned c k (omega arith) in
    t_by_sign x true I64 h (λ e. t_sub I64 (t_minus_one c) (t_shr I64 (t_sub I64 (t_minus_one c) (t_x c x true h)) by)) (t_shr I64 (t_x c x true h) by)
t_floor c x false k l h = t_shr U64 (t_x c x false h) (t_unsigned c k (omega arith))

t_low : (c : Scope) (x : ℕ) (s : Bool) (k : ℕ) → k ≤ 64 → Declares c x s → Typed c (low_bits s x k) U64
t_low c x s k l h = t_and (t_bits_of s (t_x c x s h)) (t_unsigned c (2 ^ k - 1) (ones_most k l))

t_step : (c : Scope) (x f : ℕ) (s : Bool) (k n : ℕ) → k ≤ 64 → n < 2 ^ 64 → Declares c x s → Declares c f s → Typed c (step_above s x f k n) (word_for s)
t_step c x f s k n l m h g =
    t_choose U64 (word_for s) (t_unsigned c n m) (t_low c x s k l h) (t_add (word_for s) (t_x c f s g) (t_constant c s 1 (omega arith))) (t_x c f s g)

pub t_round : (m : Rounding) (c : Scope) (x f : ℕ) (s : Bool) (k : ℕ) → 1 ≤ k → k ≤ 64 → Declares c x s → Declares c f s → Typed c (round_shift m s x f k) (word_for s)
unfolding round_shift
t_round m c x f s k one l h g = by m
  where
    half : 2 ^ (k - 1) < 2 ^ 64
    half = pow_below (k - 1) 64 (omega arith)

    step : (n : ℕ) → n ≤ 2 ^ (k - 1) → Typed c (step_above s x f k n) (word_for s)
    step n b = t_step c x f s k n l (omega (arith, half, b)) h g

    by : (m : Rounding) → Typed c (round_shift m s x f k) (word_for s)
    by Floor = t_x c f s g
    by Ceiling = step 0 (omega arith)
    by Zero = t_by_sign x s (word_for s) h (λ e. step 0 (omega arith)) (t_x c f s g)
    by Nearest = step (2 ^ (k - 1) - 1) (omega arith)
    by Round = t_by_sign x s (word_for s) h (λ e. step (2 ^ (k - 1)) (omega arith)) (step (2 ^ (k - 1) - 1) (omega arith))
    by Convergent =
        t_choose U64 (word_for s) (t_unsigned c 0 (omega arith)) (t_and (t_bits_of s (t_x c f s g)) (t_unsigned c 1 (omega arith)))
        (step (2 ^ (k - 1) - 1) (omega arith)) (step (2 ^ (k - 1)) (omega arith))

t_one_above : (c : Scope) (x : ℕ) (s : Bool) (n : ℕ) → Declares c x s → Typed c (constant s n) (word_for s) → Typed c (one_above s x n) (word_for s)
t_one_above c x s n h b = t_choose (word_for s) (word_for s) b (t_x c x s h) (t_constant c s 1 (omega arith)) (t_constant c s 0 (omega arith))

t_half_above : (c : Scope) (x : ℕ) (s : Bool) (k n : ℕ) → n < 2 ^ 64 → Declares c x s → Typed c (half_above s x k n) (word_for s)
t_half_above c x true k n b h = t_signed c 0 (omega arith)
t_half_above c x false k n b h = by (nat_eq k 64)
  where
    by : (e : Bool) → Typed c (if e then one_above false x n else Unsigned 0) U64
    by true = t_one_above c x false n h (t_unsigned c n b)
    by false = t_unsigned c 0 (omega arith)

t_least_below : (c : Scope) (x k : ℕ) → Declares c x true → Typed c (least_below x k) I64
t_least_below c x k h = by (nat_eq k 64)
  where
    by : (e : Bool) → Typed c (if e then Choose (is_less (Var x) (Neg (Signed (2 ^ 63 - 1)))) minus_one (Signed 0) else Signed 0) I64
    by true = t_choose I64 I64 (t_x c x true h) (t_neg (t_signed c (2 ^ 63 - 1) (omega arith))) (t_minus_one c) (t_signed c 0 (omega arith))
    by false = t_signed c 0 (omega arith)

pub t_far : (m : Rounding) (c : Scope) (x : ℕ) (s : Bool) (k : ℕ) → Declares c x s → Typed c (round_far m s x k) (word_for s)
unfolding round_far
t_far Floor c x true k h = t_by_sign x true I64 h (λ e. t_minus_one c) (t_constant c true 0 (omega arith))
t_far Floor c x false k h = t_constant c false 0 (omega arith)
t_far Ceiling c x s k h = t_one_above c x s 0 h (t_constant c s 0 (omega arith))
t_far Zero c x s k h = t_constant c s 0 (omega arith)
t_far Nearest c x s k h = t_half_above c x s k (2 ^ 63 - 1) (omega arith) h
t_far Round c x true k h = t_least_below c x k h
t_far Round c x false k h = t_half_above c x false k (2 ^ 63 - 1) (omega arith) h
t_far Convergent c x s k h = t_half_above c x s k (2 ^ 63) (omega arith) h

-- ---- overflow

t_top : (c : Scope) (t : Bool) (w : ℕ) → w ≤ 64 → Typed c (constant t (top t w)) (word_for t)
t_top c true w l = t_signed c (2 ^ (w - 1) - 1) (half_ones_most w l)
t_top c false w l = t_unsigned c (2 ^ w - 1) (ones_most w l)

top_most : (t : Bool) (w : ℕ) → w ≤ 64 → top t w < 2 ^ 64
top_most true w l = let h = half_ones_most w l in omega (arith, h)
top_most false w l = ones_most w l

t_least : (c : Scope) (t : Bool) (w : ℕ) → w ≤ 64 → Typed c (least t w) (word_for t)
t_least c true w l = t_below_minus c (2 ^ (w - 1) - 1) (half_ones_most w l)
t_least c false w l = t_unsigned c 0 (omega arith)

t_saturated_plain : (c : Scope) (t : Bool) (w x : ℕ) → w ≤ 64 → Declares c x false → Typed c (Choose (is_less (Unsigned (top t w)) (Var x)) (constant t (top t w)) (resigned false t (Var x))) (word_for t)
t_saturated_plain c t w x l h = t_choose U64 (word_for t) (t_unsigned c (top t w) (top_most t w l)) (t_x c x false h) (t_top c t w l) (t_resigned false t (t_x c x false h))

pub t_saturated : (c : Scope) (t : Bool) (w : ℕ) (s : Bool) (x : ℕ) → w ≤ 64 → Declares c x s → Typed c (saturated t w s x) (word_for t)
t_saturated c true w true x l h =
    t_choose I64 I64 (t_x c x true h) (t_least c true w l) (t_least c true w l) (t_choose I64 I64 (t_top c true w l) (t_x c x true h) (t_top c true w l) (t_x c x true h))
t_saturated c false w true x l h =
    let same : Typed c (Cast U64 (Var x)) U64 = t_bits (t_x c x true h) in
    t_choose I64 U64 (t_x c x true h) (t_signed c 0 (omega arith)) (t_unsigned c 0 (omega arith)) (t_choose U64 U64 (t_top c false w l) same (t_top c false w l) same)
t_saturated c true w false x l h = t_saturated_plain c true w x l h
t_saturated c false w false x l h = t_saturated_plain c false w x l h

t_cut : {c : Scope} {e : Exp} (w : ℕ) → w ≤ 64 → Typed c e U64 → Typed c (cut w e) U64
t_cut {c} {e} w l p = t_and p (t_unsigned c (2 ^ w - 1) (ones_most w l))

pub t_wrapped : {c : Scope} {e : Exp} (t : Bool) (w : ℕ) → w ≤ 64 → Typed c e U64 → Typed c (wrapped t w e) (word_for t)
t_wrapped false w l p = t_cut w l p
t_wrapped {c} {e} true w l p =
    let half : 2 ^ (w - 1) < 2 ^ 64 = pow_below (w - 1) 64 (omega arith) in
    t_choose U64 I64 (t_cut w l p) (t_unsigned c (2 ^ (w - 1)) half) (t_number (t_cut w l p))
    (t_sub I64 (t_minus_one c) (t_number (t_sub U64 (t_unsigned c (2 ^ w - 1) (ones_most w l)) (t_cut w l p))))

pub t_fitted : (a : Overflow) (c : Scope) (t : Bool) (w : ℕ) (s : Bool) (x : ℕ) → w ≤ 64 → Declares c x s → Typed c (fitted a t w s x) (word_for t)
unfolding fitted
t_fitted Saturate c t w s x l h = t_saturated c t w s x l h
t_fitted Wrap c t w s x l h = t_wrapped t w l (t_bits_of s (t_x c x s h))

-- ---- raising

pub t_raised : {c : Scope} {e : Exp} (s : Bool) (n : ℕ) → n < 64 → Typed c e (word_for s) → Typed c (raised s n e) (word_for s)
t_raised {c} {e} s n l p = by s (nat_eq n 0) (nat_eq n 63) refl p
  where
    below : (n : ℕ) → n < 64 → nat_eq n 63 ≡ false → n < 63
    below n l g = grind (arith, l, g)

    by : (s a b : Bool) → nat_eq n 63 ≡ b → Typed c e (word_for s)
        → Typed c (if a then e else (if s && b then Binary op.Mul (Binary op.Mul e (Signed (2 ^ 62))) (Signed 2) else Binary op.Mul e (constant s (2 ^ n)))) (word_for s)
    by s true b g p = p
    by true false true g p = t_mul I64 (t_mul I64 p (t_signed c (2 ^ 62) (omega arith))) (t_signed c 2 (omega arith))
    by true false false g p = t_mul I64 p (t_signed c (2 ^ n) (pow_below n 63 (below n l g)))
    by false false b g p = t_mul U64 p (t_unsigned c (2 ^ n) (pow_below n 64 l))

t_inside : (c : Scope) (t s : Bool) (x n : ℕ) → Declares c x s → Typed c (raised_inside t s x n) (word_for t)
t_inside c t s x n h = by (nat_lt n 64) refl
  where
    by : (b : Bool) → nat_lt n 64 ≡ b → Typed c (if b then raised t n (resigned s t (Var x)) else constant t 0) (word_for t)
    by true e = t_raised t n (ltb-true n 64 e) (t_resigned s t (t_x c x s h))
    by false e = t_constant c t 0 (omega arith)

t_bottom : (c : Scope) (t : Bool) (w n : ℕ) → 1 ≤ n → w ≤ 64 → Typed c (bottom t w n) I64
t_bottom c true w n one l = t_neg (t_signed c (2 ^ (w - 1) / 2 ^ n) (small (w - 1) n one (omega arith)))
  where
    small : (w n : ℕ) → 1 ≤ n → w ≤ 63 → 2 ^ w / 2 ^ n < 2 ^ 63
    small w n one l =
        let m : 2 ^ w ≤ 2 ^ 63 = pow_mono l in
        let h = halved (2 ^ w) n one in
        omega (arith, m, h)
t_bottom c false w n one l = t_signed c 0 (omega arith)

t_edge : (c : Scope) (s t : Bool) (w n : ℕ) → 1 ≤ n → w ≤ 64 → Typed c (constant s (top t w / 2 ^ n)) (word_for s)
t_edge c s t w n one l =
    let h = halved (top t w) n one in
    t_constant c s (top t w / 2 ^ n) (omega (arith, top_most t w l, h))

t_raised_saturated : (c : Scope) (t : Bool) (w : ℕ) (s : Bool) (x n : ℕ) → 1 ≤ n → w ≤ 64 → Declares c x s → Typed c (raised_saturated t w s x n) (word_for t)
t_raised_saturated c t w true x n one l h =
    t_choose I64 (word_for t) (t_edge c true t w n one l) (t_x c x true h) (t_top c t w l)
    (t_choose I64 (word_for t) (t_x c x true h) (t_bottom c t w n one l) (t_least c t w l) (t_inside c t true x n h))
t_raised_saturated c t w false x n one l h = t_choose U64 (word_for t) (t_edge c false t w n one l) (t_x c x false h) (t_top c t w l) (t_inside c t false x n h)

t_shifted : (c : Scope) (s : Bool) (x n : ℕ) → n < 64 → Declares c x s → Typed c (shifted_bits s x n) U64
t_shifted c s x n l h = by (nat_eq n 0)
  where
    by : (b : Bool) → Typed c (if b then bits_of s (Var x) else Binary op.Mul (bits_of s (Var x)) (Unsigned (2 ^ n))) U64
    by true = t_bits_of s (t_x c x s h)
    by false = t_mul U64 (t_bits_of s (t_x c x s h)) (t_unsigned c (2 ^ n) (pow_below n 64 l))

t_raised_wrapped : (c : Scope) (t : Bool) (w : ℕ) (s : Bool) (x n : ℕ) → w ≤ 64 → Declares c x s → Typed c (raised_wrapped t w s x n) (word_for t)
t_raised_wrapped c t w s x n l h = by (nat_lt n 64) refl
  where
    by : (b : Bool) → nat_lt n 64 ≡ b → Typed c (if b then wrapped t w (shifted_bits s x n) else constant t 0) (word_for t)
    by true e = t_wrapped t w l (t_shifted c s x n (ltb-true n 64 e) h)
    by false e = t_constant c t 0 (omega arith)

pub t_raised_fitted : (a : Overflow) (c : Scope) (t : Bool) (w : ℕ) (s : Bool) (x n : ℕ) → 1 ≤ n → w ≤ 64 → Declares c x s → Typed c (raised_fitted a t w s x n) (word_for t)
unfolding raised_fitted
t_raised_fitted Saturate c t w s x n one l h = t_raised_saturated c t w s x n one l h
t_raised_fitted Wrap c t w s x n one l h = t_raised_wrapped c t w s x n l h
