-- How deep the expressions that lowering emits are, and which variables they read.
use Rattle.std.proofs.Common.{◌≡◌, ℕ, suc, ◌+◌, ◌-◌, ◌*◌, ◌/◌, ◌^◌, ◌<◌, ◌≤◌, max, Bool, true, false, not, ◌&&◌, Some, refl, sym, ap, ◌∙◌, subst, arith, if◌then◌else◌}
use Rattle.std.specs.Prelude.{nat_lt, nat_eq}
use Rattle.num_type.specs.declared.methods.Rounding.{Rounding}
use Rattle.num_type.specs.declared.methods.Rounding.TheVariants.{Ceiling, Floor, Zero, Nearest, Round, Convergent}
use Rattle.num_type.specs.declared.methods.Overflow.{Overflow}
use Rattle.num_type.specs.declared.methods.Overflow.TheVariants.{Saturate, Wrap}
use Rattle.c_tree.specs.declared.tree.COp.TheVariants as op
use Rattle.c_tree.specs.Tree.{Exp, Signed, Unsigned, Var, Cast, Neg, Binary, Choose, Compare}
use Rattle.c_tree.specs.Depth.{exp_depth}
use Rattle.lower_scalar.specs.Part.{reach}
use Rattle.lower_scalar.specs.Shapes.{constant, minus_one, below_minus, bits_of, resigned, is_less, by_sign, floor_shift, low_bits, step_above, round_shift, one_above, half_above, least_below, round_far, top, least, saturated, cut, wrapped, fitted, raised, raised_inside, bottom, raised_saturated, raised_wrapped, raised_fitted, shifted_bits}

-- at most so deep, and reads only variables below a number
pub record IsSized (e : Exp) (d r : ℕ) : Type 0 where
  pub depth : exp_depth e ≤ d
  pub reads : reach e ≤ r

pub floor_sized : (s : Bool) (x k : ℕ) → IsSized (floor_shift s x k) 20 (suc x)
floor_sized true x k = record { depth = omega arith; reads = omega arith }
floor_sized false x k = record { depth = omega arith; reads = omega arith }

pub round_sized : (m : Rounding) (s : Bool) (x f k r : ℕ) → x < r → f < r → IsSized (round_shift m s x f k) 20 r
unfolding round_shift
round_sized Floor true x f k r a b = record { depth = omega arith; reads = omega arith }
round_sized Floor false x f k r a b = record { depth = omega arith; reads = omega arith }
round_sized Ceiling true x f k r a b = record { depth = omega arith; reads = omega arith }
round_sized Ceiling false x f k r a b = record { depth = omega arith; reads = omega arith }
round_sized Zero true x f k r a b = record { depth = omega arith; reads = omega arith }
round_sized Zero false x f k r a b = record { depth = omega arith; reads = omega arith }
round_sized Nearest true x f k r a b = record { depth = omega arith; reads = omega arith }
round_sized Nearest false x f k r a b = record { depth = omega arith; reads = omega arith }
round_sized Round true x f k r a b = record { depth = omega arith; reads = omega arith }
round_sized Round false x f k r a b = record { depth = omega arith; reads = omega arith }
round_sized Convergent true x f k r a b = record { depth = omega arith; reads = omega arith }
round_sized Convergent false x f k r a b = record { depth = omega arith; reads = omega arith }

half_sized : (x n : ℕ) (b : Bool) → IsSized (if b then one_above false x n else Unsigned 0) 20 (suc x)
half_sized x n true = record { depth = omega arith; reads = omega arith }
half_sized x n false = record { depth = omega arith; reads = omega arith }

least_sized : (x : ℕ) (b : Bool) → IsSized (if b then Choose (is_less (Var x) (Neg (Signed (2 ^ 63 - 1)))) minus_one (Signed 0) else Signed 0) 20 (suc x)
least_sized x true = record { depth = omega arith; reads = omega arith }
least_sized x false = record { depth = omega arith; reads = omega arith }

pub far_sized : (m : Rounding) (s : Bool) (x k : ℕ) → IsSized (round_far m s x k) 20 (suc x)
unfolding round_far
far_sized Floor true x k = record { depth = omega arith; reads = omega arith }
far_sized Floor false x k = record { depth = omega arith; reads = omega arith }
far_sized Ceiling true x k = record { depth = omega arith; reads = omega arith }
far_sized Ceiling false x k = record { depth = omega arith; reads = omega arith }
far_sized Zero true x k = record { depth = omega arith; reads = omega arith }
far_sized Zero false x k = record { depth = omega arith; reads = omega arith }
far_sized Nearest true x k = record { depth = omega arith; reads = omega arith }
far_sized Nearest false x k = half_sized x (2 ^ 63 - 1) (nat_eq k 64)
far_sized Round true x k = least_sized x (nat_eq k 64)
far_sized Round false x k = half_sized x (2 ^ 63 - 1) (nat_eq k 64)
far_sized Convergent true x k = record { depth = omega arith; reads = omega arith }
far_sized Convergent false x k = half_sized x (2 ^ 63) (nat_eq k 64)

wrapped_sized : (t : Bool) (w d r : ℕ) (e : Exp) → IsSized e d r → IsSized (wrapped t w e) (d + 10) r
wrapped_sized true w d r e h = let a = h.depth in let b = h.reads in record { depth = omega arith; reads = omega arith }
wrapped_sized false w d r e h = let a = h.depth in let b = h.reads in record { depth = omega arith; reads = omega arith }

bits_sized : (s : Bool) (x : ℕ) → IsSized (bits_of s (Var x)) 1 (suc x)
bits_sized true x = record { depth = omega arith; reads = omega arith }
bits_sized false x = record { depth = omega arith; reads = omega arith }

pub fitted_sized : (a : Overflow) (t : Bool) (w : ℕ) (s : Bool) (x : ℕ) → IsSized (fitted a t w s x) 20 (suc x)
unfolding fitted
fitted_sized Saturate true w true x = record { depth = omega arith; reads = omega arith }
fitted_sized Saturate true w false x = record { depth = omega arith; reads = omega arith }
fitted_sized Saturate false w true x = record { depth = omega arith; reads = omega arith }
fitted_sized Saturate false w false x = record { depth = omega arith; reads = omega arith }
fitted_sized Wrap t w s x = let h = wrapped_sized t w 1 (suc x) (bits_of s (Var x)) (bits_sized s x) in record { depth = omega (arith, h.depth); reads = h.reads }

pub raised_sized : (s : Bool) (n d r : ℕ) (e : Exp) → IsSized e d r → IsSized (raised s n e) (d + 10) r
raised_sized s n d r e h = by s (nat_eq n 0) (nat_eq n 63)
  where
    by : (s a b : Bool) → IsSized (if a then e else (if s && b then Binary op.Mul (Binary op.Mul e (Signed (2 ^ 62))) (Signed 2) else Binary op.Mul e (constant s (2 ^ n)))) (d + 10) r
    by s true b = let a = h.depth in let b = h.reads in record { depth = omega arith; reads = omega arith }
    by true false true = let a = h.depth in let b = h.reads in record { depth = omega arith; reads = omega arith }
    by true false false = let a = h.depth in let b = h.reads in record { depth = omega arith; reads = omega arith }
    by false false b = let a = h.depth in let b = h.reads in record { depth = omega arith; reads = omega arith }

pub resigned_sized : (s t : Bool) (d r : ℕ) (e : Exp) → IsSized e d r → IsSized (resigned s t e) (d + 1) r
resigned_sized true true d r e h = record { depth = omega (arith, h.depth); reads = h.reads }
resigned_sized true false d r e h = record { depth = omega (arith, h.depth); reads = h.reads }
resigned_sized false true d r e h = record { depth = omega (arith, h.depth); reads = h.reads }
resigned_sized false false d r e h = record { depth = omega (arith, h.depth); reads = h.reads }

inside_sized : (t s : Bool) (x n : ℕ) → IsSized (raised_inside t s x n) 12 (suc x)
inside_sized t s x n = by (nat_lt n 64)
  where
    zero_sized : (t : Bool) → IsSized (constant t 0) 12 (suc x)
    zero_sized true = record { depth = omega arith; reads = omega arith }
    zero_sized false = record { depth = omega arith; reads = omega arith }

    var_sized : IsSized (Var x) 0 (suc x)
    var_sized = record { depth = omega arith; reads = omega arith }

    by : (b : Bool) → IsSized (if b then raised t n (resigned s t (Var x)) else constant t 0) 12 (suc x)
    by true = let h = raised_sized t n 1 (suc x) (resigned s t (Var x)) (resigned_sized s t 0 (suc x) (Var x) var_sized) in record { depth = omega (arith, h.depth); reads = h.reads }
    by false = zero_sized t

raised_saturated_sized : (t : Bool) (w : ℕ) (s : Bool) (x n : ℕ) → IsSized (raised_saturated t w s x n) 20 (suc x)
raised_saturated_sized true w true x n = let h = inside_sized true true x n in let a = h.depth in let b = h.reads in record { depth = omega arith; reads = omega arith }
raised_saturated_sized false w true x n = let h = inside_sized false true x n in let a = h.depth in let b = h.reads in record { depth = omega arith; reads = omega arith }
raised_saturated_sized true w false x n = let h = inside_sized true false x n in let a = h.depth in let b = h.reads in record { depth = omega arith; reads = omega arith }
raised_saturated_sized false w false x n = let h = inside_sized false false x n in let a = h.depth in let b = h.reads in record { depth = omega arith; reads = omega arith }

raised_wrapped_sized : (t : Bool) (w : ℕ) (s : Bool) (x n : ℕ) → IsSized (raised_wrapped t w s x n) 20 (suc x)
raised_wrapped_sized t w s x n = by (nat_lt n 64)
  where
    zero_sized : (t : Bool) → IsSized (constant t 0) 20 (suc x)
    zero_sized true = record { depth = omega arith; reads = omega arith }
    zero_sized false = record { depth = omega arith; reads = omega arith }

    product_sized : (b : Bool) → IsSized (if b then bits_of s (Var x) else Binary op.Mul (bits_of s (Var x)) (Unsigned (2 ^ n))) 2 (suc x)
    product_sized true = let h = bits_sized s x in record { depth = omega (arith, h.depth); reads = h.reads }
    product_sized false = let h = bits_sized s x in let a = h.depth in let b = h.reads in record { depth = omega arith; reads = omega arith }

    by : (b : Bool) → IsSized (if b then wrapped t w (shifted_bits s x n) else constant t 0) 20 (suc x)
    by true = let h = wrapped_sized t w 2 (suc x) (shifted_bits s x n) (product_sized (nat_eq n 0)) in record { depth = omega (arith, h.depth); reads = h.reads }
    by false = zero_sized t

pub raised_fitted_sized : (a : Overflow) (t : Bool) (w : ℕ) (s : Bool) (x n : ℕ) → IsSized (raised_fitted a t w s x n) 20 (suc x)
unfolding raised_fitted
raised_fitted_sized Saturate t w s x n = raised_saturated_sized t w s x n
raised_fitted_sized Wrap t w s x n = raised_wrapped_sized t w s x n
