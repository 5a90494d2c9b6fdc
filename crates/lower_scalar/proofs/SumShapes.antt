-- What sums and differences of two words of a type give.
use Rattle.std.proofs.Common.{◌≡◌, ℕ, suc, ◌+◌, ◌-◌, ◌*◌, ◌/◌, ◌%◌, ◌^◌, ◌<◌, ◌≤◌, Bool, true, false, ℤ, pos, negsuc, ◌+ℤ◌, ◌*ℤ◌, ◌≤ℤ◌, ◌<ℤ◌, refl, sym, ap, ◌∙◌, subst, arith, inl, inr}
use Rattle.std.specs.Prelude.{◌-ℤ◌, neg_ℤ}
use Rattle.std.proofs.lemmas.Int.{ints, by_lt_z}
use Rattle.std.proofs.lemmas.Nat.{pow_pos, div-add-mod'}
use Rattle.std.proofs.lemmas.Bool.{cases_lt}
use Rattle.num_type.specs.declared.methods.Overflow.{Overflow}
use Rattle.num_type.specs.declared.methods.Overflow.TheVariants.{Saturate, Wrap}
use Rattle.num_type.specs.Types.{least_of, greatest_of}
use Rattle.fi_quant.specs.Fit.{IsNearestIn}
use Rattle.fi_quant.proofs.Fits.{inside, above, below}
use Rattle.fi_quant.proofs.Signs.{distrib}
use Rattle.c_tree.specs.declared.tree.COp.TheVariants as op
use Rattle.c_tree.specs.Tree.{Exp, Signed, Unsigned, Var, Neg, Binary, Choose}
use Rattle.c_tree.specs.Meaning.{State, Word, Int64, Uint64, wrapped}
use Rattle.lower_scalar.specs.Part.{word}
use Rattle.lower_scalar.specs.Shapes.{is_less, bits_of, least, top}
use Rattle.lower_scalar.specs.Operators.{sum_saturated, difference_saturated, sum_fitted, difference_fitted}
use Rattle.lower_scalar.proofs.Says.{IsInt64, Says, signed_says, unsigned_says, add_says, sub_says, plus_says, minus_says, modular_sum_says, difference_says, less_says, below_says}
use Rattle.lower_scalar.proofs.Words.{IsWord, IsBits, bits, bits_are, any_bits, Holds, x_says, bits_of_says}
use Rattle.lower_scalar.proofs.FitShapes.{SaysFit, half_most, whole_most, range_word, least_says, wrapped_says, wrapped_bits}
use Rattle.lower_scalar.proofs.Raised.{mirror}

-- two signed numbers of the type, and their sum
signed_sum : (st : State) (w x y : ℕ) (u v : ℤ) → w ≤ 64 → least_of true w ≤ℤ u → u ≤ℤ greatest_of true w → least_of true w ≤ℤ v → v ≤ℤ greatest_of true w → Holds st x true u → Holds st y true v → SaysFit Saturate true w st (u +ℤ v) (sum_saturated true w x y)
signed_sum st w x y u v lim ul um vl vm hx hy =
    let lo : ℤ = neg_ℤ (pos (2 ^ (w - 1))) in
    let hi : ℤ = pos (2 ^ (w - 1) - 1) in
    let m = half_most w lim in
    let p = pow_pos (w - 1) in
    let sx : Says (Var x) st (Int64 u) = x_says st x true u hx in
    let sy : Says (Var y) st (Int64 v) = x_says st y true v hy in
    let low : Says (least true w) st (Int64 lo) = least_says st true w lim in
    let high : Says (Signed (2 ^ (w - 1) - 1)) st (Int64 hi) = signed_says (2 ^ (w - 1) - 1) st in
    let zero : Says (Signed 0) st (Int64 (pos 0)) = signed_says 0 st in
    by_lt_z v (pos 0)
    (λ n.
    let edge : Says (Binary op.Sub (least true w) (Var y)) st (Int64 (lo -ℤ v)) = sub_says lo v (record { least = omega (arith, ints, n, m); most = omega (arith, ints, vl, p) }) low sy in
    by_lt_z u (lo -ℤ v)
    (λ k. record {
      number = lo;
      is = below lo hi (u +ℤ v) (omega (arith, ints)) (omega (arith, ints, k));
      says = less_says v (pos 0) (Int64 lo) sy zero (λ g. less_says u (lo -ℤ v) (Int64 lo) sx edge (λ j. low) (λ j. absurd (omega (arith, ints, k, j)))) (λ g. absurd (omega (arith, ints, n, g)));
    })
    (λ k.
    let a : lo ≤ℤ (u +ℤ v) = omega (arith, ints, k) in
    let b : (u +ℤ v) ≤ℤ hi = omega (arith, ints, n, um) in
    record {
      number = u +ℤ v;
      is = inside lo hi (u +ℤ v) a b;
      says = less_says v (pos 0) (Int64 (u +ℤ v)) sy zero
          (λ g. less_says u (lo -ℤ v) (Int64 (u +ℤ v)) sx edge (λ j. absurd (omega (arith, ints, k, j))) (λ j. add_says u v (range_word true w (u +ℤ v) lim a b) sx sy)) (λ g. absurd (omega (arith, ints, n, g)));
    }))
    (λ n.
    let edge : Says (Binary op.Sub (Signed (2 ^ (w - 1) - 1)) (Var y)) st (Int64 (hi -ℤ v)) = sub_says hi v (record { least = omega (arith, ints, vm); most = omega (arith, ints, n, m, p) }) high sy in
    by_lt_z (hi -ℤ v) u
    (λ k. record {
      number = hi;
      is = above lo hi (u +ℤ v) (omega (arith, ints)) (omega (arith, ints, k));
      says = less_says v (pos 0) (Int64 hi) sy zero (λ g. absurd (omega (arith, ints, n, g))) (λ g. less_says (hi -ℤ v) u (Int64 hi) edge sx (λ j. high) (λ j. absurd (omega (arith, ints, k, j))));
    })
    (λ k.
    let a : lo ≤ℤ (u +ℤ v) = omega (arith, ints, n, ul) in
    let b : (u +ℤ v) ≤ℤ hi = omega (arith, ints, k) in
    record {
      number = u +ℤ v;
      is = inside lo hi (u +ℤ v) a b;
      says = less_says v (pos 0) (Int64 (u +ℤ v)) sy zero (λ g. absurd (omega (arith, ints, n, g)))
          (λ g. less_says (hi -ℤ v) u (Int64 (u +ℤ v)) edge sx (λ j. absurd (omega (arith, ints, k, j))) (λ j. add_says u v (range_word true w (u +ℤ v) lim a b) sx sy));
    }))

-- and their difference
signed_difference : (st : State) (w x y : ℕ) (u v : ℤ) → w ≤ 64 → least_of true w ≤ℤ u → u ≤ℤ greatest_of true w → least_of true w ≤ℤ v → v ≤ℤ greatest_of true w → Holds st x true u → Holds st y true v → SaysFit Saturate true w st (u -ℤ v) (difference_saturated true w x y)
signed_difference st w x y u v lim ul um vl vm hx hy =
    let lo : ℤ = neg_ℤ (pos (2 ^ (w - 1))) in
    let hi : ℤ = pos (2 ^ (w - 1) - 1) in
    let m = half_most w lim in
    let p = pow_pos (w - 1) in
    let sx : Says (Var x) st (Int64 u) = x_says st x true u hx in
    let sy : Says (Var y) st (Int64 v) = x_says st y true v hy in
    let low : Says (least true w) st (Int64 lo) = least_says st true w lim in
    let high : Says (Signed (2 ^ (w - 1) - 1)) st (Int64 hi) = signed_says (2 ^ (w - 1) - 1) st in
    let zero : Says (Signed 0) st (Int64 (pos 0)) = signed_says 0 st in
    by_lt_z v (pos 0)
    (λ n.
    let edge : Says (Binary op.Add (Signed (2 ^ (w - 1) - 1)) (Var y)) st (Int64 (hi +ℤ v)) = add_says hi v (record { least = omega (arith, ints, vl, m); most = omega (arith, ints, n, m, p) }) high sy in
    by_lt_z (hi +ℤ v) u
    (λ k. record {
      number = hi;
      is = above lo hi (u -ℤ v) (omega (arith, ints)) (omega (arith, ints, k));
      says = less_says v (pos 0) (Int64 hi) sy zero (λ g. less_says (hi +ℤ v) u (Int64 hi) edge sx (λ j. high) (λ j. absurd (omega (arith, ints, k, j)))) (λ g. absurd (omega (arith, ints, n, g)));
    })
    (λ k.
    let a : lo ≤ℤ (u -ℤ v) = omega (arith, ints, n, ul) in
    let b : (u -ℤ v) ≤ℤ hi = omega (arith, ints, k) in
    record {
      number = u -ℤ v;
      is = inside lo hi (u -ℤ v) a b;
      says = less_says v (pos 0) (Int64 (u -ℤ v)) sy zero
          (λ g. less_says (hi +ℤ v) u (Int64 (u -ℤ v)) edge sx (λ j. absurd (omega (arith, ints, k, j))) (λ j. sub_says u v (range_word true w (u -ℤ v) lim a b) sx sy)) (λ g. absurd (omega (arith, ints, n, g)));
    }))
    (λ n.
    let edge : Says (Binary op.Add (least true w) (Var y)) st (Int64 (lo +ℤ v)) = add_says lo v (record { least = omega (arith, ints, n, m); most = omega (arith, ints, vm) }) low sy in
    by_lt_z u (lo +ℤ v)
    (λ k. record {
      number = lo;
      is = below lo hi (u -ℤ v) (omega (arith, ints)) (omega (arith, ints, k));
      says = less_says v (pos 0) (Int64 lo) sy zero (λ g. absurd (omega (arith, ints, n, g))) (λ g. less_says u (lo +ℤ v) (Int64 lo) sx edge (λ j. low) (λ j. absurd (omega (arith, ints, k, j))));
    })
    (λ k.
    let a : lo ≤ℤ (u -ℤ v) = omega (arith, ints, k) in
    let b : (u -ℤ v) ≤ℤ hi = omega (arith, ints, n, um) in
    record {
      number = u -ℤ v;
      is = inside lo hi (u -ℤ v) a b;
      says = less_says v (pos 0) (Int64 (u -ℤ v)) sy zero (λ g. absurd (omega (arith, ints, n, g)))
          (λ g. less_says u (lo +ℤ v) (Int64 (u -ℤ v)) sx edge (λ j. absurd (omega (arith, ints, k, j))) (λ j. sub_says u v (range_word true w (u -ℤ v) lim a b) sx sy));
    }))

-- the same of unsigned numbers
plain_sum : (st : State) (w x y : ℕ) (u v : ℤ) → w ≤ 64 → least_of false w ≤ℤ u → u ≤ℤ greatest_of false w → least_of false w ≤ℤ v → v ≤ℤ greatest_of false w → Holds st x false u → Holds st y false v → SaysFit Saturate false w st (u +ℤ v) (sum_saturated false w x y)
plain_sum st w x y (negsuc i) v lim ul um vl vm hx hy = absurd (omega (arith, ints, ul))
plain_sum st w x y (pos i) (negsuc j) lim ul um vl vm hx hy = absurd (omega (arith, ints, vl))
plain_sum st w x y (pos i) (pos j) lim ul um vl vm hx hy =
    let hi : ℕ = 2 ^ w - 1 in
    let m = whole_most w lim in
    let p = pow_pos w in
    let sx : Says (Var x) st (Uint64 i) = x_says st x false (pos i) hx in
    let sy : Says (Var y) st (Uint64 j) = x_says st y false (pos j) hy in
    let edge : Says (Binary op.Sub (Unsigned (2 ^ w - 1)) (Var y)) st (Uint64 (hi - j)) = minus_says hi j (omega (arith, ints, vm)) (omega (arith, m, p)) (unsigned_says hi st) sy in
    elim (cases_lt (hi - j) i) [
      | inl k ↦
          record {
            number = pos hi;
            is = above (pos 0) (pos hi) (pos i +ℤ pos j) (omega (arith, ints)) (omega (arith, ints, k));
            says = below_says (hi - j) i (Uint64 hi) edge sx (λ g. unsigned_says hi st) (λ g. absurd (omega (arith, k, g)));
          }
      | inr k ↦
          record {
            number = pos i +ℤ pos j;
            is = inside (pos 0) (pos hi) (pos i +ℤ pos j) (omega (arith, ints)) (omega (arith, ints, k, vm));
            says = below_says (hi - j) i (Uint64 (i + j)) edge sx (λ g. absurd (omega (arith, k, g))) (λ g. plus_says i j (omega (arith, ints, k, vm, m, p)) sx sy);
          }
    ]

plain_difference : (st : State) (w x y : ℕ) (u v : ℤ) → w ≤ 64 → least_of false w ≤ℤ u → u ≤ℤ greatest_of false w → least_of false w ≤ℤ v → v ≤ℤ greatest_of false w → Holds st x false u → Holds st y false v → SaysFit Saturate false w st (u -ℤ v) (difference_saturated false w x y)
plain_difference st w x y (negsuc i) v lim ul um vl vm hx hy = absurd (omega (arith, ints, ul))
plain_difference st w x y (pos i) (negsuc j) lim ul um vl vm hx hy = absurd (omega (arith, ints, vl))
plain_difference st w x y (pos i) (pos j) lim ul um vl vm hx hy =
    let m = whole_most w lim in
    let p = pow_pos w in
    let sx : Says (Var x) st (Uint64 i) = x_says st x false (pos i) hx in
    let sy : Says (Var y) st (Uint64 j) = x_says st y false (pos j) hy in
    elim (cases_lt i j) [
      | inl k ↦
          record {
            number = pos 0;
            is = below (pos 0) (pos (2 ^ w - 1)) (pos i -ℤ pos j) (omega (arith, ints)) (omega (arith, ints, k));
            says = below_says i j (Uint64 0) sx sy (λ g. unsigned_says 0 st) (λ g. absurd (omega (arith, k, g)));
          }
      | inr k ↦
          record {
            number = pos (i - j);
            is = subst (λ z. IsNearestIn (pos 0) (pos (2 ^ w - 1)) z (pos (i - j))) (let e : pos (i - j) ≡ pos i -ℤ pos j = omega (arith, ints, k) in e)
                (inside (pos 0) (pos (2 ^ w - 1)) (pos (i - j)) (omega (arith, ints)) (omega (arith, ints, um)));
            says = below_says i j (Uint64 (i - j)) sx sy (λ g. absurd (omega (arith, k, g))) (λ g. minus_says i j k (omega (arith, ints, um, m, p)) sx sy);
          }
    ]

-- ---- Wrap

sum_bits : (u v : ℤ) (m n : ℕ) → IsBits u m → IsBits v n → IsBits (u +ℤ v) ((m + n) % 2 ^ 64)
sum_bits u v m n a b = record {
  turns = a.turns +ℤ b.turns +ℤ pos ((m + n) / 2 ^ 64);
  is = omega (arith, ints, a.is, b.is, distrib (a.turns +ℤ b.turns) (pos ((m + n) / 2 ^ 64)) (2 ^ 64), distrib a.turns b.turns (2 ^ 64), div-add-mod' (m + n) (2 ^ 64));
}

difference_bits : (u v : ℤ) (m n : ℕ) → IsBits u m → IsBits v n → IsBits (u -ℤ v) (wrapped 64 (pos m -ℤ pos n))
difference_bits u v m n a b =
    let c = any_bits (pos m -ℤ pos n) in
    record {
      turns = c.turns +ℤ (a.turns +ℤ neg_ℤ b.turns);
      is = omega (arith, ints, a.is, b.is, c.is, distrib c.turns (a.turns +ℤ neg_ℤ b.turns) (2 ^ 64), distrib a.turns (neg_ℤ b.turns) (2 ^ 64), mirror b.turns (2 ^ 64));
    }

pub sum_fitted_says : (a : Overflow) (st : State) (t : Bool) (w x y : ℕ) (u v : ℤ) → 1 ≤ w → w ≤ 64 → least_of t w ≤ℤ u → u ≤ℤ greatest_of t w → least_of t w ≤ℤ v → v ≤ℤ greatest_of t w → Holds st x t u → Holds st y t v → SaysFit a t w st (u +ℤ v) (sum_fitted a t w x y)
sum_fitted_says Saturate st true w x y u v one lim ul um vl vm hx hy = signed_sum st w x y u v lim ul um vl vm hx hy
sum_fitted_says Saturate st false w x y u v one lim ul um vl vm hx hy = plain_sum st w x y u v lim ul um vl vm hx hy
sum_fitted_says Wrap st t w x y u v one lim ul um vl vm hx hy =
    let s : Says (Binary op.Add (bits_of t (Var x)) (bits_of t (Var y))) st (Uint64 ((bits t u + bits t v) % 2 ^ 64)) = modular_sum_says (bits t u) (bits t v) (bits_of_says t u (x_says st x t u hx)) (bits_of_says t v (x_says st y t v hy)) in
    let r = wrapped_says t w ((bits t u + bits t v) % 2 ^ 64) one lim s in
    let b = sum_bits u v (bits t u) (bits t v) (bits_are t u (range_word t w u lim ul um)) (bits_are t v (range_word t w v lim vl vm)) in
    record { number = r.number; is = wrapped_bits t w ((bits t u + bits t v) % 2 ^ 64) (u +ℤ v) r.number lim b r.is; says = r.says }

pub difference_fitted_says : (a : Overflow) (st : State) (t : Bool) (w x y : ℕ) (u v : ℤ) → 1 ≤ w → w ≤ 64 → least_of t w ≤ℤ u → u ≤ℤ greatest_of t w → least_of t w ≤ℤ v → v ≤ℤ greatest_of t w → Holds st x t u → Holds st y t v → SaysFit a t w st (u -ℤ v) (difference_fitted a t w x y)
difference_fitted_says Saturate st true w x y u v one lim ul um vl vm hx hy = signed_difference st w x y u v lim ul um vl vm hx hy
difference_fitted_says Saturate st false w x y u v one lim ul um vl vm hx hy = plain_difference st w x y u v lim ul um vl vm hx hy
difference_fitted_says Wrap st t w x y u v one lim ul um vl vm hx hy =
    let s : Says (Binary op.Sub (bits_of t (Var x)) (bits_of t (Var y))) st (Uint64 (wrapped 64 (pos (bits t u) -ℤ pos (bits t v)))) = difference_says (bits t u) (bits t v) (bits_of_says t u (x_says st x t u hx)) (bits_of_says t v (x_says st y t v hy)) in
    let r = wrapped_says t w (wrapped 64 (pos (bits t u) -ℤ pos (bits t v))) one lim s in
    let b = difference_bits u v (bits t u) (bits t v) (bits_are t u (range_word t w u lim ul um)) (bits_are t v (range_word t w v lim vl vm)) in
    record { number = r.number; is = wrapped_bits t w (wrapped 64 (pos (bits t u) -ℤ pos (bits t v))) (u -ℤ v) r.number lim b r.is; says = r.says }
