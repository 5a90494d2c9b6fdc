-- The floor, or one more: each method's row, for z = q * p + r.
use Rattle.std.proofs.Common.{ℕ, suc, ◌+◌, ◌-◌, ◌*◌, ◌%◌, ◌^◌, ◌<◌, ◌≤◌, ◌≡◌, refl, ap, sym, ◌∙◌, subst, Bool, true, false, ltb, arith}
use Rattle.std.specs.Prelude.{ℤ, pos, negsuc, ◌+ℤ◌, ◌-ℤ◌, ◌*ℤ◌, ◌≤ℤ◌, ◌<ℤ◌, neg_ℤ, nat_abs, nat_lt}
use Rattle.std.proofs.lemmas.Bool.{ltb-true, ltb-false}
use Rattle.std.proofs.lemmas.Int.{ints}
use Rattle.fi_quant.specs.Round.{IsFloor, IsCeiling, IsTowardZero, IsNearest, IsNearestAway, IsNearestEven}
use Rattle.fi_quant.proofs.Signs.{distrib, neg-mul, size-signed, twice-mul}

-- one more where the flag is set
abbrev pub stepped : Bool → ℤ → ℤ
stepped true q = q +ℤ pos 1
stepped false q = q

pub ceiling_row : (z q : ℤ) (p r : ℕ) → z ≡ q *ℤ pos p +ℤ pos r → r < p → IsCeiling z p (stepped (nat_lt 0 r) q)
ceiling_row z q p r e l = go (ltb 0 r) refl
  where
    go : (t : Bool) → ltb 0 r ≡ t → IsCeiling z p (stepped t q)
    go true u = let v = ltb-true 0 r u in record { least = omega (arith, ints, distrib (q +ℤ pos 1) (neg_ℤ (pos 1)) p, distrib q (pos 1) p, neg-mul 1 p); most = omega (arith, ints, distrib q (pos 1) p) }
    go false u = let v = ltb-false 0 r u in record { least = omega (arith, ints, distrib q (neg_ℤ (pos 1)) p, neg-mul 1 p); most = omega (arith, ints) }

pub nearest_row : (z q : ℤ) (p h r : ℕ) → z ≡ q *ℤ pos p +ℤ pos r → r < p → p ≡ 2 * h → IsNearest z p (stepped (nat_lt (h - 1) r) q)
nearest_row z q p h r e l d = go (ltb (h - 1) r) refl
  where
    go : (t : Bool) → ltb (h - 1) r ≡ t → IsNearest z p (stepped t q)
    go true u = let v = ltb-true (h - 1) r u in record {
      least = omega (arith, ints, distrib (pos 2 *ℤ (q +ℤ pos 1)) (neg_ℤ (pos 1)) p, neg-mul 1 p, twice-mul (q +ℤ pos 1) p, distrib q (pos 1) p);
      most = omega (arith, ints, distrib (pos 2 *ℤ (q +ℤ pos 1)) (pos 1) p, twice-mul (q +ℤ pos 1) p, distrib q (pos 1) p);
    }
    go false u = let v = ltb-false (h - 1) r u in record {
      least = omega (arith, ints, distrib (pos 2 *ℤ q) (neg_ℤ (pos 1)) p, neg-mul 1 p, twice-mul q p);
      most = omega (arith, ints, distrib (pos 2 *ℤ q) (pos 1) p, twice-mul q p);
    }

abs_scale : (q : ℤ) (p : ℕ) → nat_abs q * p ≡ nat_abs (q *ℤ pos p)
abs_scale (pos n) p = refl
abs_scale (negsuc n) p = sym (size-signed true (suc n * p))

pub away_up_row : (z q : ℤ) (p h r : ℕ) → z ≡ q *ℤ pos p +ℤ pos r → r < p → p ≡ 2 * h → pos 0 ≤ℤ z → IsNearestAway z p (stepped (nat_lt (h - 1) r) q)
away_up_row z q p h r e l d n = go (ltb (h - 1) r) refl
  where
    go : (t : Bool) → ltb (h - 1) r ≡ t → IsNearestAway z p (stepped t q)
    go true u = let v = ltb-true (h - 1) r u in let a = distrib q (pos 1) p in let b = twice-mul (q +ℤ pos 1) p in record {
      near = omega (arith, ints);
      tie = λ g. let w = abs_scale (q +ℤ pos 1) p in omega (arith, ints);
    }
    go false u = let v = ltb-false (h - 1) r u in let b = twice-mul q p in record { near = omega (arith, ints); tie = λ g. absurd (omega (arith, ints)) }

pub away_down_row : (z q : ℤ) (p h r : ℕ) → z ≡ q *ℤ pos p +ℤ pos r → r < p → p ≡ 2 * h → z <ℤ pos 0 → IsNearestAway z p (stepped (nat_lt h r) q)
away_down_row z q p h r e l d n = go (ltb h r) refl
  where
    go : (t : Bool) → ltb h r ≡ t → IsNearestAway z p (stepped t q)
    go true u = let v = ltb-true h r u in let a = distrib q (pos 1) p in let b = twice-mul (q +ℤ pos 1) p in record {
      near = omega (arith, ints);
      tie = λ g. absurd (omega (arith, ints));
    }
    go false u = let v = ltb-false h r u in let b = twice-mul q p in record { near = omega (arith, ints); tie = λ g. let w = abs_scale q p in omega (arith, ints) }

pub even_row : (z q : ℤ) (p h r : ℕ) → z ≡ q *ℤ pos p +ℤ pos r → r < p → p ≡ 2 * h → nat_abs q % 2 ≡ 0 → IsNearestEven z p (stepped (nat_lt h r) q)
even_row z q p h r e l d n = go (ltb h r) refl
  where
    go : (t : Bool) → ltb h r ≡ t → IsNearestEven z p (stepped t q)
    go true u = let v = ltb-true h r u in let a = distrib q (pos 1) p in let b = twice-mul (q +ℤ pos 1) p in record {
      near = omega (arith, ints);
      tie = λ g. absurd (omega (arith, ints));
    }
    go false u = let v = ltb-false h r u in let b = twice-mul q p in record { near = omega (arith, ints); tie = λ g. n }

next_even : (q : ℤ) → nat_abs q % 2 ≡ 1 → nat_abs (q +ℤ pos 1) % 2 ≡ 0
next_even q h = omega (arith, ints)

pub odd_row : (z q : ℤ) (p h r : ℕ) → z ≡ q *ℤ pos p +ℤ pos r → r < p → p ≡ 2 * h → nat_abs q % 2 ≡ 1 → IsNearestEven z p (stepped (nat_lt (h - 1) r) q)
odd_row z q p h r e l d n = go (ltb (h - 1) r) refl
  where
    go : (t : Bool) → ltb (h - 1) r ≡ t → IsNearestEven z p (stepped t q)
    go true u = let v = ltb-true (h - 1) r u in let a = distrib q (pos 1) p in let b = twice-mul (q +ℤ pos 1) p in record {
      near = omega (arith, ints);
      tie = λ g. next_even q n;
    }
    go false u = let v = ltb-false (h - 1) r u in let b = twice-mul q p in record { near = omega (arith, ints); tie = λ g. absurd (omega (arith, ints)) }

-- ---- a z that is small beside p

minus_times : (p : ℕ) → negsuc 0 *ℤ pos p ≡ neg_ℤ (pos p)
minus_times p = omega (arith, ints, neg-mul 1 p)

pub far_floor_below : (z : ℤ) (p : ℕ) → z <ℤ pos 0 → neg_ℤ (pos p) ≤ℤ z → IsFloor z p (negsuc 0)
far_floor_below z p a b = let m = minus_times p in record { least = omega (arith, ints); most = omega (arith, ints) }

pub far_floor : (z : ℤ) (p : ℕ) → pos 0 ≤ℤ z → z <ℤ pos p → IsFloor z p (pos 0)
far_floor z p a b = record { least = omega (arith, ints); most = omega (arith, ints) }

pub far_ceiling_above : (z : ℤ) (p : ℕ) → pos 0 <ℤ z → z ≤ℤ pos p → IsCeiling z p (pos 1)
far_ceiling_above z p a b = record { least = omega (arith, ints); most = omega (arith, ints) }

pub far_ceiling : (z : ℤ) (p : ℕ) → z ≤ℤ pos 0 → neg_ℤ (pos p) <ℤ z → IsCeiling z p (pos 0)
far_ceiling z p a b = let m = minus_times p in record { least = omega (arith, ints); most = omega (arith, ints) }

pub far_zero : (z : ℤ) (p : ℕ) → neg_ℤ (pos p) <ℤ z → z <ℤ pos p → IsTowardZero z p (pos 0)
far_zero z p a b = record { from_above = λ h. far_floor z p h b; from_below = λ h. far_ceiling z p (omega (arith, ints)) a }

pub far_nearest : (z : ℤ) (p : ℕ) → neg_ℤ (pos p) ≤ℤ (pos 2 *ℤ z) → (pos 2 *ℤ z) <ℤ pos p → IsNearest z p (pos 0)
far_nearest z p a b = let m = minus_times p in record { least = omega (arith, ints); most = omega (arith, ints) }

pub far_nearest_above : (z : ℤ) (p : ℕ) → pos p ≤ℤ (pos 2 *ℤ z) → z <ℤ pos p → IsNearest z p (pos 1)
far_nearest_above z p a b = record { least = omega (arith, ints); most = omega (arith, ints) }

pub far_away : (z : ℤ) (p : ℕ) → neg_ℤ (pos p) <ℤ (pos 2 *ℤ z) → (pos 2 *ℤ z) <ℤ pos p → IsNearestAway z p (pos 0)
far_away z p a b = record { near = omega (arith, ints); tie = λ g. absurd (omega (arith, ints)) }

pub far_away_above : (z : ℤ) (p : ℕ) → pos p ≤ℤ (pos 2 *ℤ z) → z <ℤ pos p → IsNearestAway z p (pos 1)
far_away_above z p a b = record { near = omega (arith, ints); tie = λ g. omega (arith, ints) }

pub far_away_below : (z : ℤ) (p : ℕ) → (pos 2 *ℤ z) ≡ neg_ℤ (pos p) → 0 < p → IsNearestAway z p (negsuc 0)
far_away_below z p e h = let m = neg-mul 2 p in record { near = omega (arith, ints); tie = λ g. omega (arith, ints) }

pub far_even : (z : ℤ) (p : ℕ) → neg_ℤ (pos p) ≤ℤ (pos 2 *ℤ z) → (pos 2 *ℤ z) ≤ℤ pos p → IsNearestEven z p (pos 0)
far_even z p a b = record { near = omega (arith, ints); tie = λ g. refl }

pub far_even_above : (z : ℤ) (p : ℕ) → pos p <ℤ (pos 2 *ℤ z) → z <ℤ pos p → IsNearestEven z p (pos 1)
far_even_above z p a b = record { near = omega (arith, ints); tie = λ g. absurd (omega (arith, ints)) }
