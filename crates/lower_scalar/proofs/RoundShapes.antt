-- What the shapes of rounding give.
use Rattle.std.proofs.Common.{◌≡◌, ℕ, suc, ◌+◌, ◌-◌, ◌*◌, ◌/◌, ◌^◌, ◌%◌, ◌<◌, ◌≤◌, Bool, true, false, ltb, ℤ, pos, negsuc, ◌+ℤ◌, ◌*ℤ◌, ◌≤ℤ◌, ◌<ℤ◌, Some, refl, sym, ap, ◌∙◌, subst, arith, inl, inr, if◌then◌else◌}
use Rattle.std.specs.Prelude.{neg_ℤ, ◌-ℤ◌, unsigned_abs, nat_abs, nat_lt, nat_eq, slice_get}
use Rattle.std.proofs.lemmas.Bool.{lt-ltb, le-ltb, cases_lt}
use Rattle.std.proofs.lemmas.Int.{ints, by_lt_z}
use Rattle.std.proofs.lemmas.Nat.{pow_pos, mod_below, pow_below}
use Rattle.std.proofs.Math.Pow.{pow_mono}
use Rattle.std.proofs.Math.Nat.{div-le_self}
use Rattle.num_type.specs.declared.methods.Rounding.{Rounding}
use Rattle.num_type.specs.declared.methods.Rounding.TheVariants.{Ceiling, Floor, Zero, Nearest, Round, Convergent}
use Rattle.fi_quant.specs.Round.{IsFloor, IsRounded}
use Rattle.fi_quant.specs.Numbers.{floor_of}
use Rattle.fi_quant.proofs.Exist.{floor_is}
use Rattle.fi_quant.proofs.Splits.{double}
use Rattle.c_tree.specs.declared.tree.CRel.TheVariants.{Lt}
use Rattle.c_tree.specs.declared.tree.COp.TheVariants as op
use Rattle.c_tree.specs.Tree.{Exp, Signed, Unsigned, Var, Cast, Neg, Binary, Choose, Compare}
use Rattle.c_tree.specs.Meaning.{Word, Int64, Uint64, State}
use Rattle.lower_scalar.specs.Part.{word}
use Rattle.lower_scalar.specs.Shapes.{constant, minus_one, bits_of, by_sign, is_less, floor_shift, low_bits, step_above, round_shift, one_above, half_above, least_below, round_far}
use Rattle.lower_scalar.proofs.Says.{IsInt64, Says, signed_says, unsigned_says, sub_says, neg_says, low_says, shift_says, plain_shift_says, less_says, below_says}
use Rattle.lower_scalar.proofs.Rows.{stepped, ceiling_row, nearest_row, away_up_row, away_down_row, even_row, odd_row, far_floor_below, far_floor, far_ceiling_above, far_ceiling, far_zero, far_nearest, far_nearest_above, far_away, far_away_above, far_away_below, far_even, far_even_above}
use Rattle.lower_scalar.proofs.Words.{IsUint64, IsWord, bits, bits_are, bits_below, parity, rest_is, floor_word, next_word, Holds, x_says, constant_says, minus_one_says, at_number, bits_of_says, by_sign_says, low_bits_says, next_says}

-- ---- 1 to 63 bits

pub floor_says : (st : State) (x : ℕ) (s : Bool) (z : ℤ) (k : ℕ) → k < 64 → IsWord s z → Holds st x s z → Says (floor_shift s x k) st (word s (floor_of z (2 ^ k)))
floor_says st x true (pos n) k l i h =
    less_says (pos n) (pos 0) (Int64 (pos (n / 2 ^ k))) (x_says st x true (pos n) h) (signed_says 0 st)
    (λ g. absurd (omega (arith, ints, g))) (λ g. shift_says n k l (x_says st x true (pos n) h))
floor_says st x true (negsuc n) k l i h =
    let small : n / 2 ^ k ≤ n = div-le_self n (2 ^ k) in
    less_says (negsuc n) (pos 0) (Int64 (negsuc (n / 2 ^ k))) (x_says st x true (negsuc n) h) (signed_says 0 st)
    (λ g.
    at_number (negsuc 0 -ℤ pos (n / 2 ^ k)) (negsuc (n / 2 ^ k)) (omega (arith, ints))
    (sub_says (negsuc 0) (pos (n / 2 ^ k)) (record { least = omega (arith, ints, i.least); most = omega (arith, ints) }) (minus_one_says st)
    (shift_says n k l
    (at_number (negsuc 0 -ℤ negsuc n) (pos n) (omega (arith, ints))
    (sub_says (negsuc 0) (negsuc n) (record { least = omega (arith, ints, i.least); most = omega (arith, ints, i.least) }) (minus_one_says st) (x_says st x true (negsuc n) h))))))
    (λ g. absurd (omega (arith, ints, g)))
floor_says st x false (pos n) k l i h = plain_shift_says n k l (x_says st x false (pos n) h)
floor_says st x false (negsuc n) k l i h = absurd (omega (arith, ints, i.least))

-- a variable holds z, and another its floor
pub record HoldsFloor (st : State) (s : Bool) (x f k : ℕ) (z : ℤ) : Type 0 where
  pub number : Holds st x s z
  pub floor : Holds st f s (floor_of z (2 ^ k))
  pub is_word : IsWord s z
  pub some : 1 ≤ k
  pub most : k < 64

pub step_says : (st : State) (s : Bool) (x f k c : ℕ) (z : ℤ) → HoldsFloor st s x f k z → Says (step_above s x f k c) st (word s (stepped (nat_lt c (bits s z % 2 ^ k)) (floor_of z (2 ^ k))))
step_says st s x f k c z h =
    let r : ℕ = bits s z % 2 ^ k in
    let q : ℤ = floor_of z (2 ^ k) in
    below_says c r (word s (stepped (nat_lt c r) q)) (unsigned_says c st) (low_bits_says st x s z k h.number)
    (λ g.
    let t : ltb c r ≡ true = lt-ltb c r g in
    subst (λ (b : Bool). Says (Binary op.Add (Var f) (constant s 1)) st (word s (stepped b q))) (sym t)
    (next_says s q (floor_word s z k h.some h.is_word) (next_word s z k h.some h.is_word) (x_says st f s q h.floor)))
    (λ g.
    let t : ltb c r ≡ false = le-ltb c r g in
    subst (λ (b : Bool). Says (Var f) st (word s (stepped b q))) (sym t) (x_says st f s q h.floor))

stepped_word : (s t : Bool) (z : ℤ) (k : ℕ) → 1 ≤ k → IsWord s z → IsWord s (stepped t (floor_of z (2 ^ k)))
stepped_word s true z k h i = next_word s z k h i
stepped_word s false z k h i = floor_word s z k h i

-- an expression gives z / 2 ^ k, rounded
pub record SaysRounded (m : Rounding) (st : State) (s : Bool) (k : ℕ) (z : ℤ) (e : Exp) : Type 0 where
  pub number : ℤ
  pub is_word : IsWord s number
  pub is : IsRounded m z k number
  pub says : Says e st (word s number)

pub round_says : (m : Rounding) (st : State) (s : Bool) (x f k : ℕ) (z : ℤ) → HoldsFloor st s x f k z → SaysRounded m st s k z (round_shift m s x f k)
unfolding round_shift
round_says m st s x f k z h = by m
  where
    r : ℕ
    r = bits s z % 2 ^ k

    q : ℤ
    q = floor_of z (2 ^ k)

    floor : IsFloor z (2 ^ k) q
    floor = floor_is z (2 ^ k) (pow_pos k)

    e : z ≡ q *ℤ pos (2 ^ k) +ℤ pos r
    e = rest_is z q k (bits s z) (let l = h.most in omega (arith, l)) (bits_are s z h.is_word) floor

    l : r < 2 ^ k
    l = mod_below (bits s z) (2 ^ k) (pow_pos k)

    d : 2 ^ k ≡ 2 * 2 ^ (k - 1)
    d = double k h.some

    fits : (t : Bool) → IsWord s (stepped t q)
    fits t = stepped_word s t z k h.some h.is_word

    gives : (c : ℕ) → Says (step_above s x f k c) st (word s (stepped (nat_lt c r) q))
    gives c = step_says st s x f k c z h

    by : (m : Rounding) → SaysRounded m st s k z (round_shift m s x f k)
    by Floor = record { number = q; is_word = floor_word s z k h.some h.is_word; is = floor; says = x_says st f s q h.floor }
    by Ceiling = record { number = stepped (nat_lt 0 r) q; is_word = fits (nat_lt 0 r); is = ceiling_row z q (2 ^ k) r e l; says = gives 0 }
    by Nearest = record { number = stepped (nat_lt (2 ^ (k - 1) - 1) r) q; is_word = fits (nat_lt (2 ^ (k - 1) - 1) r); is = nearest_row z q (2 ^ k) (2 ^ (k - 1)) r e l d; says = gives (2 ^ (k - 1) - 1) }
    by Zero =
        by_lt_z z (pos 0)
        (λ n. record {
          number = stepped (nat_lt 0 r) q;
          is_word = fits (nat_lt 0 r);
          is = record { from_above = λ p. absurd (omega (arith, ints, n, p)); from_below = λ p. ceiling_row z q (2 ^ k) r e l };
          says = by_sign_says st x s z (word s (stepped (nat_lt 0 r) q)) h.is_word h.number (λ t g. gives 0) (λ p. absurd (omega (arith, ints, n, p)));
        })
        (λ n. record {
          number = q;
          is_word = floor_word s z k h.some h.is_word;
          is = record { from_above = λ p. floor; from_below = λ p. absurd (omega (arith, ints, n, p)) };
          says = by_sign_says st x s z (word s q) h.is_word h.number (λ t p. absurd (omega (arith, ints, n, p))) (λ p. x_says st f s q h.floor);
        })
    by Round =
        by_lt_z z (pos 0)
        (λ n. record {
          number = stepped (nat_lt (2 ^ (k - 1)) r) q;
          is_word = fits (nat_lt (2 ^ (k - 1)) r);
          is = away_down_row z q (2 ^ k) (2 ^ (k - 1)) r e l d n;
          says = by_sign_says st x s z (word s (stepped (nat_lt (2 ^ (k - 1)) r) q)) h.is_word h.number (λ t g. gives (2 ^ (k - 1))) (λ p. absurd (omega (arith, ints, n, p)));
        })
        (λ n. record {
          number = stepped (nat_lt (2 ^ (k - 1) - 1) r) q;
          is_word = fits (nat_lt (2 ^ (k - 1) - 1) r);
          is = away_up_row z q (2 ^ k) (2 ^ (k - 1)) r e l d n;
          says = by_sign_says st x s z (word s (stepped (nat_lt (2 ^ (k - 1) - 1) r) q)) h.is_word h.number (λ t p. absurd (omega (arith, ints, n, p))) (λ p. gives (2 ^ (k - 1) - 1));
        })
    by Convergent =
        let bit : ℕ = bits s q % 2 in
        let odd : Says (Binary op.And (bits_of s (Var f)) (Unsigned 1)) st (Uint64 (bits s q % 2)) = low_says (bits s q) 1 (bits_of_says s q (x_says st f s q h.floor)) in
        elim (cases_lt 0 bit) [
          | inl n ↦
              record {
                number = stepped (nat_lt (2 ^ (k - 1) - 1) r) q;
                is_word = fits (nat_lt (2 ^ (k - 1) - 1) r);
                is = odd_row z q (2 ^ k) (2 ^ (k - 1)) r e l d (omega (arith, n, parity s q));
                says = below_says 0 bit (word s (stepped (nat_lt (2 ^ (k - 1) - 1) r) q)) (unsigned_says 0 st) odd (λ g. gives (2 ^ (k - 1) - 1)) (λ g. absurd (omega (arith, n, g)));
              }
          | inr n ↦
              record {
                number = stepped (nat_lt (2 ^ (k - 1)) r) q;
                is_word = fits (nat_lt (2 ^ (k - 1)) r);
                is = even_row z q (2 ^ k) (2 ^ (k - 1)) r e l d (omega (arith, n, parity s q));
                says = below_says 0 bit (word s (stepped (nat_lt (2 ^ (k - 1)) r) q)) (unsigned_says 0 st) odd (λ g. absurd (omega (arith, n, g))) (λ g. gives (2 ^ (k - 1)));
              }
        ]

-- ---- 64 bits or more

-- between -2 ^ 63 and 2 ^ 64
pub record IsSmall (z : ℤ) : Type 0 where
  pub least : neg_ℤ (pos (2 ^ 63)) ≤ℤ z
  pub most : z <ℤ pos (2 ^ 64)

word_small : (s : Bool) (z : ℤ) → IsWord s z → IsSmall z
word_small true z i = record { least = i.least; most = omega (arith, ints, i.most) }
word_small false z i = record { least = omega (arith, ints, i.least); most = i.most }

word_zero : (s : Bool) → IsWord s (pos 0)
word_zero true = record { least = omega (arith, ints); most = omega (arith, ints) }
word_zero false = record { least = omega (arith, ints); most = omega (arith, ints) }

word_one : (s : Bool) → IsWord s (pos 1)
word_one true = record { least = omega (arith, ints); most = omega (arith, ints) }
word_one false = record { least = omega (arith, ints); most = omega (arith, ints) }

word_minus : IsInt64 (negsuc 0)
word_minus = record { least = omega (arith, ints); most = omega (arith, ints) }

one_above_yes : (st : State) (s : Bool) (x c : ℕ) (z : ℤ) → IsWord s z → Holds st x s z → pos c <ℤ z → Says (one_above s x c) st (word s (pos 1))
one_above_yes st true x c z i h g =
    less_says (pos c) z (Int64 (pos 1)) (constant_says st true c) (x_says st x true z h) (λ k. constant_says st true 1) (λ k. absurd (omega (arith, ints, g, k)))
one_above_yes st false x c (pos n) i h g =
    below_says c n (Uint64 1) (constant_says st false c) (x_says st x false (pos n) h) (λ k. constant_says st false 1) (λ k. absurd (omega (arith, ints, g, k)))
one_above_yes st false x c (negsuc n) i h g = absurd (omega (arith, ints, i.least))

one_above_no : (st : State) (s : Bool) (x c : ℕ) (z : ℤ) → IsWord s z → Holds st x s z → z ≤ℤ pos c → Says (one_above s x c) st (word s (pos 0))
one_above_no st true x c z i h g =
    less_says (pos c) z (Int64 (pos 0)) (constant_says st true c) (x_says st x true z h) (λ k. absurd (omega (arith, ints, g, k))) (λ k. constant_says st true 0)
one_above_no st false x c (pos n) i h g =
    below_says c n (Uint64 0) (constant_says st false c) (x_says st x false (pos n) h) (λ k. absurd (omega (arith, ints, g, k))) (λ k. constant_says st false 0)
one_above_no st false x c (negsuc n) i h g = absurd (omega (arith, ints, i.least))

-- 2 ^ k is 2 ^ 64, or 2 ^ 65 at least
power_far : (k : ℕ) → 64 ≤ k → (b : Bool) → nat_eq k 64 ≡ b → (b ≡ false → 2 ^ 65 ≤ 2 ^ k) × (b ≡ true → 2 ^ k ≡ 2 ^ 64)
power_far k h true e = (λ f. absurd (let n : true ≡ false = f in cc), λ f. let g : k ≡ 64 = grind arith in ap (λ (i : ℕ). 2 ^ i) g)
power_far k h false e = (λ f. (let g : 65 ≤ k = grind arith in pow_mono g), λ f. absurd (let n : false ≡ true = f in cc))

pub far_says : (m : Rounding) (st : State) (s : Bool) (x k : ℕ) (z : ℤ) → 64 ≤ k → IsWord s z → Holds st x s z → SaysRounded m st s k z (round_far m s x k)
unfolding round_far
far_says m st s x k z far i h = by m s i h
  where
    p : ℕ
    p = 2 ^ k

    wide : 2 ^ 64 ≤ 2 ^ k
    wide = pow_mono far

    nothing : (s : Bool) (m : Rounding) → IsRounded m z k (pos 0) → SaysRounded m st s k z (constant s 0)
    nothing s m r = record { number = pos 0; is_word = word_zero s; is = r; says = constant_says st s 0 }

    half : (m : Rounding) (c : ℕ) (b : Bool) → nat_eq k 64 ≡ b → IsWord false z → Holds st x false z → (2 ^ 65 ≤ 2 ^ k → IsRounded m z k (pos 0)) → (2 ^ k ≡ 2 ^ 64 → pos c <ℤ z → IsRounded m z k (pos 1)) → (2 ^ k ≡ 2 ^ 64 → z ≤ℤ pos c → IsRounded m z k (pos 0))
        → SaysRounded m st false k z (if b then one_above false x c else Unsigned 0)
    half m c false e i h f g j = nothing false m (f ((power_far k far false e).0 refl))
    half m c true e i h f g j =
        let w : 2 ^ k ≡ 2 ^ 64 = (power_far k far true e).1 refl in
        by_lt_z (pos c) z
        (λ n. record { number = pos 1; is_word = word_one false; is = g w n; says = one_above_yes st false x c z i h n })
        (λ n. record { number = pos 0; is_word = word_zero false; is = j w n; says = one_above_no st false x c z i h n })

    least : (b : Bool) → nat_eq k 64 ≡ b → IsWord true z → Holds st x true z → SaysRounded Round st true k z (if b then Choose (is_less (Var x) (Neg (Signed (2 ^ 63 - 1)))) minus_one (Signed 0) else Signed 0)
    least false e i h = let w = (power_far k far false e).0 refl in nothing true Round (far_away z (2 ^ k) (omega (arith, ints, i.least, w)) (omega (arith, ints, i.most, w)))
    least true e i h =
        let w : 2 ^ k ≡ 2 ^ 64 = (power_far k far true e).1 refl in
        let end : Says (Neg (Signed (2 ^ 63 - 1))) st (Int64 (neg_ℤ (pos (2 ^ 63 - 1)))) = neg_says (pos (2 ^ 63 - 1)) (record { least = omega (arith, ints); most = omega (arith, ints) }) (signed_says (2 ^ 63 - 1) st) in
        by_lt_z z (neg_ℤ (pos (2 ^ 63 - 1)))
        (λ n. record {
          number = negsuc 0;
          is_word = word_minus;
          is = far_away_below z (2 ^ k) (omega (arith, ints, n, i.least, w)) (pow_pos k);
          says = less_says z (neg_ℤ (pos (2 ^ 63 - 1))) (Int64 (negsuc 0)) (x_says st x true z h) end (λ g. minus_one_says st) (λ g. absurd (omega (arith, ints, n, g)));
        })
        (λ n. record {
          number = pos 0;
          is_word = word_zero true;
          is = far_away z (2 ^ k) (omega (arith, ints, n, w)) (omega (arith, ints, i.most, w));
          says = less_says z (neg_ℤ (pos (2 ^ 63 - 1))) (Int64 (pos 0)) (x_says st x true z h) end (λ g. absurd (omega (arith, ints, n, g))) (λ g. constant_says st true 0);
        })

    floor_at : (s : Bool) → IsWord s z → Holds st x s z → SaysRounded Floor st s k z (by_sign s x minus_one (constant s 0))
    floor_at s i h =
        let small = word_small s z i in
        by_lt_z z (pos 0)
        (λ n. below s i h n)
        (λ n. record {
          number = pos 0;
          is_word = word_zero s;
          is = far_floor z (2 ^ k) n (omega (arith, ints, small.most, wide));
          says = by_sign_says st x s z (word s (pos 0)) i h (λ t g. absurd (omega (arith, ints, n, g))) (λ g. constant_says st s 0);
        })
      where
        below : (s : Bool) → IsWord s z → Holds st x s z → z <ℤ pos 0 → SaysRounded Floor st s k z (by_sign s x minus_one (constant s 0))
        below true i h n = record {
          number = negsuc 0;
          is_word = word_minus;
          is = far_floor_below z (2 ^ k) n (omega (arith, ints, i.least, wide));
          says = by_sign_says st x true z (Int64 (negsuc 0)) i h (λ t g. minus_one_says st) (λ g. absurd (omega (arith, ints, n, g)));
        }
        below false i h n = absurd (omega (arith, ints, n, i.least))

    by : (m : Rounding) (s : Bool) → IsWord s z → Holds st x s z → SaysRounded m st s k z (round_far m s x k)
    by Floor s i h = floor_at s i h
    by Ceiling s i h =
        let small = word_small s z i in
        by_lt_z (pos 0) z
        (λ n. record { number = pos 1; is_word = word_one s; is = far_ceiling_above z (2 ^ k) n (omega (arith, ints, small.most, wide)); says = one_above_yes st s x 0 z i h n })
        (λ n. record { number = pos 0; is_word = word_zero s; is = far_ceiling z (2 ^ k) n (omega (arith, ints, small.least, wide)); says = one_above_no st s x 0 z i h n })
    by Zero s i h = let small = word_small s z i in nothing s Zero (far_zero z (2 ^ k) (omega (arith, ints, small.least, wide)) (omega (arith, ints, small.most, wide)))
    by Nearest true i h = nothing true Nearest (far_nearest z (2 ^ k) (omega (arith, ints, i.least, wide)) (omega (arith, ints, i.most, wide)))
    by Nearest false i h =
        half Nearest (2 ^ 63 - 1) (nat_eq k 64) refl i h
        (λ w. far_nearest z (2 ^ k) (omega (arith, ints, i.least)) (omega (arith, ints, i.most, w)))
        (λ w n. far_nearest_above z (2 ^ k) (omega (arith, ints, n, w)) (omega (arith, ints, i.most, w)))
        (λ w n. far_nearest z (2 ^ k) (omega (arith, ints, i.least)) (omega (arith, ints, n, w)))
    by Round true i h = least (nat_eq k 64) refl i h
    by Round false i h =
        half Round (2 ^ 63 - 1) (nat_eq k 64) refl i h
        (λ w. far_away z (2 ^ k) (omega (arith, ints, i.least, w)) (omega (arith, ints, i.most, w)))
        (λ w n. far_away_above z (2 ^ k) (omega (arith, ints, n, w)) (omega (arith, ints, i.most, w)))
        (λ w n. far_away z (2 ^ k) (omega (arith, ints, i.least, w)) (omega (arith, ints, n, w)))
    by Convergent true i h = nothing true Convergent (far_even z (2 ^ k) (omega (arith, ints, i.least, wide)) (omega (arith, ints, i.most, wide)))
    by Convergent false i h =
        half Convergent (2 ^ 63) (nat_eq k 64) refl i h
        (λ w. far_even z (2 ^ k) (omega (arith, ints, i.least)) (omega (arith, ints, i.most, w)))
        (λ w n. far_even_above z (2 ^ k) (omega (arith, ints, n, w)) (omega (arith, ints, i.most, w)))
        (λ w n. far_even z (2 ^ k) (omega (arith, ints, i.least)) (omega (arith, ints, n, w)))
