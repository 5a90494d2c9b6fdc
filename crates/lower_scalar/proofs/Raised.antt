-- What the shapes of shifts to the left give.
use Rattle.std.proofs.Common.{◌≡◌, ℕ, zero, suc, ◌+◌, ◌-◌, ◌*◌, ◌/◌, ◌^◌, ◌%◌, ◌<◌, ◌≤◌, Bool, true, false, not, ◌&&◌, ltb, eqb, ℤ, pos, negsuc, ◌+ℤ◌, ◌*ℤ◌, ◌≤ℤ◌, ◌<ℤ◌, Some, refl, sym, ap, ◌∙◌, subst, arith, inl, inr, if◌then◌else◌}
use Rattle.std.specs.Prelude.{neg_ℤ, ◌-ℤ◌, unsigned_abs, nat_abs, nat_lt, nat_eq, slice_get}
use Rattle.std.proofs.lemmas.Bool.{lt-ltb, le-ltb, cases_lt, eqb-true, ltb-true, ltb-false}
use Rattle.std.proofs.lemmas.Int.{ints, by_lt_z}
use Rattle.std.proofs.lemmas.Nat.{pow_pos, pow-add, mod_below, div-add-mod'}
use Rattle.std.proofs.Math.Pow.{pow_mono}
use Rattle.std.proofs.Math.Nat.{mul-le-mul_left, mul-le-mul_right, mul-lt-mul_of_pos_right, div-mul-le_self, div-le_self}
use Rattle.num_type.specs.declared.methods.Overflow.{Overflow}
use Rattle.num_type.specs.declared.methods.Overflow.TheVariants.{Saturate, Wrap}
use Rattle.num_type.specs.Types.{least_of, greatest_of}
use Rattle.fi_quant.specs.Fit.{IsNearestIn, IsWrapped}
use Rattle.fi_quant.proofs.Fits.{inside, above, below}
use Rattle.fi_quant.proofs.Signs.{distrib, neg-mul}
use Rattle.c_tree.specs.declared.tree.CRel.TheVariants.{Lt}
use Rattle.c_tree.specs.declared.tree.COp.TheVariants as op
use Rattle.c_tree.specs.Tree.{Exp, Signed, Unsigned, Var, Cast, Neg, Binary, Choose, Compare}
use Rattle.c_tree.specs.Meaning.{Word, Int64, Uint64, State}
use Rattle.lower_scalar.specs.Part.{word}
use Rattle.lower_scalar.specs.Shapes.{constant, bits_of, resigned, is_less, top, least, wrapped, raised, raised_inside, bottom, raised_saturated, raised_wrapped, raised_fitted, shifted_bits}
use Rattle.lower_scalar.proofs.Says.{IsInt64, Says, signed_says, unsigned_says, mul_says, times_says, product_says, neg_says, less_says, below_says}
use Rattle.lower_scalar.proofs.Words.{IsUint64, IsWord, IsBits, bits, bits_are, scaled_twice, bits_below, Holds, x_says, constant_says, at_number, at_bits, bits_of_says, resigned_says}
use Rattle.lower_scalar.proofs.FitShapes.{IsFitIn, SaysFit, half_most, whole_most, range_word, greatest_is, least_below, ordered, least_says, top_says, wrapped_says, wrapped_bits}

pub times_one : (z : ℤ) → z *ℤ pos 1 ≡ z
times_one z = omega (arith, ints)

-- a factor of a word is a word
pub factor_word : (s : Bool) (z : ℤ) (n : ℕ) → IsWord s (z *ℤ pos (2 ^ n)) → IsWord s z
factor_word true (pos m) n i = let a = mul-le-mul_left m (pow_pos n) in record { least = omega (arith, ints); most = omega (arith, ints, i.most, a) }
factor_word true (negsuc m) n i = let a = mul-le-mul_left (suc m) (pow_pos n) in record { least = omega (arith, ints, i.least, a, neg-mul (suc m) (2 ^ n)); most = omega (arith, ints) }
factor_word false (pos m) n i = let a = mul-le-mul_left m (pow_pos n) in record { least = omega (arith, ints); most = omega (arith, ints, i.most, a) }
factor_word false (negsuc m) n i = let a = mul-le-mul_left (suc m) (pow_pos n) in absurd (omega (arith, ints, i.least, a, neg-mul (suc m) (2 ^ n)))

-- an expression times 2 ^ n
pub raised_says : {e : Exp} {st : State} (s : Bool) (n : ℕ) (z : ℤ) → IsWord s (z *ℤ pos (2 ^ n)) → Says e st (word s z) → Says (raised s n e) st (word s (z *ℤ pos (2 ^ n)))
raised_says {e} {st} s n z i p = by s (nat_eq n 0) (nat_eq n 63) refl refl i p
  where
    by : (s a b : Bool) → nat_eq n 0 ≡ a → nat_eq n 63 ≡ b → IsWord s (z *ℤ pos (2 ^ n)) → Says e st (word s z)
        → Says (if a then e else (if s && b then Binary op.Mul (Binary op.Mul e (Signed (2 ^ 62))) (Signed 2) else Binary op.Mul e (constant s (2 ^ n)))) st (word s (z *ℤ pos (2 ^ n)))
    by s true b f g i p =
        let k : n ≡ 0 = eqb-true n 0 f in
        let c : z ≡ z *ℤ pos (2 ^ n) = sym (ap (λ (j : ℕ). z *ℤ pos (2 ^ j)) k ∙ times_one z) in
        subst (λ (v : ℤ). Says e st (word s v)) c p
    by true false true f g i p =
        let k : n ≡ 63 = eqb-true n 63 g in
        let w : IsInt64 (z *ℤ pos (2 ^ 63)) = subst (λ (j : ℕ). IsInt64 (z *ℤ pos (2 ^ j))) k i in
        let m : IsInt64 (z *ℤ pos (2 ^ 62)) = record { least = omega (arith, ints, w.least); most = omega (arith, ints, w.most) } in
        let c : (z *ℤ pos (2 ^ 62)) *ℤ pos 2 ≡ z *ℤ pos (2 ^ n) = omega (arith, ints) ∙ ap (λ (j : ℕ). z *ℤ pos (2 ^ j)) (sym k) in
        at_number ((z *ℤ pos (2 ^ 62)) *ℤ pos 2) (z *ℤ pos (2 ^ n)) c
        (mul_says (z *ℤ pos (2 ^ 62)) (pos 2) (subst IsInt64 (sym c) i) (mul_says z (pos (2 ^ 62)) m p (signed_says (2 ^ 62) st)) (signed_says 2 st))
    by true false false f g i p = mul_says z (pos (2 ^ n)) i p (signed_says (2 ^ n) st)
    by false false b f g i p = plain z i p
      where
        plain : (z : ℤ) → IsUint64 (z *ℤ pos (2 ^ n)) → Says e st (word false z) → Says (Binary op.Mul e (Unsigned (2 ^ n))) st (word false (z *ℤ pos (2 ^ n)))
        plain (pos m) i p = product_says m (2 ^ n) (omega (arith, ints, i.most)) p (unsigned_says (2 ^ n) st)
        plain (negsuc m) i p = let a = mul-le-mul_left (suc m) (pow_pos n) in absurd (omega (arith, ints, i.least, a, neg-mul (suc m) (2 ^ n)))

-- a number that a shift by 64 bits or more keeps in the range is 0
zero_far : (t : Bool) (w n : ℕ) (z : ℤ) → w ≤ 64 → 64 ≤ n → least_of t w ≤ℤ (z *ℤ pos (2 ^ n)) → (z *ℤ pos (2 ^ n)) ≤ℤ greatest_of t w → z ≡ pos 0
zero_far t w n z lim far a b = by z (range_word t w (z *ℤ pos (2 ^ n)) lim a b)
  where
    wide : 2 ^ 64 ≤ 2 ^ n
    wide = pow_mono far

    by : (z : ℤ) → IsWord t (z *ℤ pos (2 ^ n)) → z ≡ pos 0
    by (pos zero) i = refl
    by (pos (suc m)) i = absurd (over t i)
      where
        over : (t : Bool) → IsWord t (pos (suc m) *ℤ pos (2 ^ n)) → ⊥
        over true i = let c = mul-le-mul_right (2 ^ n) (let l : 1 ≤ suc m = omega arith in l) in omega (arith, ints, i.most, c, wide)
        over false i = let c = mul-le-mul_right (2 ^ n) (let l : 1 ≤ suc m = omega arith in l) in omega (arith, ints, i.most, c, wide)
    by (negsuc m) i = absurd (under t i)
      where
        under : (t : Bool) → IsWord t (negsuc m *ℤ pos (2 ^ n)) → ⊥
        under true i = let c = mul-le-mul_right (2 ^ n) (let l : 1 ≤ suc m = omega arith in l) in omega (arith, ints, i.least, c, wide, neg-mul (suc m) (2 ^ n))
        under false i = let c = mul-le-mul_right (2 ^ n) (let l : 1 ≤ suc m = omega arith in l) in omega (arith, ints, i.least, c, wide, neg-mul (suc m) (2 ^ n))

pub inside_says : (st : State) (t : Bool) (w : ℕ) (s : Bool) (x n : ℕ) (z : ℤ) → w ≤ 64 → IsWord s z → Holds st x s z → least_of t w ≤ℤ (z *ℤ pos (2 ^ n)) → (z *ℤ pos (2 ^ n)) ≤ℤ greatest_of t w → Says (raised_inside t s x n) st (word t (z *ℤ pos (2 ^ n)))
inside_says st t w s x n z lim i h a b = by (nat_lt n 64) refl
  where
    is : IsWord t (z *ℤ pos (2 ^ n))
    is = range_word t w (z *ℤ pos (2 ^ n)) lim a b

    by : (c : Bool) → nat_lt n 64 ≡ c → Says (if c then raised t n (resigned s t (Var x)) else constant t 0) st (word t (z *ℤ pos (2 ^ n)))
    by true e = raised_says t n z is (resigned_says s t z i (factor_word t z n is) (x_says st x s z h))
    by false e =
        let g : 64 ≤ n = ltb-false n 64 e in
        let none : z ≡ pos 0 = zero_far t w n z lim g a b in
        let c : pos 0 ≡ z *ℤ pos (2 ^ n) = sym (ap (λ (v : ℤ). v *ℤ pos (2 ^ n)) none ∙ omega (arith, ints)) in
        subst (λ (v : ℤ). Says (constant t 0) st (word t v)) c (constant_says st t 0)

-- ---- Saturate

past_top : (y n : ℕ) (z : ℤ) → pos (y / 2 ^ n) <ℤ z → pos y ≤ℤ (z *ℤ pos (2 ^ n))
past_top y n (pos m) h =
    let l : y / 2 ^ n + 1 ≤ m = omega (arith, ints, h) in
    let c : (y / 2 ^ n + 1) * 2 ^ n ≤ m * 2 ^ n = mul-le-mul_right (2 ^ n) l in
    omega (arith, ints, c, div-add-mod' y (2 ^ n), mod_below y (2 ^ n) (pow_pos n))
past_top y n (negsuc m) h = absurd (omega (arith, ints, h))

within_top : (y n : ℕ) (z : ℤ) → z ≤ℤ pos (y / 2 ^ n) → (z *ℤ pos (2 ^ n)) ≤ℤ pos y
within_top y n (pos m) h =
    let l : m ≤ y / 2 ^ n = omega (arith, ints, h) in
    let c : m * 2 ^ n ≤ y / 2 ^ n * 2 ^ n = mul-le-mul_right (2 ^ n) l in
    omega (arith, ints, c, div-add-mod' y (2 ^ n))
within_top y n (negsuc m) h = omega (arith, ints, neg-mul (suc m) (2 ^ n))

pub mirror : (z : ℤ) (p : ℕ) → neg_ℤ z *ℤ pos p ≡ neg_ℤ (z *ℤ pos p)
mirror z p = grind (arith, ints)

-- the least number whose multiple is in the range
abbrev bound : Bool → ℕ → ℕ → ℤ
bound true w n = neg_ℤ (pos (2 ^ (w - 1) / 2 ^ n))
bound false w n = pos 0

bottom_says : (st : State) (t : Bool) (w n : ℕ) → w ≤ 64 → Says (bottom t w n) st (Int64 (bound t w n))
bottom_says st true w n lim =
    let m = half_most w lim in
    let d = div-le_self (2 ^ (w - 1)) (2 ^ n) in
    neg_says (pos (2 ^ (w - 1) / 2 ^ n)) (record { least = omega (arith, ints, m, d); most = omega (arith, ints) }) (signed_says (2 ^ (w - 1) / 2 ^ n) st)
bottom_says st false w n lim = signed_says 0 st

past_bottom : (t : Bool) (w n : ℕ) (z : ℤ) → z <ℤ bound t w n → (z *ℤ pos (2 ^ n)) ≤ℤ least_of t w
past_bottom true w n z h = omega (arith, ints, past_top (2 ^ (w - 1)) n (neg_ℤ z) (omega (arith, ints, h)), mirror z (2 ^ n))
past_bottom false w n (pos m) h = absurd (omega (arith, ints, h))
past_bottom false w n (negsuc m) h = omega (arith, ints, neg-mul (suc m) (2 ^ n))

within_bottom : (t : Bool) (w n : ℕ) (z : ℤ) → bound t w n ≤ℤ z → least_of t w ≤ℤ (z *ℤ pos (2 ^ n))
within_bottom true w n z h = omega (arith, ints, within_top (2 ^ (w - 1)) n (neg_ℤ z) (omega (arith, ints, h)), mirror z (2 ^ n))
within_bottom false w n (pos m) h = omega (arith, ints)
within_bottom false w n (negsuc m) h = absurd (omega (arith, ints, h))

pub raised_saturated_says : (st : State) (t : Bool) (w : ℕ) (s : Bool) (x n : ℕ) (z : ℤ) → w ≤ 64 → IsWord s z → Holds st x s z → SaysFit Saturate t w st (z *ℤ pos (2 ^ n)) (raised_saturated t w s x n)
raised_saturated_says st t w true x n z lim i h =
    let y : ℤ = z *ℤ pos (2 ^ n) in
    let c : ℕ = top t w / 2 ^ n in
    let var : Says (Var x) st (Int64 z) = x_says st x true z h in
    let edge : Says (Signed c) st (Int64 (pos c)) = signed_says c st in
    let low : Says (least t w) st (word t (least_of t w)) = least_says st t w lim in
    let end : Says (bottom t w n) st (Int64 (bound t w n)) = bottom_says st t w n lim in
    by_lt_z (pos c) z
    (λ g. record {
      number = greatest_of t w;
      is = above (least_of t w) (greatest_of t w) y (ordered t w) (omega (arith, ints, greatest_is t w, past_top (top t w) n z g));
      says = less_says (pos c) z (word t (greatest_of t w)) edge var (λ j. top_says st t w) (λ j. absurd (omega (arith, ints, g, j)));
    })
    (λ g.
    by_lt_z z (bound t w n)
    (λ k. record {
      number = least_of t w;
      is = below (least_of t w) (greatest_of t w) y (ordered t w) (past_bottom t w n z k);
      says = less_says (pos c) z (word t (least_of t w)) edge var (λ j. absurd (omega (arith, ints, g, j))) (λ j. less_says z (bound t w n) (word t (least_of t w)) var end (λ m. low) (λ m. absurd (omega (arith, ints, k, m))));
    })
    (λ k.
    let a : least_of t w ≤ℤ y = within_bottom t w n z k in
    let b : y ≤ℤ greatest_of t w = omega (arith, ints, greatest_is t w, within_top (top t w) n z g) in
    record {
      number = y;
      is = inside (least_of t w) (greatest_of t w) y a b;
      says = less_says (pos c) z (word t y) edge var (λ j. absurd (omega (arith, ints, g, j)))
          (λ j. less_says z (bound t w n) (word t y) var end (λ m. absurd (omega (arith, ints, k, m))) (λ m. inside_says st t w true x n z lim i h a b));
    }))
raised_saturated_says st t w false x n (negsuc m) lim i h = absurd (omega (arith, ints, i.least))
raised_saturated_says st t w false x n (pos m) lim i h =
    let y : ℤ = pos m *ℤ pos (2 ^ n) in
    let c : ℕ = top t w / 2 ^ n in
    let var : Says (Var x) st (Uint64 m) = x_says st x false (pos m) h in
    let edge : Says (Unsigned c) st (Uint64 c) = unsigned_says c st in
    elim (cases_lt c m) [
      | inl g ↦
          record {
            number = greatest_of t w;
            is = above (least_of t w) (greatest_of t w) y (ordered t w) (omega (arith, ints, greatest_is t w, past_top (top t w) n (pos m) (omega (arith, ints, g))));
            says = below_says c m (word t (greatest_of t w)) edge var (λ j. top_says st t w) (λ j. absurd (omega (arith, g, j)));
          }
      | inr g ↦
          (let a : least_of t w ≤ℤ y = omega (arith, ints, least_below t w) in
          let b : y ≤ℤ greatest_of t w = omega (arith, ints, greatest_is t w, within_top (top t w) n (pos m) (omega (arith, ints, g))) in
          record {
            number = y;
            is = inside (least_of t w) (greatest_of t w) y a b;
            says = below_says c m (word t y) edge var (λ j. absurd (omega (arith, g, j))) (λ j. inside_says st t w false x n (pos m) lim i h a b);
          })
    ]

-- ---- Wrap

raised_bits : (z : ℤ) (u n : ℕ) → IsBits z u → IsBits (z *ℤ pos (2 ^ n)) (u * 2 ^ n % 2 ^ 64)
raised_bits z u n b =
    let d : ℕ = u * 2 ^ n / 2 ^ 64 in
    record {
      turns = pos d +ℤ b.turns *ℤ pos (2 ^ n);
      is =
          let one : z *ℤ pos (2 ^ n) ≡ (pos u +ℤ b.turns *ℤ pos (2 ^ 64)) *ℤ pos (2 ^ n) = ap (λ (v : ℤ). v *ℤ pos (2 ^ n)) b.is in
          let two = distrib (pos u) (b.turns *ℤ pos (2 ^ 64)) (2 ^ n) in
          let swap : 2 ^ 64 * 2 ^ n ≡ 2 ^ n * 2 ^ 64 = omega arith in
          let three : (b.turns *ℤ pos (2 ^ 64)) *ℤ pos (2 ^ n) ≡ b.turns *ℤ pos (2 ^ n * 2 ^ 64) = scaled_twice b.turns (2 ^ 64) (2 ^ n) (2 ^ n * 2 ^ 64) swap in
          let four : (b.turns *ℤ pos (2 ^ n)) *ℤ pos (2 ^ 64) ≡ b.turns *ℤ pos (2 ^ n * 2 ^ 64) = scaled_twice b.turns (2 ^ n) (2 ^ 64) (2 ^ n * 2 ^ 64) refl in
          let five : u * 2 ^ n ≡ d * 2 ^ 64 + u * 2 ^ n % 2 ^ 64 = sym (div-add-mod' (u * 2 ^ n) (2 ^ 64)) in
          let six = distrib (pos d) (b.turns *ℤ pos (2 ^ n)) (2 ^ 64) in
          omega (arith, ints, one, two, three, four, five, six);
    }

-- the bits of x * 2 ^ n
shifted_says : (st : State) (s : Bool) (x n : ℕ) (z : ℤ) → IsWord s z → Holds st x s z → Says (shifted_bits s x n) st (Uint64 (bits s z * 2 ^ n % 2 ^ 64))
shifted_says st s x n z i h = by (nat_eq n 0) refl
  where
    by : (b : Bool) → nat_eq n 0 ≡ b → Says (if b then bits_of s (Var x) else Binary op.Mul (bits_of s (Var x)) (Unsigned (2 ^ n))) st (Uint64 (bits s z * 2 ^ n % 2 ^ 64))
    by true e =
        let k : n ≡ 0 = eqb-true n 0 e in
        let small : bits s z ≡ bits s z * 2 ^ 0 % 2 ^ 64 = let l = bits_below s z i in omega (arith, l) in
        at_bits (bits s z) (bits s z * 2 ^ n % 2 ^ 64) (small ∙ ap (λ (j : ℕ). bits s z * 2 ^ j % 2 ^ 64) (sym k)) (bits_of_says s z (x_says st x s z h))
    by false e = times_says (bits s z) (2 ^ n) (bits_of_says s z (x_says st x s z h)) (unsigned_says (2 ^ n) st)

pub raised_wrapped_says : (st : State) (t : Bool) (w : ℕ) (s : Bool) (x n : ℕ) (z : ℤ) → 1 ≤ w → w ≤ 64 → IsWord s z → Holds st x s z → SaysFit Wrap t w st (z *ℤ pos (2 ^ n)) (raised_wrapped t w s x n)
raised_wrapped_says st t w s x n z one lim i h = by (nat_lt n 64) refl
  where
    none : (t : Bool) → 64 ≤ n → IsFitIn Wrap t w (z *ℤ pos (2 ^ n)) (pos 0)
    none t g =
        let e : 2 ^ (n - w) * 2 ^ w ≡ 2 ^ n = sym (pow-add 2 (n - w) w) ∙ ap (λ (j : ℕ). 2 ^ j) (let k : (n - w) + w ≡ n = omega (arith, g, lim) in k) in
        record {
          least = least_below t w;
          most = omega (arith, ints, greatest_is t w);
          turns = z *ℤ pos (2 ^ (n - w));
          congruent = omega (arith, ints, scaled_twice z (2 ^ (n - w)) (2 ^ w) (2 ^ n) e);
        }

    by : (c : Bool) → nat_lt n 64 ≡ c → SaysFit Wrap t w st (z *ℤ pos (2 ^ n)) (if c then wrapped t w (shifted_bits s x n) else constant t 0)
    by true e =
        let u : ℕ = bits s z in
        let m : Says (shifted_bits s x n) st (Uint64 (u * 2 ^ n % 2 ^ 64)) = shifted_says st s x n z i h in
        let r = wrapped_says t w (u * 2 ^ n % 2 ^ 64) one lim m in
        record { number = r.number; is = wrapped_bits t w (u * 2 ^ n % 2 ^ 64) (z *ℤ pos (2 ^ n)) r.number lim (raised_bits z u n (bits_are s z i)) r.is; says = r.says }
    by false e = record { number = pos 0; is = none t (ltb-false n 64 e); says = constant_says st t 0 }

pub raised_fitted_says : (a : Overflow) (st : State) (t : Bool) (w : ℕ) (s : Bool) (x n : ℕ) (z : ℤ) → 1 ≤ w → w ≤ 64 → IsWord s z → Holds st x s z → SaysFit a t w st (z *ℤ pos (2 ^ n)) (raised_fitted a t w s x n)
unfolding raised_fitted
raised_fitted_says Saturate st t w s x n z one lim i h = raised_saturated_says st t w s x n z lim i h
raised_fitted_says Wrap st t w s x n z one lim i h = raised_wrapped_says st t w s x n z one lim i h
