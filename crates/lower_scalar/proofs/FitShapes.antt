-- What the shapes of overflow give.
use Rattle.std.proofs.Common.{◌≡◌, ℕ, zero, suc, ◌+◌, ◌-◌, ◌*◌, ◌/◌, ◌^◌, ◌%◌, ◌<◌, ◌≤◌, Bool, true, false, not, ◌&&◌, ltb, ℤ, pos, negsuc, ◌+ℤ◌, ◌*ℤ◌, ◌≤ℤ◌, ◌<ℤ◌, Some, refl, sym, ap, ◌∙◌, subst, arith, inl, inr, if◌then◌else◌}
use Rattle.std.specs.Prelude.{neg_ℤ, ◌-ℤ◌, unsigned_abs, nat_abs, nat_lt, nat_eq, slice_get}
use Rattle.std.proofs.lemmas.Bool.{lt-ltb, le-ltb, cases_lt}
use Rattle.std.proofs.lemmas.Int.{ints, by_lt_z}
use Rattle.std.proofs.lemmas.Nat.{pow_pos, pow-add, mod_below, pow_below, shr_split}
use Rattle.std.proofs.Math.Pow.{pow_mono}
use Rattle.std.proofs.Math.Nat.{mul-le-mul_left, mul-le-mul_right, mul-lt-mul_of_pos_right, div-mul-le_self, div-le_self}
use Rattle.num_type.specs.declared.methods.Overflow.{Overflow}
use Rattle.num_type.specs.declared.methods.Overflow.TheVariants.{Saturate, Wrap}
use Rattle.num_type.specs.Types.{least_of, greatest_of}
use Rattle.fi_quant.specs.Fit.{IsNearestIn, IsWrapped}
use Rattle.fi_quant.specs.Split.{IsCongruent}
use Rattle.fi_quant.proofs.Fits.{inside, above, below, wrap_unsigned, wrap_small, wrap_large}
use Rattle.fi_quant.proofs.Signs.{distrib, neg-mul}
use Rattle.fi_quant.proofs.Splits.{double}
use Rattle.c_tree.specs.declared.tree.CRel.TheVariants.{Lt}
use Rattle.c_tree.specs.declared.tree.COp.TheVariants as op
use Rattle.c_tree.specs.declared.tree.CWord.TheVariants.{I64, U64}
use Rattle.c_tree.specs.Tree.{Exp, Signed, Unsigned, Var, Cast, Neg, Binary, Choose, Compare}
use Rattle.c_tree.specs.Meaning.{Word, Int64, Uint64, State}
use Rattle.lower_scalar.specs.Part.{word}
use Rattle.lower_scalar.specs.Shapes.{constant, minus_one, below_minus, bits_of, resigned, is_less, top, least, saturated, cut, wrapped, fitted, raised, raised_inside, bottom, raised_saturated, raised_wrapped, raised_fitted}
use Rattle.lower_scalar.proofs.Says.{IsInt64, Says, signed_says, unsigned_says, add_says, sub_says, mul_says, minus_says, times_says, product_says, neg_says, low_says, number_says, plain_bits_says, less_says, below_says}
use Rattle.lower_scalar.proofs.Words.{IsUint64, IsWord, IsBits, bits, bits_are, bits_below, scaled_twice, powers, Holds, x_says, constant_says, minus_one_says, at_number, below_minus_says, bits_of_says, resigned_says}

-- q is the number of the range that the action gives for z
abbrev pub IsFitIn : Overflow → Bool → ℕ → ℤ → ℤ → Type 0
IsFitIn Saturate t w z q = IsNearestIn (least_of t w) (greatest_of t w) z q
IsFitIn Wrap t w z q = IsWrapped (least_of t w) (greatest_of t w) (2 ^ w) z q

-- an expression gives that number
pub record SaysFit (a : Overflow) (t : Bool) (w : ℕ) (st : State) (z : ℤ) (e : Exp) : Type 0 where
  pub number : ℤ
  pub is : IsFitIn a t w z number
  pub says : Says e st (word t number)

-- ---- ranges

pub half_most : (w : ℕ) → w ≤ 64 → 2 ^ (w - 1) ≤ 2 ^ 63
half_most w h = pow_mono (let l : w - 1 ≤ 63 = omega arith in l)

pub whole_most : (w : ℕ) → w ≤ 64 → 2 ^ w ≤ 2 ^ 64
whole_most w h = pow_mono h

-- a number of the range is a word
pub range_word : (t : Bool) (w : ℕ) (q : ℤ) → w ≤ 64 → least_of t w ≤ℤ q → q ≤ℤ greatest_of t w → IsWord t q
range_word true w q h a b = let m = half_most w h in let p = pow_pos (w - 1) in record { least = omega (arith, ints); most = omega (arith, ints) }
range_word false w q h a b = let m = whole_most w h in let p = pow_pos w in record { least = omega (arith, ints); most = omega (arith, ints) }

pub greatest_is : (t : Bool) (w : ℕ) → greatest_of t w ≡ pos (top t w)
greatest_is true w = refl
greatest_is false w = refl

pub least_below : (t : Bool) (w : ℕ) → least_of t w ≤ℤ pos 0
least_below true w = omega (arith, ints)
least_below false w = omega (arith, ints)

pub ordered : (t : Bool) (w : ℕ) → least_of t w ≤ℤ greatest_of t w
ordered true w = omega (arith, ints)
ordered false w = omega (arith, ints)

pub least_says : (st : State) (t : Bool) (w : ℕ) → w ≤ 64 → Says (least t w) st (word t (least_of t w))
least_says st true w h =
    let m = half_most w h in
    let p = pow_pos (w - 1) in
    at_number (neg_ℤ (pos (2 ^ (w - 1) - 1 + 1))) (neg_ℤ (pos (2 ^ (w - 1)))) (omega (arith, ints)) (below_minus_says st (2 ^ (w - 1) - 1) (omega (arith, m, p)))
least_says st false w h = unsigned_says 0 st

-- the greatest number as a constant
pub top_says : (st : State) (t : Bool) (w : ℕ) → Says (constant t (top t w)) st (word t (greatest_of t w))
top_says st true w = signed_says (2 ^ (w - 1) - 1) st
top_says st false w = unsigned_says (2 ^ w - 1) st

-- ---- Saturate

saturated_both : (st : State) (w x : ℕ) (z : ℤ) → w ≤ 64 → IsInt64 z → Holds st x true z → SaysFit Saturate true w st z (saturated true w true x)
saturated_both st w x z lim i h =
    let lo : ℤ = neg_ℤ (pos (2 ^ (w - 1))) in
    let hi : ℤ = pos (2 ^ (w - 1) - 1) in
    let low : Says (least true w) st (Int64 lo) = least_says st true w lim in
    let high : Says (Signed (2 ^ (w - 1) - 1)) st (Int64 hi) = signed_says (2 ^ (w - 1) - 1) st in
    let var : Says (Var x) st (Int64 z) = x_says st x true z h in
    by_lt_z z lo
    (λ n. record {
      number = lo;
      is = below lo hi z (omega (arith, ints)) (omega (arith, ints, n));
      says = less_says z lo (Int64 lo) var low (λ g. low) (λ g. absurd (omega (arith, ints, n, g)));
    })
    (λ n.
    by_lt_z hi z
    (λ k. record {
      number = hi;
      is = above lo hi z (omega (arith, ints)) (omega (arith, ints, k));
      says = less_says z lo (Int64 hi) var low (λ g. absurd (omega (arith, ints, n, g))) (λ g. less_says hi z (Int64 hi) high var (λ j. high) (λ j. absurd (omega (arith, ints, k, j))));
    })
    (λ k. record {
      number = z;
      is = inside lo hi z n k;
      says = less_says z lo (Int64 z) var low (λ g. absurd (omega (arith, ints, n, g))) (λ g. less_says hi z (Int64 z) high var (λ j. absurd (omega (arith, ints, k, j))) (λ j. var));
    }))

saturated_down : (st : State) (w x : ℕ) (z : ℤ) → w ≤ 64 → IsInt64 z → Holds st x true z → SaysFit Saturate false w st z (saturated false w true x)
saturated_down st w x (negsuc n) lim i h = record {
  number = pos 0;
  is = below (pos 0) (pos (2 ^ w - 1)) (negsuc n) (omega (arith, ints)) (omega (arith, ints));
  says = less_says (negsuc n) (pos 0) (Uint64 0) (x_says st x true (negsuc n) h) (signed_says 0 st) (λ g. unsigned_says 0 st) (λ g. absurd (omega (arith, ints, g)));
}
saturated_down st w x (pos n) lim i h =
    let hi : ℕ = 2 ^ w - 1 in
    let high : Says (Unsigned hi) st (Uint64 hi) = unsigned_says hi st in
    let var : Says (Var x) st (Int64 (pos n)) = x_says st x true (pos n) h in
    let same : Says (Cast U64 (Var x)) st (Uint64 n) = plain_bits_says n (omega (arith, ints, i.most)) var in
    elim (cases_lt hi n) [
      | inl k ↦
          record {
            number = pos hi;
            is = above (pos 0) (pos hi) (pos n) (omega (arith, ints)) (omega (arith, ints, k));
            says = less_says (pos n) (pos 0) (Uint64 hi) var (signed_says 0 st) (λ g. absurd (omega (arith, ints, g))) (λ g. below_says hi n (Uint64 hi) high same (λ j. high) (λ j. absurd (omega (arith, k, j))));
          }
      | inr k ↦
          record {
            number = pos n;
            is = inside (pos 0) (pos hi) (pos n) (omega (arith, ints)) (omega (arith, ints, k));
            says = less_says (pos n) (pos 0) (Uint64 n) var (signed_says 0 st) (λ g. absurd (omega (arith, ints, g))) (λ g. below_says hi n (Uint64 n) high same (λ j. absurd (omega (arith, k, j))) (λ j. same));
          }
    ]

saturated_plain : (st : State) (t : Bool) (w x : ℕ) (z : ℤ) → w ≤ 64 → IsUint64 z → Holds st x false z → SaysFit Saturate t w st z (Choose (is_less (Unsigned (top t w)) (Var x)) (constant t (top t w)) (resigned false t (Var x)))
saturated_plain st t w x (negsuc n) lim i h = absurd (omega (arith, ints, i.least))
saturated_plain st t w x (pos n) lim i h =
    let var : Says (Var x) st (Uint64 n) = x_says st x false (pos n) h in
    elim (cases_lt (top t w) n) [
      | inl k ↦
          record {
            number = greatest_of t w;
            is = above (least_of t w) (greatest_of t w) (pos n) (ordered t w) (omega (arith, ints, k, greatest_is t w));
            says = below_says (top t w) n (word t (greatest_of t w)) (unsigned_says (top t w) st) var (λ j. top_says st t w) (λ j. absurd (omega (arith, k, j)));
          }
      | inr k ↦
          (let a : least_of t w ≤ℤ pos n = omega (arith, ints, least_below t w) in
          let b : pos n ≤ℤ greatest_of t w = omega (arith, ints, k, greatest_is t w) in
          record {
            number = pos n;
            is = inside (least_of t w) (greatest_of t w) (pos n) a b;
            says = below_says (top t w) n (word t (pos n)) (unsigned_says (top t w) st) var (λ j. absurd (omega (arith, k, j))) (λ j. resigned_says false t (pos n) i (range_word t w (pos n) lim a b) var);
          })
    ]

pub saturated_says : (st : State) (t : Bool) (w : ℕ) (s : Bool) (x : ℕ) (z : ℤ) → w ≤ 64 → IsWord s z → Holds st x s z → SaysFit Saturate t w st z (saturated t w s x)
saturated_says st true w true x z lim i h = saturated_both st w x z lim i h
saturated_says st false w true x z lim i h = saturated_down st w x z lim i h
saturated_says st true w false x z lim i h = saturated_plain st true w x z lim i h
saturated_says st false w false x z lim i h = saturated_plain st false w x z lim i h

-- ---- Wrap

cut_says : {e : Exp} {st : State} (w u : ℕ) → Says e st (Uint64 u) → Says (cut w e) st (Uint64 (u % 2 ^ w))
cut_says w u p = low_says u w p

congruent : (w u : ℕ) → IsCongruent (2 ^ w) (pos u) (pos (u % 2 ^ w))
congruent w u = record { turns = pos (u / 2 ^ w); congruent = omega (arith, ints, shr_split u w) }

pub wrapped_says : {e : Exp} {st : State} (t : Bool) (w u : ℕ) → 1 ≤ w → w ≤ 64 → Says e st (Uint64 u) → SaysFit Wrap t w st (pos u) (wrapped t w e)
wrapped_says {e} {st} false w u one lim p =
    record { number = pos (u % 2 ^ w); is = wrap_unsigned w (u % 2 ^ w) (pos u) (mod_below u (2 ^ w) (pow_pos w)) (congruent w u); says = cut_says w u p }
wrapped_says {e} {st} true w u one lim p =
    let b : ℕ = u % 2 ^ w in
    let l : b < 2 ^ w = mod_below u (2 ^ w) (pow_pos w) in
    let d = double w one in
    let hm = half_most w lim in
    let wm = whole_most w lim in
    let low : Says (cut w e) st (Uint64 b) = cut_says w u p in
    elim (cases_lt b (2 ^ (w - 1))) [
      | inl k ↦
          record {
            number = pos b;
            is = wrap_small w b (pos u) k (congruent w u);
            says = below_says b (2 ^ (w - 1)) (Int64 (pos b)) low (unsigned_says (2 ^ (w - 1)) st) (λ g. number_says b (omega (arith, k, hm)) low) (λ g. absurd (omega (arith, k, g)));
          }
      | inr k ↦
          record {
            number = neg_ℤ (pos (2 ^ w - b));
            is = wrap_large w b (pos u) one l k (congruent w u);
            says = below_says b (2 ^ (w - 1)) (Int64 (neg_ℤ (pos (2 ^ w - b)))) low (unsigned_says (2 ^ (w - 1)) st) (λ g. absurd (omega (arith, k, g)))
                (λ g.
                at_number (negsuc 0 -ℤ pos (2 ^ w - 1 - b)) (neg_ℤ (pos (2 ^ w - b))) (omega (arith, ints, l))
                (sub_says (negsuc 0) (pos (2 ^ w - 1 - b)) (record { least = omega (arith, ints, l, k, d, hm); most = omega (arith, ints) }) (minus_one_says st)
                (number_says (2 ^ w - 1 - b) (omega (arith, l, k, d, hm)) (minus_says (2 ^ w - 1) b (omega (arith, l)) (omega (arith, wm, pow_pos w)) (unsigned_says (2 ^ w - 1) st) low))));
          }
    ]

-- a number and its bits wrap to the same
pub wrapped_bits : (t : Bool) (w u : ℕ) (z q : ℤ) → w ≤ 64 → IsBits z u → IsFitIn Wrap t w (pos u) q → IsFitIn Wrap t w z q
wrapped_bits t w u z q h b a = record {
  least = a.least;
  most = a.most;
  turns = a.turns +ℤ b.turns *ℤ pos (2 ^ (64 - w));
  congruent =
      let d = distrib a.turns (b.turns *ℤ pos (2 ^ (64 - w))) (2 ^ w) in
      let m = scaled_twice b.turns (2 ^ (64 - w)) (2 ^ w) (2 ^ 64) (powers w h) in
      omega (arith, ints, a.congruent, b.is, d, m);
}

pub fitted_says : (a : Overflow) (st : State) (t : Bool) (w : ℕ) (s : Bool) (x : ℕ) (z : ℤ) → 1 ≤ w → w ≤ 64 → IsWord s z → Holds st x s z → SaysFit a t w st z (fitted a t w s x)
unfolding fitted
fitted_says Saturate st t w s x z one lim i h = saturated_says st t w s x z lim i h
fitted_says Wrap st t w s x z one lim i h =
    let r = wrapped_says t w (bits s z) one lim (bits_of_says s z (x_says st x s z h)) in
    record { number = r.number; is = wrapped_bits t w (bits s z) z r.number lim (bits_are s z i) r.is; says = r.says }
