-- Stored integers in the text of a program.
use Rattle.std.proofs.Common.{◌≡◌, ℕ, suc, ◌+◌, ◌-◌, ◌%◌, ◌^◌, ◌<◌, ◌≤◌, Bool, true, false, ℤ, pos, negsuc, neg_ℤ, refl, sym, subst, arith, nat_lt, if◌then◌else◌}
use Rattle.std.proofs.lemmas.Int.{ints}
use Rattle.c_tree.specs.declared.tree.CWord.TheVariants.{I64, U64}
use Rattle.c_tree.specs.Tree.{Signed, Unsigned, Neg}
use Rattle.c_tree.specs.Meaning.{Int64, Uint64, State}
use Rattle.c_tree.specs.WellFormed.{Scope}
use Rattle.c_tree.specs.Depth.{exp_depth}
use Rattle.lower_scalar.specs.Part.{reach, word, word_for}
use Rattle.lower_scalar.specs.Shapes.{below_minus}
use Rattle.lower_scalar.proofs.Says.{Says, signed_says, unsigned_says, neg_says}
use Rattle.lower_scalar.proofs.Words.{at_number, below_minus_says}
use Rattle.lower_scalar.proofs.Typed.{Typed, t_signed, t_unsigned, t_neg}
use Rattle.lower_scalar.proofs.Formed.{t_below_minus}
use Rattle.scalar_program.specs.Lowered.{literal_exp}
use Rattle.scalar_program.proofs.Ranges.{InRange, pow_mono}

small : (n k : ℕ) → n < k → n % k ≡ n
small n k h = grind arith

-- a number below that of a word
in_word : (n w : ℕ) → w ≤ 64 → n < 2 ^ (w - 1) → n < 2 ^ 63
in_word n w l h = let m = pow_mono (w - 1) 63 (omega (arith, l)) in omega (arith, h, m)

in_whole_word : (n w : ℕ) → w ≤ 64 → n < 2 ^ w → n < 2 ^ 64
in_whole_word n w l h = let m = pow_mono w 64 l in omega (arith, h, m)

-- ---- what it gives

minus_gives : (n : ℕ) (st : State) → n < 2 ^ 63 → Says (if nat_lt (suc n) (2 ^ 63) then Neg (Signed (suc n % 2 ^ 64)) else below_minus (n % 2 ^ 64)) st (Int64 (negsuc n))
minus_gives n st h = by (nat_lt (suc n) (2 ^ 63)) refl
  where
    by : (b : Bool) → nat_lt (suc n) (2 ^ 63) ≡ b → Says (if b then Neg (Signed (suc n % 2 ^ 64)) else below_minus (n % 2 ^ 64)) st (Int64 (negsuc n))
    by true e =
        let l : suc n < 2 ^ 63 = grind (arith, e) in
        let same : suc n % 2 ^ 64 ≡ suc n = small (suc n) (2 ^ 64) (omega (arith, l)) in
        subst (λ k. Says (Neg (Signed k)) st (Int64 (negsuc n))) (sym same)
        (at_number (neg_ℤ (pos (suc n))) (negsuc n) (omega (arith, ints)) (neg_says (pos (suc n)) (record { least = omega (arith, ints, l); most = omega (arith, ints, l) }) (signed_says (suc n) st)))
    by false e =
        let same : n % 2 ^ 64 ≡ n = small n (2 ^ 64) (omega (arith, h)) in
        subst (λ k. Says (below_minus k) st (Int64 (negsuc n))) (sym same)
        (at_number (neg_ℤ (pos (n + 1))) (negsuc n) (omega (arith, ints)) (below_minus_says st n h))

pub literal_gives : (signed : Bool) (w : ℕ) (z : ℤ) (st : State) → w ≤ 64 → InRange signed w z → Says (literal_exp signed z) st (word signed z)
unfolding literal_exp
literal_gives true w (pos n) st l h =
    subst (λ k. Says (Signed k) st (Int64 (pos n))) (sym (small n (2 ^ 64) (let m = in_word n w l h in omega (arith, m)))) (signed_says n st)
literal_gives true w (negsuc n) st l h = minus_gives n st (in_word n w l h.1)
literal_gives false w (pos n) st l h = subst (λ k. Says (Unsigned k) st (Uint64 n)) (sym (small n (2 ^ 64) (in_whole_word n w l h))) (unsigned_says n st)
literal_gives false w (negsuc n) st l h = absurd (let f = h.0 in cc)

-- ---- its type

minus_typed : (n : ℕ) (sc : Scope) → n < 2 ^ 63 → Typed sc (if nat_lt (suc n) (2 ^ 63) then Neg (Signed (suc n % 2 ^ 64)) else below_minus (n % 2 ^ 64)) I64
minus_typed n sc h = by (nat_lt (suc n) (2 ^ 63)) refl
  where
    by : (b : Bool) → nat_lt (suc n) (2 ^ 63) ≡ b → Typed sc (if b then Neg (Signed (suc n % 2 ^ 64)) else below_minus (n % 2 ^ 64)) I64
    by true e =
        let l : suc n < 2 ^ 63 = grind (arith, e) in
        subst (λ k. Typed sc (Neg (Signed k)) I64) (sym (small (suc n) (2 ^ 64) (omega (arith, l)))) (t_neg (t_signed sc (suc n) l))
    by false e = subst (λ k. Typed sc (below_minus k) I64) (sym (small n (2 ^ 64) (omega (arith, h)))) (t_below_minus sc n h)

pub literal_typed : (signed : Bool) (w : ℕ) (z : ℤ) (sc : Scope) → w ≤ 64 → InRange signed w z → Typed sc (literal_exp signed z) (word_for signed)
unfolding literal_exp
literal_typed true w (pos n) sc l h =
    let m = in_word n w l h in
    subst (λ k. Typed sc (Signed k) I64) (sym (small n (2 ^ 64) (omega (arith, m)))) (t_signed sc n m)
literal_typed true w (negsuc n) sc l h = minus_typed n sc (in_word n w l h.1)
literal_typed false w (pos n) sc l h =
    let m = in_whole_word n w l h in
    subst (λ k. Typed sc (Unsigned k) U64) (sym (small n (2 ^ 64) m)) (t_unsigned sc n m)
literal_typed false w (negsuc n) sc l h = absurd (let f = h.0 in cc)

-- ---- its depth, and what it reads

pub literal_depth : (signed : Bool) (z : ℤ) → exp_depth (literal_exp signed z) ≤ 3
unfolding literal_exp
literal_depth false z = omega arith
literal_depth true (pos n) = omega arith
literal_depth true (negsuc n) = by (nat_lt (suc n) (2 ^ 63))
  where
    by : (b : Bool) → exp_depth (if b then Neg (Signed (suc n % 2 ^ 64)) else below_minus (n % 2 ^ 64)) ≤ 3
    by true = omega arith
    by false = omega arith

pub literal_reach : (signed : Bool) (z : ℤ) → reach (literal_exp signed z) ≡ 0
unfolding literal_exp
literal_reach false z = refl
literal_reach true (pos n) = refl
literal_reach true (negsuc n) = by (nat_lt (suc n) (2 ^ 63))
  where
    by : (b : Bool) → reach (if b then Neg (Signed (suc n % 2 ^ 64)) else below_minus (n % 2 ^ 64)) ≡ 0
    by true = refl
    by false = refl
