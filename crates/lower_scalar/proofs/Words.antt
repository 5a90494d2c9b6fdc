-- Stored integers as words, and their bits.
use Rattle.std.proofs.Common.{◌≡◌, ℕ, suc, ◌+◌, ◌-◌, ◌*◌, ◌/◌, ◌^◌, ◌%◌, ◌<◌, ◌≤◌, Bool, true, false, ℤ, pos, negsuc, ◌+ℤ◌, ◌*ℤ◌, ◌≤ℤ◌, ◌<ℤ◌, Some, refl, sym, ap, ◌∙◌, subst, arith}
use Rattle.std.specs.Prelude.{neg_ℤ, ◌-ℤ◌, unsigned_abs, nat_abs, slice_get}
use Rattle.std.proofs.lemmas.Int.{ints}
use Rattle.std.proofs.lemmas.Nat.{pow-add, pow_pos, shr_split, mod_below}
use Rattle.std.proofs.Math.Pow.{pow_mono}
use Rattle.std.proofs.Math.Nat.{mul-le-mul_left}
use Rattle.num_type.specs.declared.methods.Rounding.TheVariants.{Floor}
use Rattle.num_type.specs.Types.{least_of, greatest_of}
use Rattle.fi_quant.specs.Round.{IsFloor, IsRounded}
use Rattle.fi_quant.specs.Numbers.{floor_of}
use Rattle.fi_quant.proofs.Signs.{distrib, neg-mul}
use Rattle.fi_quant.proofs.Once.{rounded_once}
use Rattle.c_tree.specs.declared.tree.COp.TheVariants as op
use Rattle.c_tree.specs.Tree.{Exp, Signed, Unsigned, Var, Cast, Neg, Binary, Choose}
use Rattle.c_tree.specs.Meaning.{Word, Int64, Uint64, State, wrapped}
use Rattle.lower_scalar.specs.Part.{word}
use Rattle.lower_scalar.specs.Shapes.{constant, minus_one, below_minus, bits_of, resigned, by_sign, low_bits}
use Rattle.lower_scalar.proofs.Says.{IsInt64, Says, signed_says, unsigned_says, var_says, add_says, sub_says, neg_says, plus_says, low_says, bits_says, plain_bits_says, number_says, less_says}

-- in the range of uint64_t
pub record IsUint64 (z : ℤ) : Type 0 where
  pub least : pos 0 ≤ℤ z
  pub most : z <ℤ pos (2 ^ 64)

-- in the range of the word of a signedness
abbrev pub IsWord : Bool → ℤ → Type 0
IsWord true z = IsInt64 z
IsWord false z = IsUint64 z

-- the word as a uint64_t
abbrev pub bits : Bool → ℤ → ℕ
bits true z = wrapped 64 z
bits false z = unsigned_abs z

-- a number that differs from z by a multiple of 2 ^ 64
pub record IsBits (z : ℤ) (u : ℕ) : Type 0 where
  pub turns : ℤ
  pub is : z ≡ pos u +ℤ turns *ℤ pos (2 ^ 64)

pub bits_are : (s : Bool) (z : ℤ) → IsWord s z → IsBits z (bits s z)
bits_are true (pos n) h = record { turns = pos 0; is = omega (arith, ints, h.most) }
bits_are true (negsuc n) h = record { turns = negsuc 0; is = omega (arith, ints, h.least) }
bits_are false (pos n) h = record { turns = pos 0; is = omega (arith, ints) }
bits_are false (negsuc n) h = absurd (omega (arith, ints, h.least))

pub bits_below : (s : Bool) (z : ℤ) → IsWord s z → bits s z < 2 ^ 64
bits_below true (pos n) h = omega (arith, ints, h.most)
bits_below true (negsuc n) h = omega (arith, ints, h.least)
bits_below false (pos n) h = omega (arith, ints, h.most)
bits_below false (negsuc n) h = absurd (omega (arith, ints, h.least))

-- the lowest bit is the size's
pub parity : (s : Bool) (z : ℤ) → bits s z % 2 ≡ nat_abs z % 2
parity true (pos n) = omega arith
parity true (negsuc n) = omega arith
parity false (pos n) = refl
parity false (negsuc n) = refl

pub scaled_twice : (i : ℤ) (a b c : ℕ) → a * b ≡ c → (i *ℤ pos a) *ℤ pos b ≡ i *ℤ pos c
scaled_twice (pos n) a b c e = let g : n * (a * b) ≡ n * c = ap (λ (x : ℕ). n * x) e in ap pos (omega arith)
scaled_twice (negsuc n) a b c e = let g : suc n * (a * b) ≡ suc n * c = ap (λ (x : ℕ). suc n * x) e in neg-mul (suc n * a) b ∙ ap (λ (x : ℕ). neg_ℤ (pos x)) (omega arith)

pub powers : (k : ℕ) → k ≤ 64 → 2 ^ (64 - k) * 2 ^ k ≡ 2 ^ 64
powers k h = sym (pow-add 2 (64 - k) k) ∙ ap (λ (i : ℕ). 2 ^ i) (let j : (64 - k) + k ≡ 64 = omega arith in j)

-- z is its floor times 2 ^ k and the low k bits
pub rest_is : (z q : ℤ) (k u : ℕ) → k ≤ 64 → IsBits z u → IsFloor z (2 ^ k) q → z ≡ q *ℤ pos (2 ^ k) +ℤ pos (u % 2 ^ k)
rest_is z q k u h b f =
    let p : ℕ = 2 ^ k in
    let r : ℕ = u % 2 ^ k in
    let i : ℤ = b.turns *ℤ pos (2 ^ (64 - k)) in
    let q0 : ℤ = pos (u / 2 ^ k) +ℤ i in
    let e : z ≡ q0 *ℤ pos (2 ^ k) +ℤ pos (u % 2 ^ k) = omega (arith, ints, b.is, shr_split u k, distrib (pos (u / 2 ^ k)) i (2 ^ k), scaled_twice b.turns (2 ^ (64 - k)) (2 ^ k) (2 ^ 64) (powers k h)) in
    let l : r < p = mod_below u (2 ^ k) (pow_pos k) in
    let g : IsFloor z (2 ^ k) q0 = record { least = omega (arith, ints); most = omega (arith, ints, distrib q0 (pos 1) (2 ^ k)) } in
    subst (λ (x : ℤ). z ≡ x *ℤ pos (2 ^ k) +ℤ pos (u % 2 ^ k)) (rounded_once Floor z k q0 q g f) e

-- ---- the floor is a word, and so is the next number

pub halved : (n k : ℕ) → 1 ≤ k → 2 * (n / 2 ^ k) ≤ n
halved n k h =
    let two : 2 ^ 1 ≤ 2 ^ k = pow_mono h in
    let m : (n / 2 ^ k) * 2 ^ 1 ≤ (n / 2 ^ k) * 2 ^ k = mul-le-mul_left (n / 2 ^ k) two in
    omega (arith, m, shr_split n k)

pub floor_word : (s : Bool) (z : ℤ) (k : ℕ) → 1 ≤ k → IsWord s z → IsWord s (floor_of z (2 ^ k))
floor_word true (pos n) k h i = let m = halved n k h in record { least = omega (arith, ints, i.most); most = omega (arith, ints, i.most) }
floor_word true (negsuc n) k h i = let m = halved n k h in record { least = omega (arith, ints, i.least); most = omega (arith, ints, i.least) }
floor_word false (pos n) k h i = let m = halved n k h in record { least = omega (arith, ints, i.most); most = omega (arith, ints, i.most) }
floor_word false (negsuc n) k h i = absurd (omega (arith, ints, i.least))

pub next_word : (s : Bool) (z : ℤ) (k : ℕ) → 1 ≤ k → IsWord s z → IsWord s (floor_of z (2 ^ k) +ℤ pos 1)
next_word true (pos n) k h i = let m = halved n k h in record { least = omega (arith, ints, i.most); most = omega (arith, ints, i.most) }
next_word true (negsuc n) k h i = let m = halved n k h in record { least = omega (arith, ints, i.least); most = omega (arith, ints, i.least) }
next_word false (pos n) k h i = let m = halved n k h in record { least = omega (arith, ints, i.most); most = omega (arith, ints, i.most) }
next_word false (negsuc n) k h i = absurd (omega (arith, ints, i.least))

-- ---- what small shapes give

-- the variable holds the number
abbrev pub Holds : State → ℕ → Bool → ℤ → Type 0
Holds st x s z = slice_get st.words x ≡ Some (word s z)

pub x_says : (st : State) (x : ℕ) (s : Bool) (z : ℤ) → Holds st x s z → Says (Var x) st (word s z)
x_says st x s z h = var_says x st (word s z) h

pub constant_says : (st : State) (s : Bool) (n : ℕ) → Says (constant s n) st (word s (pos n))
constant_says st true n = signed_says n st
constant_says st false n = unsigned_says n st

pub minus_one_says : (st : State) → Says minus_one st (Int64 (negsuc 0))
minus_one_says st = neg_says (pos 1) (record { least = omega (arith, ints); most = omega (arith, ints) }) (signed_says 1 st)

pub at_number : {e : Exp} {st : State} (x y : ℤ) → x ≡ y → Says e st (Int64 x) → Says e st (Int64 y)
at_number {e} {st} x y h p = subst (λ (i : ℤ). Says e st (Int64 i)) h p

pub at_bits : {e : Exp} {st : State} (m n : ℕ) → m ≡ n → Says e st (Uint64 m) → Says e st (Uint64 n)
at_bits {e} {st} m n h p = subst (λ (i : ℕ). Says e st (Uint64 i)) h p

pub below_minus_says : (st : State) (n : ℕ) → n < 2 ^ 63 → Says (below_minus n) st (Int64 (neg_ℤ (pos (n + 1))))
below_minus_says st n h =
    at_number (neg_ℤ (pos n) -ℤ pos 1) (neg_ℤ (pos (n + 1))) (omega (arith, ints))
    (sub_says (neg_ℤ (pos n)) (pos 1) (record { least = omega (arith, ints); most = omega (arith, ints) })
    (neg_says (pos n) (record { least = omega (arith, ints); most = omega (arith, ints) }) (signed_says n st)) (signed_says 1 st))

pub bits_of_says : {e : Exp} {st : State} (s : Bool) (z : ℤ) → Says e st (word s z) → Says (bits_of s e) st (Uint64 (bits s z))
bits_of_says true z p = bits_says z p
bits_of_says false z p = p

pub resigned_says : {e : Exp} {st : State} (s t : Bool) (z : ℤ) → IsWord s z → IsWord t z → Says e st (word s z) → Says (resigned s t e) st (word t z)
resigned_says true true z h i p = p
resigned_says true false (pos n) h i p = plain_bits_says n (omega (arith, ints, i.most)) p
resigned_says true false (negsuc n) h i p = absurd (omega (arith, ints, i.least))
resigned_says false true (pos n) h i p = number_says n (omega (arith, ints, i.most)) p
resigned_says false true (negsuc n) h i p = absurd (omega (arith, ints, h.least))
resigned_says false false z h i p = p

pub by_sign_says : {a b : Exp} (st : State) (x : ℕ) (s : Bool) (z : ℤ) (w : Word) → IsWord s z → Holds st x s z → (s ≡ true → z <ℤ pos 0 → Says a st w) → (pos 0 ≤ℤ z → Says b st w) → Says (by_sign s x a b) st w
by_sign_says st x true z w i h p q = less_says z (pos 0) w (x_says st x true z h) (signed_says 0 st) (p refl) q
by_sign_says st x false z w i h p q = q i.least

pub low_bits_says : (st : State) (x : ℕ) (s : Bool) (z : ℤ) (k : ℕ) → Holds st x s z → Says (low_bits s x k) st (Uint64 (bits s z % 2 ^ k))
low_bits_says st x s z k h = low_says (bits s z) k (bits_of_says s z (x_says st x s z h))

pub next_says : {e : Exp} {st : State} (s : Bool) (z : ℤ) → IsWord s z → IsWord s (z +ℤ pos 1) → Says e st (word s z) → Says (Binary op.Add e (constant s 1)) st (word s (z +ℤ pos 1))
next_says {e} {st} true z i j p = add_says z (pos 1) j p (signed_says 1 st)
next_says {e} {st} false (pos n) i j p = plus_says n 1 (omega (arith, ints, j.most)) p (unsigned_says 1 st)
next_says {e} {st} false (negsuc n) i j p = absurd (omega (arith, ints, i.least))

-- each number differs from its bits by a multiple of 2 ^ 64
pub any_bits : (z : ℤ) → IsBits z (wrapped 64 z)
any_bits (pos n) = record { turns = pos (n / 2 ^ 64); is = omega (arith, ints) }
any_bits (negsuc n) = record { turns = negsuc (n / 2 ^ 64); is = omega (arith, ints) }
