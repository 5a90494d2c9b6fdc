-- What single expressions give, from what their parts give.
use Rattle.std.proofs.Common.{◌≡◌, ℕ, ◌+◌, ◌-◌, ◌*◌, ◌/◌, ◌^◌, ◌%◌, ◌<◌, ◌≤◌, Bool, true, false, ℤ, pos, negsuc, ◌+ℤ◌, ◌*ℤ◌, ◌≤ℤ◌, ◌<ℤ◌, Some, refl, sym, ap, ◌∙◌, subst, arith, inl, inr, ltb}
use Rattle.std.specs.Prelude.{neg_ℤ, ◌-ℤ◌, unsigned_abs, slice_get, int_lt, nat_lt}
use Rattle.std.proofs.lemmas.Bool.{lt-ltb, le-ltb, cases_lt}
use Rattle.std.proofs.lemmas.Int.{ints, by_lt_z}
use Rattle.std.proofs.lemmas.Nat.{and_mask}
use Rattle.c_tree.specs.declared.tree.CWord.TheVariants.{I64, U64}
use Rattle.c_tree.specs.declared.tree.CRel.{CRel}
use Rattle.c_tree.specs.declared.tree.CRel.TheVariants.{Lt}
use Rattle.c_tree.specs.declared.tree.COp.{COp}
use Rattle.c_tree.specs.declared.tree.COp.TheVariants as op
use Rattle.c_tree.specs.Tree.{Exp, Signed, Unsigned, Var, Cast, Neg, Binary, Choose, Compare}
use Rattle.c_tree.specs.Tokens.{tokens, test_tokens}
use Rattle.c_tree.specs.Outcome.{Completes, UndefinedAt, ◌>>=◌, bind, choose, when◌then◌else◌, found_at}
use Rattle.c_tree.specs.Meaning.{Word, Int64, Uint64, State, value, holds, operated, converted, negated, compared, related, shifted_right, signed_at, unsigned, fits_signed, wrapped}

-- in the range of int64_t
pub record IsInt64 (z : ℤ) : Type 0 where
  pub least : neg_ℤ (pos (2 ^ 63)) ≤ℤ z
  pub most : z <ℤ pos (2 ^ 63)

-- the expression gives this word, wherever its tokens begin
pub record Says (e : Exp) (st : State) (w : Word) : Type 0 where
  pub says : (at : ℕ) → value e st at ≡ Completes w

pub mod_small : (n k : ℕ) → n < k → n % k ≡ n
mod_small n k h = grind arith

fits_64 : (z : ℤ) → IsInt64 z → fits_signed 64 z ≡ true
fits_64 (pos n) h = let l : n < 2 ^ 63 = omega (arith, ints, h.most) in grind (arith, ints)
fits_64 (negsuc n) h = let l : n < 2 ^ 63 = omega (arith, ints, h.least) in grind (arith, ints)

signed_at_is : (at : ℕ) (z : ℤ) → IsInt64 z → signed_at at z ≡ Completes (Int64 z)
unfolding signed_at choose
signed_at_is at z h = ap (λ b. when b then Completes (Int64 z) else UndefinedAt at) (fits_64 z h)

unsigned_is : (n : ℕ) → n < 2 ^ 64 → unsigned (pos n) ≡ Completes (Uint64 n)
unsigned_is n h = ap (λ k. Completes (Uint64 k)) (mod_small n (2 ^ 64) h)

-- ---- constants and variables

pub signed_says : (n : ℕ) (st : State) → Says (Signed n) st (Int64 (pos n))
signed_says n st = record { says = λ at. refl }

pub unsigned_says : (n : ℕ) (st : State) → Says (Unsigned n) st (Uint64 n)
unsigned_says n st = record { says = λ at. refl }

pub var_says : (k : ℕ) (st : State) (w : Word) → slice_get st.words k ≡ Some w → Says (Var k) st w
unfolding found_at
var_says k st w h = record { says = λ at. ap (found_at at) h }

-- ---- operators

pub binary_says : {a b : Exp} {st : State} (o : COp) (x y w : Word) → ((at : ℕ) → operated at o x y ≡ Completes w) → Says a st x → Says b st y → Says (Binary o a b) st w
unfolding bind
binary_says {a} {b} {st} o x y w r p q = record {
  says = λ at.
      ap (λ g. g >>= (λ v. value b st (at + 2 + tokens a) >>= (λ u. operated (at + 1 + tokens a) o v u))) (p.says (at + 1))
      ∙ ap (λ g. g >>= (λ u. operated (at + 1 + tokens a) o x u)) (q.says (at + 2 + tokens a))
      ∙ r (at + 1 + tokens a);
}

pub add_says : {a b : Exp} {st : State} (x y : ℤ) → IsInt64 (x +ℤ y) → Says a st (Int64 x) → Says b st (Int64 y) → Says (Binary op.Add a b) st (Int64 (x +ℤ y))
unfolding operated
add_says x y h p q = binary_says op.Add (Int64 x) (Int64 y) (Int64 (x +ℤ y)) (λ at. signed_at_is at (x +ℤ y) h) p q

pub sub_says : {a b : Exp} {st : State} (x y : ℤ) → IsInt64 (x -ℤ y) → Says a st (Int64 x) → Says b st (Int64 y) → Says (Binary op.Sub a b) st (Int64 (x -ℤ y))
unfolding operated
sub_says x y h p q = binary_says op.Sub (Int64 x) (Int64 y) (Int64 (x -ℤ y)) (λ at. signed_at_is at (x -ℤ y) h) p q

pub mul_says : {a b : Exp} {st : State} (x y : ℤ) → IsInt64 (x *ℤ y) → Says a st (Int64 x) → Says b st (Int64 y) → Says (Binary op.Mul a b) st (Int64 (x *ℤ y))
unfolding operated
mul_says x y h p q = binary_says op.Mul (Int64 x) (Int64 y) (Int64 (x *ℤ y)) (λ at. signed_at_is at (x *ℤ y) h) p q

pub plus_says : {a b : Exp} {st : State} (m n : ℕ) → m + n < 2 ^ 64 → Says a st (Uint64 m) → Says b st (Uint64 n) → Says (Binary op.Add a b) st (Uint64 (m + n))
unfolding operated
plus_says m n h p q = binary_says op.Add (Uint64 m) (Uint64 n) (Uint64 (m + n)) (λ at. unsigned_is (m + n) h) p q

pub minus_says : {a b : Exp} {st : State} (m n : ℕ) → n ≤ m → m < 2 ^ 64 → Says a st (Uint64 m) → Says b st (Uint64 n) → Says (Binary op.Sub a b) st (Uint64 (m - n))
unfolding operated
minus_says m n h l p q =
    let e : pos m -ℤ pos n ≡ pos (m - n) = omega (arith, ints) in
    binary_says op.Sub (Uint64 m) (Uint64 n) (Uint64 (m - n)) (λ at. ap unsigned e ∙ unsigned_is (m - n) (omega arith)) p q

-- the product modulo 2 ^ 64
pub times_says : {a b : Exp} {st : State} (m n : ℕ) → Says a st (Uint64 m) → Says b st (Uint64 n) → Says (Binary op.Mul a b) st (Uint64 (m * n % 2 ^ 64))
unfolding operated
times_says m n p q = binary_says op.Mul (Uint64 m) (Uint64 n) (Uint64 (m * n % 2 ^ 64)) (λ at. refl) p q

pub product_says : {a b : Exp} {st : State} (m n : ℕ) → m * n < 2 ^ 64 → Says a st (Uint64 m) → Says b st (Uint64 n) → Says (Binary op.Mul a b) st (Uint64 (m * n))
unfolding operated
product_says m n h p q = binary_says op.Mul (Uint64 m) (Uint64 n) (Uint64 (m * n)) (λ at. unsigned_is (m * n) h) p q

-- the low k bits
pub low_says : {a : Exp} {st : State} (n k : ℕ) → Says a st (Uint64 n) → Says (Binary op.And a (Unsigned (2 ^ k - 1))) st (Uint64 (n % 2 ^ k))
unfolding operated
low_says {a} {st} n k p = binary_says op.And (Uint64 n) (Uint64 (2 ^ k - 1)) (Uint64 (n % 2 ^ k)) (λ at. ap (λ i. Completes (Uint64 i)) (and_mask n k)) p (unsigned_says (2 ^ k - 1) st)

pub shift_says : {a : Exp} {st : State} (n k : ℕ) → k < 64 → Says a st (Int64 (pos n)) → Says (Binary op.Shr a (Unsigned k)) st (Int64 (pos (n / 2 ^ k)))
unfolding operated shifted_right choose
shift_says {a} {st} n k h p =
    let t : ltb k 64 ≡ true = lt-ltb k 64 h in
    binary_says op.Shr (Int64 (pos n)) (Uint64 k) (Int64 (pos (n / 2 ^ k))) (λ at. ap (λ b. when b then Completes (Int64 (pos (n / 2 ^ k))) else UndefinedAt at) t) p (unsigned_says k st)

pub plain_shift_says : {a : Exp} {st : State} (n k : ℕ) → k < 64 → Says a st (Uint64 n) → Says (Binary op.Shr a (Unsigned k)) st (Uint64 (n / 2 ^ k))
unfolding operated shifted_right choose
plain_shift_says {a} {st} n k h p =
    let t : ltb k 64 ≡ true = lt-ltb k 64 h in
    binary_says op.Shr (Uint64 n) (Uint64 k) (Uint64 (n / 2 ^ k)) (λ at. ap (λ b. when b then Completes (Uint64 (n / 2 ^ k)) else UndefinedAt at) t) p (unsigned_says k st)

-- ---- signs

pub neg_says : {e : Exp} {st : State} (z : ℤ) → IsInt64 (neg_ℤ z) → Says e st (Int64 z) → Says (Neg e) st (Int64 (neg_ℤ z))
unfolding bind negated
neg_says z h p = record { says = λ at. ap (λ g. g >>= negated (at + 1)) (p.says (at + 2)) ∙ signed_at_is (at + 1) (neg_ℤ z) h }

pub bits_says : {e : Exp} {st : State} (z : ℤ) → Says e st (Int64 z) → Says (Cast U64 e) st (Uint64 (wrapped 64 z))
unfolding bind converted
bits_says z p = record { says = λ at. ap (λ g. g >>= converted at U64) (p.says (at + 3)) }

pub plain_bits_says : {e : Exp} {st : State} (n : ℕ) → n < 2 ^ 64 → Says e st (Int64 (pos n)) → Says (Cast U64 e) st (Uint64 n)
unfolding bind converted
plain_bits_says n h p = record { says = λ at. ap (λ g. g >>= converted at U64) (p.says (at + 3)) ∙ unsigned_is n h }

pub number_says : {e : Exp} {st : State} (n : ℕ) → n < 2 ^ 63 → Says e st (Uint64 n) → Says (Cast I64 e) st (Int64 (pos n))
unfolding bind converted
number_says n h p = record { says = λ at. ap (λ g. g >>= converted at I64) (p.says (at + 3)) ∙ signed_at_is at (pos n) (record { least = omega (arith, ints); most = omega (arith, ints) }) }

-- ---- choices

holds_says : {a b : Exp} {st : State} (r : CRel) (x y : Word) (v : Bool) → ((at : ℕ) → compared at r x y ≡ Completes v) → Says a st x → Says b st y → (at : ℕ) → holds (Compare r a b) st at ≡ Completes v
unfolding bind
holds_says {a} {b} {st} r x y v h p q at =
    ap (λ g. g >>= (λ i. value b st (at + 1 + tokens a) >>= (λ j. compared (at + tokens a) r i j))) (p.says at)
    ∙ ap (λ g. g >>= (λ j. compared (at + tokens a) r x j)) (q.says (at + 1 + tokens a))
    ∙ h (at + tokens a)

pub choose_yes : {a b c d : Exp} {st : State} (r : CRel) (x y w : Word) → ((at : ℕ) → compared at r x y ≡ Completes true) → Says a st x → Says b st y → Says c st w → Says (Choose (Compare r a b) c d) st w
unfolding bind choose
choose_yes {a} {b} {c} {d} {st} r x y w h p q s = record {
  says = λ at.
      ap (λ g. g >>= (λ i. when i then value c st (at + 2 + test_tokens (Compare r a b)) else value d st (at + 3 + test_tokens (Compare r a b) + tokens c))) (holds_says r x y true h p q (at + 1))
      ∙ s.says (at + 2 + test_tokens (Compare r a b));
}

pub choose_no : {a b c d : Exp} {st : State} (r : CRel) (x y w : Word) → ((at : ℕ) → compared at r x y ≡ Completes false) → Says a st x → Says b st y → Says d st w → Says (Choose (Compare r a b) c d) st w
unfolding bind choose
choose_no {a} {b} {c} {d} {st} r x y w h p q s = record {
  says = λ at.
      ap (λ g. g >>= (λ i. when i then value c st (at + 2 + test_tokens (Compare r a b)) else value d st (at + 3 + test_tokens (Compare r a b) + tokens c))) (holds_says r x y false h p q (at + 1))
      ∙ s.says (at + 3 + test_tokens (Compare r a b) + tokens c);
}

pub lt_true : (a b : ℤ) → a <ℤ b → int_lt a b ≡ true
lt_true a b h = let e : true ≡ int_lt a b = omega (arith, ints) in sym e

pub lt_false : (a b : ℤ) → b ≤ℤ a → int_lt a b ≡ false
lt_false a b h = let e : false ≡ int_lt a b = omega (arith, ints) in sym e

-- the first where one int64_t is below another, and else the second
pub less_says : {a b c d : Exp} {st : State} (x y : ℤ) (w : Word) → Says a st (Int64 x) → Says b st (Int64 y) → (x <ℤ y → Says c st w) → (y ≤ℤ x → Says d st w) → Says (Choose (Compare Lt a b) c d) st w
unfolding compared
less_says x y w p q s t =
    by_lt_z x y
    (λ h. choose_yes Lt (Int64 x) (Int64 y) w (λ at. ap Completes (lt_true x y h)) p q (s h))
    (λ h. choose_no Lt (Int64 x) (Int64 y) w (λ at. ap Completes (lt_false x y h)) p q (t h))

-- the same of uint64_t
pub below_says : {a b c d : Exp} {st : State} (m n : ℕ) (w : Word) → Says a st (Uint64 m) → Says b st (Uint64 n) → (m < n → Says c st w) → (n ≤ m → Says d st w) → Says (Choose (Compare Lt a b) c d) st w
unfolding compared
below_says m n w p q s t =
    by_lt_z (pos m) (pos n)
    (λ h. choose_yes Lt (Uint64 m) (Uint64 n) w (λ at. ap Completes (lt_true (pos m) (pos n) h)) p q (s (omega (arith, ints, h))))
    (λ h. choose_no Lt (Uint64 m) (Uint64 n) w (λ at. ap Completes (lt_false (pos m) (pos n) h)) p q (t (omega (arith, ints, h))))

-- the difference modulo 2 ^ 64
pub difference_says : {a b : Exp} {st : State} (m n : ℕ) → Says a st (Uint64 m) → Says b st (Uint64 n) → Says (Binary op.Sub a b) st (Uint64 (wrapped 64 (pos m -ℤ pos n)))
unfolding operated
difference_says m n p q = binary_says op.Sub (Uint64 m) (Uint64 n) (Uint64 (wrapped 64 (pos m -ℤ pos n))) (λ at. refl) p q

-- the sum modulo 2 ^ 64
pub modular_sum_says : {a b : Exp} {st : State} (m n : ℕ) → Says a st (Uint64 m) → Says b st (Uint64 n) → Says (Binary op.Add a b) st (Uint64 ((m + n) % 2 ^ 64))
unfolding operated
modular_sum_says m n p q = binary_says op.Add (Uint64 m) (Uint64 n) (Uint64 ((m + n) % 2 ^ 64)) (λ at. refl) p q
