-- The words of a well-formed program: their numbers are small, and their arrays are declared.
use Rattle.std.proofs.Common.{◌≡◌, ℕ, zero, suc, ◌<◌, ◌^◌, Bool, true, not, ◌&&◌, nat_lt, List, [], ◌∷◌, length, arith}
use Rattle.std.specs.Prelude.{Option, Some, None, is_some, slice_get}
use Rattle.std.proofs.lemmas.Bool.{and_parts}
use Rattle.c_tree.specs.declared.tree.Counter.{Counter}
use Rattle.c_tree.specs.declared.tree.CounterKind.{CounterKind}
use Rattle.c_tree.specs.declared.tree.CWord.{CWord}
use Rattle.c_tree.specs.declared.tree.CWord.TheVariants.{I64, U64}
use Rattle.c_tree.specs.declared.array_names.Array.{Array}
use Rattle.c_tree.specs.declared.array_names.Arrays.{Arrays}
use Rattle.c_tree.specs.Names.{array_at, word_of, is_const}
use Rattle.c_tree.specs.Tree.{Exp, Signed, Unsigned, Var, Count, Element, Cast, Truth, Neg, Binary, Choose, Test, Compare, Sta, Set, Store, If, IfElse, For, While, Break, Continue, Return, Block, Done, Next}
use Rattle.c_tree.specs.WellFormed.{Scope, type_of_exp, is_test, is_one_type, is_declared, has_type, is_fit, are_fit}
use Rattle.c_tree.proofs.Typed.{given_part, negated_part, cast_part, element_parts, same_parts, operator_parts, choose_parts}
use Rattle.c_grammar.specs.declared.word.CSign.TheVariants as sign
use Rattle.c_grammar.specs.declared.word.CWordToken.{CWordToken}
use Rattle.c_grammar.specs.declared.word.CWordToken.TheVariants as word
use Rattle.c_grammar.specs.Sentence.{Words, type_word, read_of, store_of, exp_words, test_words, for_words, sta_words, block_words}

-- a word that stands for a token beside these arrays
abbrev pub IsKnown : Arrays → CWordToken → Type 0
IsKnown all (word.Number n) = n < 2 ^ 64
IsKnown all (word.Var k) = k < 2 ^ 32
IsKnown all (word.Counter c) = c.number < 2 ^ 32
IsKnown all (word.Array a) = is_some (array_at all a) ≡ true
IsKnown all word.Other = ⊥
IsKnown all _ = Unit {0}

abbrev pub AllKnown : Arrays → Words → Type 0
AllKnown all [] = Unit {0}
AllKnown all (w ∷ ws) = IsKnown all w × AllKnown all ws

-- the numbers of variables and counters stay below their limit
pub record IsSmall (s : Scope) : Type 0 where
  pub words : length s.words < 2 ^ 32
  pub counters : (kind : CounterKind) → s.counters kind < 2 ^ 32

below : (n k : ℕ) → nat_lt n k ≡ true → n < k
below n k h = grind arith

got_below : {A : Type 0} → (xs : List A) (k : ℕ) → is_some (slice_get xs k) ≡ true → k < length xs
got_below [] k h = absurd cc
got_below (x ∷ xs) zero h = omega arith
got_below (x ∷ xs) (suc k) h = omega (arith, got_below xs k h)

pub type_known : (all : Arrays) (w : CWord) → IsKnown all (type_word w)
type_known all I64 = tt
type_known all U64 = tt

read_known : (all : Arrays) (o : Option Array) → is_some o ≡ true → IsKnown all (read_of o)
read_known all None h = absurd cc
read_known all (Some a) h = type_known all (word_of a.container)

store_known : (all : Arrays) (o : Option Array) → is_some o ≡ true → IsKnown all (store_of o)
store_known all None h = absurd cc
store_known all (Some a) h = tt

below_63 : (n : ℕ) → nat_lt n (2 ^ 63) ≡ true → n < 2 ^ 64
below_63 n h = let k = below n (2 ^ 63) h in omega arith

below_64 : (n : ℕ) → nat_lt n (2 ^ 64) ≡ true → n < 2 ^ 64
below_64 n h = below n (2 ^ 64) h

below_31 : (n : ℕ) → nat_lt n (2 ^ 31) ≡ true → n < 2 ^ 64
below_31 n h = let k = below n (2 ^ 31) h in omega arith

variable_known : (s : Scope) → IsSmall s → (k : ℕ) → is_some (slice_get s.words k) ≡ true → k < 2 ^ 32
variable_known s small k h = omega (arith, got_below s.words k h, small.words)

counter_known : (s : Scope) → IsSmall s → (c : Counter) → is_declared s c ≡ true → c.number < 2 ^ 32
counter_known s small c h = let k = below c.number (s.counters c.kind) h in let m = small.counters c.kind in omega arith

mutual
  pub exp_known : (s : Scope) → IsSmall s → (e : Exp) (rest : Words) → is_some (type_of_exp s e) ≡ true → AllKnown s.arrays rest → AllKnown s.arrays (exp_words s.arrays e rest)
  exp_known s small (Signed n) rest h k = (tt, (tt, (below_63 n (given_part _ I64 h), (tt, k))))
  exp_known s small (Unsigned n) rest h k = (tt, (tt, (below_64 n (given_part _ U64 h), (tt, k))))
  exp_known s small (Var v) rest h k = (variable_known s small v h, k)
  exp_known s small (Count c) rest h k = (counter_known s small c (given_part _ I64 h), k)
  exp_known s small (Element a at) rest h k =
      let part = element_parts (array_at s.arrays a) (type_of_exp s at) h in
      (tt, (read_known s.arrays (array_at s.arrays a) part.0, (tt, (part.0, (tt, exp_known s small at _ part.1 (tt, k))))))
  exp_known s small (Cast to e) rest h k = (tt, (type_known s.arrays to, (tt, exp_known s small e rest (cast_part to _ h) k)))
  exp_known s small (Truth t) rest h k = (tt, (tt, (tt, (tt, test_known s small t _ (given_part _ I64 h) (tt, k)))))
  exp_known s small (Neg e) rest h k = (tt, (tt, exp_known s small e _ (negated_part _ h) (tt, k)))
  exp_known s small (Binary o a b) rest h k =
      let part = operator_parts o (type_of_exp s a) (type_of_exp s b) h in
      (tt, exp_known s small a _ part.0 (tt, exp_known s small b _ part.1 (tt, k)))
  exp_known s small (Choose t a b) rest h k =
      let part = choose_parts (is_test s t) (is_one_type (type_of_exp s a) (type_of_exp s b)) (type_of_exp s a) h in
      let arms = same_parts (type_of_exp s a) (type_of_exp s b) part.1 in
      (tt, test_known s small t _ part.0 (tt, exp_known s small a _ arms.0 (tt, exp_known s small b _ arms.1 (tt, k))))

  test_known : (s : Scope) → IsSmall s → (t : Test) (rest : Words) → is_test s t ≡ true → AllKnown s.arrays rest → AllKnown s.arrays (test_words s.arrays t rest)
  test_known s small (Compare r a b) rest h k =
      let part = same_parts (type_of_exp s a) (type_of_exp s b) h in
      exp_known s small a _ part.0 (tt, exp_known s small b rest part.1 k)

-- ---- statements

for_known : (all : Arrays) (c : Counter) (n : ℕ) (rest : Words) → c.number < 2 ^ 32 → n < 2 ^ 64 → AllKnown all rest → AllKnown all (for_words c n rest)
for_known all c n rest h m k =
    (tt, (tt, (h, (tt, (tt, (tt, (omega arith, (tt, (tt, (h, (tt, (tt, (tt, (m, (tt, (tt, (h, (tt, (tt, (h, (tt, (tt, (tt, (omega arith, (tt, (tt, (tt, k)))))))))))))))))))))))))))

mutual
  sta_known : (s : Scope) → IsSmall s → (loop : Bool) (a : Sta) (rest : Words) → is_fit s loop a ≡ true → AllKnown s.arrays rest → AllKnown s.arrays (sta_words s.arrays a rest)
  sta_known s small loop (Set v value) rest h k =
      let part = same_parts (slice_get s.words v) (type_of_exp s value) h in
      (variable_known s small v part.0, (tt, exp_known s small value _ part.1 (tt, k)))
  sta_known s small loop (Store a at value) rest h k =
      let part = and_parts (not (is_const a) && is_some (array_at s.arrays a)) (has_type s at I64 && is_some (type_of_exp s value)) h in
      let left = and_parts (not (is_const a)) (is_some (array_at s.arrays a)) part.0 in
      let right = and_parts (has_type s at I64) (is_some (type_of_exp s value)) part.1 in (
        left.1,
        (
          tt,
          exp_known s small at _ (same_parts (type_of_exp s at) (Some I64) right.0).0
              (tt, (tt, (tt, (store_known s.arrays (array_at s.arrays a) left.1, (tt, exp_known s small value _ right.1 (tt, k)))))),
        ),
      )
  sta_known s small loop (If t body) rest h k =
      let part = and_parts (is_test s t) (are_fit s loop body) h in
      (tt, (tt, test_known s small t _ part.0 (tt, (tt, block_known s small loop body _ part.1 (tt, k)))))
  sta_known s small loop (IfElse t body other) rest h k =
      let part = and_parts (is_test s t) (are_fit s loop body && are_fit s loop other) h in
      let arms = and_parts (are_fit s loop body) (are_fit s loop other) part.1 in (
        tt,
        (
          tt,
          test_known s small t _ part.0 (
            tt,
            (
              tt,
              block_known s small loop body _ arms.0
                  (tt, (tt, (tt, block_known s small loop other _ arms.1 (tt, k)))),
            ),
          ),
        ),
      )
  sta_known s small loop (For c count body) rest h k =
      let part = and_parts (is_declared s c && nat_lt count (2 ^ 63)) (are_fit s true body) h in
      let front = and_parts (is_declared s c) (nat_lt count (2 ^ 63)) part.0 in
      let inner : AllKnown s.arrays (word.Sign sign.OpenBrace ∷ block_words s.arrays body (word.Sign sign.CloseBrace ∷ rest)) = (tt, block_known s small true body _ part.1 (tt, k)) in
      for_known s.arrays c count (word.Sign sign.OpenBrace ∷ block_words s.arrays body (word.Sign sign.CloseBrace ∷ rest)) (counter_known s small c front.0) (below_63 count front.1) inner
  sta_known s small loop (While t body) rest h k =
      let part = and_parts (is_test s t) (are_fit s true body) h in
      (tt, (tt, test_known s small t _ part.0 (tt, (tt, block_known s small true body _ part.1 (tt, k)))))
  sta_known s small loop Break rest h k = (tt, (tt, k))
  sta_known s small loop Continue rest h k = (tt, (tt, k))
  sta_known s small loop (Return status) rest h k = (tt, (tt, (tt, (below_31 status h, (tt, (tt, k))))))

  pub block_known : (s : Scope) → IsSmall s → (loop : Bool) (b : Block) (rest : Words) → are_fit s loop b ≡ true → AllKnown s.arrays rest → AllKnown s.arrays (block_words s.arrays b rest)
  block_known s small loop Done rest h k = k
  block_known s small loop (Next a more) rest h k =
      let part = and_parts (is_fit s loop a) (are_fit s loop more) h in
      sta_known s small loop a _ part.0 (block_known s small loop more rest part.1 k)
