-- What is well formed passes no limit.
use Rattle.std.proofs.Common.{◌≡◌, ℕ, ◌+◌, ◌-◌, ◌<◌, ◌^◌, Bool, true, false, ◌&&◌, arith, refl}
use Rattle.std.specs.Prelude.{Option, Some, None, is_some, nat_lt, not, slice_get}
use Rattle.std.proofs.lemmas.Bool.{ltb-true}
use Rattle.c_tree.specs.declared.tree.CWord.TheVariants.{I64}
use Rattle.c_tree.specs.Tree.{Exp, Signed, Unsigned, Var, Count, Element, Cast, Truth, Neg, Binary, Choose, Test, Compare, Sta, Set, Store, If, IfElse, For, While, Break, Continue, Return, Block, Done, Next, Program}
use Rattle.c_tree.specs.Names.{array_at, is_const}
use Rattle.c_tree.specs.WellFormed.{Scope, scope_of, is_declared, is_one_type, type_of_exp, is_test, has_type, is_fit, are_fit, IsWellFormed}
use Rattle.c_tree.proofs.Typed.{given_part, negated_part, cast_part, element_parts, same_parts, operator_parts, choose_parts}
use Rattle.c_run.specs.Over.{over, test_over, sta_over, block_over}

and_parts : (a b : Bool) → (a && b) ≡ true → (a ≡ true) × (b ≡ true)
and_parts true b h = (refl, h)
and_parts false b h = absurd cc

both : (m n : ℕ) → m ≡ 0 → n ≡ 0 → m + n ≡ 0
both m n h k = omega (arith, h, k)

less : (n k : ℕ) → nat_lt n k ≡ true → n - (k - 1) ≡ 0
less n k h = let l : n < k = ltb-true n k h in omega (arith, l)

mutual
  typed : (s : Scope) (e : Exp) → is_some (type_of_exp s e) ≡ true → over e ≡ 0
  typed s (Signed n) h = less n (2 ^ 63) (given_part (nat_lt n (2 ^ 63)) I64 h)
  typed s (Unsigned n) h = refl
  typed s (Var k) h = refl
  typed s (Count c) h = refl
  typed s (Element array at) h = typed s at (element_parts (array_at s.arrays array) (type_of_exp s at) h).1
  typed s (Cast to e) h = typed s e (cast_part to (type_of_exp s e) h)
  typed s (Truth t) h = tested s t (given_part (is_test s t) I64 h)
  typed s (Neg e) h = typed s e (negated_part (type_of_exp s e) h)
  typed s (Binary op a b) h =
      let p = operator_parts op (type_of_exp s a) (type_of_exp s b) h in
      both (over a) (over b) (typed s a p.0) (typed s b p.1)
  typed s (Choose t a b) h =
      let p = choose_parts (is_test s t) (is_one_type (type_of_exp s a) (type_of_exp s b)) (type_of_exp s a) h in
      let q = same_parts (type_of_exp s a) (type_of_exp s b) p.1 in
      both (test_over t + over a) (over b) (both (test_over t) (over a) (tested s t p.0) (typed s a q.0)) (typed s b q.1)

  tested : (s : Scope) (t : Test) → is_test s t ≡ true → test_over t ≡ 0
  tested s (Compare rel a b) h =
      let q = same_parts (type_of_exp s a) (type_of_exp s b) h in both (over a) (over b) (typed s a q.0) (typed s b q.1)

mutual
  fit : (s : Scope) (loop : Bool) (x : Sta) → is_fit s loop x ≡ true → sta_over x ≡ 0
  fit s loop (Set k e) h = typed s e (same_parts (slice_get s.words k) (type_of_exp s e) h).1
  fit s loop (Store array at e) h =
      let p = and_parts (not (is_const array) && is_some (array_at s.arrays array)) (has_type s at I64 && is_some (type_of_exp s e)) h in
      let q = and_parts (has_type s at I64) (is_some (type_of_exp s e)) p.1 in
      both (over at) (over e) (typed s at (same_parts (type_of_exp s at) (Some I64) q.0).0) (typed s e q.1)
  fit s loop (If t body) h =
      let p = and_parts (is_test s t) (are_fit s loop body) h in both (test_over t) (block_over body) (tested s t p.0) (all_fit s loop body p.1)
  fit s loop (IfElse t body other) h =
      let p = and_parts (is_test s t) (are_fit s loop body && are_fit s loop other) h in
      let q = and_parts (are_fit s loop body) (are_fit s loop other) p.1 in
      both (test_over t + block_over body) (block_over other) (both (test_over t) (block_over body) (tested s t p.0) (all_fit s loop body q.0)) (all_fit s loop other q.1)
  fit s loop (For c count body) h =
      let p = and_parts (is_declared s c && nat_lt count (2 ^ 63)) (are_fit s true body) h in
      let q = and_parts (is_declared s c) (nat_lt count (2 ^ 63)) p.0 in
      both (count - (2 ^ 63 - 1)) (block_over body) (less count (2 ^ 63) q.1) (all_fit s true body p.1)
  fit s loop (While t body) h =
      let p = and_parts (is_test s t) (are_fit s true body) h in both (test_over t) (block_over body) (tested s t p.0) (all_fit s true body p.1)
  fit s loop Break h = refl
  fit s loop Continue h = refl
  fit s loop (Return status) h = less status (2 ^ 31) h

  all_fit : (s : Scope) (loop : Bool) (b : Block) → are_fit s loop b ≡ true → block_over b ≡ 0
  all_fit s loop Done h = refl
  all_fit s loop (Next x more) h =
      let p = and_parts (is_fit s loop x) (are_fit s loop more) h in both (sta_over x) (block_over more) (fit s loop x p.0) (all_fit s loop more p.1)

-- no number of a well-formed program passes its limit
pub none_over : (p : Program) → IsWellFormed p → block_over p.body ≡ 0
none_over p h = all_fit (scope_of p) false p.body h.statements
