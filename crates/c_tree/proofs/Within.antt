-- What is undefined stands at a token of its part.
use Rattle.std.proofs.Common.{◌≡◌, ℕ, zero, suc, ◌+◌, ◌<◌, ◌≤◌, Bool, true, false, arith, ℤ, pos, negsuc}
use Rattle.std.specs.Prelude.{Option, Some, None, List}
use Rattle.num_type.specs.declared.container.Container.{Container}
use Rattle.c_tree.specs.declared.tree.Counter.{Counter}
use Rattle.c_tree.specs.declared.tree.CArray.{CArray}
use Rattle.c_tree.specs.declared.tree.CRel.{CRel}
use Rattle.c_tree.specs.declared.tree.COp.{COp}
use Rattle.c_tree.specs.declared.tree.COp.TheVariants as op
use Rattle.c_tree.specs.declared.tree.CWord.{CWord}
use Rattle.c_tree.specs.declared.tree.CWord.TheVariants.{I64, U64}
use Rattle.c_tree.specs.Tree.{Exp, Signed, Unsigned, Var, Count, Element, Cast, Truth, Neg, Binary, Choose, Test, Compare, Sta, Set, Store, If, IfElse, For, While, Break, Continue, Return, Block, Done, Next, Program}
use Rattle.c_tree.specs.Tokens.{tokens, test_tokens, sta_tokens, block_tokens, body_token, closing_token, program_tokens}
use Rattle.c_tree.specs.Outcome.{Outcome, Completes, PastBound, UndefinedAt, bind, ◌>>=◌, choose, when◌then◌else◌, found_at}
use Rattle.c_tree.specs.Meaning.{Word, Int64, Uint64, Cells, State, Flow, Went, Broke, Continued, Returned, signed_at, shifted_left, shifted_right, operated, negated, converted, compared, element, assigned, kept, stored, then_run, after_turn, for_turns, while_turns, value, holds, run_sta, run_block}
use Rattle.c_tree.specs.Run.{Undefined, result_of, start, run}

-- undefined only at a token from low on and below high
data Within {A : Type 0} (low high : ℕ) : Outcome A → Type 0 where
  gives : {x : A} → Within low high (Completes x)
  past : Within low high PastBound
  undefined : {token : ℕ} → low ≤ token → token < high → Within low high (UndefinedAt token)

bound : {A B : Type 0} → {low high : ℕ} → {r : Outcome A} → {f : A → Outcome B} → Within low high r → ((x : A) → Within low high (f x)) → Within low high (r >>= f)
unfolding bind
bound gives each = each _
bound past each = past
bound (undefined l h) each = undefined l h

chosen : {A : Type 0} → {low high : ℕ} → (b : Bool) → {r s : Outcome A} → Within low high r → Within low high s → Within low high (when b then r else s)
unfolding choose
chosen true h k = h
chosen false h k = k

wider : {A : Type 0} → {l h low high : ℕ} → {r : Outcome A} → low ≤ l → h ≤ high → Within l h r → Within low high r
wider a b gives = gives
wider a b past = past
wider a b (undefined l h) = undefined (omega arith) (omega arith)

at_found : {A : Type 0} → (low high token : ℕ) (o : Option A) → low ≤ token → token < high → Within low high (found_at token o)
unfolding found_at
at_found low high token (Some x) l h = gives
at_found low high token None l h = undefined l h

at_signed : (low high token : ℕ) (z : ℤ) → low ≤ token → token < high → Within low high (signed_at token z)
unfolding signed_at
at_signed low high token z l h = chosen _ gives (undefined l h)

at_left : (low high token : ℕ) (w : Word) (k : ℕ) → low ≤ token → token < high → Within low high (shifted_left token w k)
unfolding shifted_left
at_left low high token (Uint64 n) k l h = chosen _ gives (undefined l h)
at_left low high token (Int64 (pos n)) k l h = chosen _ (at_signed low high token _ l h) (undefined l h)
at_left low high token (Int64 (negsuc n)) k l h = undefined l h

at_right : (low high token : ℕ) (w : Word) (k : ℕ) → low ≤ token → token < high → Within low high (shifted_right token w k)
unfolding shifted_right
at_right low high token (Uint64 n) k l h = chosen _ gives (undefined l h)
at_right low high token (Int64 (pos n)) k l h = chosen _ gives (undefined l h)
at_right low high token (Int64 (negsuc n)) k l h = undefined l h

at_operator : (low high token : ℕ) (o : COp) (x y : Word) → low ≤ token → token < high → Within low high (operated token o x y)
unfolding operated
at_operator low high token op.Add (Int64 x) (Int64 y) l h = at_signed low high token _ l h
at_operator low high token op.Sub (Int64 x) (Int64 y) l h = at_signed low high token _ l h
at_operator low high token op.Mul (Int64 x) (Int64 y) l h = at_signed low high token _ l h
at_operator low high token op.Add (Uint64 x) (Uint64 y) l h = gives
at_operator low high token op.Sub (Uint64 x) (Uint64 y) l h = gives
at_operator low high token op.Mul (Uint64 x) (Uint64 y) l h = gives
at_operator low high token op.And (Uint64 x) (Uint64 y) l h = gives
at_operator low high token op.Or (Uint64 x) (Uint64 y) l h = gives
at_operator low high token op.Xor (Uint64 x) (Uint64 y) l h = gives
at_operator low high token op.Shl x (Uint64 k) l h = at_left low high token x k l h
at_operator low high token op.Shr x (Uint64 k) l h = at_right low high token x k l h
at_operator low high token _ _ _ l h = undefined l h

at_negated : (low high token : ℕ) (w : Word) → low ≤ token → token < high → Within low high (negated token w)
unfolding negated
at_negated low high token (Int64 z) l h = at_signed low high token _ l h
at_negated low high token (Uint64 n) l h = undefined l h

at_converted : (low high token : ℕ) (to : CWord) (w : Word) → low ≤ token → token < high → Within low high (converted token to w)
unfolding converted
at_converted low high token I64 (Uint64 n) l h = at_signed low high token _ l h
at_converted low high token U64 (Int64 z) l h = gives
at_converted low high token I64 (Int64 z) l h = undefined l h
at_converted low high token U64 (Uint64 n) l h = undefined l h

at_compared : (low high token : ℕ) (r : CRel) (x y : Word) → low ≤ token → token < high → Within low high (compared token r x y)
unfolding compared
at_compared low high token r (Int64 x) (Int64 y) l h = gives
at_compared low high token r (Uint64 x) (Uint64 y) l h = gives
at_compared low high token r (Int64 x) (Uint64 y) l h = undefined l h
at_compared low high token r (Uint64 x) (Int64 y) l h = undefined l h

at_element : (low high token : ℕ) (cells : Cells) (w : Word) → low ≤ token → token < high → Within low high (element token cells w)
unfolding element
at_element low high token cells (Int64 (pos k)) l h = bound (at_found low high token _ l h) (λ z. gives)
at_element low high token cells (Int64 (negsuc k)) l h = undefined l h
at_element low high token cells (Uint64 n) l h = undefined l h

mutual
  value_within : (e : Exp) (st : State) (at : ℕ) → Within at (at + tokens e) (value e st at)
  value_within (Signed n) st at = gives
  value_within (Unsigned n) st at = gives
  value_within (Var k) st at = at_found _ _ at _ (omega arith) (omega arith)
  value_within (Count c) st at = bound (at_found _ _ at _ (omega arith) (omega arith)) (λ n. gives)
  value_within (Element array sub) st at =
      bound (at_found _ _ (at + 3) _ (omega arith) (omega arith))
      (λ cells. bound (wider (omega arith) (omega arith) (value_within sub st (at + 5))) (λ k. at_element _ _ (at + 4) cells k (omega arith) (omega arith)))
  value_within (Cast to e) st at =
      bound (wider (omega arith) (omega arith) (value_within e st (at + 3))) (λ w. at_converted _ _ at to w (omega arith) (omega arith))
  value_within (Truth t) st at = bound (wider (omega arith) (omega arith) (holds_within t st (at + 4))) (λ b. gives)
  value_within (Neg e) st at =
      bound (wider (omega arith) (omega arith) (value_within e st (at + 2))) (λ w. at_negated _ _ (at + 1) w (omega arith) (omega arith))
  value_within (Binary o a b) st at =
      bound (wider (omega arith) (omega arith) (value_within a st (at + 1)))
      (λ x. bound (wider (omega arith) (omega arith) (value_within b st (at + 2 + tokens a)))
      (λ y. at_operator _ _ (at + 1 + tokens a) o x y (omega arith) (omega arith)))
  value_within (Choose t a b) st at =
      bound (wider (omega arith) (omega arith) (holds_within t st (at + 1)))
      (λ c. chosen c (wider (omega arith) (omega arith) (value_within a st (at + 2 + test_tokens t)))
      (wider (omega arith) (omega arith) (value_within b st (at + 3 + test_tokens t + tokens a))))

  holds_within : (t : Test) (st : State) (at : ℕ) → Within at (at + test_tokens t) (holds t st at)
  holds_within (Compare r a b) st at =
      bound (wider (omega arith) (omega arith) (value_within a st at))
      (λ x. bound (wider (omega arith) (omega arith) (value_within b st (at + 1 + tokens a)))
      (λ y. at_compared _ _ (at + tokens a) r x y (omega arith) (omega arith)))

at_assigned : (low high token : ℕ) (old new : Word) → low ≤ token → token < high → Within low high (assigned token old new)
unfolding assigned
at_assigned low high token (Int64 x) (Int64 y) l h = gives
at_assigned low high token (Uint64 x) (Uint64 y) l h = gives
at_assigned low high token (Int64 x) (Uint64 y) l h = undefined l h
at_assigned low high token (Uint64 x) (Int64 y) l h = undefined l h

at_kept : (low high token : ℕ) (c : Container) (z : ℤ) → low ≤ token → token < high → Within low high (kept token c z)
unfolding kept
at_kept low high token c z l h = chosen _ (chosen _ gives (undefined l h)) gives

at_stored : (low high token : ℕ) (st : State) (array : CArray) (cells : Cells) (z : ℤ) (w : Word) → low ≤ token → token < high → Within low high (stored token st array cells z w)
unfolding stored
at_stored low high token st array cells z (Int64 (pos k)) l h = chosen _ gives (undefined l h)
at_stored low high token st array cells z (Int64 (negsuc k)) l h = undefined l h
at_stored low high token st array cells z (Uint64 n) l h = undefined l h

turn_within : {low high : ℕ} → (flow : Flow) (next : State → Outcome Flow) → ((st : State) → Within low high (next st)) → Within low high (after_turn flow next)
turn_within (Went st) next each = each st
turn_within (Continued st) next each = each st
turn_within (Broke st) next each = gives
turn_within (Returned status st) next each = gives

then_within : {low high : ℕ} → (flow : Flow) (next : State → Outcome Flow) → ((st : State) → Within low high (next st)) → Within low high (then_run flow next)
then_within (Went st) next each = each st
then_within (Continued st) next each = gives
then_within (Broke st) next each = gives
then_within (Returned status st) next each = gives

for_within : {low high : ℕ} → (left i : ℕ) (c : Counter) (body : State → Outcome Flow) → ((st : State) → Within low high (body st)) → (st : State) → Within low high (for_turns left i c body st)
for_within zero i c body each st = gives
for_within (suc left) i c body each st = bound (each _) (λ flow. turn_within flow _ (for_within left (suc i) c body each))

while_within : {low high : ℕ} → (n : ℕ) (test : State → Outcome Bool) (body : State → Outcome Flow) → ((st : State) → Within low high (test st)) → ((st : State) → Within low high (body st)) → (st : State) → Within low high (while_turns n test body st)
while_within zero test body tests each st = bound (tests st) (λ t. chosen t past gives)
while_within (suc n) test body tests each st =
    bound (tests st) (λ t. chosen t (bound (each st) (λ flow. turn_within flow _ (while_within n test body tests each))) gives)

mutual
  sta_within : (s : Sta) (n : ℕ) (st : State) (at : ℕ) → Within at (at + sta_tokens s) (run_sta s n st at)
  sta_within (Set k e) n st at =
      bound (wider (omega arith) (omega arith) (value_within e st (at + 2)))
      (λ w. bound (at_found _ _ at _ (omega arith) (omega arith)) (λ old. bound (at_assigned _ _ at old w (omega arith) (omega arith)) (λ new. gives)))
  sta_within (Store array sub e) n st at =
      bound (at_found _ _ at _ (omega arith) (omega arith))
      (λ cells. bound (wider (omega arith) (omega arith) (value_within e st (at + 7 + tokens sub)))
      (λ w. bound (at_kept _ _ (at + 4 + tokens sub) cells.container _ (omega arith) (omega arith))
      (λ z. bound (wider (omega arith) (omega arith) (value_within sub st (at + 2)))
      (λ k. at_stored _ _ (at + 1) st array cells z k (omega arith) (omega arith)))))
  sta_within (If t body) n st at =
      bound (wider (omega arith) (omega arith) (holds_within t st (at + 2)))
      (λ c. chosen c (wider (omega arith) (omega arith) (block_within body n st (at + 4 + test_tokens t))) gives)
  sta_within (IfElse t body other) n st at =
      bound (wider (omega arith) (omega arith) (holds_within t st (at + 2)))
      (λ c. chosen c (wider (omega arith) (omega arith) (block_within body n st (at + 4 + test_tokens t)))
      (wider (omega arith) (omega arith) (block_within other n st (at + 7 + test_tokens t + block_tokens body))))
  sta_within (For c count body) n st at =
      bound (at_found _ _ (at + 2) _ (omega arith) (omega arith))
      (λ old. for_within count 0 c _ (λ s. wider (omega arith) (omega arith) (block_within body n s (at + 28))) st)
  sta_within (While t body) n st at =
      while_within n _ _ (λ s. wider (omega arith) (omega arith) (holds_within t s (at + 2)))
      (λ s. wider (omega arith) (omega arith) (block_within body n s (at + 4 + test_tokens t))) st
  sta_within Break n st at = gives
  sta_within Continue n st at = gives
  sta_within (Return status) n st at = gives

  block_within : (b : Block) (n : ℕ) (st : State) (at : ℕ) → Within at (at + block_tokens b) (run_block b n st at)
  block_within Done n st at = gives
  block_within (Next s more) n st at =
      bound (wider (omega arith) (omega arith) (sta_within s n st at))
      (λ flow. then_within flow _ (λ st. wider (omega arith) (omega arith) (block_within more n st (at + sta_tokens s))))

token_is : {m n : ℕ} → Undefined m ≡ Undefined n → m ≡ n
token_is e = cc

result_within : (low closing : ℕ) (r : Outcome Flow) (k : ℕ) → low ≤ closing → Within low closing r → result_of closing r ≡ Undefined k → (low ≤ k) × (k ≤ closing)
result_within low closing (Completes (Returned status st)) k le h e = absurd cc
result_within low closing (Completes (Went st)) k le h e = (omega (arith, token_is e), omega (arith, token_is e))
result_within low closing (Completes (Broke st)) k le h e = (omega (arith, token_is e), omega (arith, token_is e))
result_within low closing (Completes (Continued st)) k le h e = (omega (arith, token_is e), omega (arith, token_is e))
result_within low closing PastBound k le h e = absurd cc
result_within low closing (UndefinedAt token) k le (undefined l h) e = (omega (arith, token_is e), omega (arith, token_is e))

pub run_within : (p : Program) (inputs outputs : List (List ℤ)) (n k : ℕ) → run p inputs outputs n ≡ Undefined k → (body_token p ≤ k) × (k < program_tokens p)
run_within p inputs outputs n k e =
    let both = result_within (body_token p) (closing_token p) (run_block p.body n (start p inputs outputs) (body_token p)) k (omega arith) (block_within p.body n (start p inputs outputs) (body_token p)) e in
    (both.0, omega (arith, both.1))
