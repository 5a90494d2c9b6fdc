-- What expressions and statements do. Each function takes the number of its first token.
use Rattle.std.specs.Prelude.{ℕ, zero, suc, ◌+◌, ◌-◌, ◌*◌, ◌/◌, ◌^◌, Bool, true, false, not, ◌&&◌, if◌then◌else◌, nat_lt, ℤ, pos, negsuc, ◌+ℤ◌, ◌-ℤ◌, ◌*ℤ◌, neg_ℤ, int_le, int_lt, unsigned_abs, bit_and, bit_or, bit_xor, List, Option, None, slice_get, slice_set, length}
use Rattle.std.specs.Int.{int_rem_euclid}
use Rattle.std.specs.Ordering.{int_eq}
use Rattle.num_type.specs.declared.container.Container.{Container}
use Rattle.num_type.specs.Containers.{bits_of, is_signed_container}
use Rattle.c_tree.specs.declared.tree.Counter.{Counter}
use Rattle.c_tree.specs.declared.tree.CounterKind.{CounterKind}
use Rattle.c_tree.specs.declared.tree.CounterKind.TheVariants as counter
use Rattle.c_tree.specs.declared.tree.CArray.{CArray}
use Rattle.c_tree.specs.declared.tree.CArray.TheVariants as array
use Rattle.c_tree.specs.declared.tree.CWord.{CWord}
use Rattle.c_tree.specs.declared.tree.CWord.TheVariants.{I64, U64}
use Rattle.c_tree.specs.declared.tree.CRel.{CRel}
use Rattle.c_tree.specs.declared.tree.CRel.TheVariants as rel
use Rattle.c_tree.specs.declared.tree.COp.{COp}
use Rattle.c_tree.specs.declared.tree.COp.TheVariants as op
use Rattle.c_tree.specs.Tree.{Exp, Signed, Unsigned, Var, Count, Element, Cast, Truth, Neg, Binary, Choose, Test, Compare, Sta, Set, Store, If, IfElse, For, While, Break, Continue, Return, Block, Done, Next}
use Rattle.c_tree.specs.Tokens.{tokens, test_tokens, sta_tokens, block_tokens}
use Rattle.c_tree.specs.Outcome.{Outcome, Completes, PastBound, UndefinedAt, ◌>>=◌, when◌then◌else◌, found_at}

-- ---- words and states

-- a value of int64_t, or of uint64_t
pub data Word : Type 0 where
  Int64 : ℤ → Word
  Uint64 : ℕ → Word

-- an array: the type of its elements, and their values
pub record Cells : Type 0 where
  pub container : Container
  pub items : List ℤ

-- the counters of each kind
pub record Counts : Type 0 where
  pub groups : List ℕ
  pub barriers : List ℕ
  pub sources : List ℕ
  pub turns : List ℕ

-- what a running function holds
pub record State : Type 0 where
  pub words : List Word
  pub counts : Counts
  pub inputs : List Cells
  pub outputs : List Cells
  pub locals : List Cells

-- the counters of one kind
abbrev pub counts_of : Counts → CounterKind → List ℕ
counts_of all counter.Group = all.groups
counts_of all counter.Barrier = all.barriers
counts_of all counter.Source = all.sources
counts_of all counter.Turn = all.turns

-- with other counters of one kind
abbrev pub with_counts : Counts → CounterKind → List ℕ → Counts
with_counts all counter.Group ns = record all { groups = ns }
with_counts all counter.Barrier ns = record all { barriers = ns }
with_counts all counter.Source ns = record all { sources = ns }
with_counts all counter.Turn ns = record all { turns = ns }

-- what a counter is at
abbrev pub count_in : State → Counter → Option ℕ
count_in st c = slice_get (counts_of st.counts c.kind) c.number

-- an array by its number
abbrev pub cells_in : State → CArray → Option Cells
cells_in st (array.Input k) = slice_get st.inputs k
cells_in st (array.Output k) = slice_get st.outputs k
cells_in st (array.Local k) = slice_get st.locals k

-- an array that isn't const
abbrev pub writable_in : State → CArray → Option Cells
writable_in st (array.Input k) = None
writable_in st (array.Output k) = slice_get st.outputs k
writable_in st (array.Local k) = slice_get st.locals k

-- ---- operations on words

-- modulo 2 ^ bits (6.2.5, 6.3.1.3)
abbrev pub wrapped : ℕ → ℤ → ℕ
wrapped bits z = unsigned_abs (int_rem_euclid z (pos (2 ^ bits)))

-- in the range of a signed type of so many bits (7.18.1.1)
abbrev pub fits_signed : ℕ → ℤ → Bool
fits_signed bits z = int_le (neg_ℤ (pos (2 ^ (bits - 1)))) z && int_lt z (pos (2 ^ (bits - 1)))

-- an int64_t. Out of its range an operation is undefined (6.5); a conversion is left to the implementation (6.3.1.3), and counts as
-- undefined here
unfoldable pub signed_at : ℕ → ℤ → Outcome Word
signed_at token z = when fits_signed 64 z then Completes (Int64 z) else UndefinedAt token

-- a uint64_t, which wraps (6.2.5)
abbrev pub unsigned : ℤ → Outcome Word
unsigned z = Completes (Uint64 (wrapped 64 z))

-- a shift to the left (6.5.7)
unfoldable pub shifted_left : ℕ → Word → ℕ → Outcome Word
shifted_left token (Uint64 n) k = when nat_lt k 64 then unsigned (pos (n * 2 ^ k)) else UndefinedAt token
shifted_left token (Int64 (pos n)) k = when nat_lt k 64 then signed_at token (pos (n * 2 ^ k)) else UndefinedAt token
shifted_left token (Int64 (negsuc n)) k = UndefinedAt token

-- a shift to the right (6.5.7); of a negative number it is left to the implementation, and counts as undefined here
unfoldable pub shifted_right : ℕ → Word → ℕ → Outcome Word
shifted_right token (Uint64 n) k = when nat_lt k 64 then Completes (Uint64 (n / 2 ^ k)) else UndefinedAt token
shifted_right token (Int64 (pos n)) k = when nat_lt k 64 then Completes (Int64 (pos (n / 2 ^ k))) else UndefinedAt token
shifted_right token (Int64 (negsuc n)) k = UndefinedAt token

-- a binary operator, at its token (6.5.5 to 6.5.7, 6.5.10 to 6.5.12); words of other types are undefined
unfoldable pub operated : ℕ → COp → Word → Word → Outcome Word
operated token op.Add (Int64 x) (Int64 y) = signed_at token (x +ℤ y)
operated token op.Sub (Int64 x) (Int64 y) = signed_at token (x -ℤ y)
operated token op.Mul (Int64 x) (Int64 y) = signed_at token (x *ℤ y)
operated token op.Add (Uint64 m) (Uint64 n) = unsigned (pos (m + n))
operated token op.Sub (Uint64 m) (Uint64 n) = unsigned (pos m -ℤ pos n)
operated token op.Mul (Uint64 m) (Uint64 n) = unsigned (pos (m * n))
operated token op.And (Uint64 m) (Uint64 n) = Completes (Uint64 (bit_and m n))
operated token op.Or (Uint64 m) (Uint64 n) = Completes (Uint64 (bit_or m n))
operated token op.Xor (Uint64 m) (Uint64 n) = Completes (Uint64 (bit_xor m n))
operated token op.Shl w (Uint64 k) = shifted_left token w k
operated token op.Shr w (Uint64 k) = shifted_right token w k
operated token _ _ _ = UndefinedAt token

-- unary minus, at its token (6.5.3.3)
unfoldable pub negated : ℕ → Word → Outcome Word
negated token (Int64 z) = signed_at token (neg_ℤ z)
negated token (Uint64 n) = UndefinedAt token

-- a cast to the other type, at its opening parenthesis (6.3.1.3, 6.5.4)
unfoldable pub converted : ℕ → CWord → Word → Outcome Word
converted token I64 (Uint64 n) = signed_at token (pos n)
converted token U64 (Int64 z) = unsigned z
converted token _ _ = UndefinedAt token

-- whether a relation holds between two numbers
abbrev pub related : CRel → ℤ → ℤ → Bool
related rel.Eq x y = int_eq x y
related rel.Ne x y = not (int_eq x y)
related rel.Lt x y = int_lt x y
related rel.Le x y = int_le x y
related rel.Gt x y = int_lt y x
related rel.Ge x y = int_le y x

-- a relation between words of one type, at its token (6.5.8, 6.5.9)
unfoldable pub compared : ℕ → CRel → Word → Word → Outcome Bool
compared token r (Int64 x) (Int64 y) = Completes (related r x y)
compared token r (Uint64 m) (Uint64 n) = Completes (related r (pos m) (pos n))
compared token _ _ _ = UndefinedAt token

-- an element as a word of its signedness
abbrev pub loaded : Container → ℤ → Word
loaded c z = if is_signed_container c then Int64 z else Uint64 (unsigned_abs z)

-- an element at a subscript, at the opening bracket (6.5.2.1, 6.5.6)
unfoldable pub element : ℕ → Cells → Word → Outcome Word
element token cells (Int64 (pos k)) = found_at token (slice_get cells.items k) >>= (λ z. Completes (loaded cells.container z))
element token cells _ = UndefinedAt token

-- a truth value as a number
abbrev pub number_of : Bool → ℤ
number_of true = pos 1
number_of false = pos 0

-- ---- expressions (6.5)

abbrev mutual
  pub value : Exp → State → ℕ → Outcome Word
  value (Signed n) st at = Completes (Int64 (pos n))
  value (Unsigned n) st at = Completes (Uint64 n)
  value (Var k) st at = found_at at (slice_get st.words k)
  value (Count c) st at = found_at at (count_in st c) >>= (λ n. Completes (Int64 (pos n)))
  value (Element array sub) st at =
      found_at (at + 3) (cells_in st array) >>= (λ cells. value sub st (at + 5) >>= (λ k. element (at + 4) cells k))
  value (Cast to e) st at = value e st (at + 3) >>= (λ w. converted at to w)
  value (Truth t) st at = holds t st (at + 4) >>= (λ b. Completes (Int64 (number_of b)))
  value (Neg e) st at = value e st (at + 2) >>= (λ w. negated (at + 1) w)
  value (Binary o a b) st at =
      value a st (at + 1) >>= (λ x. value b st (at + 2 + tokens a) >>= (λ y. operated (at + 1 + tokens a) o x y))
  -- only the chosen arm (6.5.15)
  value (Choose t a b) st at =
      holds t st (at + 1)
      >>= (λ c. when c then value a st (at + 2 + test_tokens t) else value b st (at + 3 + test_tokens t + tokens a))

  pub holds : Test → State → ℕ → Outcome Bool
  holds (Compare r a b) st at =
      value a st at >>= (λ x. value b st (at + 1 + tokens a) >>= (λ y. compared (at + tokens a) r x y))

-- ---- statements (6.8)

-- how a statement ends (6.8.6): by going on, by a break, by a continue, or with a status
pub data Flow : Type 0 where
  Went : State → Flow
  Broke : State → Flow
  Continued : State → Flow
  Returned : ℕ → State → Flow

-- a variable keeps its type
unfoldable pub assigned : ℕ → Word → Word → Outcome Word
assigned token (Int64 old) (Int64 z) = Completes (Int64 z)
assigned token (Uint64 old) (Uint64 n) = Completes (Uint64 n)
assigned token _ _ = UndefinedAt token

-- with another value of a variable
abbrev pub with_word : State → ℕ → Word → State
with_word st k w = record st { words = slice_set st.words k w }

-- with a counter at another number
abbrev pub with_count : State → Counter → ℕ → State
with_count st c n = record st { counts = with_counts st.counts c.kind (slice_set (counts_of st.counts c.kind) c.number n) }

-- with other contents of an array
abbrev pub with_cells : State → CArray → Cells → State
with_cells st (array.Input k) cells = record st { inputs = slice_set st.inputs k cells }
with_cells st (array.Output k) cells = record st { outputs = slice_set st.outputs k cells }
with_cells st (array.Local k) cells = record st { locals = slice_set st.locals k cells }

-- a word as a whole number
abbrev pub whole_of : Word → ℤ
whole_of (Int64 z) = z
whole_of (Uint64 n) = pos n

-- the cast of a store, at its opening parenthesis (6.3.1.3): out of a signed type's range it counts as undefined
unfoldable pub kept : ℕ → Container → ℤ → Outcome ℤ
kept token c z =
    when is_signed_container c then (when fits_signed (bits_of c) z then Completes z else UndefinedAt token)
    else Completes (pos (wrapped (bits_of c) z))

-- the write of an element at a subscript, at the opening bracket (6.5.2.1, 6.5.6)
unfoldable pub stored : ℕ → State → CArray → Cells → ℤ → Word → Outcome Flow
stored token st array cells z (Int64 (pos k)) =
    when nat_lt k (length cells.items)
    then Completes (Went (with_cells st array (record cells { items = slice_set cells.items k z }))) else UndefinedAt token
stored token st array cells z _ = UndefinedAt token

-- what comes behind a statement runs only where it went on
abbrev pub then_run : Flow → (State → Outcome Flow) → Outcome Flow
then_run (Went st) next = next st
then_run flow next = Completes flow

-- what comes behind a turn of a loop
abbrev pub after_turn : Flow → (State → Outcome Flow) → Outcome Flow
after_turn (Went st) next = next st
after_turn (Continued st) next = next st
after_turn (Broke st) next = Completes (Went st)
after_turn (Returned status st) next = Completes (Returned status st)

-- so many turns of a loop that counts, from a number on (6.8.5.3)
abbrev pub for_turns : ℕ → ℕ → Counter → (State → Outcome Flow) → State → Outcome Flow
for_turns zero i c body st = Completes (Went (with_count st c i))
for_turns (suc left) i c body st = body (with_count st c i) >>= (λ flow. after_turn flow (for_turns left (suc i) c body))

-- at most n turns of a loop; past the bound where the test holds once more (6.8.5.1)
abbrev pub while_turns : ℕ → (State → Outcome Bool) → (State → Outcome Flow) → State → Outcome Flow
while_turns zero test body st = test st >>= (λ t. when t then PastBound else Completes (Went st))
while_turns (suc n) test body st =
    test st >>= (λ t. when t then body st >>= (λ flow. after_turn flow (while_turns n test body)) else Completes (Went st))

-- a statement in a run in which each `while` makes at most n turns; of a store the value and its cast come before the subscript
abbrev mutual
  pub run_sta : Sta → ℕ → State → ℕ → Outcome Flow
  run_sta (Set k e) n st at =
      value e st (at + 2)
      >>= (λ w. found_at at (slice_get st.words k) >>= (λ old. assigned at old w >>= (λ new. Completes (Went (with_word st k new)))))
  run_sta (Store array sub e) n st at =
      found_at at (writable_in st array)
      >>= (λ cells. value e st (at + 7 + tokens sub)
      >>= (λ w. kept (at + 4 + tokens sub) cells.container (whole_of w)
      >>= (λ z. value sub st (at + 2) >>= (λ k. stored (at + 1) st array cells z k))))
  run_sta (If t body) n st at =
      holds t st (at + 2) >>= (λ c. when c then run_block body n st (at + 4 + test_tokens t) else Completes (Went st))
  run_sta (IfElse t body other) n st at =
      holds t st (at + 2)
      >>= (λ c. when c then run_block body n st (at + 4 + test_tokens t)
      else run_block other n st (at + 7 + test_tokens t + block_tokens body))
  run_sta (For c count body) n st at =
      found_at (at + 2) (count_in st c) >>= (λ old. for_turns count 0 c (λ s. run_block body n s (at + 28)) st)
  run_sta (While t body) n st at =
      while_turns n (λ s. holds t s (at + 2)) (λ s. run_block body n s (at + 4 + test_tokens t)) st
  run_sta Break n st at = Completes (Broke st)
  run_sta Continue n st at = Completes (Continued st)
  run_sta (Return status) n st at = Completes (Returned status st)

  pub run_block : Block → ℕ → State → ℕ → Outcome Flow
  run_block Done n st at = Completes (Went st)
  run_block (Next s more) n st at =
      run_sta s n st at >>= (λ flow. then_run flow (λ st. run_block more n st (at + sta_tokens s)))
