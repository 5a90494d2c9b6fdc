-- What gives one value: assignments to variables of its own, and an expression behind them.
use Rattle.std.specs.Prelude.{ℕ, suc, ◌+◌, ◌<◌, ◌≤◌, ◌≡◌, max, ℤ, pos, unsigned_abs, Bool, true, false, List, [], ◌∷◌, length, map, All, Some, slice_get}
use Rattle.num_type.specs.declared.methods.Rounding.{Rounding}
use Rattle.num_type.specs.declared.methods.Overflow.{Overflow}
use Rattle.num_type.specs.Types.{NumericType, IsInRange}
use Rattle.fi_quant.specs.Numbers.{quantised}
use Rattle.c_tree.specs.declared.tree.CWord.{CWord}
use Rattle.c_tree.specs.declared.tree.CWord.TheVariants.{I64, U64}
use Rattle.c_tree.specs.declared.tree.CPart.{CPart}
use Rattle.c_tree.specs.Tree.{Exp, Signed, Unsigned, Var, Count, Element, Cast, Truth, Neg, Binary, Choose, Test, Compare, Sta, Set}
use Rattle.c_tree.specs.View.{expr_view, stmt_view, block_of}
use Rattle.c_tree.specs.Depth.{exp_depth, block_depth}
use Rattle.c_tree.specs.WellFormed.{Scope, type_of_exp, are_fit}
use Rattle.c_tree.specs.Outcome.{Completes}
use Rattle.c_tree.specs.Meaning.{Word, Int64, Uint64, State, Went, value, run_block}

-- ---- words

-- the type of the words that hold stored integers of this signedness
abbrev pub word_for : Bool → CWord
word_for true = I64
word_for false = U64

-- a stored integer of this signedness as a word
abbrev pub word : Bool → ℤ → Word
word true z = Int64 z
word false z = Uint64 (unsigned_abs z)

-- the type of a word
abbrev pub kind_of : Word → CWord
kind_of (Int64 z) = I64
kind_of (Uint64 n) = U64

-- ---- parts

-- the types of its own variables, its assignments, and the expression
pub record Part : Type 0 where
  pub words : List CWord
  pub before : List Sta
  pub value : Exp

abbrev pub part_view : CPart → Part
part_view p = record { words = p.words; before = map stmt_view p.before; value = expr_view p.value }

-- one more than the greatest number of a variable that is read, and 0 where none is
abbrev mutual
  pub reach : Exp → ℕ
  reach (Signed n) = 0
  reach (Unsigned n) = 0
  reach (Var k) = suc k
  reach (Count c) = 0
  reach (Element array at) = reach at
  reach (Cast to e) = reach e
  reach (Truth t) = test_reach t
  reach (Neg e) = reach e
  reach (Binary op a b) = max (reach a) (reach b)
  reach (Choose t a b) = max (test_reach t) (max (reach a) (reach b))

  pub test_reach : Test → ℕ
  test_reach (Compare rel a b) = max (reach a) (reach b)

-- nothing but assignments, one to each variable from a number on, and each reads only variables of lower numbers
abbrev pub AreInOrder : ℕ → List Sta → Type 0
AreInOrder k [] = Unit {0}
AreInOrder k (Set j e ∷ more) = (j ≡ k) × (reach e ≤ k) × AreInOrder (suc k) more
AreInOrder k (s ∷ more) = ⊥

-- the variables from a number on have these types
abbrev pub AreDeclared : ℕ → List CWord → List CWord → Type 0
AreDeclared k [] all = Unit {0}
AreDeclared k (w ∷ ws) all = (slice_get all k ≡ Some w) × AreDeclared (suc k) ws all

-- ---- what a part is made of

-- an expression for stored integers of a type
pub record Operand : Type 0 where
  pub num : NumericType
  pub exp : Exp

-- the operand gives this stored integer of its type
pub record Stands (st : State) (o : Operand) (z : ℤ) : Type 0 where
  pub in_range : IsInRange o.num z
  pub gives : (at : ℕ) → value o.exp st at ≡ Completes (word o.num.signed z)

-- each operand gives its integer
abbrev pub AllStand : State → List Operand → List ℤ → Type 0
AllStand st [] [] = Unit {0}
AllStand st (o ∷ os) (z ∷ zs) = Stands st o z × AllStand st os zs
AllStand st os zs = ⊥

-- the operand is well formed, as a word of its signedness
pub record IsTyped (s : Scope) (o : Operand) : Type 0 where
  pub typed : type_of_exp s o.exp ≡ Some (word_for o.num.signed)

-- the greatest depth of an operand
abbrev pub deepest : List Operand → ℕ
deepest [] = 0
deepest (o ∷ os) = max (exp_depth o.exp) (deepest os)

-- ---- what a part does

-- a state that differs only in the values of so many variables from a number on
pub record IsAfter (fresh count : ℕ) (st after : State) : Type 0 where
  pub rest : after ≡ record st { words = after.words }
  pub types : map kind_of after.words ≡ map kind_of st.words
  pub below : (k : ℕ) → k < fresh → slice_get after.words k ≡ slice_get st.words k
  pub above : (k : ℕ) → fresh + count ≤ k → slice_get after.words k ≡ slice_get st.words k

-- the part runs, changes nothing but its own variables, and its expression gives the integer
pub record Does (fresh : ℕ) (signed : Bool) (z : ℤ) (p : Part) (st : State) : Type 0 where
  pub after : State
  pub runs : (n at : ℕ) → run_block (block_of p.before) n st at ≡ Completes (Went after)
  pub same : IsAfter fresh (length p.words) st after
  pub gives : (at : ℕ) → value p.value after at ≡ Completes (word signed z)

-- the greatest number of own variables
abbrev pub own_limit : ℕ
own_limit = 4096

-- how much deeper than its operands a part may be
abbrev pub depth_more : ℕ
depth_more = 100

-- the part computes the result of this signedness from the integers of the operands
pub record IsPart (os : List Operand) (fresh : ℕ) (signed : Bool) (result : List ℤ → ℤ) (p : Part) : Type 0 where
  pub in_order : AreInOrder fresh p.before
  pub count : length p.before ≡ length p.words
  pub few : length p.words ≤ own_limit
  pub reads : reach p.value ≤ fresh + length p.words
  pub fits : (s : Scope) → AreDeclared fresh p.words s.words → All (IsTyped s) os → are_fit s false (block_of p.before) ≡ true
  pub typed : (s : Scope) → AreDeclared fresh p.words s.words → All (IsTyped s) os → type_of_exp s p.value ≡ Some (word_for signed)
  pub shallow : block_depth (block_of p.before) ≤ deepest os + depth_more
  pub shallow_value : exp_depth p.value ≤ deepest os + depth_more
  pub does : (st : State) (zs : List ℤ) → AreDeclared fresh p.words (map kind_of st.words) → AllStand st os zs → Does fresh signed (result zs) p st

-- a function of the integer of one operand
abbrev pub on_one : (ℤ → ℤ) → List ℤ → ℤ
on_one f (z ∷ []) = f z
on_one f zs = pos 0

-- a function of the integers of two operands
abbrev pub on_two : (ℤ → ℤ → ℤ) → List ℤ → ℤ
on_two f (x ∷ y ∷ []) = f x y
on_two f zs = pos 0

-- the part computes what the exact value of an operand becomes in a type
abbrev pub Quantises : Rounding → Overflow → NumericType → NumericType → Exp → ℕ → Part → Type 0
Quantises m a t from e fresh p = IsPart (record { num = from; exp = e } ∷ []) fresh t.signed (on_one (λ z. quantised m a t z from.fraction)) p
