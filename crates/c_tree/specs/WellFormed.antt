-- When a program is well formed.
use Rattle.std.specs.Prelude.{◌≡◌, ◌≢◌, ℕ, ◌≤◌, ◌<◌, ◌^◌, Bool, true, false, if◌then◌else◌, nat_lt, List, [], ◌∷◌, ◌++◌, length, Option, Some, None, slice_get, not, ◌&&◌, is_some, IsTrue, All, AllPairs}
use Rattle.fic_base.specs.Names.{IsName}
use Rattle.num_type.specs.Types.{NumericType, IsWithin}
use Rattle.shape_rules.specs.Shapes.{IsShape}
use Rattle.c_tree.specs.declared.tree.Counter.{Counter}
use Rattle.c_tree.specs.declared.tree.CounterKind.{CounterKind}
use Rattle.c_tree.specs.declared.tree.CWord.{CWord}
use Rattle.c_tree.specs.declared.tree.CWord.TheVariants.{I64, U64}
use Rattle.c_tree.specs.declared.tree.CArray.{CArray}
use Rattle.c_tree.specs.declared.tree.COp.{COp}
use Rattle.c_tree.specs.declared.tree.COp.TheVariants.{Add, Sub, Mul, And, Or, Xor, Shl, Shr}
use Rattle.c_tree.specs.declared.tree.LocalArray.{LocalArray}
use Rattle.c_tree.specs.Tree.{Kind, Fixed, Slot, Signature, Exp, Signed, Unsigned, Var, Count, Element, Cast, Truth, Neg, Binary, Choose, Test, Compare, Sta, Set, Store, If, IfElse, For, While, Break, Continue, Return, Block, Done, Next, Program}
use Rattle.c_tree.specs.declared.array_names.Array.{Array}
use Rattle.c_tree.specs.declared.array_names.Arrays.{Arrays}
use Rattle.c_tree.specs.Names.{arrays_of, array_at, is_const, word_of, counters_of}

-- ---- the interface

-- a fixed-point type is within the limits
abbrev pub IsKind : Kind → Type 0
IsKind kind = (t : NumericType) (complex : Bool) → kind ≡ Fixed t complex → IsWithin t

-- a slot has a name, a type and a shape
pub record IsSlot (s : Slot) : Type 0 where
  pub name : IsName s.name
  pub kind : IsKind s.kind
  pub shape : IsShape s.rows s.columns

-- no two slots have one name
abbrev pub AreNamedApart : List Slot → Type 0
AreNamedApart = AllPairs (λ s t. s.name ≢ t.name)

-- a function has at least one parameter
pub record IsInterface (i : Signature) : Type 0 where
  pub entry : IsName i.entry
  pub inputs : All IsSlot i.inputs
  pub outputs : All IsSlot i.outputs
  pub inputs_differ : AreNamedApart i.inputs
  pub outputs_differ : AreNamedApart i.outputs
  pub any : i.inputs ++ i.outputs ≢ []

-- ---- the declarations

-- numbers of arrays, variables, counters and elements stay below this
abbrev pub number_limit : ℕ
number_limit = 2 ^ 32

-- a local array has an element at least
pub record IsLocalArray (a : LocalArray) : Type 0 where
  pub least : 1 ≤ a.count
  pub most : a.count < number_limit

-- the declarations keep to their limits
pub record AreDeclarations (p : Program) : Type 0 where
  pub arrays : All IsLocalArray p.arrays
  pub few_arrays : length p.arrays < number_limit
  pub few_words : length p.words < number_limit
  pub few_counters : (kind : CounterKind) → counters_of p kind < number_limit

-- ---- the types of expressions

-- what a function declares: its arrays, the types of its variables, and how many counters of each kind there are
pub record Scope : Type 0 where
  pub arrays : Arrays
  pub words : List CWord
  pub counters : CounterKind → ℕ

-- what a program declares
abbrev pub scope_of : Program → Scope
scope_of p = record { arrays = arrays_of p; words = p.words; counters = counters_of p }

-- whether a counter is declared
abbrev pub is_declared : Scope → Counter → Bool
is_declared s c = nat_lt c.number (s.counters c.kind)

-- this type, if the test holds
unfoldable pub given : Bool → CWord → Option CWord
given true w = Some w
given false w = None

-- the operands of + - * have one type, those of & | ^ are uint64_t, and so is the right side of a shift
unfoldable pub operator_type : COp → Option CWord → Option CWord → Option CWord
operator_type Add (Some I64) (Some I64) = Some I64
operator_type Add (Some U64) (Some U64) = Some U64
operator_type Sub (Some I64) (Some I64) = Some I64
operator_type Sub (Some U64) (Some U64) = Some U64
operator_type Mul (Some I64) (Some I64) = Some I64
operator_type Mul (Some U64) (Some U64) = Some U64
operator_type And (Some U64) (Some U64) = Some U64
operator_type Or (Some U64) (Some U64) = Some U64
operator_type Xor (Some U64) (Some U64) = Some U64
operator_type Shl (Some w) (Some U64) = Some w
operator_type Shr (Some w) (Some U64) = Some w
operator_type _ _ _ = None

-- unary minus takes int64_t
unfoldable pub negated_type : Option CWord → Option CWord
negated_type (Some I64) = Some I64
negated_type _ = None

-- a cast changes the type
unfoldable pub cast_type : CWord → Option CWord → Option CWord
cast_type I64 (Some U64) = Some I64
cast_type U64 (Some I64) = Some U64
cast_type _ _ = None

-- an element of an array, whose subscript is int64_t
unfoldable pub element_type : Option Array → Option CWord → Option CWord
element_type (Some a) (Some I64) = Some (word_of a.container)
element_type _ _ = None

-- two expressions have one type
unfoldable pub is_one_type : Option CWord → Option CWord → Bool
is_one_type (Some I64) (Some I64) = true
is_one_type (Some U64) (Some U64) = true
is_one_type _ _ = false

-- the type of an expression, and None where it isn't well formed
abbrev mutual
  pub type_of_exp : Scope → Exp → Option CWord
  type_of_exp s (Signed n) = given (nat_lt n (2 ^ 63)) I64
  type_of_exp s (Unsigned n) = given (nat_lt n (2 ^ 64)) U64
  type_of_exp s (Var k) = slice_get s.words k
  type_of_exp s (Count c) = given (is_declared s c) I64
  type_of_exp s (Element array at) = element_type (array_at s.arrays array) (type_of_exp s at)
  type_of_exp s (Cast to e) = cast_type to (type_of_exp s e)
  type_of_exp s (Truth t) = given (is_test s t) I64
  type_of_exp s (Neg e) = negated_type (type_of_exp s e)
  type_of_exp s (Binary op a b) = operator_type op (type_of_exp s a) (type_of_exp s b)
  type_of_exp s (Choose t a b) =
      if is_test s t then (if is_one_type (type_of_exp s a) (type_of_exp s b) then type_of_exp s a else None) else None

  -- both sides of a relation have one type
  pub is_test : Scope → Test → Bool
  is_test s (Compare rel a b) = is_one_type (type_of_exp s a) (type_of_exp s b)

-- whether an expression has this type
abbrev pub has_type : Scope → Exp → CWord → Bool
has_type s e w = is_one_type (type_of_exp s e) (Some w)

-- ---- the statements

-- a value for a variable has the variable's type
abbrev pub is_set : Scope → ℕ → Exp → Bool
is_set s k value = is_one_type (slice_get s.words k) (type_of_exp s value)

-- a store goes into an array that isn't const, at an int64_t subscript, and takes a value of any type
abbrev pub is_store : Scope → CArray → Exp → Exp → Bool
is_store s array at value =
    (not (is_const array) && is_some (array_at s.arrays array)) && (has_type s at I64 && is_some (type_of_exp s value))

-- a statement, in a loop or not
abbrev mutual
  pub is_fit : Scope → Bool → Sta → Bool
  is_fit s loop (Set k value) = is_set s k value
  is_fit s loop (Store array at value) = is_store s array at value
  is_fit s loop (If t body) = is_test s t && are_fit s loop body
  is_fit s loop (IfElse t body other) = is_test s t && (are_fit s loop body && are_fit s loop other)
  is_fit s loop (For c count body) = (is_declared s c && nat_lt count (2 ^ 63)) && are_fit s true body
  is_fit s loop (While t body) = is_test s t && are_fit s true body
  is_fit s loop Break = loop
  is_fit s loop Continue = loop
  is_fit s loop (Return status) = nat_lt status (2 ^ 31)

  pub are_fit : Scope → Bool → Block → Bool
  are_fit s loop Done = true
  are_fit s loop (Next x more) = is_fit s loop x && are_fit s loop more

-- the counters of the loops, in order
abbrev mutual
  pub loop_counters : Sta → List Counter
  loop_counters (If t body) = all_loop_counters body
  loop_counters (IfElse t body other) = all_loop_counters body ++ all_loop_counters other
  loop_counters (For c count body) = c ∷ all_loop_counters body
  loop_counters (While t body) = all_loop_counters body
  loop_counters _ = []

  pub all_loop_counters : Block → List Counter
  all_loop_counters Done = []
  all_loop_counters (Next x more) = loop_counters x ++ all_loop_counters more

-- whether a statement is a return
abbrev pub is_return : Sta → Bool
is_return (Return status) = true
is_return _ = false

-- whether the last statement is a return
abbrev pub last_is_return : Block → Bool
last_is_return Done = false
last_is_return (Next x Done) = is_return x
last_is_return (Next x (Next y more)) = last_is_return (Next y more)

-- ---- the program

-- a well-formed program
pub record IsWellFormed (p : Program) : Type 0 where
  pub interface : IsInterface p.interface
  pub declarations : AreDeclarations p
  pub statements : IsTrue (are_fit (scope_of p) false p.body)
  pub counters_serve_once : AllPairs (λ c d. c ≢ d) (all_loop_counters p.body)
  pub returns : IsTrue (last_is_return p.body)
