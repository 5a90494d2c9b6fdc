-- Programs as contracts see them.
use Rattle.std.specs.Prelude.{ℕ, Bool, List}
use Rattle.num_type.specs.Types.{NumericType}
use Rattle.c_tree.specs.declared.tree.Counter.{Counter}
use Rattle.c_tree.specs.declared.tree.CArray.{CArray}
use Rattle.c_tree.specs.declared.tree.CWord.{CWord}
use Rattle.c_tree.specs.declared.tree.CRel.{CRel}
use Rattle.c_tree.specs.declared.tree.COp.{COp}
use Rattle.c_tree.specs.declared.tree.LocalArray.{LocalArray}

-- what the elements of a slot are: stored integers of a type, complex or not, or truth values
pub data Kind : Type 0 where
  Fixed : NumericType → Bool → Kind
  Logical : Kind

-- an input or an output
pub record Slot : Type 0 where
  pub name : List ℕ
  pub kind : Kind
  pub rows : ℕ
  pub columns : ℕ

-- the entry's name, and what it takes and gives
pub record Signature : Type 0 where
  pub entry : List ℕ
  pub inputs : List Slot
  pub outputs : List Slot

mutual
  -- an expression
  pub data Exp : Type 0 where
    -- INT64_C(n)
    Signed : ℕ → Exp
    -- UINT64_C(n)
    Unsigned : ℕ → Exp
    -- a variable, by its number
    Var : ℕ → Exp
    Count : Counter → Exp
    -- an element of an array, cast to its word
    Element : CArray → Exp → Exp
    Cast : CWord → Exp → Exp
    -- a test as the number 1 or 0
    Truth : Test → Exp
    Neg : Exp → Exp
    Binary : COp → Exp → Exp → Exp
    Choose : Test → Exp → Exp → Exp

  pub data Test : Type 0 where
    Compare : CRel → Exp → Exp → Test

mutual
  -- a statement
  pub data Sta : Type 0 where
    -- a variable and its value
    Set : ℕ → Exp → Sta
    -- an array, the subscript and the value
    Store : CArray → Exp → Exp → Sta
    If : Test → Block → Sta
    IfElse : Test → Block → Block → Sta
    -- a counter, the count of turns and the body
    For : Counter → ℕ → Block → Sta
    While : Test → Block → Sta
    Break : Sta
    Continue : Sta
    Return : ℕ → Sta

  pub data Block : Type 0 where
    Done : Block
    Next : Sta → Block → Block

-- a program: its interface, local arrays, types of variables, numbers of counters of each kind, and statements
pub record Program : Type 0 where
  pub interface : Signature
  pub arrays : List LocalArray
  pub words : List CWord
  pub groups : ℕ
  pub barriers : ℕ
  pub sources : ℕ
  pub turns : ℕ
  pub body : Block
