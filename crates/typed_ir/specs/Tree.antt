-- The typed tree of a function, as plain data: a node has its place, and then its type.
use Rattle.std.specs.Prelude.{ℕ, ℤ, Bool, List}
use Rattle.fic_base.specs.declared.place.Place.{Place}
use Rattle.mat_ast.specs.declared.tree.Ident.{Ident}
use Rattle.mat_ast.specs.declared.tree.UnOp.{UnOp}
use Rattle.mat_ast.specs.declared.tree.BinOp.{BinOp}
use Rattle.mat_ast.specs.declared.tree.PostOp.{PostOp}
use Rattle.node_rules.specs.Types.{NodeTy}

-- an input or an output
pub record Slot : Type 0 where
  pub name : List ℕ
  pub ty : NodeTy

mutual
  pub data TExp : Type 0 where
    -- its text without an `i` or `j`, and whether it has one
    TNumber : Place → NodeTy → List ℕ → Bool → TExp
    TWords : Place → NodeTy → List ℕ → TExp
    TRead : Place → NodeTy → List ℕ → TExp
    -- a subscripted read, with the number of its fault
    TSelect : Place → NodeTy → List ℕ → ℕ → TArgs → TExp
    TBuiltin : Place → NodeTy → List ℕ → TItems → TExp
    -- a function of the file, asked for so many outputs
    TCall : Place → NodeTy → TFun → TItems → ℕ → TExp
    TEnd : Place → NodeTy → TExp
    TUnary : Place → NodeTy → UnOp → TExp → TExp
    TBinary : Place → NodeTy → BinOp → TExp → TExp → TExp
    TPost : Place → NodeTy → PostOp → TExp → TExp
    TRange : Place → NodeTy → TExp → TExp → TExp
    TRangeBy : Place → NodeTy → TExp → TExp → TExp → TExp
    TParen : Place → NodeTy → TExp → TExp
    TMatrix : Place → NodeTy → TRows → TExp

  -- subscripts
  pub data TArgs : Type 0 where
    TNoArgs : TArgs
    TAll : TArgs → TArgs
    TItem : TExp → TArgs → TArgs

  -- arguments, a row of a bracket, the bounds of a loop
  pub data TItems : Type 0 where
    TNone : TItems
    TOne : TExp → TItems → TItems

  pub data TRows : Type 0 where
    TNoRows : TRows
    TRowOn : TItems → TRows → TRows

  pub data TSta : Type 0 where
    TAssign : Ident → TExp → TSta
    TStore : Ident → ℕ → TArgs → TExp → TSta
    TMulti : List Ident → TExp → TSta
    TIfOnly : Place → TArms → TSta
    TIfElse : Place → TArms → TBlock → TSta
    -- the bounds, and then the first item, the step and the count
    TForEach : Place → Ident → TItems → ℤ → ℤ → ℕ → TBlock → TSta
    TWhile : Place → TExp → TBlock → TSta
    TBreak : Place → TSta
    TContinue : Place → TSta

  pub data TArms : Type 0 where
    TNoArms : TArms
    TArm : TExp → TBlock → TArms → TArms

  pub data TBlock : Type 0 where
    TDone : TBlock
    TNext : TSta → TBlock → TBlock

  -- the name, its place, the inputs, the outputs, the statements
  pub data TFun : Type 0 where
    Function : List ℕ → Place → List Slot → List Slot → TBlock → TFun
