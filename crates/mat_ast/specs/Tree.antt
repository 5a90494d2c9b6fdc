-- Trees as contracts see them. A node has its place first.
use Rattle.std.specs.Prelude.{ℕ, Bool, List}
use Rattle.fic_base.specs.declared.place.Place.{Place}
use Rattle.mat_ast.specs.declared.tree.UnOp.{UnOp}
use Rattle.mat_ast.specs.declared.tree.BinOp.{BinOp}
use Rattle.mat_ast.specs.declared.tree.PostOp.{PostOp}
use Rattle.mat_ast.specs.declared.tree.Ident.{Ident}

mutual
  -- an expression
  pub data Exp : Type 0 where
    Number : Place → List ℕ → Bool → Exp
    Words : Place → List ℕ → Exp
    Name : Place → List ℕ → Exp
    Apply : Place → List ℕ → Place → Args → Exp
    End : Place → Exp
    Unary : Place → UnOp → Exp → Exp
    Binary : Place → BinOp → Exp → Exp → Exp
    Post : Place → PostOp → Exp → Exp
    Range : Place → Exp → Exp → Exp
    RangeBy : Place → Exp → Exp → Exp → Exp
    Paren : Place → Exp → Exp
    Matrix : Place → Rows → Exp

  -- what stands in the parentheses of a name
  pub data Args : Type 0 where
    NoArgs : Args
    Whole : Args → Args
    Item : Exp → Args → Args

  pub data Row : Type 0 where
    RowEnd : Row
    Cell : Exp → Row → Row

  pub data Rows : Type 0 where
    NoRows : Rows
    RowOn : Row → Rows → Rows

mutual
  -- a statement
  pub data Sta : Type 0 where
    Assign : Ident → Exp → Sta
    Store : Ident → Place → Args → Exp → Sta
    Multi : List Ident → Exp → Sta
    IfOnly : Place → Arms → Sta
    IfElse : Place → Arms → Block → Sta
    ForEach : Place → Ident → Exp → Block → Sta
    WhileTrue : Place → Exp → Block → Sta
    BreakOff : Place → Sta
    GoOn : Place → Sta

  pub data Arms : Type 0 where
    NoArms : Arms
    Arm : Exp → Block → Arms → Arms

  pub data Block : Type 0 where
    Done : Block
    Next : Sta → Block → Block

-- a function of a file
pub record Fun : Type 0 where
  pub name : Ident
  pub inputs : List Ident
  pub outputs : List Ident
  pub body : Block
