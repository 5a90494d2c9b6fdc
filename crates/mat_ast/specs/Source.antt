-- What every tree of a source keeps: each number is written as a decimal, and each place is in a source of at most 1,048,576 bytes.
use Rattle.std.specs.Prelude.{◌≤◌, List, [], ◌∷◌}
use Rattle.fic_base.specs.declared.place.Place.{Place}
use Rattle.fic_base.specs.Decimal.{IsDecimal}
use Rattle.mat_ast.specs.declared.tree.Ident.{Ident}
use Rattle.mat_ast.specs.Depth.{file_depth}
use Rattle.mat_ast.specs.Tree.{Exp, Number, Words, Name, Apply, End, Unary, Binary, Post, Range, RangeBy, Paren, Matrix, Args, NoArgs, Whole, Item, Row, RowEnd, Cell, Rows, NoRows, RowOn, Sta, Assign, Store, Multi, IfOnly, IfElse, ForEach, WhileTrue, BreakOff, GoOn, Arms, NoArms, Arm, Block, Done, Next, Fun}

-- a place in a source
abbrev pub IsInSource : Place → Type 0
IsInSource at = at.offset ≤ 1048576

-- each of the names stands in a source
abbrev pub AreInSource : List Ident → Type 0
AreInSource [] = Unit {0}
AreInSource (name ∷ names) = IsInSource name.place × AreInSource names

abbrev mutual
  pub KeepsExp : Exp → Type 0
  KeepsExp (Number at text imaginary) = IsInSource at × IsDecimal text
  KeepsExp (Words at text) = IsInSource at
  KeepsExp (Name at text) = IsInSource at
  KeepsExp (Apply at text opens args) = IsInSource at × IsInSource opens × KeepsArgs args
  KeepsExp (End at) = IsInSource at
  KeepsExp (Unary at op e) = IsInSource at × KeepsExp e
  KeepsExp (Binary at op a b) = IsInSource at × KeepsExp a × KeepsExp b
  KeepsExp (Post at op e) = IsInSource at × KeepsExp e
  KeepsExp (Range at first last) = IsInSource at × KeepsExp first × KeepsExp last
  KeepsExp (RangeBy at first step last) = IsInSource at × KeepsExp first × KeepsExp step × KeepsExp last
  KeepsExp (Paren at e) = IsInSource at × KeepsExp e
  KeepsExp (Matrix at rows) = IsInSource at × KeepsRows rows

  pub KeepsArgs : Args → Type 0
  KeepsArgs NoArgs = Unit {0}
  KeepsArgs (Whole more) = KeepsArgs more
  KeepsArgs (Item e more) = KeepsExp e × KeepsArgs more

  pub KeepsRow : Row → Type 0
  KeepsRow RowEnd = Unit {0}
  KeepsRow (Cell e more) = KeepsExp e × KeepsRow more

  pub KeepsRows : Rows → Type 0
  KeepsRows NoRows = Unit {0}
  KeepsRows (RowOn r more) = KeepsRow r × KeepsRows more

abbrev mutual
  pub KeepsSta : Sta → Type 0
  KeepsSta (Assign to value) = IsInSource to.place × KeepsExp value
  KeepsSta (Store to opens args value) = IsInSource to.place × IsInSource opens × KeepsArgs args × KeepsExp value
  KeepsSta (Multi targets call) = AreInSource targets × KeepsExp call
  KeepsSta (IfOnly at arms) = IsInSource at × KeepsArms arms
  KeepsSta (IfElse at arms other) = IsInSource at × KeepsArms arms × KeepsBlock other
  KeepsSta (ForEach at to range body) = IsInSource at × IsInSource to.place × KeepsExp range × KeepsBlock body
  KeepsSta (WhileTrue at condition body) = IsInSource at × KeepsExp condition × KeepsBlock body
  KeepsSta (BreakOff at) = IsInSource at
  KeepsSta (GoOn at) = IsInSource at

  pub KeepsArms : Arms → Type 0
  KeepsArms NoArms = Unit {0}
  KeepsArms (Arm condition body more) = KeepsExp condition × KeepsBlock body × KeepsArms more

  pub KeepsBlock : Block → Type 0
  KeepsBlock Done = Unit {0}
  KeepsBlock (Next s more) = KeepsSta s × KeepsBlock more

-- a function with its header
abbrev pub KeepsFun : Fun → Type 0
KeepsFun f = IsInSource f.name.place × AreInSource f.inputs × AreInSource f.outputs × KeepsBlock f.body

-- each of the functions keeps it
abbrev pub KeepsFuns : List Fun → Type 0
KeepsFuns [] = Unit {0}
KeepsFuns (f ∷ fs) = KeepsFun f × KeepsFuns fs

-- a file that is not too deep
pub record IsFile (fs : List Fun) : Type 0 where
  pub depth : file_depth fs ≤ 100
  pub keeps : KeepsFuns fs
