-- What a tree of the code stands for.
use Rattle.std.specs.Prelude.{List, [], ◌∷◌, map, Option, Some, None}
use Rattle.num_type.specs.View.{type_of}
use Rattle.shape_rules.specs.Shapes.{rows_of, columns_of}
use Rattle.c_tree.specs.declared.interface.CKind.{CKind}
use Rattle.c_tree.specs.declared.interface.CKind.TheVariants as kind
use Rattle.c_tree.specs.declared.interface.CSlot.{CSlot}
use Rattle.c_tree.specs.declared.interface.Interface.{Interface}
use Rattle.c_tree.specs.declared.tree.CExpr.{CExpr, CExpr-F, fold-CExpr}
use Rattle.c_tree.specs.declared.tree.CTest.{CTest, CTest-F, fold-CTest}
use Rattle.c_tree.specs.declared.tree.CStmt.{CStmt, CStmt-F, fold-CStmt}
use Rattle.c_tree.specs.declared.tree.CTree.{CTree}
use Rattle.c_tree.specs.Tree.{Kind, Fixed, Logical, Slot, Signature, Exp, Signed, Unsigned, Var, Count, Element, Cast, Truth, Neg, Binary, Choose, Test, Compare, Sta, Set, Store, If, IfElse, For, While, Break, Continue, Return, Block, Done, Next, Program}

-- what the elements of a slot are
abbrev pub kind_view : CKind → Kind
kind_view (kind.Fi num complex) = Fixed (type_of num) complex
kind_view kind.Logical = Logical

-- a slot
abbrev pub slot_view : CSlot → Slot
slot_view s = record { name = s.name; kind = kind_view s.kind; rows = rows_of s.shape; columns = columns_of s.shape }

-- an interface
abbrev pub interface_view : Interface → Signature
interface_view i = record { entry = i.entry; inputs = map slot_view i.inputs; outputs = map slot_view i.outputs }

-- one level of an expression, with its parts already seen
abbrev pub expr_step : CExpr-F Exp Test → Exp
expr_step (CExpr-F.I64 n) = Signed n
expr_step (CExpr-F.U64 n) = Unsigned n
expr_step (CExpr-F.Var k) = Var k
expr_step (CExpr-F.Count c) = Count c
expr_step (CExpr-F.Element array at) = Element array at
expr_step (CExpr-F.Cast to e) = Cast to e
expr_step (CExpr-F.Test t) = Truth t
expr_step (CExpr-F.Neg e) = Neg e
expr_step (CExpr-F.Binary op a b) = Binary op a b
expr_step (CExpr-F.Choose t a b) = Choose t a b

-- one level of a test, with its parts already seen
abbrev pub test_step : CTest-F Exp Test → Test
test_step t = Compare t.rel t.left t.right

-- an expression
abbrev pub expr_view : CExpr → Exp
expr_view = fold-CExpr Exp Test expr_step test_step

-- a test
abbrev pub test_view : CTest → Test
test_view = fold-CTest Exp Test expr_step test_step

-- statements in order
abbrev pub block_of : List Sta → Block
block_of [] = Done
block_of (s ∷ more) = Next s (block_of more)

-- an if, with an else or without
abbrev pub if_of : Test → Block → Option (List Sta) → Sta
if_of t body None = If t body
if_of t body (Some other) = IfElse t body (block_of other)

-- one level of a statement, with its parts already seen
abbrev pub stmt_step : CStmt-F Sta → Sta
stmt_step (CStmt-F.Set k e) = Set k (expr_view e)
stmt_step (CStmt-F.Store array at e) = Store array (expr_view at) (expr_view e)
stmt_step (CStmt-F.If t body other) = if_of (test_view t) (block_of body) other
stmt_step (CStmt-F.For counter count body) = For counter count (block_of body)
stmt_step (CStmt-F.While t body) = While (test_view t) (block_of body)
stmt_step CStmt-F.Break = Break
stmt_step CStmt-F.Continue = Continue
stmt_step (CStmt-F.Return n) = Return n

-- a statement
abbrev pub stmt_view : CStmt → Sta
stmt_view = fold-CStmt Sta stmt_step

-- statements of the code in order
abbrev pub block_view : List CStmt → Block
block_view body = block_of (map stmt_view body)

-- a program
abbrev pub program_view : CTree → Program
program_view t = record {
  interface = interface_view t.interface;
  arrays = t.arrays;
  words = t.words;
  groups = t.groups;
  barriers = t.barriers;
  sources = t.sources;
  turns = t.turns;
  body = block_view t.body;
}
