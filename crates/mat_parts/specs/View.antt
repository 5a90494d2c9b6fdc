-- What the lists of the code stand for.
use Rattle.std.specs.Prelude.{List, map}
use Rattle.mat_ast.specs.declared.tree.Expr.{Expr}
use Rattle.mat_ast.specs.Tree.{Row}
use Rattle.mat_ast.specs.View.{expr_view, row_of}

-- the elements of a row
abbrev pub cells_view : List Expr → Row
cells_view cells = row_of (map expr_view cells)
