-- Depths of lists with one more.
use Rattle.std.proofs.Common.{◌≡◌, max, List, [], ◌∷◌, ◌++◌, arith, refl}
use Rattle.mat_ast.specs.Tree.{Exp, Args, NoArgs, Whole, Item, Row, RowEnd, Cell, Rows, NoRows, RowOn, Sta, Arms, NoArms, Arm, Block, Done, Next, Fun}
use Rattle.mat_ast.specs.Depth.{depth, args_depth, row_depth, rows_depth, sta_depth, arms_depth, block_depth, file_depth}
use Rattle.mat_grammar.specs.Machine.{with_item, with_whole, with_cell, with_row, with_statement, with_arm}

pub args_depth_item : (args : Args) (e : Exp) → args_depth (with_item args e) ≡ max (args_depth args) (depth e)
args_depth_item NoArgs e = omega arith
args_depth_item (Whole more) e = args_depth_item more e
args_depth_item (Item a more) e = omega (arith, args_depth_item more e)

pub args_depth_whole : (args : Args) → args_depth (with_whole args) ≡ args_depth args
args_depth_whole NoArgs = refl
args_depth_whole (Whole more) = args_depth_whole more
args_depth_whole (Item a more) = omega (arith, args_depth_whole more)

pub row_depth_cell : (row : Row) (e : Exp) → row_depth (with_cell row e) ≡ max (row_depth row) (depth e)
row_depth_cell RowEnd e = omega arith
row_depth_cell (Cell a more) e = omega (arith, row_depth_cell more e)

pub rows_depth_row : (rows : Rows) (row : Row) → rows_depth (with_row rows row) ≡ max (rows_depth rows) (row_depth row)
rows_depth_row NoRows row = omega arith
rows_depth_row (RowOn r more) row = omega (arith, rows_depth_row more row)

pub block_depth_statement : (b : Block) (s : Sta) → block_depth (with_statement b s) ≡ max (block_depth b) (sta_depth s)
block_depth_statement Done s = omega arith
block_depth_statement (Next a b) s = omega (arith, block_depth_statement b s)

pub arms_depth_arm : (arms : Arms) (condition : Exp) (body : Block) → arms_depth (with_arm arms condition body) ≡ max (arms_depth arms) (max (depth condition) (block_depth body))
arms_depth_arm NoArms condition body = omega arith
arms_depth_arm (Arm c b arms) condition body = omega (arith, arms_depth_arm arms condition body)

pub file_depth_fun : (fs : List Fun) (f : Fun) → file_depth (fs ++ f ∷ []) ≡ max (file_depth fs) (block_depth f.body)
file_depth_fun [] f = omega arith
file_depth_fun (g ∷ fs) f = omega (arith, file_depth_fun fs f)
