-- How the operators between two operands are written.
use Rattle.std.specs.Prelude.{ℕ, List, codes}
use Rattle.mat_ast.specs.declared.tree.BinOp.{BinOp}
use Rattle.mat_ast.specs.declared.tree.BinOp.TheVariants as bin

abbrev pub operator_text : BinOp → List ℕ
operator_text bin.OrOr = codes "||"
operator_text bin.AndAnd = codes "&&"
operator_text bin.Or = codes "|"
operator_text bin.And = codes "&"
operator_text bin.Eq = codes "=="
operator_text bin.Ne = codes "~="
operator_text bin.Lt = codes "<"
operator_text bin.Le = codes "<="
operator_text bin.Gt = codes ">"
operator_text bin.Ge = codes ">="
operator_text bin.Add = codes "+"
operator_text bin.Sub = codes "-"
operator_text bin.Mul = codes "*"
operator_text bin.ElemMul = codes ".*"
operator_text bin.Div = codes "/"
operator_text bin.ElemDiv = codes "./"
operator_text bin.LeftDiv = codes "\\"
operator_text bin.ElemLeftDiv = codes ".\\"
operator_text bin.Pow = codes "^"
operator_text bin.ElemPow = codes ".^"
