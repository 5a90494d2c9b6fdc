-- How operators, numbers and texts are spelled.
use Rattle.std.specs.Prelude.{ℕ, Bool, false, ◌||◌, nat_eq, List, [], ◌∷◌, ◌++◌, codes, if◌then◌else◌}
use Rattle.mat_ast.specs.declared.tree.UnOp.{UnOp}
use Rattle.mat_ast.specs.declared.tree.UnOp.TheVariants as un
use Rattle.mat_ast.specs.declared.tree.BinOp.{BinOp}
use Rattle.mat_ast.specs.declared.tree.BinOp.TheVariants as bin
use Rattle.mat_ast.specs.declared.tree.PostOp.{PostOp}
use Rattle.mat_ast.specs.declared.tree.PostOp.TheVariants as post

-- a sign
abbrev pub unary_text : UnOp → List ℕ
unary_text un.Plus = codes "+"
unary_text un.Minus = codes "-"
unary_text un.Not = codes "~"

-- a transpose
abbrev pub post_text : PostOp → List ℕ
post_text post.CTranspose = codes "'"
post_text post.Transpose = codes ".'"

-- an operator between two operands
abbrev pub binary_text : BinOp → List ℕ
binary_text bin.OrOr = codes "||"
binary_text bin.AndAnd = codes "&&"
binary_text bin.Or = codes "|"
binary_text bin.And = codes "&"
binary_text bin.Eq = codes "=="
binary_text bin.Ne = codes "~="
binary_text bin.Lt = codes "<"
binary_text bin.Le = codes "<="
binary_text bin.Gt = codes ">"
binary_text bin.Ge = codes ">="
binary_text bin.Add = codes "+"
binary_text bin.Sub = codes "-"
binary_text bin.Mul = codes "*"
binary_text bin.ElemMul = codes ".*"
binary_text bin.Div = codes "/"
binary_text bin.ElemDiv = codes "./"
binary_text bin.LeftDiv = codes "\\"
binary_text bin.ElemLeftDiv = codes ".\\"
binary_text bin.Pow = codes "^"
binary_text bin.ElemPow = codes ".^"

-- whether the text of a Number token ends in the imaginary unit, `i` or `j`
abbrev pub has_unit : List ℕ → Bool
has_unit [] = false
has_unit (c ∷ []) = nat_eq c 105 || nat_eq c 106
has_unit (c ∷ d ∷ cs) = has_unit (d ∷ cs)

-- a text with each of its quotes doubled
abbrev pub doubled : ℕ → List ℕ → List ℕ
doubled quote [] = []
doubled quote (c ∷ cs) = if nat_eq c quote then c ∷ c ∷ doubled quote cs else c ∷ doubled quote cs

-- a text between quotes
abbrev pub quoted : ℕ → List ℕ → List ℕ
quoted quote text = quote ∷ (doubled quote text ++ quote ∷ [])
