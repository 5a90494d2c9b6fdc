-- What the operators make of constants.
use Rattle.mat_ast.specs.declared.tree.UnOp.{UnOp}
use Rattle.mat_ast.specs.declared.tree.UnOp.TheVariants.{Minus}
use Rattle.const_eval.specs.Complex.{Complex, negated}

-- a sign before a number
abbrev pub signed_by : UnOp → Complex → Complex
signed_by Minus x = negated x
signed_by _ x = x
