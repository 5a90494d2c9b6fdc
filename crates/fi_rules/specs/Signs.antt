-- Signs before an operand: their conditions, and the types of their results.
use Rattle.std.specs.Prelude.{map}
use Rattle.fic_base.specs.declared.code.Code.TheVariants as code
use Rattle.mat_ast.specs.declared.tree.UnOp.{UnOp}
use Rattle.mat_ast.specs.declared.tree.UnOp.TheVariants as un
use Rattle.const_rules.specs.Folds.{negated}
use Rattle.fi_rules.specs.Checked.{Checked, Fine, Missing, Itself}
use Rattle.fi_rules.specs.Types.{Ty, FiTy, NumberTy}

unfoldable pub plus_checked : Ty → Checked Ty
plus_checked (FiTy t m) = Fine (FiTy t m)
plus_checked (NumberTy s cs) = Fine (NumberTy s cs)
plus_checked t = Missing code.BadArgument Itself

unfoldable pub minus_checked : Ty → Checked Ty
minus_checked (FiTy t m) = Fine (FiTy t m)
minus_checked (NumberTy s cs) = Fine (NumberTy s (map negated cs))
minus_checked t = Missing code.BadArgument Itself

unfoldable pub sign_checked : UnOp → Ty → Checked Ty
sign_checked un.Plus t = plus_checked t
sign_checked un.Minus t = minus_checked t
sign_checked un.Not t = Missing code.Unsupported Itself
