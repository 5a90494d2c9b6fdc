-- Operators on values of every class.
use Rattle.std.specs.Prelude.{◌&&◌, ◌||◌, map, Option, Some, None}
use Rattle.mat_ast.specs.declared.tree.BinOp.{BinOp}
use Rattle.mat_ast.specs.declared.tree.BinOp.TheVariants as bin
use Rattle.mat_ast.specs.declared.tree.UnOp.{UnOp}
use Rattle.mat_ast.specs.declared.tree.UnOp.TheVariants as un
use Rattle.const_rules.specs.Folds.{negated}
use Rattle.fi_rules.specs.declared.work.Work.TheVariants as work
use Rattle.fi_rules.specs.Options.{◌|>◌}
use Rattle.fi_rules.specs.Pairs.{power_folded}
use Rattle.fi_rules.specs.Checked as checked
use Rattle.fi_rules.specs.Types.{Ty, known_value}
use Rattle.fi_rules.specs.Value as val
use Rattle.fi_rules.specs.Value.{Val, Fi, ComplexFi, ComplexNumber, scalar}
use Rattle.fi_eval.specs.Operators.{Negate, math_of, turned_element}
use Rattle.fi_values.specs.Arithmetic.{arithmetic}
use Rattle.fi_values.specs.Comparisons.{comparison_of, compared_values}
use Rattle.fi_values.specs.Logicals.{complement, connected}
use Rattle.fi_values.specs.Products.{multiplied}

-- a real scalar number to a whole power
unfoldable pub power : Val → Val → Option Val
power (val.Number s xs) (val.Number t ys) = of (power_folded s xs t ys)
  where
    of : checked.Checked Ty → Option Val
    of (checked.Fine t) = known_value t
    of (checked.Missing code shown) = None
power x y = None

-- what a comparison, or else an operator, gives
unfoldable pub by_operator : BinOp → Val → Val → Option Val
by_operator bin.Add x y = arithmetic work.Sum x y
by_operator bin.Sub x y = arithmetic work.Difference x y
by_operator bin.ElemMul x y = arithmetic work.Product x y
by_operator bin.Mul x y = multiplied x y
by_operator bin.Pow x y = power x y
by_operator bin.ElemPow x y = power x y
by_operator bin.And x y = connected (λ b c. b && c) x y
by_operator bin.Or x y = connected (λ b c. b || c) x y
by_operator o x y = comparison_of o |> (λ k. compared_values k x y)

-- a fi or a number
unfoldable pub signed_class : Val → Option Val
signed_class (Fi t m s xs) = Some (Fi t m s xs)
signed_class (ComplexFi t m s xs ys) = Some (ComplexFi t m s xs ys)
signed_class (val.Number s cs) = Some (val.Number s cs)
signed_class (ComplexNumber s xs ys) = Some (ComplexNumber s xs ys)
signed_class v = None

-- a fi by the rule of negation, a number exactly
unfoldable pub minus : Val → Option Val
minus (Fi t m s xs) = Some (Fi t m s (map (turned_element Negate (math_of m) t) xs))
minus (ComplexFi t m s xs ys) = Some (ComplexFi t m s (map (turned_element Negate (math_of m) t) xs) (map (turned_element Negate (math_of m) t) ys))
minus (val.Number s cs) = Some (val.Number s (map negated cs))
minus (ComplexNumber s xs ys) = Some (ComplexNumber s (map negated xs) (map negated ys))
minus v = None

-- a sign, or `~`
unfoldable pub by_sign : UnOp → Val → Option Val
by_sign un.Plus v = signed_class v
by_sign un.Minus v = minus v
by_sign un.Not v = complement v
