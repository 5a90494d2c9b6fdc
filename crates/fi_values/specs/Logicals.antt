-- Logical values: conditions and operators.
use Rattle.std.specs.Prelude.{Bool, true, false, not, [], ◌∷◌, map, Option, Some, None}
use Rattle.std.specs.Ordering.{int_eq}
use Rattle.std.specs.Prelude.{pos}
use Rattle.mat_ast.specs.declared.tree.BinOp.{BinOp}
use Rattle.mat_ast.specs.declared.tree.BinOp.TheVariants as bin
use Rattle.fi_rules.specs.Value.{scalar, is_scalar, Val, Logical, Number}
use Rattle.fi_rules.specs.Options.{◌|>◌, where_so}
use Rattle.fi_eval.specs.Operators.{pairwise}
use Rattle.fi_values.specs.Shapes.{common}

-- a condition: a scalar logical, or a real scalar constant that isn't 0
unfoldable pub truth : Val → Option Bool
truth (Logical s (b ∷ [])) = where_so (is_scalar s) b
truth (Number s (c ∷ [])) = where_so (is_scalar s) (not (int_eq c.significand (pos 0)))
truth v = None

-- an operand of an operator that skips: a scalar logical
unfoldable pub scalar_truth : Val → Option Bool
scalar_truth (Logical s (b ∷ [])) = where_so (is_scalar s) b
scalar_truth v = None

abbrev pub truth_value : Bool → Val
truth_value b = Logical scalar (b ∷ [])

-- the left operand that decides alone
unfoldable pub deciding : BinOp → Option Bool
deciding bin.AndAnd = Some false
deciding bin.OrOr = Some true
deciding o = None

unfoldable pub complement : Val → Option Val
complement (Logical s bs) = Some (Logical s (map not bs))
complement v = None

-- element by element; both sides are always evaluated
unfoldable pub connected : (Bool → Bool → Bool) → Val → Val → Option Val
connected f (Logical s bs) (Logical t cs) = common s t |> (λ r. Some (Logical r (pairwise f bs cs)))
connected f v w = None
