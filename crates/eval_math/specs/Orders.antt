-- What comparisons ask of orders.
use Rattle.std.specs.Prelude.{Bool, not, ◌&&◌, List, map, Option, Some}
use mathlib.Core.Bool.{beq}
use Rattle.std.specs.declared.cmp.Ordering.{Ordering}
use Rattle.num_type.specs.Constants.{Exact, order_of}
use Rattle.fi_rules.specs.Options.{where_so}
use Rattle.fi_eval.specs.Operators.{pairwise}
use Rattle.fi_values.specs.Comparisons.{Comparison, Orders, Equals, is_less, is_greater, is_equal}
use Rattle.eval_math.specs.View.{side_by_side}
use Rattle.eval_math.specs.declared.comparison.Comparison as code_comparison
use Rattle.eval_math.specs.declared.comparison.Comparison.TheVariants as comparison
use Rattle.eval_math.specs.declared.comparison.Order.{Order}
use Rattle.eval_math.specs.declared.comparison.Order.TheVariants as order

-- whether an order is the one asked for
abbrev pub asked : Order → Ordering → Bool
asked order.Below = is_less
asked order.UpTo = λ o. not (is_greater o)
asked order.Above = is_greater
asked order.From = λ o. not (is_less o)

abbrev pub comparison_view : code_comparison.Comparison → Comparison
comparison_view (comparison.Orders o) = Orders (asked o)
comparison_view (comparison.Equals same) = Equals same

-- the orders of the elements that meet
abbrev pub orders : List Exact → List Exact → List Ordering
orders xs ys = pairwise order_of xs ys

-- whether both parts are equal, or whether they differ
abbrev pub paired_equal : Bool → Ordering × Ordering → Bool
paired_equal same p = beq (is_equal p.0 && is_equal p.1) same

-- what a comparison makes of the orders of real and imaginary parts: by order none where a value is complex
abbrev pub truths_of : code_comparison.Comparison → Bool → List Ordering → List Ordering → Option (List Bool)
truths_of (comparison.Orders o) complex re im = where_so (not complex) (map (asked o) re)
truths_of (comparison.Equals same) complex re im = Some (map (paired_equal same) (side_by_side re im))
