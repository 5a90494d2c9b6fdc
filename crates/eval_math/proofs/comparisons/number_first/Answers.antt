use Rattle.std.proofs.Common.{◌∙◌, sym, ap}
use Rattle.fi_values.specs.Comparisons.{compared_values}
use Rattle.eval_value.specs.View.{item_view, number_view, value_view}
use Rattle.eval_value.specs.declared.value.Value.{Value}
use Rattle.eval_math.specs.Orders.{comparison_view}
use Rattle.eval_math.proofs.Dispatch.{is_logical, is_math, is_type, is_words}
use Rattle.eval_math.proofs.Sorts.{number_fi_compared, number_not_compared}
use Rattle.eval_math.proofs.comparisons.number_first.Goals as goal

pub returns-in_ok-r-in-Fi : goal.returns-in_ok-r-in-Fi
returns-in_ok-r-in-Fi c =
    number_fi_compared (comparison_view c.args.k) c.args.n.now c.in-Fi.b (item_view c.in_ok-r-in-Fi.r) c.in_ok-r-in-Fi.ensures
    ∙ ap (λ (v : Value). compared_values (comparison_view c.args.k) (number_view c.args.n.now) (value_view v)) (sym c.in-Fi.is)

pub returns-in-Logical : goal.returns-in-Logical
returns-in-Logical c = number_not_compared (comparison_view c.args.k) c.args.n.now c.args.y.now (is_logical c.args.y.now _ c.in-Logical.is)

pub returns-in-Words : goal.returns-in-Words
returns-in-Words c = number_not_compared (comparison_view c.args.k) c.args.n.now c.args.y.now (is_words c.args.y.now _ c.in-Words.is)

pub returns-in-Math : goal.returns-in-Math
returns-in-Math c = number_not_compared (comparison_view c.args.k) c.args.n.now c.args.y.now (is_math c.args.y.now _ c.in-Math.is)

pub returns-in-Type : goal.returns-in-Type
returns-in-Type c = number_not_compared (comparison_view c.args.k) c.args.n.now c.args.y.now (is_type c.args.y.now _ c.in-Type.is)
