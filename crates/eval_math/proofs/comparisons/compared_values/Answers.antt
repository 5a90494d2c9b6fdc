use Rattle.std.proofs.Common.{◌∙◌, sym, ap}
use Rattle.fi_values.specs.Comparisons.{compared_values}
use Rattle.eval_value.specs.View.{item_view, value_view}
use Rattle.eval_value.specs.declared.value.Value.{Value}
use Rattle.eval_math.specs.Orders.{comparison_view}
use Rattle.eval_math.proofs.Sorts.{fi_compared, math_first, type_first, words_first}
use Rattle.eval_math.proofs.comparisons.compared_values.Goals as goal

pub returns-in_ok-r-in-Fi : goal.returns-in_ok-r-in-Fi
returns-in_ok-r-in-Fi c =
    fi_compared (comparison_view c.args.k) c.in-Fi.a (value_view c.args.y.now) (item_view c.in_ok-r-in-Fi.r) c.in_ok-r-in-Fi.ensures
    ∙ ap (λ (v : Value). compared_values (comparison_view c.args.k) (value_view v) (value_view c.args.y.now)) (sym c.in-Fi.is)

pub returns-in-Words : goal.returns-in-Words
returns-in-Words c = words_first (comparison_view c.args.k) c.args.x.now _ (value_view c.args.y.now) c.in-Words.is

pub returns-in-Math : goal.returns-in-Math
returns-in-Math c = math_first (comparison_view c.args.k) c.args.x.now _ (value_view c.args.y.now) c.in-Math.is

pub returns-in-Type : goal.returns-in-Type
returns-in-Type c = type_first (comparison_view c.args.k) c.args.x.now _ (value_view c.args.y.now) c.in-Type.is
