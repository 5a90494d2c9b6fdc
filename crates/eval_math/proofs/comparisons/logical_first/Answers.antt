use Rattle.eval_math.specs.Orders.{comparison_view}
use Rattle.eval_math.proofs.Sorts.{logical_and_fi, logical_and_math, logical_and_number, logical_and_type, logical_and_words}
use Rattle.eval_math.proofs.comparisons.logical_first.Goals as goal

pub returns-in-Fi : goal.returns-in-Fi
returns-in-Fi c = logical_and_fi (comparison_view c.args.k) c.args.a.now c.args.y.now _ c.in-Fi.is

pub returns-in-Number : goal.returns-in-Number
returns-in-Number c = logical_and_number (comparison_view c.args.k) c.args.a.now c.args.y.now _ c.in-Number.is

pub returns-in-Words : goal.returns-in-Words
returns-in-Words c = logical_and_words (comparison_view c.args.k) c.args.a.now c.args.y.now _ c.in-Words.is

pub returns-in-Math : goal.returns-in-Math
returns-in-Math c = logical_and_math (comparison_view c.args.k) c.args.a.now c.args.y.now _ c.in-Math.is

pub returns-in-Type : goal.returns-in-Type
returns-in-Type c = logical_and_type (comparison_view c.args.k) c.args.a.now c.args.y.now _ c.in-Type.is
