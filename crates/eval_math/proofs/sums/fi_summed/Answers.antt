use Rattle.std.proofs.Common.{◌∙◌}
use Rattle.num_type.specs.View.{type_of}
use Rattle.fi_math.specs.Rules.{sum_made}
use Rattle.eval_math.specs.Totals.{along_view}
use Rattle.eval_math.proofs.Added.{not_summed, summed_is}
use Rattle.eval_math.proofs.sums.fi_summed.Goals as goal

pub returns-in-Err : goal.returns-in-Err
returns-in-Err c =
    not_summed (along_view c.args.along) c.in-Err.field-0 c.args.v.now c.math_of-m.result c.math_of-m.ensures
    (c.in-Err.ensures.made ∙ (λ i. sum_made c.math_of-m.result (type_of c.args.v.now.num) (c.addends.ensures i)))

pub returns-in_ok-r-in-Ok : goal.returns-in_ok-r-in-Ok
returns-in_ok-r-in-Ok c =
    summed_is (along_view c.args.along) (type_of c.in-Ok.t) c.args.v.now c.in_ok-r-in-Ok.r c.math_of-m.result c.math_of-m.ensures
    (c.in-Ok.ensures.made ∙ (λ i. sum_made c.math_of-m.result (type_of c.args.v.now.num) (c.addends.ensures i)))
    c.in_ok-r-in-Ok.ensures
