use Rattle.std.proofs.Common.{◌∙◌}
use Rattle.std.specs.Prelude.{Some}
use Rattle.num_type.specs.View.{type_of}
use Rattle.shape_rules.specs.Shapes.{columns_of}
use Rattle.fi_math.specs.Rules.{sum_made}
use Rattle.eval_value.specs.View.{fi_view}
use Rattle.eval_math.proofs.Added.{none_made, some_made}
use Rattle.eval_math.proofs.Bound.{bound_none, bound_some}
use Rattle.eval_math.proofs.fi_products.summed.Goals as goal

pub returns-in-Err : goal.returns-in-Err
returns-in-Err c =
    bound_none _ _
    (none_made c.in-Err.field-0 (sum_made c.args.by.now.math (type_of c.args.product) (columns_of c.args.a.now.shape))
    (c.in-Err.ensures.made ∙ (λ i. sum_made c.args.by.now.math (type_of c.args.product) (c.cols.ensures.value i))))

pub returns-in_ok-v-in-Ok : goal.returns-in_ok-v-in-Ok
returns-in_ok-v-in-Ok c =
    bound_some _ _ (type_of c.in-Ok.sum) (Some (fi_view c.in_ok-v-in-Ok.v))
    (some_made (type_of c.in-Ok.sum) (sum_made c.args.by.now.math (type_of c.args.product) (columns_of c.args.a.now.shape))
    (c.in-Ok.ensures.made ∙ (λ i. sum_made c.args.by.now.math (type_of c.args.product) (c.cols.ensures.value i))))
    c.in_ok-v-in-Ok.ensures
