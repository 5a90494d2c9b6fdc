use Rattle.std.proofs.Common.{◌∙◌, ap, map}
use Rattle.num_type.specs.Constants.{order_of}
use Rattle.num_type.specs.View.{exact_of}
use Rattle.num_type.specs.declared.dyadic.Dyadic.{Dyadic}
use Rattle.eval_math.proofs.Pairing.{over}
use Rattle.eval_math.proofs.orders.number_orders.Goals as goal

pub returns-clause-value : goal.returns-clause-value
returns-clause-value c =
    c.in_ok-v.ensures.value
    ∙ ap (map (λ (p : Dyadic × Dyadic). order_of (exact_of p.0) (exact_of p.1))) (c.as_slice.ensures.value ∙ c.in_ok-met.ensures.value)
    ∙ over order_of exact_of exact_of c.args.xs.now c.args.ys.now
