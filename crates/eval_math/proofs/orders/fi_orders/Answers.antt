use Rattle.std.proofs.Common.{◌∙◌, sym, ap, map}
use Rattle.std.specs.Prelude.{ℤ}
use Rattle.std.proofs.lemmas.List.Elements.{All-same}
use Rattle.num_type.specs.Constants.{order_of}
use Rattle.num_type.specs.Types.{IsInRange}
use Rattle.num_type.specs.View.{type_of}
use Rattle.fi_ops.specs.Operations as operations
use Rattle.fi_eval.specs.Operators.{pairwise}
use Rattle.eval_math.specs.View.{paired}
use Rattle.eval_math.proofs.Ordered.{exact, order_is}
use Rattle.eval_math.proofs.Pairing.{all_left, all_right, fused, mapped}
use Rattle.eval_math.proofs.orders.fi_orders.Goals as goal

pub fi_pair_orders-requires-clause-left : goal.fi_pair_orders-requires-clause-left
fi_pair_orders-requires-clause-left c =
    All-same (λ (p : ℤ × ℤ). IsInRange (type_of c.args.a) p.0) c.as_slice.result.now (paired c.args.xs.now c.args.ys.now) (c.as_slice.ensures.value ∙ c.in_ok-met.ensures.value)
    (all_left (IsInRange (type_of c.args.a)) c.args.xs.now c.args.ys.now c.requires.left)

pub fi_pair_orders-requires-clause-right : goal.fi_pair_orders-requires-clause-right
fi_pair_orders-requires-clause-right c =
    All-same (λ (p : ℤ × ℤ). IsInRange (type_of c.args.b) p.1) c.as_slice.result.now (paired c.args.xs.now c.args.ys.now) (c.as_slice.ensures.value ∙ c.in_ok-met.ensures.value)
    (all_right (IsInRange (type_of c.args.b)) c.args.xs.now c.args.ys.now c.requires.right)

pub returns-clause-value : goal.returns-clause-value
returns-clause-value c =
    let t = type_of c.args.a in
    let u = type_of c.args.b in
    c.in_ok-v.ensures.value
    ∙ ap (map (λ (p : ℤ × ℤ). operations.compared (record { num = t; z = p.0 }) (record { num = u; z = p.1 }))) (c.as_slice.ensures.value ∙ c.in_ok-met.ensures.value)
    ∙ fused (λ (x y : ℤ). operations.compared (record { num = t; z = x }) (record { num = u; z = y })) c.args.xs.now c.args.ys.now
    ∙ (λ i. pairwise (λ (x y : ℤ). order_is t u x y i) c.args.xs.now c.args.ys.now)
    ∙ sym (mapped order_of (exact t) (exact u) c.args.xs.now c.args.ys.now)
