use Rattle.num_type.specs.View.{type_of}
use Rattle.fi_math.specs.Full.{product_limit, full_product}
use Rattle.fi_math.specs.Made.{limited}
use Rattle.fi_math.specs.Rules.{product_made, product_by}
use Rattle.fi_math.specs.View.{made_of}
use Rattle.fi_math.proofs.Limits.{next_is}
use Rattle.fi_math.proofs.types.product_type.Goals as goal

pub returns-in-Ok : goal.returns-in-Ok
unfolding product_made
returns-in-Ok c = next_is (limited product_limit (full_product (type_of c.args.a) (type_of c.args.b))) (type_of c.in-Ok.full) (product_by c.args.m.now) (made_of c.product_mode_type.result) c.in-Ok.ensures c.product_mode_type.ensures
