use Rattle.num_type.specs.View.{type_of}
use Rattle.fi_math.specs.Rules.{complex_product_made, product_made, add_made}
use Rattle.fi_math.specs.View.{made_of}
use Rattle.fi_math.proofs.Limits.{next_is}
use Rattle.fi_math.proofs.types.complex_product_type.Goals as goal

pub returns-in-Ok : goal.returns-in-Ok
unfolding complex_product_made
returns-in-Ok c = next_is (product_made c.args.m.now (type_of c.args.a) (type_of c.args.b)) (type_of c.in-Ok.product) (λ p. add_made c.args.m.now p p) (made_of c.add_type.result) c.in-Ok.ensures c.add_type.ensures
