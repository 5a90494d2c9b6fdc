use Rattle.num_type.specs.View.{type_of}
use Rattle.eval_math.proofs.Composed.{difference_frame, product_frame}
use Rattle.eval_math.proofs.complex_products.real_parts.Goals as goal

pub each-requires-clause-made : goal.each-requires-clause-made
each-requires-clause-made c = product_frame c.args.frame.now c.in_type-products.result c.args.p (type_of c.args.a.now.num) (type_of c.args.b.now.num) c.in_type-products.ensures c.requires.product

pub each-requires-2-clause-made : goal.each-requires-2-clause-made
each-requires-2-clause-made c = product_frame c.args.frame.now c.in_type-products.result c.args.p (type_of c.args.a.now.num) (type_of c.args.b.now.num) c.in_type-products.ensures c.requires.product

pub each-requires-3-clause-made : goal.each-requires-3-clause-made
each-requires-3-clause-made c = difference_frame c.args.frame.now c.in_type-differences.result c.args.p (type_of c.args.a.now.num) (type_of c.args.b.now.num) c.in_type-differences.ensures c.requires.product c.requires.made
