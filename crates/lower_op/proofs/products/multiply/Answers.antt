use Rattle.num_type.specs.View.{type_of}
use Rattle.lower_op.specs.Arguments.{operand}
use Rattle.lower_op.proofs.Whole.{Given, product_is, product_within}
use Rattle.lower_op.proofs.products.multiply.Goals as goal

pub full_product-full-requires : goal.full_product-full-requires
full_product-full-requires c = product_within c.args.m (type_of c.args.p) (type_of c.args.q) (type_of c.args.t) c.requires.made

pub returns : goal.returns
returns c =
    let g : Given (type_of c.args.t) (operand c.args.p c.args.a) (operand c.args.q c.args.b) c.args.fresh = record { one = c.args.t.one_bit; most = c.args.t.bits; left = record { some = c.args.p.one_bit; most = c.args.p.bits; reads = c.requires.left }; right = record { some = c.args.q.one_bit; most = c.args.q.bits; reads = c.requires.right } } in
    product_is c.args.m (type_of c.args.t) (operand c.args.p c.args.a) (operand c.args.q c.args.b) c.args.fresh _ _ _ g
    (product_within c.args.m (type_of c.args.p) (type_of c.args.q) (type_of c.args.t) c.requires.made) c.full_product-full.ensures c.in_ok-product.ensures c.in_ok-r.ensures
