use Rattle.std.proofs.Common.{◌≡◌, ◌<◌, length, map, arith}
use Rattle.num_type.specs.View.{exact_of}
use Rattle.fi_rules.specs.declared.work.Work.TheVariants as work
use Rattle.fi_rules.specs.Pairs.{folded}
use Rattle.fi_values.specs.Numbers.{nought}
use Rattle.fi_values.specs.Products.{added_from}
use Rattle.eval_math.proofs.Matrix.{total_next, total_stopped}
use Rattle.eval_math.proofs.number_products.real_total.Goals as goal

pub returns-in-None : goal.returns-in-None
returns-in-None c =
    let l : c.loop-k.k < length c.args.ys.now = omega (arith, c.loop-k-test.true, c.requires) in
    total_stopped exact_of (folded work.Sum) (folded work.Product) c.args.xs.now c.args.ys.now c.loop-k.k c.index-xs-k.result c.index-ys-k.result c.loop-k.sum
    (added_from (folded work.Sum) (folded work.Product) nought (map exact_of c.args.xs.now) (map exact_of c.args.ys.now)) c.loop-k-test.true l c.index-xs-k.is c.index-ys-k.is c.in-None.ensures c.loop-k.invariant

pub loop-k-preserved : goal.loop-k-preserved
loop-k-preserved c =
    let l : c.loop-k.k < length c.args.ys.now = omega (arith, c.loop-k-test.true, c.requires) in
    total_next exact_of (folded work.Sum) (folded work.Product) c.args.xs.now c.args.ys.now c.loop-k.k c.index-xs-k.result c.index-ys-k.result c.loop-k.sum c.in-Some.next
    (added_from (folded work.Sum) (folded work.Product) nought (map exact_of c.args.xs.now) (map exact_of c.args.ys.now)) c.loop-k-test.true l c.index-xs-k.is c.index-ys-k.is c.in-Some.ensures c.loop-k.invariant
