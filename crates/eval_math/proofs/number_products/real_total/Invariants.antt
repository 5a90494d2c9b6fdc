use Rattle.std.proofs.Common.{◌≡◌, drop, map}
use Rattle.num_type.specs.View.{exact_of}
use Rattle.fi_rules.specs.declared.work.Work.TheVariants as work
use Rattle.fi_rules.specs.Pairs.{folded}
use Rattle.fi_values.specs.Numbers.{nought}
use Rattle.fi_values.specs.Products.{added_from}
use Rattle.eval_math.proofs.number_products.real_total.Given as goal

abbrev pub invariant-loop-k : goal.invariant-loop-k
invariant-loop-k l = added_from (folded work.Sum) (folded work.Product) (exact_of l.sum) (map exact_of (drop l.k l.xs)) (map exact_of (drop l.k l.ys)) ≡ added_from (folded work.Sum) (folded work.Product) nought (map exact_of l.xs) (map exact_of l.ys)
