use Rattle.std.proofs.Common.{◌≡◌, drop, map}
use Rattle.const_eval.specs.Complex.{complex_of}
use Rattle.fi_rules.specs.declared.work.Work.TheVariants as work
use Rattle.fi_values.specs.Arithmetic.{complex_folded}
use Rattle.fi_values.specs.Products.{added_from, complex_nought}
use Rattle.eval_math.proofs.number_products.complex_total.Given as goal

abbrev pub invariant-loop-k : goal.invariant-loop-k
invariant-loop-k l = added_from (complex_folded work.Sum) (complex_folded work.Product) (complex_of l.sum) (map complex_of (drop l.k l.xs)) (map complex_of (drop l.k l.ys)) ≡ added_from (complex_folded work.Sum) (complex_folded work.Product) complex_nought (map complex_of l.xs) (map complex_of l.ys)
