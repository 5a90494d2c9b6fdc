use Rattle.std.specs.Prelude.{option_map}
use Rattle.const_eval.specs.Complex.{complex_of}
use Rattle.fi_rules.specs.declared.work.Work.TheVariants as work
use Rattle.fi_values.specs.Arithmetic.{complex_folded}
use Rattle.eval_math.proofs.Bound.{bound_none, bound_some}
use Rattle.eval_math.proofs.number_products.complex_step.Goals as goal

pub returns-in-None : goal.returns-in-None
returns-in-None c = bound_none (complex_folded work.Product (complex_of c.args.x.now) (complex_of c.args.y.now)) (λ z. complex_folded work.Sum (complex_of c.args.sum.now) z) c.in-None.ensures

pub returns-in-Some : goal.returns-in-Some
returns-in-Some c =
    bound_some (complex_folded work.Product (complex_of c.args.x.now) (complex_of c.args.y.now)) (λ z. complex_folded work.Sum (complex_of c.args.sum.now) z) (complex_of c.in-Some.z) (option_map complex_of c.complex_fold-in-Some.result) c.in-Some.ensures c.complex_fold-in-Some.ensures
