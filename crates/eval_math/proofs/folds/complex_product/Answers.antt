use Rattle.const_eval.specs.Complex.{complex_of}
use Rattle.const_rules.proofs.KeptAnswers.{kept_product_is}
use Rattle.eval_math.proofs.folds.complex_product.Goals as goal

pub returns : goal.returns
returns c = kept_product_is (complex_of c.args.x.now) (complex_of c.args.y.now) c.mul.result c.mul.ensures.limits c.mul.ensures.same
