use Rattle.const_eval.specs.Complex.{complex_of}
use Rattle.const_rules.proofs.KeptAnswers.{kept_sum_is}
use Rattle.eval_math.proofs.folds.complex_sum.Goals as goal

pub returns : goal.returns
returns c = kept_sum_is (complex_of c.args.x.now) (complex_of c.args.y.now) c.add.result c.add.ensures.limits c.add.ensures.same
