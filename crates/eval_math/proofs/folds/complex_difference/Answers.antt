use Rattle.const_eval.specs.Complex.{complex_of}
use Rattle.const_rules.proofs.KeptAnswers.{kept_difference_is}
use Rattle.eval_math.proofs.folds.complex_difference.Goals as goal

pub returns : goal.returns
returns c = kept_difference_is (complex_of c.args.x.now) (complex_of c.args.y.now) c.sub.result c.sub.ensures.limits c.sub.ensures.same
