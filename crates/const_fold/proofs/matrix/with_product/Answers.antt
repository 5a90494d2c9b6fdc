use Rattle.std.proofs.Common.{refl}
use Rattle.num_type.proofs.Constants.{not_true}
use Rattle.const_eval.specs.Complex.{complex_of}
use Rattle.const_fold.proofs.Sums.{added_same, added_steps}
use Rattle.const_fold.proofs.matrix.with_product.Goals as goal

pub returns-in-None-clause-steps : goal.returns-in-None-clause-steps
returns-in-None-clause-steps c = (λ t. absurd (not_true t), λ k. c.in-None.ensures.limits.1 k.0)

pub returns-in-Some-clause-steps : goal.returns-in-Some-clause-steps
returns-in-Some-clause-steps c =
    added_steps c.add.result (complex_of c.args.sum.now) (complex_of c.in-Some.product) (complex_of c.args.x.now) (complex_of c.args.y.now) (c.in-Some.ensures.limits.0 refl) c.in-Some.ensures.same c.add.ensures.limits

pub returns-in-Some-clause-same : goal.returns-in-Some-clause-same
returns-in-Some-clause-same c =
    added_same c.add.result (complex_of c.args.sum.now) (complex_of c.in-Some.product) (complex_of c.args.x.now) (complex_of c.args.y.now) c.in-Some.ensures.same c.add.ensures.same
