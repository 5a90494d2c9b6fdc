use Rattle.std.proofs.Common.{◌∙◌, ap, map}
use Rattle.const_eval.specs.Complex.{complex_of}
use Rattle.eval_math.specs.Numbers.{complex_numbers}
use Rattle.eval_math.proofs.Reckoned.{complex_pairs_are}
use Rattle.eval_math.proofs.numbers.complex_pairs.Goals as goal

pub returns-clause-value : goal.returns-clause-value
returns-clause-value c =
    complex_pairs_are c.as_slice.result.now c.as_slice-2.result.now c.in_ok-v.v.items (complex_numbers c.args.x.now) (complex_numbers c.args.y.now) c.in_ok-v.ensures.value
    (ap (map complex_of) c.as_slice.ensures.value ∙ c.in_ok-xs.ensures.value)
    (ap (map complex_of) c.as_slice-2.ensures.value ∙ c.in_ok-ys.ensures.value)
