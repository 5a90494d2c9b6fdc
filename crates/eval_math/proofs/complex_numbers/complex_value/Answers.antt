use Rattle.std.proofs.Common.{◌∙◌}
use Rattle.eval_value.specs.View.{shape_view}
use Rattle.eval_math.proofs.Reckoned.{complex_value_is}
use Rattle.eval_math.proofs.complex_numbers.complex_value.Goals as goal

pub returns : goal.returns
returns c = complex_value_is (shape_view c.args.shape) c.args.zs.now c.in_ok-re.re.items c.in_ok-im.im.items c.in_ok-re.ensures.value c.in_ok-im.ensures.value
