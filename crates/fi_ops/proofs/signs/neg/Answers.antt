use Rattle.std.proofs.Common.{ℤ, ◌∙◌, ap}
use Rattle.num_type.specs.View.{type_of}
use Rattle.fi_quant.specs.Numbers.{fitted}
use Rattle.fi_ops.specs.Operations.{negated}
use Rattle.fi_ops.proofs.signs.neg.Goals as goal

pub returns-clause-value : goal.returns-clause-value
unfolding negated
returns-clause-value c = c.fit.ensures.value ∙ ap (λ (z : ℤ). fitted c.args.m.now.overflow (type_of c.args.a.num) z) c.opposite.ensures
