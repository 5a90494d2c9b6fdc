use Rattle.std.proofs.Common.{ℤ, ◌∙◌, ap}
use Rattle.std.specs.Prelude.{pos}
use Rattle.num_type.specs.View.{type_of}
use Rattle.fi_quant.specs.Numbers.{fitted}
use Rattle.fi_ops.specs.Operations.{absolute}
use Rattle.fi_ops.proofs.signs.abs.Goals as goal

pub returns-clause-value : goal.returns-clause-value
unfolding absolute
returns-clause-value c = c.fit.ensures.value ∙ ap (λ (z : ℤ). fitted c.args.m.now.overflow (type_of c.args.a.num) z) (c.of.ensures ∙ ap pos c.magnitude.ensures)
