use Rattle.std.proofs.Common.{ℤ, ◌∙◌, ap}
use Rattle.num_type.specs.View.{type_of}
use Rattle.num_type.specs.declared.methods.Overflow.TheVariants.{Wrap}
use Rattle.fi_quant.specs.Numbers.{fitted}
use Rattle.fi_ops.specs.Bits.{with_bits}
use Rattle.fi_ops.proofs.bits.pattern.Goals as goal

pub returns-clause-value : goal.returns-clause-value
unfolding with_bits
returns-clause-value c = c.fit.ensures.value ∙ ap (λ (z : ℤ). fitted Wrap (type_of c.args.t) z) c.of.ensures
