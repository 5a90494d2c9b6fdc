use Rattle.std.proofs.Common.{ℤ, ◌∙◌, ap, w32}
use Rattle.std.proofs.lemmas.Int.{to_z-of_z}
use Rattle.num_type.specs.View.{type_of}
use Rattle.fi_ops.specs.Operations.{taken}
use Rattle.fi_ops.proofs.products.take.Goals as goal

pub returns-clause-value : goal.returns-clause-value
unfolding taken
returns-clause-value c = c.quantise.ensures.value ∙ ap (λ (f : ℤ). taken c.args.m.now (type_of c.args.t) c.args.z f) (to_z-of_z w32 c.args.f c.ranges.f)
