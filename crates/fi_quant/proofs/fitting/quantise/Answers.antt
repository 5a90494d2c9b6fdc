use Rattle.std.proofs.Common.{subst, sym, ℤ, w32}
use Rattle.std.proofs.lemmas.Int.{to_z-of_z}
use Rattle.num_type.specs.Types.{IsInRange}
use Rattle.num_type.specs.View.{type_of}
use Rattle.fi_quant.specs.Fit.{IsQuantised}
use Rattle.fi_quant.specs.Numbers.{quantised}
use Rattle.fi_quant.proofs.Once.{quantised_once}
use Rattle.fi_quant.proofs.Exist.{quantised_is, quantised_inside}
use Rattle.fi_quant.proofs.fitting.quantise.Goals as goal

pub returns-clause-meets : goal.returns-clause-meets
returns-clause-meets c = subst (λ (f : ℤ). IsQuantised c.args.method c.args.action (type_of c.args.t) c.args.z f c.quantise_by.result) (to_z-of_z w32 c.args.f c.ranges.f) c.quantise_by.ensures

pub returns-clause-value : goal.returns-clause-value
returns-clause-value c = quantised_once c.args.method c.args.action (type_of c.args.t) c.args.z c.args.f c.quantise_by.result (quantised c.args.method c.args.action (type_of c.args.t) c.args.z c.args.f) c.args.t.one_bit (returns-clause-meets c) (quantised_is c.args.method c.args.action (type_of c.args.t) c.args.z c.args.f c.args.t.one_bit)

pub returns-clause-inside : goal.returns-clause-inside
returns-clause-inside c = subst (λ (q : ℤ). IsInRange (type_of c.args.t) q) (sym (returns-clause-value c)) (quantised_inside c.args.method c.args.action (type_of c.args.t) c.args.z c.args.f c.args.t.one_bit)
