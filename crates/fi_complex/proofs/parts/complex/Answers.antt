use Rattle.std.proofs.Common.{refl, sym}
use Rattle.fi_complex.specs.Real.{paired}
use Rattle.fi_complex.proofs.Ranges.{along}
use Rattle.fi_complex.proofs.parts.complex.Goals as goal

pub invariant_of-result : goal.invariant_of-result
invariant_of-result c = record { re_in_range = c.args.re.in_range; im_in_range = along c.args.im.num c.args.re.num c.args.im.z (sym c.requires) c.args.im.in_range }

pub returns : goal.returns
unfolding paired
returns c = refl
