use Rattle.std.proofs.Common.{length, refl, ◌∙◌}
use Rattle.eval_array.proofs.Joined.{noughts_along}
use Rattle.eval_array.proofs.taken.noughts.Goals as goal

pub returns : goal.returns
returns c = c.in_ok-v.ensures ∙ noughts_along c.zero.result c.args.re.now (length c.args.re.now) c.zero.ensures refl
