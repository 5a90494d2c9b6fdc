use Rattle.std.proofs.Common.{rules}
use Rattle.eval_value.proofs.Wholes.{whole_form, whole_constant}
use Rattle.eval_value.proofs.single.whole_number.Goals as goal

pub unreachable-requires : goal.unreachable-requires
unreachable-requires c = let h = whole_constant c.args.number c.requires in search rules

pub returns : goal.returns
returns c = let h = whole_form c.args.number c.in-Some.d in search rules
