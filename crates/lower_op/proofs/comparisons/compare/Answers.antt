use Rattle.std.proofs.Common.{sym, subst}
use Rattle.lower_scalar.specs.Part.{Part}
use Rattle.lower_op.specs.Arguments.{operand}
use Rattle.lower_op.specs.Comparisons.{Compares}
use Rattle.lower_op.proofs.CompareParts.{compared_is_part}
use Rattle.lower_op.proofs.comparisons.compare.Goals as goal

pub returns : goal.returns
returns c = subst (λ (p : Part). Compares c.args.rel (operand c.args.p c.args.a) (operand c.args.q c.args.b) c.args.fresh p) (sym c.in_ok-r.ensures)
    (compared_is_part c.args.rel (operand c.args.p c.args.a) (operand c.args.q c.args.b) c.args.fresh
    (record { some = c.args.p.one_bit; most = c.args.p.bits; reads = c.requires.left }) (record { some = c.args.q.one_bit; most = c.args.q.bits; reads = c.requires.right }))
