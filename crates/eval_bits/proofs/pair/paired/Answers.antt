use Rattle.std.proofs.Common.{map, sym, ap, ◌∙◌}
use Rattle.eval_bits.specs.Joints.{beside}
use Rattle.eval_bits.proofs.Pairs.{pairwise_last}
use Rattle.eval_bits.proofs.pair.paired.Goals as goal

pub returns-in_ok-pairs-2-clause-pairs : goal.returns-in_ok-pairs-2-clause-pairs
returns-in_ok-pairs-2-clause-pairs g c =
    c.in_ok-pairs-2.ensures.pairs
    ∙ ap (λ (y : g.row.T.Denot). map (λ x. beside x y) c.args.xs.now) c.index-ys-0.is
    ∙ sym (pairwise_last beside c.args.xs.now c.args.ys.now c.index-ys-0.result c.if-xs-eq1.false c.if-ys-eq1.true)
