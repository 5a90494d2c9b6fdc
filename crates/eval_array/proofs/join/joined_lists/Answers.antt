use Rattle.std.proofs.Common.{◌∙◌, ◌*◌, sym}
use Rattle.std.proofs.Math.Nat.{mul_comm}
use Rattle.eval_array.proofs.join.joined_lists.Goals as goal

pub stacked-requires-clause-upper : goal.stacked-requires-clause-upper
stacked-requires-clause-upper g c =
    c.requires.left ∙ mul_comm c.args.s.rows c.args.s.cols ∙ (λ i. sym c.cols.ensures.value i * sym c.rows.ensures.value i)
