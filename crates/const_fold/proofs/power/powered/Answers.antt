use Rattle.std.proofs.Common.{sym, ◌∙◌}
use Rattle.num_type.proofs.Constants.{not_true}
use Rattle.const_eval.proofs.Operated.{only_because}
use Rattle.const_fold.specs.Exponents.IsUnpowered.{Misfit, NoOperands}
use Rattle.const_fold.proofs.Raised.{shown_shapes}
use Rattle.const_fold.proofs.power.powered.Goals as goal

pub returns-else-are_ones-clause-refusal : goal.returns-else-are_ones-clause-refusal
returns-else-are_ones-clause-refusal c =
    only_because c.mismatch.result (λ r h. Misfit (c.are_operands.ensures.0 c.if-are_operands.true) (λ o. not_true (sym c.if-are_ones.false ∙ c.are_ones.ensures.1 o)) h) (shown_shapes c.mismatch.result c.args.a.now.shape c.args.b.now.shape c.shape.result c.shape-else-are_ones.result c.args.at c.shape.ensures c.shape-else-are_ones.ensures c.mismatch.ensures)

pub returns-else-are_operands-clause-refusal : goal.returns-else-are_operands-clause-refusal
returns-else-are_operands-clause-refusal c =
    only_because c.refused.result (λ r h. NoOperands (λ o. not_true (sym c.if-are_operands.false ∙ c.are_operands.ensures.1 o)) h) c.refused.ensures
