use Rattle.std.proofs.Common.{Bool, Some, not, ap, sym, ◌∙◌}
use Rattle.num_type.specs.View.{exact_of}
use Rattle.eval_value.specs.View.{value_view}
use Rattle.eval_bits.proofs.Conditions.{constant_true, other_true}
use Rattle.eval_bits.proofs.truths.truth.Goals as goal

pub returns-in-Some : goal.returns-in-Some
returns-in-Some c =
    ap (λ (b : Bool). Some (not b)) c.is_nought.ensures ∙ sym (constant_true (value_view c.args.value.now) (exact_of c.in-Some.c) (sym c.in-Some.ensures))

pub returns-in-None : goal.returns-in-None
returns-in-None c = c.scalar_truth.ensures ∙ sym (other_true (value_view c.args.value.now) (sym c.in-None.ensures))
