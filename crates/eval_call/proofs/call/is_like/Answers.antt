use Rattle.std.proofs.Common.{ap, sym, ◌∙◌}
use Rattle.std.specs.Prelude.{bytes_eq}
use Rattle.eval_value.specs.View.{value_view}
use Rattle.eval_value.specs.declared.value.Value.{Value}
use Rattle.eval_call.specs.Functions.{is_like}
use Rattle.eval_call.proofs.call.is_like.Goals as goal

pub returns-in-Words : goal.returns-in-Words
unfolding is_like
returns-in-Words c =
    c.eq.ensures ∙ (λ i. bytes_eq (c.as_bytes.ensures i) (c.as_slice.ensures i)) ∙ sym (ap (λ (v : Value). is_like (value_view v)) c.in-Words.is)
