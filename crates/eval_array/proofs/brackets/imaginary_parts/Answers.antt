use Rattle.std.proofs.Common.{ap, length, ◌∙◌}
use Rattle.std.proofs.lemmas.List.{length-map}
use Rattle.fi_values.specs.Elements.{below}
use Rattle.std.specs.Prelude.{ℕ}
use Rattle.eval_array.proofs.Counts.{length_below}
use Rattle.eval_array.proofs.Rows.{complex_parts_there, real_parts_missing}
use Rattle.eval_array.proofs.brackets.imaginary_parts.Goals as goal

pub returns-in_ok-parts-in-None-clause-value : goal.returns-in_ok-parts-in-None-clause-value
returns-in_ok-parts-in-None-clause-value c =
    real_parts_missing c.args.v.now c.zero.result c.len.result c.in_ok-parts-in-None.parts.items c.in-None.is c.zero.ensures.significand c.zero.ensures.exponent (c.len.ensures ∙ c.args.v.now.re.ok.0) c.in_ok-parts-in-None.ensures

pub returns-in_ok-parts-in-None-clause-count : goal.returns-in_ok-parts-in-None-clause-count
returns-in_ok-parts-in-None-clause-count c =
    c.in_ok-parts-in-None.parts.ok.0 ∙ ap length c.in_ok-parts-in-None.ensures ∙ length-map (below c.len.result) (λ (k : ℕ). c.zero.result) ∙ length_below c.len.result ∙ c.len.ensures ∙ c.args.v.now.real

pub returns-in_ok-parts-in-Some-clause-value : goal.returns-in_ok-parts-in-Some-clause-value
returns-in_ok-parts-in-Some-clause-value c = complex_parts_there c.args.v.now c.in-Some.parts c.in_ok-parts-in-Some.parts.items c.in-Some.is (c.in_ok-parts-in-Some.ensures.items ∙ c.as_slice.ensures.value)
