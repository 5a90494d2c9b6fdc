use Rattle.std.proofs.Common.{map, ap, sym, ◌∙◌}
use Rattle.std.specs.Prelude.{is_some}
use Rattle.num_type.specs.View.{exact_of}
use Rattle.fi_values.specs.Numbers.{wholes_of}
use Rattle.eval_array.specs.Choices.{number_places}
use Rattle.eval_array.specs.Views.{listed}
use Rattle.eval_array.proofs.Picked.{no_complex_number, no_wholes, wholes_there}
use Rattle.eval_array.proofs.subscripts.constant.Goals as goal

pub returns-in-Some : goal.returns-in-Some
returns-in-Some c = no_complex_number c.args.v.now c.in-Some.field-0 c.args.extent c.in-Some.is

pub returns-in_ok-places-in-None : goal.returns-in_ok-places-in-None
returns-in_ok-places-in-None c =
    wholes_there c.args.v.now c.args.extent (listed c.in_ok-places-in-None.places) c.in-None.is
    (ap (λ ds. is_some (wholes_of (map exact_of ds))) (sym c.as_slice.ensures.value) ∙ sym c.are_whole.ensures ∙ c.if-are_whole.true)
    (c.in_ok-places-in-None.ensures.value ∙ ap (λ ds. number_places c.args.extent (map exact_of ds)) c.as_slice-then-are_whole.ensures.value)

pub returns-else-are_whole : goal.returns-else-are_whole
returns-else-are_whole c =
    no_wholes c.args.v.now c.args.extent c.in-None.is
    (ap (λ ds. is_some (wholes_of (map exact_of ds))) (sym c.as_slice.ensures.value) ∙ sym c.are_whole.ensures ∙ c.if-are_whole.false)
