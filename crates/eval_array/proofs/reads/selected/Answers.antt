use Rattle.std.proofs.Common.{ap, sym, ◌∙◌}
use Rattle.std.specs.Prelude.{Err}
use Rattle.fi_eval.specs.Outcome.{Gives}
use Rattle.eval_value.specs.View.{value_view}
use Rattle.eval_array.specs.Rearrangements.{rearranged}
use Rattle.eval_array.specs.Views.{listed, selection_view}
use Rattle.eval_array.proofs.Outcomes.{told}
use Rattle.eval_array.proofs.Selected.{missed_is, not_read, read_is}
use Rattle.eval_array.proofs.reads.selected.Goals as goal

pub returns-in-None : goal.returns-in-None
returns-in-None c =
    told (Err c.missed.result) value_view _ _ (missed_is c.args.at c.args.site (value_view c.args.value.now) (selection_view c.args.k.now) (sym c.is_readable.ensures ∙ c.if-is_readable.true) (ap listed c.in-None.is)) c.missed.ensures

pub returns-in_ok-r-in-Some : goal.returns-in_ok-r-in-Some
returns-in_ok-r-in-Some c =
    read_is c.args.at c.args.site (value_view c.args.value.now) (selection_view c.args.k.now) c.in-Some.places.items (sym c.is_readable.ensures ∙ c.if-is_readable.true) (ap listed c.in-Some.is)
    ∙ (λ i. Gives (rearranged (sym c.requires i) (sym c.as_slice.ensures.value i) (value_view c.args.value.now)))
    ∙ ap Gives (sym c.in_ok-r-in-Some.ensures)

pub returns-else-is_readable : goal.returns-else-is_readable
returns-else-is_readable c = not_read c.args.at c.args.site (value_view c.args.value.now) (selection_view c.args.k.now) (sym c.is_readable.ensures ∙ c.if-is_readable.false)
