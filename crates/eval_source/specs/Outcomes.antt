-- What outcomes of the code stand for.
use Rattle.std.specs.Prelude.{List}
use Rattle.fic_base.specs.declared.place.Place.{Place}
use Rattle.fi_rules.specs.Value.{Val}
use Rattle.fi_eval.specs.Outcome.{Got, Gives, Fault, Over, Wrong}
use Rattle.eval_value.specs.View.{row_view}
use Rattle.eval_source.specs.declared.outcome.Outcome.{Outcome}
use Rattle.eval_source.specs.declared.outcome.Outcome.TheVariants as outcome

abbrev pub outcome_view : Outcome → Got Place (List Val)
outcome_view (outcome.Ends values) = Gives (row_view values)
outcome_view (outcome.Fault site) = Fault site
outcome_view outcome.Over = Over
outcome_view (outcome.Wrong at) = Wrong at
