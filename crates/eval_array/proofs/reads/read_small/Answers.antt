use Rattle.std.proofs.Common.{◌∙◌}
use Rattle.std.specs.Prelude.{Err}
use Rattle.std.proofs.lemmas.Result.{err_from_is_err_and}
use Rattle.fi_values.specs.Shapes.{is_small}
use Rattle.fi_values.specs.Reads.{selected}
use Rattle.fi_eval.specs.Outcome.{Wrong}
use Rattle.eval_value.specs.View.{shape_view, value_view}
use Rattle.eval_array.specs.Views.{selection_view}
use Rattle.eval_array.proofs.Outcomes.{not_there, picks_first, picks_second, there_is, told}
use Rattle.eval_array.proofs.reads.read_small.Goals as goal

pub selected-requires : goal.selected-requires
selected-requires c = (there_is (is_small (selection_view c.args.k.now).shape) (shape_view c.in-Some.shape) (selection_view c.args.k.now).shape c.in-Some.ensures).1

pub returns-in_err-r-in-Some : goal.returns-in_err-r-in-Some
returns-in_err-r-in-Some c =
    let k = selection_view c.args.k.now in
    let p = err_from_is_err_and c.from_residual.result c.from_residual.ensures.1 in
    rw (p.1, p.2)
    (told (Err c.in_err-r-in-Some.field-0.0) value_view _ _ (picks_first (is_small k.shape) (selected c.args.at c.args.site (value_view c.args.value.now) k) (Wrong c.args.at) (there_is (is_small k.shape) (shape_view c.in-Some.shape) k.shape c.in-Some.ensures).0) c.in_err-r-in-Some.ensures)

pub returns-in-None : goal.returns-in-None
returns-in-None c =
    let k = selection_view c.args.k.now in
    picks_second (is_small k.shape) (selected c.args.at c.args.site (value_view c.args.value.now) k) (Wrong c.args.at) (not_there (is_small k.shape) k.shape c.in-None.ensures)

pub returns-in_ok-r-in-Some : goal.returns-in_ok-r-in-Some
returns-in_ok-r-in-Some c =
    let k = selection_view c.args.k.now in
    picks_first (is_small k.shape) (selected c.args.at c.args.site (value_view c.args.value.now) k) (Wrong c.args.at) (there_is (is_small k.shape) (shape_view c.in-Some.shape) k.shape c.in-Some.ensures).0 ∙ c.in_ok-r-in-Some.ensures
