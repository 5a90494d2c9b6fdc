use Rattle.std.proofs.Common.{length, map, ap, sym, ◌∙◌}
use Rattle.std.specs.Prelude.{Err, nat_eq}
use Rattle.std.proofs.lemmas.Result.{err_from_is_err_and}
use Rattle.fi_eval.specs.Outcome.{Wrong}
use Rattle.fi_values.specs.Reads.{shape_of}
use Rattle.fi_values.specs.Stores.{stored_at}
use Rattle.fi_values.specs.Subscripts.{as_subscripts}
use Rattle.eval_value.specs.View.{item_view, shape_view, value_view}
use Rattle.eval_array.specs.Fitting.{fits_by}
use Rattle.eval_array.specs.Views.{selection_answer, selection_view}
use Rattle.eval_array.proofs.Outcomes.{picks_first, picks_second, told}
use Rattle.eval_array.proofs.Selected.{store_found, store_missing}
use Rattle.eval_array.proofs.stores.store.Goals as goal

pub returns-in-None : goal.returns-in-None
returns-in-None c =
    store_missing c.args.at c.args.site (value_view c.args.target.now) (value_view c.args.value.now) (as_subscripts (map item_view c.args.subscripts.now)) (shape_view c.shape.result) c.shape.ensures (sym (ap selection_answer c.in-None.is) ∙ c.in_ok-select.ensures)

pub returns-in_err-r-in-Some : goal.returns-in_err-r-in-Some
returns-in_err-r-in-Some c =
    let p = err_from_is_err_and c.from_residual-in_err-r-in-Some.result c.from_residual-in_err-r-in-Some.ensures.1 in
    let found = store_found c.args.at c.args.site (value_view c.args.target.now) (value_view c.args.value.now) c.args.subscripts.now (shape_view c.shape.result) (selection_view c.in-Some.k) c.shape.ensures (sym (ap selection_answer c.in-Some.is) ∙ c.in_ok-select.ensures) in
    rw (p.1, p.2) (told (Err c.in_err-r-in-Some.field-0.0) value_view _ _ (found ∙ picks_first (fits_by (nat_eq (length c.args.subscripts.now) 1) (selection_view c.in-Some.k).shape (shape_of (value_view c.args.value.now))) (stored_at c.args.at c.args.site (value_view c.args.target.now) (selection_view c.in-Some.k) (value_view c.args.value.now)) (Wrong c.args.at) (ap (fits_by (nat_eq (length c.args.subscripts.now) 1) (selection_view c.in-Some.k).shape) (sym c.shape-in-Some.ensures) ∙ sym c.fits.ensures ∙ c.if-fits.true)) c.in_err-r-in-Some.ensures)

pub returns-then-fits : goal.returns-then-fits
returns-then-fits c =
    let found = store_found c.args.at c.args.site (value_view c.args.target.now) (value_view c.args.value.now) c.args.subscripts.now (shape_view c.shape.result) (selection_view c.in-Some.k) c.shape.ensures (sym (ap selection_answer c.in-Some.is) ∙ c.in_ok-select.ensures) in
    found ∙ picks_first (fits_by (nat_eq (length c.args.subscripts.now) 1) (selection_view c.in-Some.k).shape (shape_of (value_view c.args.value.now))) (stored_at c.args.at c.args.site (value_view c.args.target.now) (selection_view c.in-Some.k) (value_view c.args.value.now)) (Wrong c.args.at) (ap (fits_by (nat_eq (length c.args.subscripts.now) 1) (selection_view c.in-Some.k).shape) (sym c.shape-in-Some.ensures) ∙ sym c.fits.ensures ∙ c.if-fits.true) ∙ c.in_ok-r-in-Some.ensures

pub returns : goal.returns
returns c =
    let found = store_found c.args.at c.args.site (value_view c.args.target.now) (value_view c.args.value.now) c.args.subscripts.now (shape_view c.shape.result) (selection_view c.in-Some.k) c.shape.ensures (sym (ap selection_answer c.in-Some.is) ∙ c.in_ok-select.ensures) in
    found ∙ picks_second (fits_by (nat_eq (length c.args.subscripts.now) 1) (selection_view c.in-Some.k).shape (shape_of (value_view c.args.value.now))) (stored_at c.args.at c.args.site (value_view c.args.target.now) (selection_view c.in-Some.k) (value_view c.args.value.now)) (Wrong c.args.at) (ap (fits_by (nat_eq (length c.args.subscripts.now) 1) (selection_view c.in-Some.k).shape) (sym c.shape-in-Some.ensures) ∙ sym c.fits.ensures ∙ c.if-fits.false)
