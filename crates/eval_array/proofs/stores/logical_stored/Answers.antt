use Rattle.std.proofs.Common.{length, ap, sym, ◌∙◌}
use Rattle.fi_eval.specs.Outcome.{Gives}
use Rattle.fi_values.specs.Stores.{put, stored_at}
use Rattle.eval_value.specs.View.{logical_view, value_view}
use Rattle.eval_array.specs.Views.{listed, selection_view}
use Rattle.eval_array.proofs.Elements.{length_put}
use Rattle.eval_array.proofs.Written.{is_logical, truths_missed, truths_put, truths_untaken}
use Rattle.eval_array.proofs.stores.logical_stored.Goals as goal

pub logical-requires : goal.logical-requires
logical-requires c =
    c.in_ok-truths-in-Some.truths.ok.0 ∙ ap length c.in_ok-truths-in-Some.ensures
    ∙ length_put c.as_slice.result.now c.as_slice-in-Some.result.now c.as_slice-in-Some-2.result.now ∙ ap length c.as_slice.ensures.value ∙ sym c.args.t.now.truths.ok.0 ∙ c.args.t.now.elements

pub returns-in-None : goal.returns-in-None
returns-in-None c =
    ap (λ w. stored_at c.args.at c.args.site (logical_view c.args.t.now) (selection_view c.args.k.now) (value_view w)) c.in-Logical.is
    ∙ truths_missed c.args.at c.args.site c.args.t.now c.in-Logical.v (selection_view c.args.k.now) (ap listed c.in-None.is)

pub returns-in_ok-truths-in-Some : goal.returns-in_ok-truths-in-Some
returns-in_ok-truths-in-Some c =
    ap (λ w. stored_at c.args.at c.args.site (logical_view c.args.t.now) (selection_view c.args.k.now) (value_view w)) c.in-Logical.is
    ∙ truths_put c.args.at c.args.site c.args.t.now c.in-Logical.v (selection_view c.args.k.now) c.in-Some.places.items c.in_ok-truths-in-Some.truths.items (ap listed c.in-Some.is)
    (c.in_ok-truths-in-Some.ensures ∙ (λ i. put (c.as_slice.ensures.value i) (c.as_slice-in-Some.ensures.value i) (c.as_slice-in-Some-2.ensures.value i)))
    ∙ ap Gives (sym c.logical.ensures)

pub returns-in-Fi : goal.returns-in-Fi
returns-in-Fi c = truths_untaken c.args.at c.args.site c.args.t.now (selection_view c.args.k.now) c.args.value.now (ap is_logical c.in-Fi.is)

pub returns-in-Number : goal.returns-in-Number
returns-in-Number c = truths_untaken c.args.at c.args.site c.args.t.now (selection_view c.args.k.now) c.args.value.now (ap is_logical c.in-Number.is)

pub returns-in-Words : goal.returns-in-Words
returns-in-Words c = truths_untaken c.args.at c.args.site c.args.t.now (selection_view c.args.k.now) c.args.value.now (ap is_logical c.in-Words.is)

pub returns-in-Math : goal.returns-in-Math
returns-in-Math c = truths_untaken c.args.at c.args.site c.args.t.now (selection_view c.args.k.now) c.args.value.now (ap is_logical c.in-Math.is)

pub returns-in-Type : goal.returns-in-Type
returns-in-Type c = truths_untaken c.args.at c.args.site c.args.t.now (selection_view c.args.k.now) c.args.value.now (ap is_logical c.in-Type.is)
