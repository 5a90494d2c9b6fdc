use Rattle.std.proofs.Common.{length, ap, sym, ◌∙◌}
use Rattle.std.proofs.lemmas.List.Elements.{All-same}
use Rattle.num_type.specs.Types.{IsInRange}
use Rattle.num_type.specs.View.{type_of}
use Rattle.fi_eval.specs.Outcome.{Gives}
use Rattle.fi_values.specs.Stores.{put}
use Rattle.eval_value.specs.View.{shape_view, value_view}
use Rattle.eval_array.specs.Views.{listed, parts_answer, selection_view}
use Rattle.eval_array.proofs.Elements.{All_put, length_put}
use Rattle.eval_array.proofs.Written.{complex_missed, complex_put, complex_untaken}
use Rattle.eval_array.proofs.stores.complex_stored.Goals as goal

pub returns-in-None : goal.returns-in-None
returns-in-None c = complex_untaken c.args.at c.args.site (type_of c.args.t.now.num) c.args.t.now.math (shape_view c.args.t.now.shape) c.args.t.now.re.items c.args.parts.now (selection_view c.args.k.now) (value_view c.args.value.now) (sym (ap parts_answer c.in-None.is) ∙ c.in_ok-found.ensures.value)

pub returns-in-None-places : goal.returns-in-None-places
returns-in-None-places c = complex_missed c.args.at c.args.site (type_of c.args.t.now.num) c.args.t.now.math (shape_view c.args.t.now.shape) c.args.t.now.re.items c.args.parts.now (selection_view c.args.k.now) (value_view c.args.value.now) (c.in-Some.p.re.items, c.in-Some.p.im.items) (sym (ap parts_answer c.in-Some.is) ∙ c.in_ok-found.ensures.value) (ap listed c.in-None-places.is)

pub complex_fi-requires-clause-real : goal.complex_fi-requires-clause-real
complex_fi-requires-clause-real c =
    c.in_ok-re-in-Some-places.re.ok.0 ∙ ap length c.in_ok-re-in-Some-places.ensures
    ∙ length_put c.as_slice.result.now c.as_slice-in-Some-places.result.now c.as_slice-in-Some-places-2.result.now ∙ ap length c.as_slice.ensures.value ∙ sym c.args.t.now.re.ok.0 ∙ c.args.t.now.real

pub complex_fi-requires-clause-imaginary : goal.complex_fi-requires-clause-imaginary
complex_fi-requires-clause-imaginary c =
    c.in_ok-im-in-Some-places.im.ok.0 ∙ ap length c.in_ok-im-in-Some-places.ensures ∙ length_put c.args.parts.now c.as_slice-in-Some-places-3.result.now c.as_slice-in-Some-places-4.result.now ∙ c.requires.count

pub complex_fi-requires-clause-real_in_range : goal.complex_fi-requires-clause-real_in_range
complex_fi-requires-clause-real_in_range c =
    All-same (IsInRange (type_of c.args.t.now.num)) c.in_ok-re-in-Some-places.re.items (put c.args.t.now.re.items c.in-Some-places.places.items c.in-Some.p.re.items) (c.in_ok-re-in-Some-places.ensures ∙ (λ i. put (c.as_slice.ensures.value i) (c.as_slice-in-Some-places.ensures.value i) (c.as_slice-in-Some-places-2.ensures.value i)))
    (All_put (IsInRange (type_of c.args.t.now.num)) c.args.t.now.re.items c.in-Some-places.places.items c.in-Some.p.re.items c.args.t.now.real_in_range (c.in_ok-found.ensures.real c.in-Some.p c.in-Some.is))

pub complex_fi-requires-clause-imaginary_in_range : goal.complex_fi-requires-clause-imaginary_in_range
complex_fi-requires-clause-imaginary_in_range c =
    All-same (IsInRange (type_of c.args.t.now.num)) c.in_ok-im-in-Some-places.im.items (put c.args.parts.now c.in-Some-places.places.items c.in-Some.p.im.items) (c.in_ok-im-in-Some-places.ensures ∙ (λ i. put c.args.parts.now (c.as_slice-in-Some-places-3.ensures.value i) (c.as_slice-in-Some-places-4.ensures.value i)))
    (All_put (IsInRange (type_of c.args.t.now.num)) c.args.parts.now c.in-Some-places.places.items c.in-Some.p.im.items c.requires.in_range (c.in_ok-found.ensures.imaginary c.in-Some.p c.in-Some.is))

pub returns : goal.returns
returns c =
    complex_put c.args.at c.args.site (type_of c.args.t.now.num) c.args.t.now.math (shape_view c.args.t.now.shape) c.args.t.now.re.items c.args.parts.now (selection_view c.args.k.now) (value_view c.args.value.now) (c.in-Some.p.re.items, c.in-Some.p.im.items) c.in-Some-places.places.items c.in_ok-re-in-Some-places.re.items c.in_ok-im-in-Some-places.im.items
    (sym (ap parts_answer c.in-Some.is) ∙ c.in_ok-found.ensures.value) (ap listed c.in-Some-places.is) (c.in_ok-re-in-Some-places.ensures ∙ (λ i. put (c.as_slice.ensures.value i) (c.as_slice-in-Some-places.ensures.value i) (c.as_slice-in-Some-places-2.ensures.value i))) (c.in_ok-im-in-Some-places.ensures ∙ (λ i. put c.args.parts.now (c.as_slice-in-Some-places-3.ensures.value i) (c.as_slice-in-Some-places-4.ensures.value i)))
    ∙ ap Gives (sym c.complex_fi.ensures)
