use Rattle.std.proofs.Common.{◌≡◌, [], ◌∷◌, ◌++◌, false, Some, None, length, refl, sym, ap, ◌∙◌, subst, nat_eq}
use Rattle.std.proofs.lemmas.List.{length-map}
use Rattle.c_tree.specs.View.{interface_view}
use Rattle.case_io.specs.Cases.{input_ranges, elements}
use Rattle.case_io.specs.View.{ranges_view}
use Rattle.case_io.specs.Plain.{AreLines, HasForm}
use Rattle.case_io.specs.Reads.{texts_of, ReadsLines, ReadsArrays}
use Rattle.case_io.proofs.Whole.{equal, bad_count, bad_value, is_case}
use Rattle.case_io.proofs.plain.read_cases.Goals as goal

pub returns-then-not-is_count : goal.returns-then-not-is_count
returns-then-not-is_count c =
    let found = texts_of c.in-Some.found.items in
    let lines : AreLines found c.args.bytes.now = subst (λ f. ReadsLines f c.args.bytes.now) c.in-Some.is c.in_ok-found.ensures in
    let count : nat_eq (length found) (elements (input_ranges (interface_view c.args.i.now))) ≡ false =
    (λ i. nat_eq (length-map c.in-Some.found.items (λ t. t.now) i) (elements (sym c.in_ok-ranges.ensures i))) ∙ (λ i. nat_eq ((ap length (sym c.as_slice-texts.ensures.value)) i) (elements (ranges_view (sym c.as_slice.ensures.value i)))) ∙ sym c.is_count.ensures ∙ c.if-not-is_count.true in
    bad_count (input_ranges (interface_view c.args.i.now)) found c.args.bytes.now lines count

pub returns-in_default-2 : goal.returns-in_default-2
returns-in_default-2 c =
    let found = texts_of c.in-Some.found.items in
    let lines : AreLines found c.args.bytes.now = subst (λ f. ReadsLines f c.args.bytes.now) c.in-Some.is c.in_ok-found.ensures in
    let count : length found ≡ elements (input_ranges (interface_view c.args.i.now)) =
    length-map c.in-Some.found.items (λ t. t.now)
    ∙ equal (length c.in-Some.found.items) (elements (ranges_view c.in_ok-ranges.ranges.items)) ((λ i. nat_eq ((ap length (sym c.as_slice-texts.ensures.value)) i) (elements (ranges_view (sym c.as_slice.ensures.value i)))) ∙ sym c.is_count.ensures ∙ c.if-not-is_count.false)
    ∙ ap elements c.in_ok-ranges.ensures in
    let form : HasForm (input_ranges (interface_view c.args.i.now)) found c.args.bytes.now = record { lines = lines; count = count } in
    let read : ReadsArrays None (input_ranges (interface_view c.args.i.now)) found =
    subst (λ f. ReadsArrays f (input_ranges (interface_view c.args.i.now)) found) c.in_default-2.is
    (subst (λ l. ReadsArrays c.in_ok-inputs.field-0 l found) (ap ranges_view c.as_slice-2.ensures.value ∙ c.in_ok-ranges.ensures)
    (subst (λ l. ReadsArrays c.in_ok-inputs.field-0 (ranges_view c.as_slice-2.result.now) (texts_of l)) c.as_slice-texts.ensures.value c.in_ok-inputs.ensures)) in
    (refl, bad_value (input_ranges (interface_view c.args.i.now)) found c.args.bytes.now form read)

pub returns : goal.returns
returns c =
    let found = texts_of c.in-Some.found.items in
    let lines : AreLines found c.args.bytes.now = subst (λ f. ReadsLines f c.args.bytes.now) c.in-Some.is c.in_ok-found.ensures in
    let count : length found ≡ elements (input_ranges (interface_view c.args.i.now)) =
    length-map c.in-Some.found.items (λ t. t.now)
    ∙ equal (length c.in-Some.found.items) (elements (ranges_view c.in_ok-ranges.ranges.items)) ((λ i. nat_eq ((ap length (sym c.as_slice-texts.ensures.value)) i) (elements (ranges_view (sym c.as_slice.ensures.value i)))) ∙ sym c.is_count.ensures ∙ c.if-not-is_count.false)
    ∙ ap elements c.in_ok-ranges.ensures in
    let form : HasForm (input_ranges (interface_view c.args.i.now)) found c.args.bytes.now = record { lines = lines; count = count } in
    let read : ReadsArrays (Some c.in-Some-2.inputs) (input_ranges (interface_view c.args.i.now)) found =
    subst (λ f. ReadsArrays f (input_ranges (interface_view c.args.i.now)) found) c.in-Some-2.is
    (subst (λ l. ReadsArrays c.in_ok-inputs.field-0 l found) (ap ranges_view c.as_slice-2.ensures.value ∙ c.in_ok-ranges.ensures)
    (subst (λ l. ReadsArrays c.in_ok-inputs.field-0 (ranges_view c.as_slice-2.result.now) (texts_of l)) c.as_slice-texts.ensures.value c.in_ok-inputs.ensures)) in
    (c.in-Some-2.inputs, c.in_ok-push.ensures.items ∙ ap (λ l. l ++ c.in-Some-2.inputs ∷ []) c.new-list.ensures.items, is_case (input_ranges (interface_view c.args.i.now)) found c.args.bytes.now c.in-Some-2.inputs form read)
