use Rattle.std.proofs.Common.{◌≡◌, ◌∙◌, sym, ap, ◌++◌, List, drop, map, take}
use Rattle.std.specs.Prelude.{None, Some}
use Rattle.std.proofs.lemmas.List.{length-map}
use Rattle.num_type.specs.Types.{NumericType}
use Rattle.num_type.specs.Constants.{Exact}
use Rattle.num_type.specs.View.{exact_of, type_of}
use Rattle.shape_rules.specs.Shapes.{elements_of}
use Rattle.fi_math.specs.Made.{limited}
use Rattle.fi_rules.specs.Pairs.{beside_type}
use Rattle.fi_values.specs.Numbers.{stored_beside}
use Rattle.fi_values.specs.Sums.{made}
use Rattle.eval_value.specs.View.{shape_view}
use Rattle.eval_math.specs.View.{operand_view}
use Rattle.eval_math.proofs.Alongside.{all_mapped, complex_with, complex_without_stored, complex_without_type, stored_is}
use Rattle.eval_math.proofs.beside.complex_beside.Goals as goal

pub returns-in-None : goal.returns-in-None
returns-in-None c =
    let all : map exact_of c.as_slice.result.now ≡ map exact_of c.args.re.now ++ map exact_of c.args.im.now = all_mapped c.as_slice.result.now c.args.re.now c.args.im.now (c.as_slice.ensures.value ∙ c.in_ok-all.ensures) in
    complex_without_type (type_of c.args.t) (shape_view c.args.shape) (map exact_of c.args.re.now) (map exact_of c.args.im.now)
    (c.in-None.ensures.value ∙ ap (λ (w : List Exact). made (limited 64 (beside_type (type_of c.args.t) w))) all)

pub returns-in-Ok-None : goal.returns-in-Ok-None
returns-in-Ok-None c =
    let all : map exact_of c.as_slice-in-Some.result.now ≡ map exact_of c.args.re.now ++ map exact_of c.args.im.now = all_mapped c.as_slice-in-Some.result.now c.args.re.now c.args.im.now (c.as_slice-in-Some.ensures.value ∙ c.in_ok-all.ensures) in
    let same : c.as_slice.result.now ≡ c.as_slice-in-Some.result.now = c.as_slice.ensures.value ∙ sym c.as_slice-in-Some.ensures.value in
    complex_without_stored (type_of c.args.t) (shape_view c.args.shape) (map exact_of c.args.re.now) (map exact_of c.args.im.now)
    (stored_is None (type_of c.args.t) (type_of c.in-Some.u) c.as_slice-in-Some.result.now (rw c.in-Ok-None.field-0-is at c.in-Ok-None.ensures.value)
    (c.in-Some.ensures.same ∙ ap (λ w. beside_type (type_of c.args.t) (map exact_of w)) same)
    ∙ ap (stored_beside (type_of c.args.t)) all)

pub returns : goal.returns
returns c =
    let first : map exact_of c.as_slice.result.now ≡ map exact_of c.args.re.now ++ map exact_of c.args.im.now = all_mapped c.as_slice.result.now c.args.re.now c.args.im.now (c.as_slice.ensures.value ∙ c.in_ok-all.ensures) in
    let all : map exact_of c.as_slice-in-Some.result.now ≡ map exact_of c.args.re.now ++ map exact_of c.args.im.now = all_mapped c.as_slice-in-Some.result.now c.args.re.now c.args.im.now (c.as_slice-in-Some.ensures.value ∙ c.in_ok-all.ensures) in
    let same : c.as_slice.result.now ≡ c.as_slice-in-Some.result.now = c.as_slice.ensures.value ∙ sym c.as_slice-in-Some.ensures.value in
    complex_with (type_of c.args.t) (type_of c.in-Some.u) (shape_view c.args.shape) (map exact_of c.args.re.now) (map exact_of c.args.im.now) c.in-Ok-Some.stored.items (elements_of c.args.shape) (operand_view c.in_ok-v-in-Ok-Some.v)
    (c.in-Some.ensures.value ∙ ap (λ (w : List Exact). made (limited 64 (beside_type (type_of c.args.t) w))) first)
    (stored_is (Some c.in-Ok-Some.stored.items) (type_of c.args.t) (type_of c.in-Some.u) c.as_slice-in-Some.result.now (rw c.in-Ok-Some.field-0-is at c.in-Ok-Some.ensures.value)
    (c.in-Some.ensures.same ∙ ap (λ w. beside_type (type_of c.args.t) (map exact_of w)) same)
    ∙ ap (stored_beside (type_of c.args.t)) all)
    (length-map c.args.re.now exact_of ∙ c.requires.real)
    (c.in_ok-v-in-Ok-Some.ensures ∙ (λ i. record { num = type_of c.in-Some.u; math = None; shape = shape_view c.args.shape; parts = record { re = take (elements_of c.args.shape) (c.as_slice-in-Ok-Some.ensures.value i); im = Some (drop (elements_of c.args.shape) (c.as_slice-in-Ok-Some.ensures.value i)) } }))
