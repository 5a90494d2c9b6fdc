use Rattle.std.proofs.Common.{◌≡◌, ◌+◌, ◌*◌, length, vec_len, ap, sym, ◌∙◌}
use Rattle.std.specs.Prelude.{ℕ}
use Rattle.shape_rules.specs.Shapes.{elements_of}
use Rattle.eval_array.proofs.Counts.{length_flat}
use Rattle.eval_array.proofs.Joined.{for_some}
use Rattle.eval_array.proofs.select.crossed_places.Goals as goal

pub returns-in_ok-places-in-Some-places-clause-as_many : goal.returns-in_ok-places-in-Some-places-clause-as_many
returns-in_ok-places-in-Some-places-clause-as_many c =
    let v = c.in_ok-places-in-Some-places.places in
    let p : length c.as_slice.result.now ≡ elements_of c.args.rows.now.own =
    ap length c.as_slice.ensures.value ∙ sym c.in-Some.row_places.ok.0 ∙ c.args.rows.now.as_many c.in-Some.row_places c.in-Some.is in
    let q : length c.as_slice-in-Some-places.result.now ≡ elements_of c.args.columns.now.own =
    ap length c.as_slice-in-Some-places.ensures.value ∙ sym c.in-Some-places.column_places.ok.0 ∙ c.args.columns.now.as_many c.in-Some-places.column_places c.in-Some-places.is in
    for_some v (λ ks. vec_len ks ≡ elements_of c.args.rows.now.own * elements_of c.args.columns.now.own)
    (v.ok.0 ∙ ap length c.in_ok-places-in-Some-places.ensures ∙ length_flat (λ (j i : ℕ). i + c.args.extent * j) c.as_slice.result.now c.as_slice-in-Some-places.result.now ∙ (λ i. p i * q i))
