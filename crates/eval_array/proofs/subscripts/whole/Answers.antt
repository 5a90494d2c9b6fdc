use Rattle.std.proofs.Common.{◌≡◌, ◌<◌, ap, sym, ◌∙◌, length, vec_len}
use Rattle.std.specs.Prelude.{All}
use Rattle.std.proofs.lemmas.List.Elements.{All-same}
use Rattle.shape_rules.specs.Shapes.{elements_of}
use Rattle.fi_values.specs.Elements.{below}
use Rattle.eval_array.proofs.Counts.{length_below}
use Rattle.eval_array.proofs.Elements.{small_below}
use Rattle.eval_array.proofs.Joined.{column_count, for_some}
use Rattle.eval_array.proofs.subscripts.whole.Goals as goal

pub invariant_of-result : goal.invariant_of-result
invariant_of-result c =
    let v = c.in_ok-places.places in
    record {
      as_many = for_some v (λ ks. vec_len ks ≡ elements_of c.column.result) (v.ok.0 ∙ ap length c.in_ok-places.ensures ∙ length_below c.args.extent ∙ sym (column_count c.column.result c.args.extent c.column.ensures));
      small = for_some v (λ ks. All (λ k. k < 4096) ks.items) (All-same (λ k. k < 4096) v.items (below c.args.extent) c.in_ok-places.ensures (small_below 4096 c.args.extent c.requires.few));
    }
