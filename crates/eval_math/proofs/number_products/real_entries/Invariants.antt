use Rattle.std.proofs.Common.{◌≡◌, drop, length, map}
use Rattle.num_type.specs.View.{exact_of}
use Rattle.fi_rules.specs.Options.{all_of}
use Rattle.eval_value.specs.View.{shape_view}
use Rattle.eval_math.specs.Matrices.{real_entry}
use Rattle.eval_math.specs.View.{with_built}
use Rattle.eval_math.proofs.number_products.real_entries.Given as goal

abbrev pub invariant-loop-p : goal.invariant-loop-p
invariant-loop-p l = record {
  value : with_built (map exact_of l.out.items) (all_of (map (real_entry (shape_view l.x.shape) (map exact_of l.x.re.items) (shape_view l.y.shape) (map exact_of l.y.re.items)) (drop l.p-index l.places))) ≡ all_of (map (real_entry (shape_view l.x.shape) (map exact_of l.x.re.items) (shape_view l.y.shape) (map exact_of l.y.re.items)) l.places);
  many : length l.out.items ≡ l.p-index;
}
