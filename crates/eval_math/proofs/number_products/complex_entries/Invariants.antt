use Rattle.std.proofs.Common.{◌≡◌, drop, length, map}
use Rattle.const_eval.specs.Complex.{complex_of}
use Rattle.fi_rules.specs.Options.{all_of}
use Rattle.eval_value.specs.View.{shape_view}
use Rattle.eval_math.specs.Matrices.{complex_entry}
use Rattle.eval_math.specs.View.{with_built}
use Rattle.eval_math.proofs.number_products.complex_entries.Given as goal

abbrev pub invariant-loop-p : goal.invariant-loop-p
invariant-loop-p l = record {
  value : with_built (map complex_of l.out.items) (all_of (map (complex_entry (shape_view l.s) (map complex_of l.xs) (shape_view l.t) (map complex_of l.ys)) (drop l.p-index l.places))) ≡ all_of (map (complex_entry (shape_view l.s) (map complex_of l.xs) (shape_view l.t) (map complex_of l.ys)) l.places);
  many : length l.out.items ≡ l.p-index;
}
