use Rattle.std.proofs.Common.{◌≡◌, drop, length, map}
use Rattle.std.specs.List.{All}
use Rattle.num_type.specs.View.{type_of}
use Rattle.fi_rules.specs.Options.{all_of}
use Rattle.eval_math.specs.Matrices.{IsEntry, entry_at}
use Rattle.eval_math.specs.View.{operand_view, with_built}
use Rattle.eval_math.proofs.fi_products.entries.Given as goal

abbrev pub invariant-loop-p : goal.invariant-loop-p
invariant-loop-p l = record {
  value : with_built l.out.items (all_of (map (entry_at l.how (operand_view l.a) (operand_view l.b)) (drop l.p-index l.places))) ≡ all_of (map (entry_at l.how (operand_view l.a) (operand_view l.b)) l.places);
  many : length l.out.items ≡ l.p-index;
  inside : All (IsEntry (type_of l.how.sum)) l.out.items;
}
