use Rattle.std.proofs.Common.{◌≡◌, ◌++◌, drop, length, map}
use Rattle.std.specs.List.{All}
use Rattle.num_type.specs.Types.{IsInRange}
use Rattle.num_type.specs.View.{type_of}
use Rattle.eval_math.specs.View.{element_by}
use Rattle.eval_math.proofs.elementwise.of_pairs.Given as goal

abbrev pub invariant-loop-p : goal.invariant-loop-p
invariant-loop-p l = record {
  value : l.out.items ++ map (λ p. element_by l.frame (type_of l.a) (type_of l.b) p.0 p.1) (drop l.p-index l.met) ≡ map (λ p. element_by l.frame (type_of l.a) (type_of l.b) p.0 p.1) l.met;
  many : length l.out.items ≡ l.p-index;
  inside : All (IsInRange (type_of l.frame.num)) l.out.items;
}
