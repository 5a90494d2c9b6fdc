use Rattle.std.specs.Prelude.{All}
use Rattle.num_type.specs.Types.{IsInRange}
use Rattle.num_type.specs.View.{type_of}
use Rattle.evaluation_rows.proofs.inputs.stored.Given as goal

abbrev pub invariant-loop-word : goal.invariant-loop-word
invariant-loop-word l = All (IsInRange (type_of l.num)) l.list.items
