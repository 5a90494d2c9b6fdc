use Rattle.std.proofs.Common.{◌≡◌, ◌++◌, drop, map}
use Rattle.num_type.specs.View.{type_of}
use Rattle.scalar_walk.specs.View.{operand_view}
use Rattle.scalar_walk.proofs.entry.types_of.Given as goal

abbrev pub invariant-loop-o : goal.invariant-loop-o
invariant-loop-o l =
    map (λ o. o.num) (map operand_view l.operands)
    ≡ map type_of l.types.items ++ map (λ o. o.num) (map operand_view (drop l.o-index l.operands))
