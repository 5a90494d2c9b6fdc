use Rattle.std.proofs.Common.{◌≡◌, drop, map, ◌++◌, Some}
use Rattle.scalar_program.specs.Lowered.{outputs_lowered, and_then}
use Rattle.scalar_walk.specs.Walk.{outputs_typed}
use Rattle.scalar_walk.specs.View.{names_view, types_view, operand_view}
use Rattle.scalar_walk.proofs.Outputs.{more_typed}
use Rattle.scalar_walk.proofs.statements.lower_outputs.Given as goal

abbrev pub invariant-loop-o : goal.invariant-loop-o
invariant-loop-o l =
    (outputs_lowered l.outputs (names_view l.names)
    ≡ and_then (outputs_lowered (drop l.o-index l.outputs) (names_view l.names)) (λ more. Some (map operand_view l.values.items ++ more)))
    × (outputs_typed l.outputs (types_view l.names) ≡ more_typed (drop l.o-index l.outputs) (types_view l.names) l.values.items)
