use Rattle.std.proofs.Common.{◌≡◌, drop, map}
use Rattle.num_type.specs.View.{type_of}
use Rattle.scalar_program.specs.Lowered.{inputs_from}
use Rattle.scalar_walk.specs.View.{names_view}
use Rattle.scalar_walk.proofs.entry.set_inputs.Given as goal

abbrev pub invariant-loop-k : goal.invariant-loop-k
invariant-loop-k l =
    inputs_from 0 l.inputs (map type_of l.types) (names_view l.initial.names)
    ≡ inputs_from l.k (drop l.k l.inputs) (map type_of (drop l.k l.types)) (names_view l.names)
