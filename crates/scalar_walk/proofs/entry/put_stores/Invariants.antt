use Rattle.std.proofs.Common.{◌≡◌, ◌++◌, drop, map}
use Rattle.c_tree.specs.View.{stmt_view}
use Rattle.scalar_program.specs.Lowered.{stores_from}
use Rattle.scalar_walk.specs.View.{operand_view}
use Rattle.scalar_walk.proofs.entry.put_stores.Given as goal

abbrev pub invariant-loop-k : goal.invariant-loop-k
invariant-loop-k l =
    map stmt_view l.initial.body ++ stores_from 0 (map operand_view l.outputs)
    ≡ map stmt_view l.body ++ stores_from l.k (map operand_view (drop l.k l.outputs))
