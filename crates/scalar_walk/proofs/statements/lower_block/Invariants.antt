use Rattle.std.proofs.Common.{◌≡◌, length, drop}
use Rattle.mat_ast.specs.View.{block_view}
use Rattle.scalar_program.specs.Lowered.{Behind, IsBlockLowered}
use Rattle.scalar_walk.specs.Walk.{block_walked}
use Rattle.scalar_walk.specs.View.{AreBelow, names_view, emitted_view, walked_view}
use Rattle.walk_scope.specs.View.{scope_view}
use Rattle.scalar_walk.proofs.statements.lower_block.Given as goal

abbrev pub invariant-loop-s : goal.invariant-loop-s
invariant-loop-s l =
    ((end : Behind) → IsBlockLowered (block_view (drop l.s-index l.body)) (scope_view l.scope).context (names_view l.names) (emitted_view l.out) end
    → IsBlockLowered (block_view l.body) (scope_view l.scope).context (names_view l.initial.names) (emitted_view l.initial.out) end)
    × (block_walked (block_view l.body) (scope_view l.scope) (walked_view l.initial.names l.initial.out)
    ≡ block_walked (block_view (drop l.s-index l.body)) (scope_view l.scope) (walked_view l.names l.out))
    × AreBelow (names_view l.names) (length l.out.words)
