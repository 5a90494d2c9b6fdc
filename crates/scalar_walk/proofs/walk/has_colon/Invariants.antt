use Rattle.std.proofs.Common.{◌≡◌, drop}
use Rattle.mat_ast.specs.View.{args_view}
use Rattle.scalar_walk.specs.Walk.{has_colon}
use Rattle.scalar_walk.proofs.walk.has_colon.Given as goal

abbrev pub invariant-loop-arg : goal.invariant-loop-arg
invariant-loop-arg l = has_colon (args_view l.args) ≡ has_colon (args_view (drop l.arg-index l.args))
