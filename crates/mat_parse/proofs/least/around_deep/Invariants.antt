use Rattle.std.proofs.Common.{◌≡◌, ◌≤◌, min, take, length}
use Rattle.mat_ast.specs.View.{funcs_view}
use Rattle.mat_grammar.specs.Machine.{FunBody}
use Rattle.mat_grammar.specs.Least.{around_depth}
use Rattle.mat_parts.specs.Pending.{within_bodies, header_view, around_view}
use Rattle.mat_parse.proofs.least.around_deep.Given as goal

abbrev pub invariant-loop-left : goal.invariant-loop-left
invariant-loop-left l = record {
  within : l.left ≤ length l.bodies;
  is : min (around_depth l.inner
      (within_bodies (take l.left l.bodies) (FunBody l.around.mode (funcs_view l.around.done.funcs.items) (header_view l.around.header)))) 101
      ≡ min (around_depth l.fn.deep (around_view l.around)) 101;
}

abbrev pub decreases-loop-left : goal.decreases-loop-left
decreases-loop-left l = l.left
