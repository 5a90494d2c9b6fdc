use Rattle.std.proofs.Common.{◌≡◌, ◌≤◌, min, take, length}
use Rattle.mat_grammar.specs.Least.{stack_depth}
use Rattle.mat_parts.specs.Pending.{stack_of}
use Rattle.mat_parse.proofs.least.stack_deep.Given as goal

abbrev pub invariant-loop-left : goal.invariant-loop-left
invariant-loop-left l = record {
  within : l.left ≤ length l.frames;
  is : min (stack_depth l.inner (stack_of (take l.left l.frames))) 101 ≡ min (stack_depth l.fn.deep (stack_of l.frames)) 101;
}

abbrev pub decreases-loop-left : goal.decreases-loop-left
decreases-loop-left l = l.left
