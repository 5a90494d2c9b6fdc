use Rattle.std.proofs.Common.{◌≤◌, ◌↔◌, drop}
use Rattle.mat_ast.specs.View.{arms_view, block_view}
use Rattle.mat_ast.specs.Depth.{arms_depth, block_depth}
use Rattle.mat_ast.proofs.depth.+blocks.Given as goal

abbrev pub invariant-arms_within-loop-arm : goal.invariant-arms_within-loop-arm
invariant-arms_within-loop-arm l = (arms_depth (arms_view l.arms) ≤ l.limit) ↔ (arms_depth (arms_view (drop l.arm-index l.arms)) ≤ l.limit)

abbrev pub invariant-block_within-loop-s : goal.invariant-block_within-loop-s
invariant-block_within-loop-s l = (block_depth (block_view l.body) ≤ l.limit) ↔ (block_depth (block_view (drop l.s-index l.body)) ≤ l.limit)
