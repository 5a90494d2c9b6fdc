use Rattle.std.proofs.Common.{◌≤◌, ◌↔◌, drop}
use Rattle.mat_ast.specs.View.{funcs_view}
use Rattle.mat_ast.specs.Depth.{file_depth}
use Rattle.mat_ast.proofs.depth.are_funcs_within.Given as goal

abbrev pub invariant-loop-f : goal.invariant-loop-f
invariant-loop-f l = (file_depth (funcs_view l.funcs) ≤ l.limit) ↔ (file_depth (funcs_view (drop l.f-index l.funcs)) ≤ l.limit)
