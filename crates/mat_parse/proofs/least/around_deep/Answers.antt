use Rattle.std.proofs.Common.{arith, ◌-◌}
use Rattle.mat_ast.specs.View.{funcs_view}
use Rattle.mat_grammar.specs.Machine.{FunBody}
use Rattle.mat_parts.specs.Pending.{header_view, around_view}
use Rattle.mat_parse.proofs.Capped.{took, around_all, around_down}
use Rattle.mat_parse.proofs.least.around_deep.Goals as goal

pub loop-left-init : goal.loop-left-init
unfolding around_view
loop-left-init c = record {
  within = omega arith;
  is = around_all c.as_slice-bodies.result.now c.args.around.now.bodies c.args.deep _ c.as_slice-bodies.ensures;
}

pub loop-left-preserved : goal.loop-left-preserved
loop-left-preserved c = record {
  within = omega (arith, c.loop-left.invariant.within);
  is = around_down c.as_slice-bodies.result.now c.loop-left.left (c.loop-left.left - 1) c.loop-left.inner c.body_deep-inner.result c.index-bodies-left.result
      (FunBody c.args.around.now.mode (funcs_view c.args.around.now.done.funcs.items) (header_view c.args.around.now.header)) _ (omega arith)
      (took c.as_slice-bodies.result.now (c.loop-left.left - 1) c.index-bodies-left.result (omega (arith, c.loop-left.invariant.within)) c.index-bodies-left.is)
      c.body_deep-inner.ensures c.loop-left.invariant.is;
}
