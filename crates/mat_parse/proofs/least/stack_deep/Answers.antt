use Rattle.std.proofs.Common.{arith, ◌-◌, ◌∙◌}
use Rattle.mat_parse.proofs.Capped.{took, stack_down, stack_done}
use Rattle.mat_parse.proofs.least.stack_deep.Goals as goal

pub loop-left-preserved : goal.loop-left-preserved
loop-left-preserved c = record {
  within = omega (arith, c.loop-left.invariant.within);
  is = stack_down c.args.frames.now c.loop-left.left (c.loop-left.left - 1) c.loop-left.inner c.frame_deep-inner.result c.index-frames-left.result _
      (omega arith)
      (took c.args.frames.now (c.loop-left.left - 1) c.index-frames-left.result (omega (arith, c.loop-left.invariant.within)) c.index-frames-left.is)
      c.frame_deep-inner.ensures c.loop-left.invariant.is;
}

pub returns : goal.returns
returns c = c.capped.ensures ∙ stack_done c.args.frames.now c.loop-left.left c.loop-left.inner _ (omega arith) c.loop-left.invariant.is
