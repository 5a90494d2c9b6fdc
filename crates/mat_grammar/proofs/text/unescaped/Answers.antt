use Rattle.std.proofs.Common.{arith}
use Rattle.mat_grammar.proofs.Scans.{step_other, step_quote}
use Rattle.mat_grammar.proofs.text.unescaped.Goals as goal

pub loop-at-preserved-then-byte-quote : goal.loop-at-preserved-then-byte-quote
loop-at-preserved-then-byte-quote c = record {
  within = omega arith;
  is = step_other c.args.own.now c.loop-at.at c.args.quote c.loop-at.text.items _ _ c.loop-at-test.true c.if-byte-quote.true c.in_ok-push.ensures.items c.loop-at.invariant.is;
}

pub loop-at-preserved : goal.loop-at-preserved
loop-at-preserved c = record {
  within = omega arith;
  is = step_quote c.args.own.now c.loop-at.at c.args.quote c.loop-at.text.items _ _ (omega arith) c.if-byte-quote.false c.if-own-at.true c.in_ok-push-2.ensures.items c.loop-at.invariant.is;
}
