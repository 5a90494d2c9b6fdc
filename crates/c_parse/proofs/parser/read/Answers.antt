use Rattle.std.proofs.Common.{arith}
use Rattle.c_tree.specs.View.{interface_view}
use Rattle.c_parts.specs.View.{past_view}
use Rattle.c_parse.proofs.Read.{step_refused, step_read, end_refused, end_read}
use Rattle.c_parse.proofs.parser.read.Goals as goal

pub loop-index-init : goal.loop-index-init
loop-index-init c = record { within = omega arith; is = c.requires.first }

pub returns-in-Err-clause-refusal : goal.returns-in-Err-clause-refusal
returns-in-Err-clause-refusal c =
    step_refused c.in-Err.stop (interface_view c.args.interface.now) c.requires.interface c.machine_decides.ensures.whole c.machine_decides.ensures.live c.args.arrays.now c.args.words.now
    c.loop-index.index _ c.loop-index.reader c.requires.arrays c.loop-index-test.true c.loop-index.invariant.is c.in-Err.ensures.refusal

pub loop-index-preserved : goal.loop-index-preserved
loop-index-preserved c = record {
  within = omega (arith, c.loop-index-test.true);
  is = step_read (interface_view c.args.interface.now) c.args.arrays.now c.args.words.now c.loop-index.index _ c.loop-index.reader c.in-Ok.next
      c.requires.arrays c.loop-index-test.true c.loop-index.invariant.is c.in-Ok.ensures.read;
}

pub returns-in-None-clause-refusal : goal.returns-in-None-clause-refusal
returns-in-None-clause-refusal c =
    end_refused (interface_view c.args.interface.now) c.requires.interface c.machine_decides.ensures.whole c.machine_decides.ensures.live c.args.words.now
    c.loop-index.index c.loop-index.reader c.loop-index.invariant.within c.loop-index-test.false c.loop-index.invariant.is c.in-None.ensures

pub returns-in-Some-clause-program : goal.returns-in-Some-clause-program
returns-in-Some-clause-program c =
    end_read (interface_view c.args.interface.now) c.requires.interface c.machine_decides.ensures.whole c.args.words.now c.loop-index.index
    c.loop-index.reader (past_view c.in-Some.past) c.loop-index-test.false c.loop-index.invariant.is c.in-Some.ensures
