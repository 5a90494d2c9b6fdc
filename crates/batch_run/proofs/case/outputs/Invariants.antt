use Rattle.std.proofs.Common.{◌-◌, ◌≡◌, ◌≤◌, take}
use Rattle.c_run.specs.Within.{outputs_in}
use Rattle.case_io.specs.Reads.{lists_of}
use Rattle.batch_run.proofs.case.outputs.Given as goal

abbrev pub invariant-loop-k : goal.invariant-loop-k
invariant-loop-k l = (l.k ≤ l.count) × (lists_of l.lists.items ≡ take l.k (outputs_in l.machine))

abbrev pub decreases-loop-k : goal.decreases-loop-k
decreases-loop-k l = l.count - l.k
