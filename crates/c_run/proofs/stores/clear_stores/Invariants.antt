use Rattle.std.proofs.Common.{◌≡◌, ◌++◌, ◌-◌, length, map, take, drop}
use Rattle.c_run.specs.Start.{cleared}
use Rattle.c_run.proofs.stores.clear_stores.Given as goal

abbrev pub invariant-loop-k : goal.invariant-loop-k
invariant-loop-k l = map cleared l.initial.stores ≡ take l.k l.stores ++ map cleared (drop l.k l.stores)

abbrev pub decreases-loop-k : goal.decreases-loop-k
decreases-loop-k l = length l.initial.stores - l.k
