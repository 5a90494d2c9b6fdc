use Rattle.std.proofs.Common.{◌≡◌, ◌++◌, ◌-◌, length, map, take, drop, vec_items}
use Rattle.c_run.specs.Start.{refilled, AreFilling}
use Rattle.c_run.proofs.stores.fill_stores.Given as goal

abbrev pub invariant-loop-k : goal.invariant-loop-k
invariant-loop-k l = record {
  same : refilled l.initial.stores (map vec_items l.lists) ≡ take l.k l.stores ++ refilled (drop l.k l.stores) (drop l.k (map vec_items l.lists));
  filling : AreFilling (drop l.k l.stores) (drop l.k (map vec_items l.lists));
}

abbrev pub decreases-loop-k : goal.decreases-loop-k
decreases-loop-k l = length l.initial.stores - l.k
