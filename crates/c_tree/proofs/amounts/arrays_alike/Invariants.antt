use Rattle.std.proofs.Common.{◌≡◌, ◌+◌, ◌≤◌, drop}
use Rattle.c_tree.specs.Counted.{alike}
use Rattle.c_tree.proofs.amounts.arrays_alike.Given as goal

abbrev pub invariant-loop-a : goal.invariant-loop-a
invariant-loop-a l = (l.found + alike (drop l.a-index l.arrays) l.container l.count ≡ alike l.arrays l.container l.count) × (l.found ≤ l.a-index)
