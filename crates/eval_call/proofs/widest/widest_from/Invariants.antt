use Rattle.std.proofs.Common.{◌≡◌, map, drop}
use Rattle.num_type.specs.View.{exact_of}
use Rattle.eval_call.specs.Represented.{widest_from}
use Rattle.eval_call.proofs.widest.widest_from.Given as goal

abbrev pub invariant-loop-c : goal.invariant-loop-c
invariant-loop-c l = widest_from l.signed (exact_of l.widest) (map exact_of (drop l.c-index l.more)) ≡ widest_from l.signed (exact_of l.fn.first) (map exact_of l.more)
