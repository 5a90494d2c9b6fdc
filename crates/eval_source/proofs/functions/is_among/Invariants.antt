use Rattle.std.proofs.Common.{◌≡◌, drop}
use Rattle.fi_meaning.specs.Expressions.{is_listed}
use Rattle.eval_source.proofs.functions.is_among.Given as goal

abbrev pub invariant-loop-other : goal.invariant-loop-other
invariant-loop-other l = is_listed l.name l.names ≡ is_listed l.name (drop l.other-index l.names)
