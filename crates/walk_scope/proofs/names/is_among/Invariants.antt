use Rattle.std.proofs.Common.{◌≡◌, map, drop}
use Rattle.walk_scope.specs.Names.{is_listed}
use Rattle.walk_scope.proofs.names.is_among.Given as goal

abbrev pub invariant-loop-other : goal.invariant-loop-other
invariant-loop-other l = is_listed l.name (map (λ s. s.now) l.names) ≡ is_listed l.name (map (λ s. s.now) (drop l.other-index l.names))
