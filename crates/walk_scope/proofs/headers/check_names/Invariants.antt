use Rattle.std.proofs.Common.{◌≡◌, [], drop, take, map, reverse}
use Rattle.walk_scope.specs.NameSets.{names_in}
use Rattle.walk_scope.specs.Headers.{names_checked}
use Rattle.walk_scope.proofs.headers.check_names.Given as goal

abbrev pub invariant-loop-k : goal.invariant-loop-k
invariant-loop-k l = (names_checked l.names [] ≡ names_checked (drop l.k l.names) (reverse (map (λ n. n.text) (take l.k l.names))))
    × (names_in l.seen ≡ map (λ n. n.text) (take l.k l.names))
