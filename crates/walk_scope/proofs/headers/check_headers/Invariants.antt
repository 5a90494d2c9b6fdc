use Rattle.std.proofs.Common.{◌≡◌, [], drop, take, map, reverse}
use Rattle.mat_ast.specs.View.{funcs_view}
use Rattle.walk_scope.specs.NameSets.{names_in}
use Rattle.walk_scope.specs.Headers.{headers_checked}
use Rattle.walk_scope.proofs.headers.check_headers.Given as goal

abbrev pub invariant-loop-k : goal.invariant-loop-k
invariant-loop-k l = (headers_checked (funcs_view l.funcs) [] ≡ headers_checked (funcs_view (drop l.k l.funcs)) (reverse (map (λ f. f.name.text) (take l.k l.funcs))))
    × (names_in l.seen ≡ map (λ f. f.name.text) (take l.k l.funcs))
