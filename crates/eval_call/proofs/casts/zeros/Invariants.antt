use Rattle.std.proofs.Common.{◌≡◌, ◌++◌, map, drop}
use Rattle.std.specs.Prelude.{ℤ, pos}
use Rattle.eval_call.proofs.casts.zeros.Given as goal

abbrev pub invariant-loop-x : goal.invariant-loop-x
invariant-loop-x l = l.out.items ++ map (λ (x : ℤ). pos 0) (drop l.x-index l.xs) ≡ map (λ (x : ℤ). pos 0) l.xs
