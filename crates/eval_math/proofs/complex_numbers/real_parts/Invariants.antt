use Rattle.std.proofs.Common.{◌≡◌, ◌++◌, drop, length, map}
use Rattle.eval_math.proofs.complex_numbers.real_parts.Given as goal

abbrev pub invariant-loop-z : goal.invariant-loop-z
invariant-loop-z l = record {
  value : l.out.items ++ map (λ z. z.re) (drop l.z-index l.zs) ≡ map (λ z. z.re) l.zs;
  many : length l.out.items ≡ l.z-index;
}
