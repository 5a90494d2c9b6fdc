use Rattle.std.proofs.Common.{refl, arith}
use Rattle.std.proofs.lemmas.Int.{ints}
use Rattle.num_type.proofs.dyadic.Dyadic.one.Goals as goal

pub invariant_of-result : goal.invariant_of-result
invariant_of-result c = record {
  zero_form = λ e. refl;
  odd = λ some. refl;
  bits = omega arith;
  least = omega (arith, ints);
  room = λ k e. absurd (omega (arith, ints, e));
}
