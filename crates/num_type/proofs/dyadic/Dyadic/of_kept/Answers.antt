use Rattle.std.proofs.Common.{◌≡◌, ◌∙◌, sym, ap, subst, ◌*◌, ◌%◌, ◌^◌, ◌<◌, to_z, of_z, arith}
use Rattle.std.specs.Prelude.{ℤ, negsuc, ◌≤ℤ◌, nat_abs}
use Rattle.std.specs.Int.{w32, w64}
use Rattle.std.proofs.lemmas.Int.{ints, to_z-of_z}
use Rattle.num_type.proofs.dyadic.Dyadic.of_kept.Goals as goal

pub invariant_of-result : goal.invariant_of-result
invariant_of-result c =
    let m : to_z w64 (of_z w64 c.args.m) ≡ c.args.m = to_z-of_z w64 c.args.m c.ranges.m in
    let e : to_z w32 (of_z w32 c.args.e) ≡ c.args.e = to_z-of_z w32 c.args.e c.ranges.e in
    record {
      zero_form = λ z. absurd (omega (arith, ints, z, m, c.requires.odd));
      odd = λ some. ap (λ (z : ℤ). nat_abs z % 2) m ∙ c.requires.odd;
      bits = subst (λ (z : ℤ). nat_abs z < 2 ^ 53) (sym m) c.requires.kept.bits;
      least = subst (λ (z : ℤ). negsuc 399 ≤ℤ z) (sym e) c.requires.kept.least;
      room = λ k h. subst (λ (z : ℤ). nat_abs z * 2 ^ k < 2 ^ 53) (sym m) (c.requires.kept.room k (sym e ∙ h));
    }
