use Rattle.std.proofs.Common.{◌≡◌, ◌∙◌, sym, ap, subst, ℕ, ◌*◌, ◌%◌, ◌^◌, ◌<◌, to_z, of_z, arith}
use Rattle.std.specs.Prelude.{ℤ, pos, ◌-ℤ◌, neg_ℤ, nat_abs}
use Rattle.std.specs.Int.{w64}
use Rattle.std.proofs.lemmas.Int.{ints}
use Rattle.num_type.proofs.Raised.{plain_e}
use Rattle.num_type.proofs.Sums.{neg_m, abs_neg}
use Rattle.num_type.proofs.dyadic.Dyadic.neg.Goals as goal

pub invariant_of-result : goal.invariant_of-result
invariant_of-result c =
    let d = c.args.self in
    let m : ℤ = to_z w64 (of_z w64 (pos 0 -ℤ to_z w64 (of_z w64 d.m))) in
    let size : nat_abs m ≡ nat_abs d.m = ap nat_abs (neg_m d) ∙ abs_neg d.m in
    record {
      zero_form = λ z. plain_e d ∙ d.zero_form (omega (arith, ints, z, neg_m d));
      odd = λ some. ap (λ (n : ℕ). n % 2) size ∙ d.odd (λ z. some (neg_m d ∙ ap neg_ℤ z));
      bits = omega (arith, size, d.bits);
      least = omega (arith, ints, plain_e d, d.least);
      room = λ k h. subst (λ (n : ℕ). n * 2 ^ k < 2 ^ 53) (sym size) (d.room k (sym (plain_e d) ∙ h));
    }

pub returns : goal.returns
returns c = λ i. record { significand = neg_m c.args.self i; exponent = plain_e c.args.self i }
