use Rattle.std.proofs.Common.{ℕ, ◌≡◌, ◌^◌, subst, arith}
use Rattle.std.specs.Prelude.{pos, ◌*ℤ◌}
use Rattle.std.proofs.lemmas.Int.{ints}
use Rattle.num_type.specs.View.{type_of}
use Rattle.fi_quant.specs.Round.{IsRounded}
use Rattle.fi_quant.specs.Fit.{IsFit}
use Rattle.fi_quant.proofs.fitting.quantise_by.Goals as goal

pub returns-then-f-fraction : goal.returns-then-f-fraction
returns-then-f-fraction c = record {
  widened = λ n e. let same : c.gap.result ≡ n = omega (arith, ints, c.fraction-fraction.ensures.value) in
      let P : ℕ → Type 0 = λ i. IsFit c.args.action (type_of c.args.t) (c.args.z *ℤ pos (2 ^ i)) c.fit_shifted.result in subst P same c.fit_shifted.ensures;
  narrowed = λ k e h. absurd (omega (arith, ints, c.fraction-fraction.ensures.value));
}

pub returns-else-f-fraction : goal.returns-else-f-fraction
returns-else-f-fraction c = record {
  widened = λ n e. absurd (omega (arith, ints, c.fraction-fraction.ensures.value));
  narrowed = λ k e h. let same : c.gap-else-f-fraction.result ≡ k = omega (arith, ints, c.fraction-fraction.ensures.value) in
      let P : ℕ → Type 0 = λ i. IsRounded c.args.method c.args.z i c.round.result in (c.round.result, subst P same c.round.ensures.meets, c.fit.ensures.meets);
}
