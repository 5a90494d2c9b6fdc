use Rattle.std.proofs.Common.{ℕ, ◌≡◌, ◌-◌, ◌^◌, ap, ◌∙◌, arith}
use Rattle.std.proofs.lemmas.Nat.Bits.{ones_shr}
use Rattle.lower_scalar.proofs.numbers.ones.Goals as goal

pub returns : goal.returns
returns c = ones_shr 64 (64 - c.args.n) (omega arith) ∙ ap (λ (k : ℕ). 2 ^ k - 1) (let e : 64 - (64 - c.args.n) ≡ c.args.n = omega arith in e)
