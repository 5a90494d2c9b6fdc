-- The greatest number of an unsigned type: the ones of 128 bits, shifted right.
use Rattle.std.proofs.Common.{◌≡◌, ◌≤◌, ℕ, ◌-◌, ◌^◌, ◌/◌, arith, ap, ◌∙◌}
use Rattle.std.proofs.lemmas.Nat.Bits.{ones_shr}
use Rattle.num_type.proofs.num_type.NumType.high.Goals as goal

ones_of : (w : ℕ) → w ≤ 128 → (2 ^ 128 - 1) / 2 ^ (128 - w) ≡ 2 ^ w - 1
ones_of w h =
    let e : 128 - (128 - w) ≡ w = omega arith in
    ones_shr 128 (128 - w) (omega arith) ∙ ap (λ (n : ℕ). 2 ^ n - 1) e

pub returns-else-self : goal.returns-else-self
returns-else-self c = grind (arith, ones_of c.args.self.word (omega arith))
