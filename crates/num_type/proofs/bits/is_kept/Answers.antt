use Rattle.std.proofs.Common.{arith}
use Rattle.std.proofs.lemmas.Int.{ints, to_z-of_z}
use Rattle.std.specs.Int.{w64}
use Rattle.num_type.proofs.Constants.{beyond, not_true}
use Rattle.num_type.proofs.bits.is_kept.Goals as goal

pub returns-then-e-gt-EXPONENT_TOP : goal.returns-then-e-gt-EXPONENT_TOP
returns-then-e-gt-EXPONENT_TOP c =
    (λ t. absurd (not_true t), λ k. absurd (beyond c.args.size c.args.e c.requires.odd (omega (arith, ints, to_z-of_z w64 c.args.e c.ranges.e, c.if-e-gt-EXPONENT_TOP.true)) k))
