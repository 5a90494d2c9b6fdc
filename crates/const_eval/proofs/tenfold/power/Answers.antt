use Rattle.std.proofs.Common.{◌*◌, ℕ, ap, arith}
use Rattle.const_eval.proofs.Zeros.{power_room}
use Rattle.const_eval.proofs.tenfold.power.Goals as goal

pub overflow_mul-value : goal.overflow_mul-value
overflow_mul-value c =
    omega (arith, power_room c.args.base c.loop-step._step c.args.exponent c.requires.some c.loop-step-test.true c.requires.few, ap (λ (v : ℕ). v * c.args.base) c.loop-step.invariant)
