use Rattle.std.proofs.Common.{◌≡◌, ℕ, refl, subst, arith}
use Rattle.num_type.specs.Constants.{IsSame}
use Rattle.num_type.specs.View.{exact_of}
use Rattle.num_type.proofs.Constants.{constant_same, not_true}
use Rattle.num_type.proofs.Sums.{constant_of}
use Rattle.const_eval.specs.Powers.{power_of}
use Rattle.const_eval.proofs.Powers.{next_power, stops}
use Rattle.const_eval.proofs.whole_power.repeated.Goals as goal

pub returns-in-None-clause-limits : goal.returns-in-None-clause-limits
returns-in-None-clause-limits c =
    (λ t. absurd (not_true t), λ k. c.in-None.ensures.limits.1 (stops c.loop-step.value c.args.base.now c.loop-step._step c.args.times c.loop-step-test.true c.loop-step.invariant k))

pub loop-step-preserved : goal.loop-step-preserved
loop-step-preserved c =
    next_power (exact_of c.loop-step.value) (exact_of c.in-Some.next) (exact_of c.args.base.now) c.loop-step._step c.loop-step.invariant c.in-Some.ensures.same

pub returns-clause-limits : goal.returns-clause-limits
returns-clause-limits c =
    let all : c.loop-step._step ≡ c.args.times = omega arith in
    let same : IsSame (exact_of c.loop-step.value) (power_of (exact_of c.args.base.now) c.args.times) =
    subst (λ (n : ℕ). IsSame (exact_of c.loop-step.value) (power_of (exact_of c.args.base.now) n)) all c.loop-step.invariant in
    (λ t. constant_same (exact_of c.loop-step.value) (power_of (exact_of c.args.base.now) c.args.times) same (constant_of c.loop-step.value), λ k. refl)
