use Rattle.num_type.specs.Constants.{IsSame}
use Rattle.num_type.specs.View.{exact_of}
use Rattle.const_eval.specs.Powers.{power_of}
use Rattle.const_eval.proofs.whole_power.repeated.Given as goal

abbrev pub invariant-loop-step : goal.invariant-loop-step
invariant-loop-step l = IsSame (exact_of l.value) (power_of (exact_of l.base) l._step)
