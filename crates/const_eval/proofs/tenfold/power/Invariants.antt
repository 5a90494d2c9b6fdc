use Rattle.std.proofs.Common.{◌≡◌, ◌^◌}
use Rattle.const_eval.proofs.tenfold.power.Given as goal

abbrev pub invariant-loop-step : goal.invariant-loop-step
invariant-loop-step l = l.value ≡ l.base ^ l._step
