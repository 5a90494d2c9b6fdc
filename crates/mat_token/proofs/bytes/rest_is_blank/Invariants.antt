use Rattle.std.proofs.Common.{◌≡◌, ◌≤◌, ◌-◌, length, drop}
use Rattle.mat_token.specs.Bytes.{rest_is_blank}
use Rattle.mat_token.proofs.bytes.rest_is_blank.Given as goal

abbrev pub invariant-loop-at : goal.invariant-loop-at
invariant-loop-at l = (l.at ≤ length l.s) × (rest_is_blank (drop l.at l.s) ≡ rest_is_blank l.s)

abbrev pub decreases-loop-at : goal.decreases-loop-at
decreases-loop-at l = length l.s - l.at
