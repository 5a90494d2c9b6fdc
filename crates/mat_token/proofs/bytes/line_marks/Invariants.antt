use Rattle.std.proofs.Common.{◌≡◌, ◌≤◌, ◌-◌, length, drop}
use Rattle.mat_token.specs.Bytes.{line_marks}
use Rattle.mat_token.proofs.bytes.line_marks.Given as goal

abbrev pub invariant-loop-at : goal.invariant-loop-at
invariant-loop-at l = (l.at ≤ length l.s) × (line_marks l.brace (drop l.at l.s) ≡ line_marks l.brace l.s)

abbrev pub decreases-loop-at : goal.decreases-loop-at
decreases-loop-at l = length l.s - l.at
