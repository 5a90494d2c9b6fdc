use Rattle.std.proofs.Common.{◌≡◌, ◌≤◌, ◌+◌, ◌-◌, length, drop}
use Rattle.std.specs.List.{prefix_len}
use Rattle.mat_token.specs.Bytes.{is_line_byte}
use Rattle.mat_token.proofs.pieces.line_len.Given as goal

abbrev pub invariant-loop-at : goal.invariant-loop-at
invariant-loop-at l = (l.at ≤ length l.s) × (l.at + prefix_len is_line_byte (drop l.at l.s) ≡ prefix_len is_line_byte l.s)

abbrev pub decreases-loop-at : goal.decreases-loop-at
decreases-loop-at l = length l.s - l.at
