use Rattle.std.proofs.Common.{◌≡◌, ◌≤◌, ◌+◌, ◌-◌, false, length, drop}
use Rattle.std.specs.Prelude.{option_map}
use Rattle.mat_token.specs.Pieces.{closing_len}
use Rattle.mat_token.proofs.pieces.closing_len.Given as goal

abbrev pub invariant-loop-at : goal.invariant-loop-at
invariant-loop-at l =
    (l.at ≤ length l.s) × (option_map (λ n. l.at + n) (closing_len l.quote l.half (drop l.at l.s)) ≡ closing_len l.quote false l.s)

abbrev pub decreases-loop-at : goal.decreases-loop-at
decreases-loop-at l = length l.s - l.at
