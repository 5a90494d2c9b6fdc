use Rattle.std.proofs.Common.{◌≡◌, ◌≤◌, ◌+◌, take}
use Rattle.mat_token.specs.Reads.{place_after}
use Rattle.mat_token.proofs.place.place_after.Given as goal

abbrev pub invariant-loop-b : goal.invariant-loop-b
invariant-loop-b l =
    (l.place ≡ place_after l.fn.at (take l.b-index l.text)) × (l.place.offset ≡ l.fn.at.offset + l.b-index)
    × (l.place.line ≤ l.fn.at.line + l.b-index) × (l.place.col ≤ l.fn.at.col + l.b-index)
