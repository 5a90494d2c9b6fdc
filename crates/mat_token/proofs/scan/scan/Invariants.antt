use Rattle.std.proofs.Common.{◌≡◌, ◌≤◌, ◌+◌, ◌-◌, length, drop}
use Rattle.mat_token.specs.Reads.{Reads, ReadsWhole, Outcome, preceded}
use Rattle.mat_token.proofs.scan.scan.Given as goal

-- what the rest gives comes behind the tokens so far
pub record Along (l : goal.Live-loop-at) : Type 0 where
  pub within : l.at ≤ length l.bytes
  pub depth : l.context.depth ≤ l.at
  pub offset : l.place.offset ≡ l.at
  pub line : l.place.line ≤ l.at + 1
  pub col : l.place.col ≤ l.at + 1
  pub joins : (o : Outcome) → Reads l.context l.place (drop l.at l.bytes) o → ReadsWhole l.bytes (preceded l.out.items o)

abbrev pub invariant-loop-at : goal.invariant-loop-at
invariant-loop-at l = Along l

abbrev pub decreases-loop-at : goal.decreases-loop-at
decreases-loop-at l = length l.bytes - l.at
