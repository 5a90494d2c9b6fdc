use Rattle.std.proofs.Common.{◌≤◌, ◌-◌, length, drop}
use Rattle.c_token.specs.Scan.{IsLength}
use Rattle.c_token.proofs.Scanning.{Joins}
use Rattle.c_token.proofs.scan.tokens.Given as goal

-- the rest comes behind the tokens so far
pub record Along (l : goal.Live-loop-len) : Type 0 where
  pub within : l.at ≤ length l.bytes
  pub longest : IsLength l.len (drop l.at l.bytes)
  pub joins : Joins l.bytes l.tokens.items l.at

abbrev pub invariant-loop-len : goal.invariant-loop-len
invariant-loop-len l = Along l

abbrev pub decreases-loop-len : goal.decreases-loop-len
decreases-loop-len l = length l.bytes - l.at
