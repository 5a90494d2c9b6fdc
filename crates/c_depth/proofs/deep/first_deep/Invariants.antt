use Rattle.std.proofs.Common.{◌≡◌, ℕ, ◌-◌, ◌<◌, ◌≤◌, length, drop, get_or}
use Rattle.c_tree.specs.Depth.{depth_limit}
use Rattle.c_depth.specs.Read.{read_depths, word_depths}
use Rattle.c_depth.specs.View.{level_view}
use Rattle.c_depth.proofs.deep.first_deep.Given as goal

-- the depths that are left are read off the words that are left, and those before are no deeper than a text may be
abbrev pub invariant-loop-at : goal.invariant-loop-at
invariant-loop-at l = record {
  within : l.at ≤ length l.words;
  left : drop l.at (word_depths l.words) ≡ read_depths (level_view l.level) (drop l.at l.words);
  before : (k : ℕ) → k < l.at → get_or (word_depths l.words) k 0 ≤ depth_limit;
}

abbrev pub decreases-loop-at : goal.decreases-loop-at
decreases-loop-at l = length l.words - l.at
