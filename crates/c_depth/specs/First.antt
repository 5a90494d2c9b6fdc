-- The first token that is deeper than a text may be.
use Rattle.std.specs.Prelude.{ℕ, ◌≤◌, ◌<◌, length, Option, Some, None, slice_index}
use Rattle.c_tree.specs.Depth.{depth_limit}
use Rattle.c_tree.specs.Depths.{Depths}

-- so many tokens stand before the first one that is deeper; None where none is
abbrev pub IsFirstDeep : Option ℕ → Depths → Type 0
IsFirstDeep None ds = (k : ℕ) → slice_index ds k ≤ depth_limit
IsFirstDeep (Some n) ds = (n < length ds) × (depth_limit < slice_index ds n) × ((k : ℕ) → k < n → slice_index ds k ≤ depth_limit)
