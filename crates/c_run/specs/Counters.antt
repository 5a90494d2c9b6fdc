-- Counters at 0.
use Rattle.std.specs.Prelude.{◌≡◌, replicate}
use Rattle.c_tree.specs.declared.tree.CTree.{CTree}
use Rattle.c_run.specs.declared.tallies.Tallies.{Tallies}

-- as many as a tree declares, each at 0
pub record AreZeros (t : Tallies) (tree : CTree) : Type 0 where
  pub groups : t.groups.items ≡ replicate tree.groups 0
  pub barriers : t.barriers.items ≡ replicate tree.barriers 0
  pub sources : t.sources.items ≡ replicate tree.sources 0
  pub turns : t.turns.items ≡ replicate tree.turns 0
