-- How many group loops and local arrays a program has.
use Rattle.std.specs.Prelude.{ℕ, ◌+◌, ◌==◌, ◌&&◌, if◌then◌else◌, List, [], ◌∷◌}
use Rattle.num_type.specs.declared.container.Container.{Container}
use Rattle.num_type.specs.declared.container.Container.TheVariants.{I8, I16, I32, I64, U8, U16, U32, U64}
use Rattle.c_tree.specs.declared.tree.CounterKind.{CounterKind}
use Rattle.c_tree.specs.declared.tree.CounterKind.TheVariants as counter
use Rattle.c_tree.specs.declared.tree.LocalArray.{LocalArray}
use Rattle.c_tree.specs.Tree.{Sta, If, IfElse, For, While, Block, Done, Next}

-- 1 for a counter of group loops
abbrev pub group_loop : CounterKind → ℕ
group_loop counter.Group = 1
group_loop counter.Barrier = 0
group_loop counter.Source = 0
group_loop counter.Turn = 0

-- the loops whose counter is one of group loops
abbrev mutual
  pub group_loops : Sta → ℕ
  group_loops (If t body) = all_group_loops body
  group_loops (IfElse t body other) = all_group_loops body + all_group_loops other
  group_loops (For c count body) = group_loop c.kind + all_group_loops body
  group_loops (While t body) = all_group_loops body
  group_loops _ = 0

  pub all_group_loops : Block → ℕ
  all_group_loops Done = 0
  all_group_loops (Next s more) = group_loops s + all_group_loops more

-- the place of a container among all of them
abbrev pub container_number : Container → ℕ
container_number I8 = 0
container_number I16 = 1
container_number I32 = 2
container_number I64 = 3
container_number U8 = 4
container_number U16 = 5
container_number U32 = 6
container_number U64 = 7

-- the local arrays of this container and this many elements
abbrev pub alike : List LocalArray → Container → ℕ → ℕ
alike [] c n = 0
alike (a ∷ more) c n = (if container_number a.container == container_number c && a.count == n then 1 else 0) + alike more c n
