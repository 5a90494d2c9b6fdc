-- What a machine holds.
use Rattle.std.specs.Prelude.{ℤ, List, map}
use Rattle.c_tree.specs.Tree.{Program}
use Rattle.c_tree.specs.Whole.{program_of}
use Rattle.c_run.specs.declared.machine.Machine.{Machine}

-- the program that it runs
abbrev pub program_in : Machine → Program
program_in m = program_of m.program.now

-- what its output arrays hold
abbrev pub outputs_in : Machine → List (List ℤ)
outputs_in m = map (λ cells. cells.items) m.frame.outputs
