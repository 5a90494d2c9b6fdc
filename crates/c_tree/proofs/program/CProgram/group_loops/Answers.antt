use Rattle.std.proofs.Common.{arith}
use Rattle.c_tree.specs.declared.tree.CounterKind.TheVariants.{Group}
use Rattle.c_tree.specs.View.{program_view}
use Rattle.c_tree.proofs.Loops.{few_group_loops}
use Rattle.c_tree.proofs.program.CProgram.group_loops.Goals as goal

pub all_loops_of-requires : goal.all_loops_of-requires
all_loops_of-requires c =
    let p = program_view c.args.self.now.tree in
    let h = c.args.self.now.well_formed in
    rw c.as_slice.ensures (omega (arith, few_group_loops p h, h.declarations.few_counters Group))
