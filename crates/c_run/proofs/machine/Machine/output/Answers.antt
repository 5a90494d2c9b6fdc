use Rattle.std.proofs.Common.{◌≡◌, arith}
use Rattle.c_tree.specs.Whole.{program_of}
use Rattle.c_run.proofs.Lists.{outputs_count}
use Rattle.c_run.proofs.machine.Machine.output.Goals as goal

pub output-requires : goal.output-requires
output-requires c = let n = outputs_count (program_of c.args.self.now.program.now) c.args.self.now.frame c.args.self.now.shaped in omega (arith, c.requires, n)
