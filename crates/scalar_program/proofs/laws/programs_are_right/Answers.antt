use Rattle.scalar_program.proofs.Whole.{program_right}
use Rattle.scalar_program.proofs.laws.programs_are_right.Goals as goal

pub returns : goal.returns
returns c = program_right
