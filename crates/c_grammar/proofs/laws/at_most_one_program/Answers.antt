use Rattle.c_grammar.proofs.OneProgram.{one_spelled}
use Rattle.c_grammar.proofs.laws.at_most_one_program.Goals as goal

pub returns : goal.returns
returns c = one_spelled
