use Rattle.c_tree.proofs.Example.{computed_text, computed_value, example_is_well_formed}
use Rattle.c_tree.proofs.laws.worked_program.Goals as goal

pub returns-clause-text : goal.returns-clause-text
returns-clause-text c = computed_text

pub returns-clause-value : goal.returns-clause-value
returns-clause-value c = computed_value

pub returns-clause-well_formed : goal.returns-clause-well_formed
returns-clause-well_formed c = example_is_well_formed
