use Rattle.c_tree.proofs.LaidProgram.{layout_is_text}
use Rattle.c_tree.proofs.laws.layout_is_a_text.Goals as goal

pub returns : goal.returns
returns c = layout_is_text
