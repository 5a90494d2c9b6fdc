use Rattle.eval_array.specs.Views.{choice_view}
use Rattle.eval_array.proofs.Picked.{whole_chosen}
use Rattle.eval_array.proofs.subscripts.chosen.Goals as goal

pub returns-in_ok-c-in-None : goal.returns-in_ok-c-in-None
returns-in_ok-c-in-None c = whole_chosen c.args.subscript.now c.args.extent (choice_view c.in_ok-c-in-None.c) c.in-None.is c.in_ok-c-in-None.ensures
