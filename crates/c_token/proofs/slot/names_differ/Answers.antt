use Rattle.c_token.proofs.Reading.{apart_test}
use Rattle.c_token.proofs.slot.names_differ.Goals as goal

pub returns : goal.returns
returns c = apart_test c.args.slots.now c.differ.result c.differ.ensures
