use Rattle.c_token.proofs.ElementTexts.{no_cross, a_cross, no_type}
use Rattle.c_token.proofs.kind.read_fixed.Goals as goal

pub returns-in-None : goal.returns-in-None
returns-in-None c = no_cross c.args.text.now c.in-None.ensures

pub returns-in-None-read_type : goal.returns-in-None-read_type
returns-in-None-read_type c = no_type c.args.text.now c.in-None-read_type.ensures

pub returns-in-Some-read_type : goal.returns-in-Some-read_type
returns-in-Some-read_type c = a_cross c.in-Some-read_type.declared c.args.text.now _ _ c.in-Some.ensures.0 c.in-Some-read_type.ensures
