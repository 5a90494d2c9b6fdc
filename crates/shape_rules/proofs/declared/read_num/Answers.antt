use Rattle.shape_rules.proofs.Readers.{no_bytes, no_sign, signed_type}
use Rattle.shape_rules.proofs.declared.read_num.Goals as goal

pub returns-in-None : goal.returns-in-None
returns-in-None c = no_bytes c.args.bytes.now c.in-None.ensures.cases

pub returns-in-None-read_sign : goal.returns-in-None-read_sign
returns-in-None-read_sign c = no_sign c.in-Some.letter.now c.args.bytes.now c.in-Some.rest.now c.in-Some.ensures.cases.0 c.in-None-read_sign.ensures

pub returns-in-Some-read_sign : goal.returns-in-Some-read_sign
returns-in-Some-read_sign c =
    signed_type c.read_lengths.result c.in-Some-read_sign.signed c.in-Some.letter.now c.args.bytes.now c.in-Some.rest.now c.in-Some.ensures.cases.0 c.in-Some-read_sign.ensures c.read_lengths.ensures
