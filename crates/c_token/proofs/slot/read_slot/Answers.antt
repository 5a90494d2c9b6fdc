use Rattle.std.proofs.lemmas.Bool.{false≢true}
use Rattle.c_token.proofs.Reading.{no_colon, no_name, no_kind}
use Rattle.c_token.proofs.slot.read_slot.Goals as goal

pub returns-then-not-is_name : goal.returns-then-not-is_name
returns-then-not-is_name c = no_name c.args.word.now c.in-Some.name.now c.in-Some.text.now c.in-Some.ensures.0 c.in-Some.ensures.1 (λ n. false≢true (c.if-not-is_name.ensures.1 n))

pub returns-in-None : goal.returns-in-None
returns-in-None c = no_colon c.args.word.now c.in-None.ensures

pub returns-in-None-read_kind : goal.returns-in-None-read_kind
returns-in-None-read_kind c = no_kind c.args.word.now c.in-Some.name.now c.in-Some.text.now c.in-Some.ensures.0 c.in-Some.ensures.1 c.in-None-read_kind.ensures
