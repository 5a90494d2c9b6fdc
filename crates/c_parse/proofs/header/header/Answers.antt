use Rattle.c_parse.proofs.Headers.{whole_header}
use Rattle.c_parse.proofs.header.header.Goals as goal

pub returns : goal.returns
returns c =
    whole_header c.in_ok-words.words c.push.new.self c.push_parameters.new.words c.push-2.new.self c.push-3.new.self
    c.args.arrays.now.inputs c.args.arrays.now.outputs c.as_slice.result.now c.as_slice-2.result.now
    c.in_ok-words.ensures c.in_ok-push.ensures.ok c.in_ok-push_parameters.ensures c.as_slice.ensures c.as_slice-2.ensures
    c.in_ok-push-2.ensures.ok c.in_ok-push-3.ensures.ok
