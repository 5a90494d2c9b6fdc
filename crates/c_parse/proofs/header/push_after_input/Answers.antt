use Rattle.c_parse.proofs.Headers.{after_input}
use Rattle.c_parts.proofs.Stacks.{on_ok}
use Rattle.c_parse.proofs.header.push_after_input.Goals as goal

pub returns : goal.returns
returns c =
    on_ok c.push_outputs.result (λ h. after_input c.args.words.now c.push.new.self c.push_array.new.words c.push_inputs.new.words c.push_outputs.new.words
    c.args.array.now c.args.more.now c.args.outputs.now c.in_ok-push.ensures.ok c.in_ok-push_array.ensures c.in_ok-push_inputs.ensures h)
    c.push_outputs.ensures
