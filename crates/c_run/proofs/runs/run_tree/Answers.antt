use Rattle.std.proofs.Common.{◌≡◌, map, vec_items, sym, ap, ◌∙◌}
use Rattle.c_tree.specs.View.{program_view, block_view}
use Rattle.c_tree.specs.Tokens.{block_tokens}
use Rattle.c_tree.specs.Meaning.{run_block}
use Rattle.c_run.specs.View.{word_view}
use Rattle.c_run.specs.Start.{restarted}
use Rattle.c_run.proofs.Lists.{start_is, inputs_fill, words_fill}
use Rattle.c_run.proofs.Endings.{ran_is}
use Rattle.c_run.proofs.runs.run_tree.Goals as goal

pub restart-requires-clause-words : goal.restart-requires-clause-words
restart-requires-clause-words c = words_fill (program_view c.args.tree.now) c.args.frame.now (map word_view c.args.words.now) c.requires.words c.requires.shaped

pub restart-requires-clause-lists : goal.restart-requires-clause-lists
restart-requires-clause-lists c = inputs_fill (program_view c.args.tree.now) c.args.frame.now (map vec_items c.args.inputs.now) c.requires.shaped c.requires.inputs

pub returns-clause-ran : goal.returns-clause-ran
returns-clause-ran c =
    let p = program_view c.args.tree.now in
    let lists = map vec_items c.args.inputs.now in
    ran_is p lists c.args.turns c.args.first c.block_tokens-size.result c.restart.new.self c.block-flow.new.frame c.block-flow.result c.answer.result
    c.requires.first_is
    (c.block_tokens-size.ensures ∙ ap (λ b. block_tokens (block_view b)) c.as_slice-body.ensures)
    (c.restart.ensures.start ∙ ap (λ ws. restarted c.args.frame.now ws lists) c.requires.words ∙ start_is p c.args.frame.now lists c.requires.shaped)
    (c.block-flow.ensures.told ∙ ap (λ b. run_block (block_view b) c.args.turns c.restart.new.self c.args.first) c.as_slice-body.ensures)
    c.answer.ensures
