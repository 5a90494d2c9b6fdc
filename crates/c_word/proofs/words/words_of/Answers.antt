use Rattle.std.proofs.Common.{◌+◌, ◌∙◌, ap, subst, take, get_or}
use Rattle.std.proofs.lemmas.List.{at_drop_more, at_drop_all}
use Rattle.c_tree.specs.View.{interface_view}
use Rattle.c_token.specs.declared.scan.CToken.{CToken}
use Rattle.c_grammar.specs.Spelled.{IsWordOf}
use Rattle.c_word.proofs.Joins.{word_behind, all_words}
use Rattle.c_word.proofs.words.words_of.Goals as goal

pub loop-token-preserved : goal.loop-token-preserved
loop-token-preserved c =
    let i = interface_view c.args.interface.now in
    let at = c.loop-token.token-index in
    let token : CToken = get_or c.args.tokens.now at (record { offset = 0; len = 0 }) in
    word_behind i c.args.bytes.now c.args.tokens.now at (at + 1) c.loop-token.words.items c.push.new.self.items token c.word_of.result
    (at_drop_more (λ l. l) c.args.tokens.now at (record { offset = 0; len = 0 }) c.loop-token-test.true) c.in_ok-push.ensures.items
    (subst (λ text. IsWordOf i text c.word_of.result) (c.first_bytes-text.ensures ∙ ap (take token.len) c.from_offset.ensures) (c.word_of.ensures i c.in_ok-table.ensures))
    c.loop-token.invariant

pub returns : goal.returns
returns c =
    all_words (interface_view c.args.interface.now) c.args.bytes.now c.args.tokens.now c.loop-token.token-index c.loop-token.words.items
    (at_drop_all (λ l. l) c.args.tokens.now c.loop-token.token-index c.loop-token-test.false) c.loop-token.invariant
