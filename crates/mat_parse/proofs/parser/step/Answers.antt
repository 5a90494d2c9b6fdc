use Rattle.std.proofs.Common.{◌≡◌, ◌∙◌, true, false, ap, sym, subst}
use Rattle.mat_token.specs.Lexeme.{lexeme_of}
use Rattle.mat_grammar.specs.Machine.{go, step}
use Rattle.mat_grammar.specs.Words.{word_of}
use Rattle.mat_parts.specs.Pending.{Goes, state_view}
use Rattle.mat_parse.proofs.Parses.{deep_refused}
use Rattle.mat_parse.proofs.parser.step.Goals as goal

pub returns-else-is_shallow-clause-refusal : goal.returns-else-is_shallow-clause-refusal
returns-else-is_shallow-clause-refusal c =
    let q = state_view c.args.reading in
    let at = c.args.token.place in
    let gone : state_view c.in-Some.next ≡ go q at c.word_of.result c.text_of-own.result.now =
    subst (λ o. Goes o (go q at c.word_of.result c.text_of-own.result.now)) c.in-Some.is c.in_ok-advance.ensures in
    let goes : state_view c.in-Some.next ≡ step q (lexeme_of c.args.bytes.now c.args.token) =
    gone ∙ ap (λ w. go q at w c.text_of-own.result.now) c.word_of.ensures ∙ ap (λ own. go q at (word_of c.args.token.kind own) own) c.text_of-own.ensures in
    deep_refused c.too_deep.result (step q (lexeme_of c.args.bytes.now c.args.token))
    (lexeme_of c.args.bytes.now c.args.token) c.in-Some.next c.too_deep.ensures goes
    (λ l. let t : true ≡ false = sym (c.is_shallow.ensures.1 l) ∙ c.if-is_shallow.false in cc)
