use Rattle.std.proofs.Common.{◌∙◌, ap, sym, arith, get_or}
use Rattle.std.proofs.lemmas.Result.{err_from_is_err_and}
use Rattle.mat_ast.specs.View.{funcs_view}
use Rattle.mat_ast.specs.Depth.{file_depth}
use Rattle.mat_token.specs.Lexeme.{lexeme_of, lexemes_of}
use Rattle.mat_grammar.specs.declared.word.Mode.TheVariants as mode
use Rattle.mat_grammar.specs.Machine.{Top, step}
use Rattle.mat_parts.specs.Pending.{state_view}
use Rattle.mat_parse.proofs.Parses.{no_token, at_index, state_more, list_refused, ends_whole, whole_tree, all_read}
use Rattle.mat_parse.proofs.parser.parse_tokens.Goals as goal

pub loop-index-init : goal.loop-index-init
unfolding state_view
loop-index-init c = record {
  within = omega arith;
  is = ap (Top mode.Unknown) c.no_funcs.ensures;
  shallow = omega (arith, ap file_depth c.no_funcs.ensures);
}

pub returns-in_err-reading-clause-refusal : goal.returns-in_err-reading-clause-refusal
returns-in_err-reading-clause-refusal c =
    let p = err_from_is_err_and c.from_residual.result c.from_residual.ensures.1 in
    let i = c.loop-index.index in
    rw (p.1, p.2) (list_refused c.in_err-reading.field-0.0 (lexemes_of c.args.bytes.now c.args.tokens.now) i
    (lexeme_of c.args.bytes.now (get_or c.args.tokens.now i no_token)) c.loop-index.reading
    (at_index c.args.bytes.now c.args.tokens.now i no_token c.loop-index-test.true) c.loop-index.invariant.is
    c.loop-index.invariant.shallow c.in_err-reading.ensures.refusal)

pub loop-index-preserved : goal.loop-index-preserved
loop-index-preserved c =
    let ts = lexemes_of c.args.bytes.now c.args.tokens.now in
    let i = c.loop-index.index in
    let t = lexeme_of c.args.bytes.now (get_or c.args.tokens.now i no_token) in
    record {
      within = omega (arith, c.loop-index-test.true);
      is = c.in_ok-reading.ensures.read.0 ∙ ap (λ q. step q t) c.loop-index.invariant.is
          ∙ sym (state_more ts i t (at_index c.args.bytes.now c.args.tokens.now i no_token c.loop-index-test.true));
      shallow = c.in_ok-reading.ensures.read.1;
    }

pub unreachable-requires : goal.unreachable-requires
unreachable-requires c =
    ends_whole c.args.bytes.now c.args.tokens.now c.loop-index.reading c.requires.finish
    (all_read c.args.bytes.now c.args.tokens.now c.loop-index.index c.loop-index.reading c.loop-index-test.false c.loop-index.invariant.is)
    c.loop-index.invariant.shallow c.in-None.ensures

pub returns-clause-tree : goal.returns-clause-tree
returns-clause-tree c =
    whole_tree (lexemes_of c.args.bytes.now c.args.tokens.now) c.loop-index.reading (funcs_view c.in-Some.funcs.funcs.items)
    (all_read c.args.bytes.now c.args.tokens.now c.loop-index.index c.loop-index.reading c.loop-index-test.false c.loop-index.invariant.is)
    c.loop-index.invariant.shallow c.in-Some.ensures
