use Rattle.std.proofs.Common.{sym, subst}
use Rattle.mat_ast.specs.View.{funcs_view}
use Rattle.mat_token.specs.Kept.{AreTokensOf}
use Rattle.mat_token.proofs.Kept.{tokens_kept}
use Rattle.mat_grammar.proofs.Keeps.{tokens_keep}
use Rattle.mat_parse.proofs.parser.parse_list.Goals as goal

pub parse_tokens-requires : goal.parse_tokens-requires
parse_tokens-requires c = subst (AreTokensOf c.args.bytes.now) (sym c.tokens.ensures) (tokens_kept c.args.bytes.now c.args.list.now c.requires)

pub make-requires : goal.make-requires
make-requires c =
    let kept : AreTokensOf c.args.bytes.now c.tokens.result.now = subst (AreTokensOf c.args.bytes.now) (sym c.tokens.ensures)
    (tokens_kept c.args.bytes.now c.args.list.now c.requires) in
    tokens_keep c.args.bytes.now c.tokens.result.now (funcs_view c.in_ok-funcs.funcs.funcs.items) kept c.in_ok-funcs.ensures.tree.0
