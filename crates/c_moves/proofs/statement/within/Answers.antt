use Rattle.std.proofs.Common.{ap, sym}
use Rattle.c_grammar.specs.Machine.{within}
use Rattle.c_parts.specs.View.{past_view}
use Rattle.c_moves.proofs.Goes.{goes, goes_option}
use Rattle.c_moves.proofs.statement.within.Goals as goal

pub returns-in-Var : goal.returns-in-Var
returns-in-Var c = goes c.setting.result _ _ (ap (λ w. within c.args.arrays.now w (past_view c.args.past)) (sym c.in-Var.is)) (c.setting.ensures c.args.arrays.now)

pub returns-in-Keyword : goal.returns-in-Keyword
returns-in-Keyword c =
    goes c.keyword_word.result _ _ (ap (λ w. within c.args.arrays.now w (past_view c.args.past)) (sym c.in-Keyword.is)) (c.keyword_word.ensures c.args.arrays.now)

pub returns-in-Sign : goal.returns-in-Sign
returns-in-Sign c =
    goes_option c.sign_word.result _ _ (ap (λ w. within c.args.arrays.now w (past_view c.args.past)) (sym c.in-Sign.is)) (c.sign_word.ensures c.args.arrays.now)
