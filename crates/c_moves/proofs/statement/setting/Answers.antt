use Rattle.std.proofs.Common.{[]}
use Rattle.c_grammar.specs.declared.word.CSign.TheVariants as sign
use Rattle.c_grammar.specs.declared.word.CWordToken.TheVariants as word
use Rattle.c_grammar.specs.Machine.{Stuck, Fixed, Need, Only, ValueOf}
use Rattle.c_parts.specs.View.{past_view, purpose_view}
use Rattle.c_moves.proofs.Goes.{goes, goes_option, undeclared, declared}
use Rattle.c_moves.proofs.statement.setting.Goals as goal

pub returns-in-None : goal.returns-in-None
returns-in-None c = λ all.
    goes_option c.refuse.result Stuck _
    (undeclared c.args.past c.args.number (λ t. Fixed (word.Sign sign.Assign) [] (Need (Only t) [] (ValueOf c.args.number t) (past_view c.args.past)))
    c.as_slice.result.now c.type_of.result c.in-None.is c.type_of.ensures c.as_slice.ensures)
    c.refuse.ensures

pub returns-in-Some : goal.returns-in-Some
unfolding purpose_view
returns-in-Some c = λ all.
    goes c.owed.result _ _
    (declared c.args.past c.args.number (λ t. Fixed (word.Sign sign.Assign) [] (Need (Only t) [] (ValueOf c.args.number t) (past_view c.args.past)))
    c.as_slice.result.now c.type_of.result c.in-Some.t c.in-Some.is c.type_of.ensures c.as_slice.ensures)
    c.owed.ensures
