use Rattle.c_tree.specs.Tree.{Var}
use Rattle.c_grammar.specs.Machine.{Stuck, give, wants, when}
use Rattle.c_parts.specs.View.{frames_of, want_view, purpose_view, past_view}
use Rattle.c_moves.proofs.Goes.{goes, goes_option, undeclared, declared}
use Rattle.c_moves.proofs.operand.named.Goals as goal

pub returns-in-None : goal.returns-in-None
returns-in-None c =
    goes_option c.refuse.result Stuck _
    (undeclared c.args.pending.past c.args.number (λ t. when (wants (want_view c.args.want) t) (give (Var c.args.number) t (frames_of c.args.pending.frames) (purpose_view c.args.pending.purpose) (past_view c.args.pending.past)))
    c.as_slice.result.now c.type_of.result c.in-None.is c.type_of.ensures c.as_slice.ensures)
    c.refuse.ensures

pub returns-in-Some : goal.returns-in-Some
returns-in-Some c =
    goes c.wanted.result _ _
    (declared c.args.pending.past c.args.number (λ t. when (wants (want_view c.args.want) t) (give (Var c.args.number) t (frames_of c.args.pending.frames) (purpose_view c.args.pending.purpose) (past_view c.args.pending.past)))
    c.as_slice.result.now c.type_of.result c.in-Some.t c.in-Some.is c.type_of.ensures c.as_slice.ensures)
    c.wanted.ensures
