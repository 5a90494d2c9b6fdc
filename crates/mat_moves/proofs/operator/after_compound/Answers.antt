use Rattle.std.proofs.Common.{◌≡◌, sym, subst}
use Rattle.mat_ast.specs.View.{expr_view}
use Rattle.mat_grammar.specs.Machine.{Stuck, Have, go}
use Rattle.mat_parts.specs.Pending.{stack_of, purpose_view}
use Rattle.mat_moves.proofs.Goes.{goes_option, open_stuck}
use Rattle.mat_moves.proofs.operator.after_compound.Goals as goal

pub returns-in-Open : goal.returns-in-Open
returns-in-Open c =
    goes_option c.refuse.result Stuck _
    (subst (λ w. Stuck ≡ go (Have (expr_view c.args.whole.part.expr) (stack_of c.args.pending.frames) (purpose_view c.args.pending.purpose)) c.args.place w
    c.args.own.now) (sym c.in-Open.is)
    (open_stuck c.args.place c.args.own.now (expr_view c.args.whole.part.expr) (stack_of c.args.pending.frames) (purpose_view c.args.pending.purpose)
    c.args.whole.compound))
    c.refuse.ensures
