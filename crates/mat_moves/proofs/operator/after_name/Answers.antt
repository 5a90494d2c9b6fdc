use Rattle.std.proofs.Common.{ap, sym, subst, ◌≡◌}
use Rattle.mat_ast.specs.Tree.{Name}
use Rattle.mat_grammar.specs.Machine.{Have, Begun, InValue, go}
use Rattle.mat_parts.specs.Pending.{stack_of, purpose_view, state_view, caller_view}
use Rattle.mat_moves.proofs.Goes.{goes, open_name}
use Rattle.mat_moves.proofs.operator.after_name.Goals as goal

pub returns-in-Open : goal.returns-in-Open
unfolding state_view caller_view
returns-in-Open c =
    subst (λ w. Begun (InValue (stack_of c.args.pending.frames) (purpose_view c.args.pending.purpose)) c.args.at c.args.text c.args.place ≡ go
    (Have (Name c.args.at c.args.text) (stack_of c.args.pending.frames) (purpose_view c.args.pending.purpose)) c.args.place w c.args.own.now)
    (sym c.in-Open.is) (open_name c.args.at c.args.place c.args.text c.args.own.now (stack_of c.args.pending.frames) (purpose_view c.args.pending.purpose))

pub returns-in_default : goal.returns-in_default
returns-in_default c =
    goes c.after_part.result _ _ (ap (λ e. go (Have e (stack_of c.args.pending.frames) (purpose_view c.args.pending.purpose)) c.args.place c.args.word
    c.args.own.now) c.name.ensures) c.after_part.ensures
