use Rattle.std.proofs.Common.{◌≡◌, ap, sym, refl}
use Rattle.fic_base.specs.declared.place.Place.{Place}
use Rattle.mat_ast.specs.Tree.{Exp}
use Rattle.mat_ast.specs.View.{expr_view}
use Rattle.mat_grammar.specs.declared.word.Word.{Word}
use Rattle.mat_grammar.specs.declared.word.Word.TheVariants as word
use Rattle.mat_grammar.specs.Machine.{Stack, Purpose, Stuck, closing}
use Rattle.mat_parts.specs.Pending.{stack_of, purpose_view}
use Rattle.mat_moves.proofs.Goes.{goes, goes_option}
use Rattle.mat_moves.proofs.operator.closing.Goals as goal

not_closing : (w : Word) (e : Exp) (at : Place) (st : Stack) (k : Purpose) → (w ≡ word.Close → ⊥) → Stuck ≡ closing w e at st k
unfolding closing
not_closing word.Close e at st k h = absurd (h refl)
not_closing _ e at st k h = refl

pub returns-in-Close : goal.returns-in-Close
unfolding closing
returns-in-Close c =
    goes c.parenthesised.result _ _ (ap (λ w. closing w (expr_view c.args.part.expr) c.args.opens (stack_of c.args.pending.frames)
    (purpose_view c.args.pending.purpose)) (sym c.in-Close.is)) c.parenthesised.ensures

pub returns-in_default : goal.returns-in_default
returns-in_default c =
    goes_option c.refuse.result Stuck _ (not_closing c.args.word (expr_view c.args.part.expr) c.args.opens (stack_of c.args.pending.frames)
    (purpose_view c.args.pending.purpose) c.in_default.not-Close) c.refuse.ensures
