use Rattle.std.proofs.Common.{ℕ, List, ◌≡◌, ◌∙◌, ap, sym}
use Rattle.std.specs.Prelude.{Option, Some, None}
use Rattle.fic_base.specs.declared.place.Place.{Place}
use Rattle.mat_ast.specs.Tree.{Exp, Words}
use Rattle.mat_ast.specs.View.{expr_view}
use Rattle.mat_grammar.specs.Machine.{Stack, Purpose, Stuck, Have, with_text}
use Rattle.mat_parts.specs.Pending.{stack_of, purpose_view, state_view}
use Rattle.mat_moves.proofs.Goes.{goes_option}
use Rattle.mat_moves.proofs.expression.worded.Goals as goal

no_text : (at : Place) (found : Option (List ℕ)) (st : Stack) (k : Purpose) → found ≡ None → Stuck ≡ with_text at found st k
unfolding with_text
no_text at found st k h = ap (λ (o : Option (List ℕ)). with_text at o st k) (sym h)

a_text : (at : Place) (found : Option (List ℕ)) (text : List ℕ) (e : Exp) (st : Stack) (k : Purpose) → found ≡ Some text → e ≡ Words at text → Have e st k ≡ with_text at found st k
unfolding with_text
a_text at found text e st k h made = ap (λ x. Have x st k) made ∙ ap (λ (o : Option (List ℕ)). with_text at o st k) (sym h)

pub returns-in-None : goal.returns-in-None
returns-in-None c = goes_option c.refuse.result Stuck _ (no_text c.args.place c.args.found (stack_of c.args.pending.frames) (purpose_view c.args.pending.purpose) c.in-None.is) c.refuse.ensures

pub returns-in-Some : goal.returns-in-Some
unfolding state_view
returns-in-Some c =
    a_text c.args.place c.args.found c.in-Some.text (expr_view c.words-part.result.expr) (stack_of c.args.pending.frames) (purpose_view c.args.pending.purpose) c.in-Some.is c.words-part.ensures
