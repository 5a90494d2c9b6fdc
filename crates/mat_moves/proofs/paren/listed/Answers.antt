use Rattle.std.proofs.Common.{ℕ, List, ◌≡◌, ap, sym, refl}
use Rattle.fic_base.specs.declared.place.Place.{Place}
use Rattle.mat_ast.specs.Tree.{Args}
use Rattle.mat_ast.specs.View.{args_view}
use Rattle.mat_grammar.specs.declared.word.Word.{Word}
use Rattle.mat_grammar.specs.declared.word.Word.TheVariants as word
use Rattle.mat_grammar.specs.Machine.{Caller, Stuck, listed}
use Rattle.mat_parts.specs.Pending.{caller_view}
use Rattle.mat_moves.proofs.Goes.{goes, goes_option}
use Rattle.mat_moves.proofs.paren.listed.Goals as goal

not_listed : (c : Caller) (name : Place) (text : List ℕ) (opens : Place) (args : Args) (w : Word) → (w ≡ word.Close → ⊥) → (w ≡ word.Comma → ⊥) → Stuck ≡ listed c name text opens args w
unfolding listed
not_listed c name text opens args word.Close h i = absurd (h refl)
not_listed c name text opens args word.Comma h i = absurd (i refl)
not_listed c name text opens args _ h i = refl

pub returns-in-Close : goal.returns-in-Close
unfolding listed
returns-in-Close c = goes c.applied.result _ _ (ap (listed (caller_view c.args.caller) c.args.opened.place c.args.opened.text c.args.opened.opens (args_view c.args.given.args)) (sym c.in-Close.is)) c.applied.ensures

pub returns-in-Comma : goal.returns-in-Comma
unfolding listed
returns-in-Comma c = goes c.need_argument.result _ _ (ap (listed (caller_view c.args.caller) c.args.opened.place c.args.opened.text c.args.opened.opens (args_view c.args.given.args)) (sym c.in-Comma.is)) c.need_argument.ensures

pub returns-in_default : goal.returns-in_default
returns-in_default c =
    goes_option c.refuse.result Stuck _
    (not_listed (caller_view c.args.caller) c.args.opened.place c.args.opened.text c.args.opened.opens (args_view c.args.given.args) c.args.word c.in_default.not-Close c.in_default.not-Comma)
    c.refuse.ensures
