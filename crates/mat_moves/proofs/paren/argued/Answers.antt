use Rattle.std.proofs.Common.{ℕ, List, ◌≡◌, ap, sym, refl}
use Rattle.fic_base.specs.declared.place.Place.{Place}
use Rattle.mat_ast.specs.Tree.{Exp, Args}
use Rattle.mat_ast.specs.View.{args_view, expr_view}
use Rattle.mat_grammar.specs.declared.word.Word.{Word}
use Rattle.mat_grammar.specs.declared.word.Word.TheVariants as word
use Rattle.mat_grammar.specs.Machine.{Caller, Stuck, argued}
use Rattle.mat_parts.specs.Pending.{caller_view}
use Rattle.mat_moves.proofs.Goes.{goes, goes_option}
use Rattle.mat_moves.proofs.paren.argued.Goals as goal

at_word : (w v : Word) (e : Exp) (c : Caller) (name : Place) (text : List ℕ) (opens : Place) (args : Args) → w ≡ v → argued v e c name text opens args ≡ argued w e c name text opens args
at_word w v e c name text opens args h = ap (λ x. argued x e c name text opens args) (sym h)

not_argued : (w : Word) (e : Exp) (c : Caller) (name : Place) (text : List ℕ) (opens : Place) (args : Args) → (w ≡ word.Close → ⊥) → (w ≡ word.Comma → ⊥) → Stuck ≡ argued w e c name text opens args
unfolding argued
not_argued word.Close e c name text opens args h i = absurd (h refl)
not_argued word.Comma e c name text opens args h i = absurd (i refl)
not_argued _ e c name text opens args h i = refl

pub returns-in-Close : goal.returns-in-Close
unfolding argued
returns-in-Close c =
    goes c.last_argument.result _ _
    (at_word c.args.word word.Close (expr_view c.args.part.expr) (caller_view c.args.caller) c.args.opened.place c.args.opened.text c.args.opened.opens (args_view c.args.given.args) c.in-Close.is)
    c.last_argument.ensures

pub returns-in-Comma : goal.returns-in-Comma
unfolding argued
returns-in-Comma c =
    goes c.next_argument.result _ _
    (at_word c.args.word word.Comma (expr_view c.args.part.expr) (caller_view c.args.caller) c.args.opened.place c.args.opened.text c.args.opened.opens (args_view c.args.given.args) c.in-Comma.is)
    c.next_argument.ensures

pub returns-in_default : goal.returns-in_default
returns-in_default c =
    goes_option c.refuse_behind.result Stuck _
    (not_argued c.args.word (expr_view c.args.part.expr) (caller_view c.args.caller) c.args.opened.place c.args.opened.text c.args.opened.opens (args_view c.args.given.args) c.in_default.not-Close c.in_default.not-Comma)
    c.refuse_behind.ensures
