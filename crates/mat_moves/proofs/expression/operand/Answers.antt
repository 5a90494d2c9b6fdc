use Rattle.std.proofs.Common.{ℕ, List, ◌∷◌, ◌≡◌, ◌∙◌, ap, sym, refl}
use Rattle.fic_base.specs.declared.place.Place.{Place}
use Rattle.mat_ast.specs.declared.tree.BinOp.{BinOp}
use Rattle.mat_ast.specs.View.{rows_view}
use Rattle.mat_grammar.specs.declared.word.Word.{Word}
use Rattle.mat_grammar.specs.declared.word.Word.TheVariants as word
use Rattle.mat_grammar.specs.Machine.{Stack, Purpose, Stuck, Between, need}
use Rattle.mat_parts.specs.Pending.{stack_of, purpose_view, frame_view, state_view}
use Rattle.mat_moves.proofs.Goes.{goes, goes_option}
use Rattle.mat_moves.proofs.expression.operand.Goals as goal

at_word : (at : Place) (w v : Word) (own : List ℕ) (st : Stack) (k : Purpose) → w ≡ v → need at v own st k ≡ need at w own st k
at_word at w v own st k e = ap (λ x. need at x own st k) (sym e)

no_operand : (at : Place) (w : Word) (own : List ℕ) (st : Stack) (k : Purpose) → (w ≡ word.Number → ⊥) → (w ≡ word.Quoted → ⊥) → (w ≡ word.Name → ⊥)
    → ((op : BinOp) → w ≡ word.Infix op → ⊥) → (w ≡ word.Tilde → ⊥) → (w ≡ word.Open → ⊥) → (w ≡ word.OpenSquare → ⊥) → (w ≡ word.End → ⊥)
    → (w ≡ word.Colon → ⊥) → Stuck ≡ need at w own st k
unfolding need
no_operand at word.Number own st k n q a i t o s e c = absurd (n refl)
no_operand at word.Quoted own st k n q a i t o s e c = absurd (q refl)
no_operand at word.Name own st k n q a i t o s e c = absurd (a refl)
no_operand at (word.Infix op) own st k n q a i t o s e c = absurd (i op refl)
no_operand at word.Tilde own st k n q a i t o s e c = absurd (t refl)
no_operand at word.Open own st k n q a i t o s e c = absurd (o refl)
no_operand at word.OpenSquare own st k n q a i t o s e c = absurd (s refl)
no_operand at word.End own st k n q a i t o s e c = absurd (e refl)
no_operand at word.Colon own st k n q a i t o s e c = absurd (c refl)
no_operand at _ own st k n q a i t o s e c = refl

pub returns-in-Number : goal.returns-in-Number
returns-in-Number c =
    goes c.numbered.result _ _ (at_word c.args.place c.args.word word.Number c.args.own.now (stack_of c.args.pending.frames) (purpose_view c.args.pending.purpose) c.in-Number.is) c.numbered.ensures

pub returns-in-Quoted : goal.returns-in-Quoted
unfolding need
returns-in-Quoted c =
    goes c.quoted.result _ _ (at_word c.args.place c.args.word word.Quoted c.args.own.now (stack_of c.args.pending.frames) (purpose_view c.args.pending.purpose) c.in-Quoted.is) c.quoted.ensures

pub returns-in-Name : goal.returns-in-Name
unfolding need
returns-in-Name c =
    goes c.name_value.result _ _ (at_word c.args.place c.args.word word.Name c.args.own.now (stack_of c.args.pending.frames) (purpose_view c.args.pending.purpose) c.in-Name.is) c.name_value.ensures

pub returns-in-Infix : goal.returns-in-Infix
unfolding need
returns-in-Infix c =
    goes c.infix.result _ _
    (at_word c.args.place c.args.word (word.Infix c.in-Infix.op) c.args.own.now (stack_of c.args.pending.frames) (purpose_view c.args.pending.purpose) c.in-Infix.is) c.infix.ensures

pub returns-in-Tilde : goal.returns-in-Tilde
unfolding need
returns-in-Tilde c =
    goes c.sign.result _ _ (at_word c.args.place c.args.word word.Tilde c.args.own.now (stack_of c.args.pending.frames) (purpose_view c.args.pending.purpose) c.in-Tilde.is) c.sign.ensures

pub returns-in-Open : goal.returns-in-Open
unfolding need frame_view
returns-in-Open c =
    goes c.wait.result _ _ (at_word c.args.place c.args.word word.Open c.args.own.now (stack_of c.args.pending.frames) (purpose_view c.args.pending.purpose) c.in-Open.is) c.wait.ensures

pub returns-in-OpenSquare : goal.returns-in-OpenSquare
unfolding need state_view
returns-in-OpenSquare c =
    ap (λ rows. Between c.args.place rows (stack_of c.args.pending.frames) (purpose_view c.args.pending.purpose)) c.no_rows.ensures
    ∙ at_word c.args.place c.args.word word.OpenSquare c.args.own.now (stack_of c.args.pending.frames) (purpose_view c.args.pending.purpose) c.in-OpenSquare.is

pub returns-in-End : goal.returns-in-End
unfolding need
returns-in-End c =
    goes_option c.end_value.result _ _ (at_word c.args.place c.args.word word.End c.args.own.now (stack_of c.args.pending.frames) (purpose_view c.args.pending.purpose) c.in-End.is) c.end_value.ensures

pub returns-in-Colon : goal.returns-in-Colon
unfolding need
returns-in-Colon c =
    goes c.colon_item.result _ _ (at_word c.args.place c.args.word word.Colon c.args.own.now (stack_of c.args.pending.frames) (purpose_view c.args.pending.purpose) c.in-Colon.is) c.colon_item.ensures

pub returns-in_default : goal.returns-in_default
returns-in_default c =
    goes_option c.refuse.result Stuck _
    (no_operand c.args.place c.args.word c.args.own.now (stack_of c.args.pending.frames) (purpose_view c.args.pending.purpose)
    c.in_default.not-Number c.in_default.not-Quoted c.in_default.not-Name c.in_default.not-Infix c.in_default.not-Tilde c.in_default.not-Open
    c.in_default.not-OpenSquare c.in_default.not-End c.in_default.not-Colon)
    c.refuse.ensures
