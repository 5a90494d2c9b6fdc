use Rattle.std.proofs.Common.{ℕ, List, ◌≡◌, ap, sym, refl}
use Rattle.fic_base.specs.declared.place.Place.{Place}
use Rattle.mat_ast.specs.declared.tree.BinOp.{BinOp}
use Rattle.mat_ast.specs.declared.tree.PostOp.{PostOp}
use Rattle.mat_ast.specs.Tree.{Exp}
use Rattle.mat_ast.specs.View.{expr_view}
use Rattle.mat_grammar.specs.declared.word.Word.{Word}
use Rattle.mat_grammar.specs.declared.word.Word.TheVariants as word
use Rattle.mat_grammar.specs.Machine.{Stack, Purpose, ended, have}
use Rattle.mat_parts.specs.Pending.{stack_of, purpose_view}
use Rattle.mat_moves.proofs.Goes.{goes}
use Rattle.mat_moves.proofs.operator.settled.Goals as goal

at_word : (at : Place) (w v : Word) (own : List ℕ) (e : Exp) (st : Stack) (k : Purpose) → w ≡ v → have at v own e st k ≡ have at w own e st k
at_word at w v own e st k h = ap (λ x. have at x own e st k) (sym h)

ends_operand : (at : Place) (w : Word) (own : List ℕ) (e : Exp) (st : Stack) (k : Purpose) → ((o : BinOp) → w ≡ word.Infix o → ⊥)
    → ((m : PostOp) → w ≡ word.Turn m → ⊥)
    → (w ≡ word.Colon → ⊥) → (w ≡ word.Open → ⊥) → ended at w own e st k ≡ have at w own e st k
unfolding have
ends_operand at (word.Infix o) own e st k i t c n = absurd (i o refl)
ends_operand at (word.Turn m) own e st k i t c n = absurd (t m refl)
ends_operand at word.Colon own e st k i t c n = absurd (c refl)
ends_operand at word.Open own e st k i t c n = absurd (n refl)
ends_operand at _ own e st k i t c n = refl

pub returns-in-Infix : goal.returns-in-Infix
unfolding have
returns-in-Infix c =
    goes c.operator.result _ _ (at_word c.args.place c.args.word (word.Infix c.in-Infix.op) c.args.own.now (expr_view c.args.part.expr)
    (stack_of c.args.pending.frames) (purpose_view c.args.pending.purpose) c.in-Infix.is) c.operator.ensures

pub returns-in-Turn : goal.returns-in-Turn
unfolding have
returns-in-Turn c =
    goes c.turn.result _ _ (at_word c.args.place c.args.word (word.Turn c.in-Turn.mark) c.args.own.now (expr_view c.args.part.expr)
    (stack_of c.args.pending.frames) (purpose_view c.args.pending.purpose) c.in-Turn.is) c.turn.ensures

pub returns-in-Colon : goal.returns-in-Colon
unfolding have
returns-in-Colon c =
    goes c.colon.result _ _ (at_word c.args.place c.args.word word.Colon c.args.own.now (expr_view c.args.part.expr) (stack_of c.args.pending.frames)
    (purpose_view c.args.pending.purpose) c.in-Colon.is) c.colon.ensures

pub returns-in_default : goal.returns-in_default
returns-in_default c =
    goes c.ended.result _ _
    (ends_operand c.args.place c.args.word c.args.own.now (expr_view c.args.part.expr) (stack_of c.args.pending.frames) (purpose_view c.args.pending.purpose)
    c.in_default.not-Infix c.in_default.not-Turn c.in_default.not-Colon c.requires)
    c.ended.ensures
