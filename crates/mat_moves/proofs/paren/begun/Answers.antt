use Rattle.std.proofs.Common.{ℕ, List, ◌≡◌, ◌∙◌, ap, sym, refl}
use Rattle.fic_base.specs.declared.place.Place.{Place}
use Rattle.mat_ast.specs.Tree.{Args, NoArgs}
use Rattle.mat_ast.specs.View.{args_view}
use Rattle.mat_grammar.specs.declared.word.Word.{Word}
use Rattle.mat_grammar.specs.declared.word.Word.TheVariants as word
use Rattle.mat_grammar.specs.Machine.{Caller, Stack, Purpose, caller_stack, caller_purpose, applied, begun, need}
use Rattle.mat_parts.specs.Pending.{stack_of, purpose_view, caller_view}
use Rattle.mat_moves.proofs.Goes.{goes}
use Rattle.mat_moves.proofs.paren.begun.Goals as goal

begun_close : (c : Caller) (name : Place) (text : List ℕ) (opens at : Place) (w : Word) (own : List ℕ) (args : Args) → w ≡ word.Close → args ≡ NoArgs
    → applied c name text opens args ≡ begun c name text opens at w own
unfolding begun
begun_close c name text opens at w own args e n = ap (applied c name text opens) n ∙ ap (λ x. begun c name text opens at x own) (sym e)

begun_other : (c : Caller) (name : Place) (text : List ℕ) (opens at : Place) (w : Word) (own : List ℕ) → (w ≡ word.Close → ⊥)
    → need at w own (caller_stack c name text opens NoArgs) (caller_purpose c name text opens NoArgs) ≡ begun c name text opens at w own
unfolding begun
begun_other c name text opens at word.Close own h = absurd (h refl)
begun_other c name text opens at _ own h = refl

begun_need : (c : Caller) (name : Place) (text : List ℕ) (opens at : Place) (w : Word) (own : List ℕ) (args : Args) (st : Stack) (k : Purpose) → (w ≡ word.Close → ⊥) → args ≡ NoArgs
    → st ≡ caller_stack c name text opens args → k ≡ caller_purpose c name text opens args → need at w own st k ≡ begun c name text opens at w own
begun_need c name text opens at w own args st k h n s p =
    ap (λ x. need at w own x k) (s ∙ ap (caller_stack c name text opens) n)
    ∙ ap (need at w own (caller_stack c name text opens NoArgs)) (p ∙ ap (caller_purpose c name text opens) n) ∙ begun_other c name text opens at w own h

pub returns-in-Close : goal.returns-in-Close
returns-in-Close c =
    goes c.applied.result _ _ (begun_close (caller_view c.args.caller) c.args.opened.place c.args.opened.text c.args.opened.opens c.args.place c.args.word c.args.own.now (args_view c.no_args-given.result.args) c.in-Close.is c.no_args-given.ensures) c.applied.ensures

pub returns-in_ok-pending-in_default : goal.returns-in_ok-pending-in_default
returns-in_ok-pending-in_default c =
    goes c.operand.result _ _
    (begun_need (caller_view c.args.caller) c.args.opened.place c.args.opened.text c.args.opened.opens c.args.place c.args.word c.args.own.now (args_view c.no_args-given.result.args) (stack_of c.in_ok-pending-in_default.pending.frames) (purpose_view c.in_ok-pending-in_default.pending.purpose) c.in_default.not-Close c.no_args-given.ensures c.in_ok-pending-in_default.ensures.frames c.in_ok-pending-in_default.ensures.purpose)
    c.operand.ensures
