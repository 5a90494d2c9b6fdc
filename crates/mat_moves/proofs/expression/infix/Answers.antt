use Rattle.std.proofs.Common.{◌≡◌, ap, sym, refl}
use Rattle.fic_base.specs.declared.place.Place.{Place}
use Rattle.mat_ast.specs.declared.tree.BinOp.{BinOp}
use Rattle.mat_ast.specs.declared.tree.BinOp.TheVariants as bin
use Rattle.mat_grammar.specs.Words.{sign_of}
use Rattle.mat_grammar.specs.Machine.{Stack, Purpose, Stuck, with_infix}
use Rattle.mat_parts.specs.Pending.{stack_of, purpose_view}
use Rattle.mat_moves.proofs.Goes.{goes}
use Rattle.mat_moves.proofs.expression.infix.Goals as goal

no_sign : (at : Place) (op : BinOp) (st : Stack) (k : Purpose) → (op ≡ bin.Add → ⊥) → (op ≡ bin.Sub → ⊥) → Stuck ≡ with_infix at (sign_of op) st k
unfolding with_infix
no_sign at bin.Add st k a s = absurd (a refl)
no_sign at bin.Sub st k a s = absurd (s refl)
no_sign at _ st k a s = refl

pub returns-in-Add : goal.returns-in-Add
unfolding with_infix
returns-in-Add c = goes c.sign.result _ _ (ap (λ op. with_infix c.args.place (sign_of op) (stack_of c.args.pending.frames) (purpose_view c.args.pending.purpose)) (sym c.in-Add.is)) c.sign.ensures

pub returns-in-Sub : goal.returns-in-Sub
unfolding with_infix
returns-in-Sub c = goes c.sign-in-Sub.result _ _ (ap (λ op. with_infix c.args.place (sign_of op) (stack_of c.args.pending.frames) (purpose_view c.args.pending.purpose)) (sym c.in-Sub.is)) c.sign-in-Sub.ensures

pub returns-in_default : goal.returns-in_default
returns-in_default c = no_sign c.args.place c.args.op (stack_of c.args.pending.frames) (purpose_view c.args.pending.purpose) c.in_default.not-Add c.in_default.not-Sub
