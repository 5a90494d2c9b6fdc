-- What an operator makes, from what its function makes.
use Rattle.std.proofs.Common.{◌≡◌, ℕ, List, refl, sym, subst}
use Rattle.std.specs.Prelude.{Result, Ok, Err, IfOk, IfErr}
use Rattle.fic_base.specs.declared.place.Place.{Place}
use Rattle.fic_base.specs.declared.refusal.Refusal.{Refusal}
use Rattle.mat_ast.specs.declared.tree.BinOp.{BinOp}
use Rattle.mat_ast.specs.declared.tree.BinOp.TheVariants.{Add, Sub, Mul, ElemMul, Pow, ElemPow}
use Rattle.num_type.specs.declared.memory.Stop.{Stop}
use Rattle.const_eval.specs.declared.constant.Const.{Const}
use Rattle.const_eval.specs.Refusals.{RefusesOnly}
use Rattle.const_eval.proofs.Operated.{only_because}
use Rattle.const_fold.specs.Exponents.{IsPowered, IsUnpowered}
use Rattle.const_fold.specs.Folds.{HasFolds, IsFolded, IsUnfolded}
use Rattle.const_fold.specs.OperatorTexts.{operator_text}

pub ok_because : {P Q : Const → Type 0} (r : Result Const (Stop Refusal)) → ((c : Const) → P c → Q c) → IfOk r P → IfOk r Q
ok_because (Ok c) f h = f c h
ok_because (Err e) f h = tt

pub err_because : {P Q : Refusal → Type 0} (r : Result Const (Stop Refusal)) → ((x : Refusal) → P x → Q x) → IfErr r (λ stop. RefusesOnly stop P) → IfErr r (λ stop. RefusesOnly stop Q)
err_because (Ok c) f h = tt
err_because (Err stop) f h = only_because stop f h

pub made_with : (op o : BinOp) (r : Result Const (Stop Refusal)) (a b : Const) → op ≡ o → IfOk r (λ c. IsFolded o a b c) → IfOk r (λ c. IsFolded op a b c)
made_with op o r a b e h = subst (λ (p : BinOp). IfOk r (λ c. IsFolded p a b c)) (sym e) h

pub refused_with : (op o : BinOp) (shown : List ℕ) (r : Result Const (Stop Refusal)) (a b : Const) (at : Place) → op ≡ o → shown ≡ operator_text op → IfErr r (λ stop. RefusesOnly stop (λ x. IsUnfolded o shown a b at x)) → IfErr r (λ stop. RefusesOnly stop (λ x. IsUnfolded op (operator_text op) a b at x))
refused_with op o shown r a b at e f h =
    subst (λ (s : List ℕ). IfErr r (λ stop. RefusesOnly stop (λ x. IsUnfolded op s a b at x))) f
    (subst (λ (p : BinOp). IfErr r (λ stop. RefusesOnly stop (λ x. IsUnfolded p shown a b at x))) (sym e) h)

-- the operators that are left are the powers

power_folded : (op : BinOp) (a b c : Const) → HasFolds op → (op ≡ Add → ⊥) → (op ≡ Sub → ⊥) → (op ≡ ElemMul → ⊥) → (op ≡ Mul → ⊥) → IsPowered a b c → IsFolded op a b c
power_folded Pow a b c h e f g k p = p
power_folded ElemPow a b c h e f g k p = p
power_folded Add a b c h e f g k p = absurd (e refl)
power_folded Sub a b c h e f g k p = absurd (f refl)
power_folded ElemMul a b c h e f g k p = absurd (g refl)
power_folded Mul a b c h e f g k p = absurd (k refl)
power_folded _ a b c h e f g k p = absurd h

power_unfolded : (op : BinOp) (shown : List ℕ) (a b : Const) (at : Place) (r : Refusal) → HasFolds op → (op ≡ Add → ⊥) → (op ≡ Sub → ⊥) → (op ≡ ElemMul → ⊥) → (op ≡ Mul → ⊥) → IsUnpowered shown a b at r → IsUnfolded op shown a b at r
power_unfolded Pow shown a b at r h e f g k p = p
power_unfolded ElemPow shown a b at r h e f g k p = p
power_unfolded Add shown a b at r h e f g k p = absurd (e refl)
power_unfolded Sub shown a b at r h e f g k p = absurd (f refl)
power_unfolded ElemMul shown a b at r h e f g k p = absurd (g refl)
power_unfolded Mul shown a b at r h e f g k p = absurd (k refl)
power_unfolded _ shown a b at r h e f g k p = absurd h

pub power_made : (op : BinOp) (r : Result Const (Stop Refusal)) (a b : Const) → HasFolds op → (op ≡ Add → ⊥) → (op ≡ Sub → ⊥) → (op ≡ ElemMul → ⊥) → (op ≡ Mul → ⊥) → IfOk r (λ c. IsPowered a b c) → IfOk r (λ c. IsFolded op a b c)
power_made op r a b h e f g k p = ok_because {P = λ c. IsPowered a b c} {Q = λ c. IsFolded op a b c} r (λ c q. power_folded op a b c h e f g k q) p

pub power_refused : (op : BinOp) (shown : List ℕ) (r : Result Const (Stop Refusal)) (a b : Const) (at : Place) → HasFolds op → (op ≡ Add → ⊥) → (op ≡ Sub → ⊥) → (op ≡ ElemMul → ⊥) → (op ≡ Mul → ⊥) → shown ≡ operator_text op → IfErr r (λ stop. RefusesOnly stop (λ x. IsUnpowered shown a b at x)) → IfErr r (λ stop. RefusesOnly stop (λ x. IsUnfolded op (operator_text op) a b at x))
power_refused op shown r a b at h e f g k same p =
    subst (λ (s : List ℕ). IfErr r (λ stop. RefusesOnly stop (λ x. IsUnfolded op s a b at x))) same
    (err_because {P = λ x. IsUnpowered shown a b at x} {Q = λ x. IsUnfolded op shown a b at x} r (λ x q. power_unfolded op shown a b at x h e f g k q) p)
