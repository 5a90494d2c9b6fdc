-- Cases and their lines, one after the other.
use Rattle.std.proofs.Common.{◌≡◌, ℕ, suc, ◌+◌, ◌<◌, ◌≤◌, ℤ, List, [], ◌∷◌, ◌++◌, length, map, get_or, take, sym, ap, ◌∙◌, subst, arith, add-one, Some}
use Rattle.std.specs.Prelude.{slice_get}
use Rattle.std.proofs.lemmas.List.{length-map}
use Rattle.std.proofs.lemmas.Option.{get_or_from_slice_get}
use Rattle.std.proofs.Math.ListN.{get_or-map}
use Rattle.std.proofs.Math.Seq.{take-suc}
use Rattle.c_tree.specs.Tree.{Program}
use Rattle.batch_run.specs.Lines.{IsCaseLine, AreLines}

-- one more element
pub next_one : {A : Type 0} → (xs : List A) (k : ℕ) (x : A) → k < length xs → slice_get xs k ≡ Some x → take (k + 1) xs ≡ take k xs ++ x ∷ []
next_one xs k x lt e =
    subst (λ n. take n xs ≡ take k xs ++ x ∷ []) (sym (add-one k)) (take-suc xs k x lt ∙ ap (λ y. take k xs ++ y ∷ []) (get_or_from_slice_get xs k x x e))

pub next_case : {A B : Type 0} → (f : A → B) (xs : List A) (k : ℕ) (x : A) → k < length xs → x ≡ get_or xs k x → take (k + 1) (map f xs) ≡ take k (map f xs) ++ f x ∷ []
next_case f xs k x lt e =
    let within : k < length (map f xs) = omega (arith, length-map xs f, lt) in
    subst (λ n. take n (map f xs) ≡ take k (map f xs) ++ f x ∷ []) (sym (add-one k))
    (take-suc (map f xs) k (f x) within ∙ ap (λ y. take k (map f xs) ++ y ∷ []) (get_or-map f xs k x ∙ ap f (sym e)))

-- one more line
pub next_line : (p : Program) (turns number : ℕ) (xs : List (List (List ℤ))) (ls : List (List ℕ)) (x : List (List ℤ)) (l : List ℕ)
    → AreLines p turns number xs ls → IsCaseLine p turns (number + length xs) x l → AreLines p turns number (xs ++ x ∷ []) (ls ++ l ∷ [])
next_line p turns number [] [] x l g h = let e : number + 0 ≡ number = omega arith in (subst (λ n. IsCaseLine p turns n x l) e h, tt)
next_line p turns number [] (m ∷ ms) x l g h = absurd g
next_line p turns number (y ∷ ys) [] x l g h = absurd g
next_line p turns number (y ∷ ys) (m ∷ ms) x l g h =
    let e : number + suc (length ys) ≡ suc number + length ys = omega arith in
    (g.0, next_line p turns (suc number) ys ms x l g.1 (subst (λ n. IsCaseLine p turns n x l) e h))
