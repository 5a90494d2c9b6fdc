-- What a loop over a list has left.
use Rattle.std.proofs.Common.{◌≡◌, ℕ, zero, suc, ◌+◌, ◌<◌, ◌≤◌, List, [], ◌∷◌, length, drop, get_or, refl, sym, ap, ◌∙◌, arith}

-- what is left begins with the element at the index
pub left_at : {A : Type 0} (xs : List A) (k : ℕ) (x d : A) → k < length xs → x ≡ get_or xs k d → drop k xs ≡ x ∷ drop (k + 1) xs
left_at [] k x d h e = absurd (omega (arith, h))
left_at (y ∷ ys) zero x d h e = ap (λ z. z ∷ ys) (sym e)
left_at (y ∷ ys) (suc k) x d h e = let shift : suc k + 1 ≡ suc (k + 1) = omega arith in left_at ys k x d (omega (arith, h)) e ∙ ap (λ n. x ∷ drop n (y ∷ ys)) (sym shift)

-- nothing is left at the end
pub left_none : {A : Type 0} (xs : List A) (k : ℕ) → length xs ≤ k → drop k xs ≡ []
left_none [] zero h = refl
left_none [] (suc k) h = refl
left_none (y ∷ ys) zero h = absurd (omega (arith, h))
left_none (y ∷ ys) (suc k) h = left_none ys k (omega (arith, h))
