-- Lists of complex constants, number by number.
use Rattle.std.proofs.Common.{◌≡◌, ℕ, zero, suc, ◌+◌, ◌<◌, List, [], ◌∷◌, ◌++◌, length, get_or, refl, sym, ap, subst, ◌∙◌, arith, inl, inr, ⊎_elim}
use Rattle.std.specs.Prelude.{◌⊎◌, pos, map}
use Rattle.num_type.specs.Constants.{Exact}
use Rattle.num_type.specs.Precision.{whole}
use Rattle.const_eval.specs.declared.complex.Complex as code_complex
use Rattle.const_eval.specs.Complex.{Complex, complex_of}
use Rattle.const_eval.specs.Listed.{listed, real_of, imaginary_of}

part_before : {X : Type 0} (f : X → Exact) (xs : List X) (x : X) (j : ℕ) (d : Exact) → j < length xs → get_or (map f (xs ++ x ∷ [])) j d ≡ get_or (map f xs) j d
part_before f [] x j d l = absurd (omega (arith, l))
part_before f (y ∷ ys) x zero d l = refl
part_before f (y ∷ ys) x (suc j) d l = part_before f ys x j d (omega (arith, l))

part_last : {X : Type 0} (f : X → Exact) (xs : List X) (x : X) (d : Exact) → get_or (map f (xs ++ x ∷ [])) (length xs) d ≡ f x
part_last f [] x d = refl
part_last f (y ∷ ys) x d = part_last f ys x d

listed_before : (xs : List code_complex.Complex) (x : code_complex.Complex) (j : ℕ) → j < length xs → listed (xs ++ x ∷ []) j ≡ listed xs j
listed_before xs x j l = λ i. record { re = part_before real_of xs x j (whole (pos 0)) l i; im = part_before imaginary_of xs x j (whole (pos 0)) l i }

listed_last : (xs : List code_complex.Complex) (x : code_complex.Complex) → listed (xs ++ x ∷ []) (length xs) ≡ complex_of x
listed_last xs x = λ i. record { re = part_last real_of xs x (whole (pos 0)) i; im = part_last imaginary_of xs x (whole (pos 0)) i }

pub up_to : (j k : ℕ) → j < k + 1 → (j < k) ⊎ (j ≡ k)
up_to zero zero l = inr refl
up_to zero (suc k) l = inl (omega arith)
up_to (suc j) zero l = absurd (omega (arith, l))
up_to (suc j) (suc k) l = ⊎_elim (λ (h : j < k). inl (omega (arith, h))) (λ (h : j ≡ k). inr (ap suc h)) (up_to j k (omega (arith, l)))

-- what holds of each number before a place, and of the next one
pub one_more : (P : ℕ → Complex → Type 0) (xs : List code_complex.Complex) (x : code_complex.Complex) (k : ℕ) → length xs ≡ k → ((j : ℕ) → j < k → P j (listed xs j)) → P k (complex_of x) → (j : ℕ) → j < k + 1 → P j (listed (xs ++ x ∷ []) j)
one_more P xs x k e before last j l =
    ⊎_elim
    (λ (h : j < k). subst (P j) (sym (listed_before xs x j (omega (arith, h, e)))) (before j h))
    (λ (h : j ≡ k). subst (λ (n : ℕ). P n (listed (xs ++ x ∷ []) n)) (e ∙ sym h) (subst (P (length xs)) (sym (listed_last xs x)) (subst (λ (n : ℕ). P n (complex_of x)) (sym e) last)))
    (up_to j k l)

pub each_more : (P : ℕ → Type 0) (k : ℕ) → ((j : ℕ) → j < k → P j) → P k → (j : ℕ) → j < k + 1 → P j
each_more P k before last j l = ⊎_elim (λ (h : j < k). before j h) (λ (h : j ≡ k). subst P (sym h) last) (up_to j k l)
