-- Two ways to split one list.
use Rattle.std.proofs.Common.{◌≡◌, ℕ, List, [], ◌∷◌, ◌++◌, refl, sym}

-- which front is the longer one
pub data Fronts (a b r s : List ℕ) : Type 0 where
  Same : a ≡ b → r ≡ s → Fronts a b r s
  Longer : (c : ℕ) (d : List ℕ) → b ≡ a ++ c ∷ d → r ≡ c ∷ d ++ s → Fronts a b r s
  Shorter : (c : ℕ) (d : List ℕ) → a ≡ b ++ c ∷ d → s ≡ c ∷ d ++ r → Fronts a b r s

more : (x y : ℕ) (a b r s : List ℕ) → x ≡ y → Fronts a b r s → Fronts (x ∷ a) (y ∷ b) r s
more x y a b r s e (Same f g) = Same (λ i. e i ∷ f i) g
more x y a b r s e (Longer c d f g) = Longer c d (λ i. sym e i ∷ f i) g
more x y a b r s e (Shorter c d f g) = Shorter c d (λ i. e i ∷ f i) g

pub fronts : (a b r s : List ℕ) → a ++ r ≡ b ++ s → Fronts a b r s
fronts [] [] r s e = Same refl e
fronts [] (y ∷ b) r s e = Longer y b refl e
fronts (x ∷ a) [] r s e = Shorter x a refl (sym e)
fronts (x ∷ a) (y ∷ b) r s e = more x y a b r s (cc) (fronts a b r s (cc))
