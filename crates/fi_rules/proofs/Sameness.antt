-- What is the same as nothing.
use Rattle.std.proofs.Common.{◌≡◌, ◌∙◌, refl, sym, ap, ℕ, List, false}
use Rattle.fi_rules.specs.Types.{Ty, FiTy, NumberTy, TextTy, MathTy, TypeTy, OtherTy, same_ty}

no_text : (x : List ℕ) (b : Ty) → false ≡ same_ty (TextTy x) b
unfolding same_ty
no_text x (FiTy t m) = refl
no_text x (NumberTy s cs) = refl
no_text x (TextTy y) = refl
no_text x (MathTy m) = refl
no_text x (TypeTy t) = refl
no_text x OtherTy = refl

no_other : (b : Ty) → false ≡ same_ty OtherTy b
unfolding same_ty
no_other (FiTy t m) = refl
no_other (NumberTy s cs) = refl
no_other (TextTy y) = refl
no_other (MathTy m) = refl
no_other (TypeTy t) = refl
no_other OtherTy = refl

pub text_differs : (x : List ℕ) (a b : Ty) → a ≡ TextTy x → false ≡ same_ty a b
text_differs x a b e = no_text x b ∙ ap (λ (y : Ty). same_ty y b) (sym e)

pub other_differs : (a b : Ty) → a ≡ OtherTy → false ≡ same_ty a b
other_differs a b e = no_other b ∙ ap (λ (y : Ty). same_ty y b) (sym e)
