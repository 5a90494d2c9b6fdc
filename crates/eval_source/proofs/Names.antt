-- Names in lists.
use Rattle.std.proofs.Common.{◌≡◌, ℕ, ◌||◌, List, [], ◌∷◌, refl}
use Rattle.std.specs.Cmp.Lexicographic.{nat_list_eq_equiv}
use Rattle.walk_scope.specs.Names as scoped
use Rattle.fi_meaning.specs.Expressions as meaning

-- a name compared with each, and each with it
pub listed_by_either : (name : List ℕ) (names : List (List ℕ)) → scoped.is_listed name names ≡ meaning.is_listed name names
listed_by_either name [] = refl
listed_by_either name (x ∷ xs) = λ i. nat_list_eq_equiv.symm x name i || listed_by_either name xs i
