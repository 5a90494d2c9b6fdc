-- Names that stand in parts of a tree.
use Rattle.std.proofs.Common.{◌≡◌, refl, ℕ, Bool, true, List}
use Rattle.std.specs.Prelude.{◌||◌, bytes_eq}
use Rattle.std.proofs.lemmas.Bool.{or_left, or_right}
use Rattle.std.proofs.lemmas.Slice.Eq.{bytes_eq-Decides}

pub same_bytes : (name : List ℕ) → bytes_eq name name ≡ true
same_bytes name = (bytes_eq-Decides name name).1 refl

-- this holds of each name that f says stands there
abbrev pub Within : (List ℕ → Type 0) → (List ℕ → Bool) → Type 0
Within Asked f = (name : List ℕ) → f name ≡ true → Asked name

module _ (Asked : List ℕ → Type 0) where
  pub left : (f g : List ℕ → Bool) → Within Asked (λ name. f name || g name) → Within Asked f
  left f g within name h = within name (or_left (f name) (g name) h)

  pub right : (f g : List ℕ → Bool) → Within Asked (λ name. f name || g name) → Within Asked g
  right f g within name h = within name (or_right (f name) (g name) h)

  pub own : (name : List ℕ) (g : List ℕ → Bool) → Within Asked (λ other. bytes_eq other name || g other) → Asked name
  own name g within = within name (or_left (bytes_eq name name) (g name) (same_bytes name))
