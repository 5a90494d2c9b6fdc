-- What stands in the range of a container.
use Rattle.std.specs.Prelude.{◌≡◌, ℕ, ◌-◌, ◌^◌, Bool, if◌then◌else◌, ℤ, pos, neg_ℤ, ◌≤ℤ◌, ◌<ℤ◌, List, [], ◌∷◌, length, slice_get, Some, map, All}
use Rattle.num_type.specs.declared.container.Container.{Container}
use Rattle.num_type.specs.Containers.{bits_of, is_signed_container}
use Rattle.c_tree.specs.declared.array_names.Array.{Array}

-- the least number of a container
abbrev pub least_in : Container → ℤ
least_in c = if is_signed_container c then neg_ℤ (pos (2 ^ (bits_of c - 1))) else pos 0

-- the number above its greatest
abbrev pub limit_of : Container → ℤ
limit_of c = if is_signed_container c then pos (2 ^ (bits_of c - 1)) else pos (2 ^ bits_of c)

-- a number in the range of a container
pub record IsFit (c : Container) (z : ℤ) : Type 0 where
  pub least : least_in c ≤ℤ z
  pub most : z <ℤ limit_of c

-- all are
abbrev pub AreFit : Container → List ℤ → Type 0
AreFit c = All (IsFit c)

-- one list for each input array, in order, with its length and in the range of its container
pub record FitArrays (arrays : List Array) (lists : List (List ℤ)) : Type 0 where
  pub lengths : map length lists ≡ map (λ a. a.extent) arrays
  pub fit : (k : ℕ) (a : Array) (xs : List ℤ) → slice_get arrays k ≡ Some a → slice_get lists k ≡ Some xs → AreFit a.container xs
