-- What the inputs of a case may be.
use Rattle.std.specs.Prelude.{◌≡◌, ℕ, ◌+◌, ◌*◌, ℤ, pos, ◌≤ℤ◌, Bool, true, false, List, [], ◌∷◌, length, flat_map, All}
use Rattle.num_type.specs.Types.{low, high}
use Rattle.c_tree.specs.Tree.{Kind, Fixed, Logical, Slot, Signature}
use Rattle.c_tree.specs.Names.{is_complex}

-- an input array: how many elements it has, and the least and the greatest number that one may be
pub record Range : Type 0 where
  pub count : ℕ
  pub least : ℤ
  pub most : ℤ

-- so many stored integers of a type, or truth values as 0 and 1
abbrev pub kind_range : Kind → ℕ → Range
kind_range (Fixed t complex) n = record { count = n; least = low t; most = high t }
kind_range Logical n = record { count = n; least = pos 0; most = pos 1 }

-- one array, or two for the parts of complex elements
abbrev pub part_ranges : Range → Bool → List Range
part_ranges r false = r ∷ []
part_ranges r true = r ∷ r ∷ []

-- the arrays of an input
abbrev pub slot_ranges : Slot → List Range
slot_ranges s = part_ranges (kind_range s.kind (s.rows * s.columns)) (is_complex s.kind)

-- the input arrays of an interface, in order
abbrev pub input_ranges : Signature → List Range
input_ranges i = flat_map slot_ranges i.inputs

-- how many elements there are in all
abbrev pub elements : List Range → ℕ
elements [] = 0
elements (r ∷ rs) = r.count + elements rs

-- a number in range
abbrev pub IsWithin : Range → ℤ → Type 0
IsWithin r z = (r.least ≤ℤ z) × (z ≤ℤ r.most)

-- a list for each array, with its length and in its range
abbrev pub AreInputs : List Range → List (List ℤ) → Type 0
AreInputs [] [] = Unit {0}
AreInputs [] (zs ∷ more) = ⊥
AreInputs (r ∷ rs) [] = ⊥
AreInputs (r ∷ rs) (zs ∷ more) = (length zs ≡ r.count) × All (IsWithin r) zs × AreInputs rs more
