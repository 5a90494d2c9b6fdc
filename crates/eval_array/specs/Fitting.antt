-- What a store takes of a value, and whether the value fits what subscripts select.
use Rattle.std.specs.Prelude.{ℤ, Bool, ◌||◌, nat_eq, if◌then◌else◌, List, Option, Some}
use Rattle.fi_rules.specs.Types.{same_shape}
use Rattle.fi_rules.specs.Value.{Shape, count, is_scalar}
use Rattle.fi_values.specs.Stores.{noughts}

-- zeros for the imaginary parts of these real ones
abbrev pub with_noughts : List ℤ → Option (List ℤ × List ℤ)
with_noughts zs = Some (zs, noughts zs)

-- for one subscript as many elements as are selected, and for two the selected shape
abbrev pub fits_all : Bool → Shape → Shape → Bool
fits_all only selected s = if only then nat_eq (count s) (count selected) else same_shape s selected

-- or a single element
abbrev pub fits_by : Bool → Shape → Shape → Bool
fits_by only selected s = is_scalar s || fits_all only selected s
