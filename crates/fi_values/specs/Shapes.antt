-- Shapes of operations.
use Rattle.std.specs.Prelude.{Bool, ◌&&◌, ◌||◌, not, nat_eq, nat_le, if◌then◌else◌, Option, Some, None}
use Rattle.fi_rules.specs.Value.{Shape, count, is_scalar}
use Rattle.fi_rules.specs.Types.{same_shape}

-- the shape of an operation element by element: both have it, or one has a single element
unfoldable pub common : Shape → Shape → Option Shape
common s t = if same_shape s t then Some s else (if is_scalar s then Some t else (if is_scalar t then Some s else None))

-- rows for columns
abbrev pub turned : Shape → Shape
turned s = record { rows = s.columns; columns = s.rows }

-- at most 4,096 elements
abbrev pub is_small : Shape → Bool
is_small s = nat_le (count s) 4096

-- a single row or a single column, of more than one element
abbrev pub is_row : Shape → Bool
is_row s = nat_eq s.rows 1 && not (nat_eq s.columns 1)

abbrev pub is_column : Shape → Bool
is_column s = nat_eq s.columns 1 && not (nat_eq s.rows 1)

-- a single row or a single column, also of one element
abbrev pub is_line : Shape → Bool
is_line s = nat_eq s.rows 1 || nat_eq s.columns 1
