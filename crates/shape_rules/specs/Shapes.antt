-- Shapes of arrays.
use Rattle.std.specs.Prelude.{ℕ, ◌*◌, ◌≤◌}
use Rattle.shape_rules.specs.declared.shape.Shape.{Shape}

-- the greatest number of elements of an array
abbrev pub element_limit : ℕ
element_limit = 4096

-- so many rows and columns are within the limits
pub record IsShape (rows columns : ℕ) : Type 0 where
  pub a_row : 1 ≤ rows
  pub a_column : 1 ≤ columns
  pub few : rows * columns ≤ element_limit

-- the rows of a shape
abbrev pub rows_of : Shape → ℕ
rows_of s = s.rows

-- the columns of a shape
abbrev pub columns_of : Shape → ℕ
columns_of s = s.cols

-- how many elements an array of this shape has
abbrev pub elements_of : Shape → ℕ
elements_of s = s.rows * s.cols
