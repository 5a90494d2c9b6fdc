-- Sums of elements of a fi: they start at 0 in the sum type, and add in ascending order.
use Rattle.std.specs.Prelude.{ℕ, ◌+◌, ◌*◌, ℤ, pos, nat_lt, if◌then◌else◌, List, [], ◌∷◌, map, Option, Some, None}
use Rattle.num_type.specs.Types.{NumericType}
use Rattle.fi_math.specs.declared.fimath.Fimath.{Fimath}
use Rattle.fi_math.specs.Made.{Made, Is, Wide, Out}
use Rattle.fi_math.specs.Rules.{sum_made}
use Rattle.fi_ops.specs.Operations.{summed}
use Rattle.fi_rules.specs.Options.{◌|>◌}
use Rattle.fi_rules.specs.Value.{Shape, Val, Fi, ComplexFi}
use Rattle.fi_eval.specs.Operators.{math_of}
use Rattle.fi_values.specs.Elements.{below, picked}

-- a type within its limits
unfoldable pub made : Made → Option NumericType
made (Is t) = Some t
made (Wide w) = None
made (Out f) = None

-- the sum of stored integers of a type, in the sum type t
abbrev pub added_up : Fimath → NumericType → NumericType → ℤ → List ℤ → ℤ
added_up m t a total [] = total
added_up m t a total (x ∷ xs) = added_up m t a (summed m t (record { num = t; z = total }) (record { num = a; z = x })) xs

abbrev pub sum_of : Fimath → NumericType → NumericType → List ℤ → ℤ
sum_of m t a xs = added_up m t a (pos 0) xs

-- the places of the elements along a dimension: those of each column, or of each row
abbrev pub column_places : Shape → ℕ → List ℕ
column_places s j = map (λ i. i + s.rows * j) (below s.rows)

abbrev pub row_places : Shape → ℕ → List ℕ
row_places s i = map (λ j. i + s.rows * j) (below s.columns)

-- along the rows of a column (1) or the columns of a row (2)
pub data Along : Type 0 where
  Columns : Along
  Rows : Along

-- without a dimension along the first extent above 1, or the first one
abbrev pub first_along : Shape → Along
first_along s = if nat_lt 1 s.rows then Columns else (if nat_lt 1 s.columns then Rows else Columns)

abbrev pub addends : Along → Shape → ℕ
addends Columns s = s.rows
addends Rows s = s.columns

abbrev pub sum_shape : Along → Shape → Shape
sum_shape Columns s = record { rows = 1; columns = s.columns }
sum_shape Rows s = record { rows = s.rows; columns = 1 }

abbrev pub groups : Along → Shape → List (List ℕ)
groups Columns s = map (column_places s) (below s.columns)
groups Rows s = map (row_places s) (below s.rows)

-- the sums of an array's elements
abbrev pub sums : Fimath → NumericType → NumericType → Along → Shape → List ℤ → List ℤ
sums m t a along s xs = map (λ ks. sum_of m t a (picked (pos 0) xs ks)) (groups along s)

-- both parts of a complex one are added up
unfoldable pub summed_value : Along → Val → Option Val
summed_value along (Fi a m s xs) =
    made (sum_made (math_of m) a (addends along s)) |> (λ t. Some (Fi t m (sum_shape along s) (sums (math_of m) t a along s xs)))
summed_value along (ComplexFi a m s xs ys) =
    made (sum_made (math_of m) a (addends along s))
    |> (λ t. Some (ComplexFi t m (sum_shape along s) (sums (math_of m) t a along s xs) (sums (math_of m) t a along s ys)))
summed_value along v = None
