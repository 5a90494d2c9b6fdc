-- What one subscript selects of a dimension.
use Rattle.std.specs.Prelude.{ℕ, ℤ, Bool, true, false, ◌&&◌, if◌then◌else◌, List, map, Option, Some, None}
use Rattle.num_type.specs.Constants.{Exact}
use Rattle.fi_rules.specs.Arguments.{whole_of}
use Rattle.fi_rules.specs.Options.{and_then, where_so, all_of}
use Rattle.fi_rules.specs.Value.{Shape, count, scalar}
use Rattle.fi_values.specs.Numbers.{is_bound}
use Rattle.fi_values.specs.Shapes.{is_line, is_row, is_column}
use Rattle.fi_values.specs.Subscripts.{Subscript, Whole, Constant, Computed, Selection, grid, is_constant, place_of, places_in, size_in, subscript_of}
use Rattle.eval_value.specs.View.{value_view}
use Rattle.eval_value.specs.declared.value.Value.{Value}

-- a subscript of a source: none for `:`
abbrev pub item_subscript : Option Value → Option Subscript
item_subscript None = Some Whole
item_subscript (Some v) = subscript_of (value_view v)

pub record Choice : Type 0 where
  -- how many places
  pub size : ℕ
  -- the shape that it has as the only subscript of a matrix
  pub own : Shape
  -- none where one is out of the extent
  pub places : Option (List ℕ)
  -- all of the dimension or a constant
  pub fixed : Bool
  -- a constant, which as the only subscript of a row or a column takes its orientation
  pub oriented : Bool

abbrev pub own_shape : ℕ → Subscript → Shape
own_shape extent Whole = record { rows = extent; columns = 1 }
own_shape extent (Constant s zs) = s
own_shape extent (Computed z) = scalar

abbrev pub is_oriented : Subscript → Bool
is_oriented Whole = false
is_oriented (Constant s zs) = true
is_oriented (Computed z) = false

abbrev pub choice : ℕ → Subscript → Choice
choice extent k = record { size = size_in extent k; own = own_shape extent k; places = places_in extent k; fixed = is_constant k; oriented = is_oriented k }

-- a line in the orientation of a row or a column
abbrev pub oriented_shape : Shape → Shape → Shape
oriented_shape s t =
    if is_line t && is_row s then record { rows = 1; columns = count t }
    else (if is_line t && is_column s then record { rows = count t; columns = 1 } else t)

-- the same of a line
abbrev pub laid_shape : Shape → Shape → Shape
laid_shape s t =
    if is_row s then record { rows = 1; columns = count t }
    else (if is_column s then record { rows = count t; columns = 1 } else t)

-- the shape of an only subscript
abbrev pub only_shape : Shape → Choice → Shape
only_shape s c = if c.oriented then oriented_shape s c.own else c.own

-- what an only subscript selects
abbrev pub only_selection : Shape → Choice → Selection
only_selection s c = record { shape = only_shape s c; places = c.places; fixed = c.fixed }

-- the selected rows of the selected columns
abbrev pub crossed_places : ℕ → Option (List ℕ) → Option (List ℕ) → Option (List ℕ)
crossed_places rows is js = and_then is (λ is. and_then js (λ js. Some (grid rows is js)))

abbrev pub crossed_selection : Shape → Choice → Choice → Selection
crossed_selection s i j = record {
  shape = record { rows = i.size; columns = j.size };
  places = crossed_places s.rows i.places j.places;
  fixed = i.fixed && j.fixed;
}

-- a whole number within 2 ^ 31 - 1 of 0
abbrev pub bounded : Exact → Option ℤ
bounded c = and_then (whole_of c) (λ z. where_so (is_bound z) z)

-- the place of the subscript that a constant is
abbrev pub number_place : ℕ → Exact → Option ℕ
number_place extent c = and_then (whole_of c) (place_of extent)

abbrev pub number_places : ℕ → List Exact → Option (List ℕ)
number_places extent cs = all_of (map (number_place extent) cs)
