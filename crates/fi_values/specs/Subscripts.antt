-- Which elements subscripts select.
use Rattle.std.specs.Prelude.{ℕ, zero, suc, ◌+◌, ◌*◌, ℤ, pos, negsuc, Bool, true, false, ◌&&◌, nat_lt, nat_le, if◌then◌else◌, List, [], ◌∷◌, map, flat_map, length, Option, Some, None}
use Rattle.std.specs.Ordering.{int_eq}
use Rattle.fi_rules.specs.Value.{Shape, count, scalar, is_scalar, Val, Fi, Number}
use Rattle.fi_rules.specs.Options.{◌|>◌, where_so, all_of}
use Rattle.fi_values.specs.Elements.{below}
use Rattle.fi_values.specs.Numbers.{wholes_of}
use Rattle.fi_values.specs.Shapes.{is_row, is_column, is_line}

pub data Subscript : Type 0 where
  -- all of a dimension
  Whole : Subscript
  -- the numbers of a constant, from 1, in its shape
  Constant : Shape → List ℤ → Subscript
  -- the one of a fi
  Computed : ℤ → Subscript

-- a constant of whole numbers, or a real scalar fi without a fraction and of at most 31 bits
unfoldable pub subscript_of : Val → Option Subscript
subscript_of (Number s cs) = wholes_of cs |> (λ zs. Some (Constant s zs))
subscript_of (Fi t m s (z ∷ [])) = where_so (is_scalar s && (int_eq t.fraction (pos 0) && nat_le t.word 31)) (Computed z)
subscript_of v = None

-- the values of subscripts, none for `:`, as subscripts
abbrev pub as_subscripts : List (Option Val) → Option (List Subscript)
as_subscripts vs = all_of (map of vs)
  where
    of : Option Val → Option Subscript
    of None = Some Whole
    of (Some v) = subscript_of v

abbrev pub is_constant : Subscript → Bool
is_constant Whole = true
is_constant (Constant s zs) = true
is_constant (Computed z) = false

-- a place from 0, where the subscript is within the extent
abbrev pub place_of : ℕ → ℤ → Option ℕ
place_of extent (pos zero) = None
place_of extent (pos (suc k)) = if nat_lt k extent then Some k else None
place_of extent (negsuc n) = None

-- the places in an extent, where all are within it
abbrev pub places_in : ℕ → Subscript → Option (List ℕ)
places_in extent Whole = Some (below extent)
places_in extent (Constant s zs) = all_of (map (place_of extent) zs)
places_in extent (Computed z) = place_of extent z |> (λ k. Some (k ∷ []))

-- how many places it has
abbrev pub size_in : ℕ → Subscript → ℕ
size_in extent Whole = extent
size_in extent (Constant s zs) = length zs
size_in extent (Computed z) = 1

-- the shape that one subscript selects: a column for all, for a line the orientation of a row or a column, and else its own shape
abbrev pub one_shape : Shape → Subscript → Shape
one_shape s Whole = record { rows = count s; columns = 1 }
one_shape s (Constant t zs) =
    if is_line t && is_row s then record { rows = 1; columns = count t }
    else (if is_line t && is_column s then record { rows = count t; columns = 1 } else t)
one_shape s (Computed z) = scalar

pub record Selection : Type 0 where
  pub shape : Shape
  -- from 0 and by columns, the first subscript running fastest; none where a subscript is out of its extent
  pub places : Option (List ℕ)
  -- all of a dimension and constants alone
  pub fixed : Bool

-- the place of each pair of a row and a column
abbrev pub grid : ℕ → List ℕ → List ℕ → List ℕ
grid rows is js = flat_map (λ j. map (λ i. i + rows * j) is) js

-- one subscript counts by columns; there are one or two
unfoldable pub selection : Shape → List Subscript → Option Selection
selection s (k ∷ []) = Some (record { shape = one_shape s k; places = places_in (count s) k; fixed = is_constant k })
selection s (i ∷ j ∷ []) = Some (record {
  shape = record { rows = size_in s.rows i; columns = size_in s.columns j };
  places = places_in s.rows i |> (λ is. places_in s.columns j |> (λ js. Some (grid s.rows is js)));
  fixed = is_constant i && is_constant j;
})
selection s ks = None

-- what `end` means in subscript number k, from 0, of so many
abbrev pub extent : Shape → ℕ → ℕ → ℕ
extent s zero (suc zero) = count s
extent s zero many = s.rows
extent s (suc zero) many = s.columns
extent s (suc (suc k)) many = 1
