-- Brackets: values of one class joined into an array.
use Rattle.std.specs.Prelude.{◌+◌, ◌&&◌, Bool, nat_eq, List, [], ◌∷◌, ◌++◌, Option, Some, None}
use Rattle.num_type.specs.Constants.{Exact}
use Rattle.num_type.specs.Types.{NumericType}
use Rattle.fi_math.specs.declared.fimath.Fimath.{Fimath}
use Rattle.fi_rules.specs.Types.{same_type, same_attached}
use Rattle.fi_rules.specs.Value.{Shape, Val, Fi, ComplexFi, Logical, Number, ComplexNumber}
use Rattle.fi_rules.specs.Options.{◌|>◌, where_so}
use Rattle.fi_values.specs.Elements.{stacked}
use Rattle.fi_values.specs.Numbers.{nought_parts}
use Rattle.fi_values.specs.Shapes.{is_small}

-- how two arrays are joined
pub data Join : Type 0 where
  Beside : Join
  Above : Join

-- the joined shape: beside each other the same height, above each other the same width
abbrev pub shape_joined : Join → Shape → Shape → Option Shape
shape_joined Beside s t = where_so (nat_eq s.rows t.rows) (record { rows = s.rows; columns = s.columns + t.columns })
shape_joined Above s t = where_so (nat_eq s.columns t.columns) (record { rows = s.rows + t.rows; columns = s.columns })

-- the elements of both lists: columns stand one behind the other
abbrev pub lists : {A : Type 0} → Join → Shape → Shape → List A → List A → List A
lists Beside s t xs ys = xs ++ ys
lists Above s t xs ys = stacked s.columns s.rows t.rows xs ys

-- the same type and fimath
abbrev pub same_kind : NumericType → Option Fimath → NumericType → Option Fimath → Bool
same_kind t m u n = same_type t u && same_attached m n

-- a joined shape within the limit
abbrev pub shape_by : Join → Shape → Shape → Option Shape
shape_by j s t = shape_joined j s t |> (λ r. where_so (is_small r) r)

-- numbers, of which one is complex
abbrev pub complex_joined : Join → Shape → List Exact → List Exact → Shape → List Exact → List Exact → Option Val
complex_joined j s xs ys t us vs = shape_by j s t |> (λ r. Some (ComplexNumber r (lists j s t xs us) (lists j s t ys vs)))

-- all numbers, all logicals, or all fis equal in type, fimath and complexity
unfoldable pub joined : Join → Val → Val → Option Val
joined j (Fi t m s xs) (Fi u n r ys) = where_so (same_kind t m u n) s |> (λ s. shape_by j s r |> (λ q. Some (Fi t m q (lists j s r xs ys))))
joined j (ComplexFi t m s xs ys) (ComplexFi u n r us vs) =
    where_so (same_kind t m u n) s |> (λ s. shape_by j s r |> (λ q. Some (ComplexFi t m q (lists j s r xs us) (lists j s r ys vs))))
joined j (Logical s bs) (Logical t cs) = shape_by j s t |> (λ r. Some (Logical r (lists j s t bs cs)))
joined j (Number s xs) (Number t ys) = shape_by j s t |> (λ r. Some (Number r (lists j s t xs ys)))
joined j (Number s xs) (ComplexNumber t us vs) = complex_joined j s xs (nought_parts xs) t us vs
joined j (ComplexNumber s xs ys) (Number t us) = complex_joined j s xs ys t us (nought_parts us)
joined j (ComplexNumber s xs ys) (ComplexNumber t us vs) = complex_joined j s xs ys t us vs
joined j v w = None

-- a fi, a logical or a number stands in a bracket
unfoldable pub is_element : Val → Option Val
is_element (Fi t m s xs) = Some (Fi t m s xs)
is_element (ComplexFi t m s xs ys) = Some (ComplexFi t m s xs ys)
is_element (Logical s bs) = Some (Logical s bs)
is_element (Number s cs) = Some (Number s cs)
is_element (ComplexNumber s xs ys) = Some (ComplexNumber s xs ys)
is_element v = None

-- from left to right, or from the top
abbrev pub all_joined : Join → Val → List Val → Option Val
all_joined j v [] = Some v
all_joined j v (w ∷ ws) = joined j v w |> (λ u. all_joined j u ws)

-- the first with the others; nothing is no array
abbrev pub joined_by : Join → List Val → Option Val
joined_by j [] = None
joined_by j (v ∷ vs) = is_element v |> (λ v. all_joined j v vs)

abbrev pub row_values : List (List Val) → Option (List Val)
row_values [] = Some []
row_values (r ∷ rs) = joined_by Beside r |> (λ v. row_values rs |> (λ vs. Some (v ∷ vs)))

-- the rows of a bracket
abbrev pub bracket : List (List Val) → Option Val
bracket rows = row_values rows |> joined_by Above
