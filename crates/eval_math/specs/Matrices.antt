-- Matrix products, as the code goes through them.
use Rattle.std.specs.Prelude.{◌<◌, ◌≡◌, ℕ, ℤ, pos, Bool, ◌||◌, ◌&&◌, List, map, flat_map, Option, Some, None, is_some, IfSome}
use Rattle.num_type.specs.Constants.{Exact}
use Rattle.num_type.specs.Types.{IsInRange, NumericType}
use Rattle.num_type.specs.View.{type_of}
use Rattle.fi_math.specs.declared.fimath.Fimath.{Fimath}
use Rattle.fi_math.specs.declared.governing.Governed.{Governed}
use Rattle.fi_math.specs.Rules.{sum_made}
use Rattle.const_eval.specs.Complex.{Complex}
use Rattle.fi_rules.specs.declared.work.Work.TheVariants as work
use Rattle.fi_rules.specs.Options.{◌|>◌, all_of}
use Rattle.fi_rules.specs.Pairs.{folded}
use Rattle.fi_rules.specs.Value.{Shape, Val}
use Rattle.fi_values.specs.Arithmetic.{Operand, Parts, complex_folded, fi_value, governing, result_made}
use Rattle.fi_values.specs.Elements.{below, picked}
use Rattle.fi_values.specs.Numbers.{nought}
use Rattle.fi_values.specs.Products.{added_from, all_parts, complex_nought, entries, entry}
use Rattle.fi_values.specs.Sums.{column_places, made, row_places, sum_of}
use Rattle.eval_math.specs.declared.accumulation.Accumulation.{Accumulation}

-- ---- elements

-- the rows and the columns of the elements, by columns
abbrev pub cells : ℕ → ℕ → List (ℕ × ℕ)
cells m n = flat_map (λ j. map (λ i. (i, j)) (below m)) (below n)

pub record IsCell (m n : ℕ) (p : ℕ × ℕ) : Type 0 where
  pub row : p.0 < m
  pub column : p.1 < n

-- ---- numbers

-- the element in a row and a column
abbrev pub real_entry : Shape → List Exact → Shape → List Exact → ℕ × ℕ → Option Exact
real_entry s xs t ys p = added_from (folded work.Sum) (folded work.Product) nought (picked nought xs (row_places s p.0)) (picked nought ys (column_places t p.1))

abbrev pub complex_entry : Shape → List Complex → Shape → List Complex → ℕ × ℕ → Option Complex
complex_entry s xs t ys p = added_from (complex_folded work.Sum) (complex_folded work.Product) complex_nought (picked complex_nought xs (row_places s p.0)) (picked complex_nought ys (column_places t p.1))

-- ---- fis

-- the parts of an element that are stored integers of a type
pub record IsEntry (t : NumericType) (z : ℤ × Option ℤ) : Type 0 where
  pub real : IsInRange t z.0
  pub imaginary : IfSome z.1 (IsInRange t)

abbrev pub sum_of_some : Fimath → NumericType → NumericType → Option (List ℤ) → Option ℤ
sum_of_some m t p None = None
sum_of_some m t p (Some ys) = Some (sum_of m t p ys)

-- products of the type p added up in the sum type t
abbrev pub summed_parts : Fimath → NumericType → NumericType → Parts → ℤ × Option ℤ
summed_parts m t p r = (sum_of m t p r.re, sum_of_some m t p r.im)

-- the element in a row and a column
abbrev pub entry_at : Accumulation → Operand → Operand → ℕ × ℕ → Option (ℤ × Option ℤ)
entry_at k a b p = entry k.by.math (type_of k.product) (type_of k.sum) a b (row_places a.shape p.0) (column_places b.shape p.1)

abbrev pub or_nought : Option ℤ → ℤ
or_nought None = pos 0
or_nought (Some y) = y

abbrev pub is_complex : Operand → Bool
is_complex a = is_some a.parts.im

abbrev pub product_type_made : Governed → Operand → Operand → Option NumericType
product_type_made g a b = made (result_made work.Product (is_some a.parts.im && is_some b.parts.im) g.math a.num b.num)

-- behind both types
abbrev pub elements_product : Shape → Operand → Operand → Governed → NumericType → NumericType → Option Val
elements_product s a b g u t =
    all_of (entries a.shape b.shape (entry g.math u t a b)) |> (λ zs. Some (fi_value t g.attached s (all_parts (is_some a.parts.im || is_some b.parts.im) zs)))

-- behind the type of the products
abbrev pub summed_product : Shape → Operand → Operand → Governed → NumericType → Option Val
summed_product s a b g u = made (sum_made g.math u a.shape.columns) |> elements_product s a b g u

-- behind the fimath
abbrev pub typed_product : Shape → Operand → Operand → Governed → Option Val
typed_product s a b g = product_type_made g a b |> summed_product s a b g

-- behind the shape
abbrev pub governed_product : Shape → Operand → Operand → Option Val
governed_product s a b = governing a.math b.math |> typed_product s a b
