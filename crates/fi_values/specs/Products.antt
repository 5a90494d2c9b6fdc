-- Matrix products: each element is its products added up from 0 in ascending order.
use Rattle.std.specs.Prelude.{ℕ, ℤ, pos, Bool, true, false, ◌&&◌, ◌||◌, nat_eq, if◌then◌else◌, List, ◌∷◌, map, flat_map, Option, Some, None, is_some}
use Rattle.num_type.specs.Constants.{Exact}
use Rattle.num_type.specs.Types.{NumericType}
use Rattle.fi_math.specs.declared.fimath.Fimath.{Fimath}
use Rattle.fi_math.specs.Rules.{sum_made}
use Rattle.const_eval.specs.Complex.{Complex}
use Rattle.fi_rules.specs.declared.work.Work.TheVariants as work
use Rattle.fi_rules.specs.Value.{Shape, Val, Number, ComplexNumber, is_scalar}
use Rattle.fi_rules.specs.Options.{◌|>◌, where_so, all_of}
use Rattle.fi_rules.specs.Pairs.{folded}
use Rattle.fi_values.specs.Arithmetic.{Operand, Parts, operands, governing, result_made, result_parts, fi_value, complex_folded, zipped, complex_value, arithmetic}
use Rattle.fi_values.specs.Elements.{below, picked}
use Rattle.fi_values.specs.Numbers.{nought, nought_parts}
use Rattle.fi_values.specs.Reads.{shape_of}
use Rattle.fi_values.specs.Shapes.{is_small}
use Rattle.fi_values.specs.Sums.{made, sum_of, row_places, column_places}

-- the shape of a matrix product: the inner extents are equal
unfoldable pub product_shape : Shape → Shape → Option Shape
product_shape s t =
    where_so (nat_eq s.columns t.rows) (record { rows = s.rows; columns = t.columns }) |> (λ r. where_so (is_small r) r)

-- what is computed of each row of the first and each column of the second, by columns of the result
abbrev pub entries : {A : Type 0} → Shape → Shape → (List ℕ → List ℕ → A) → List A
entries s t f = flat_map (λ j. map (λ i. f (row_places s i) (column_places t j)) (below s.rows)) (below t.columns)

-- ---- numbers

-- products added up, where each step is a constant
abbrev pub added_from : {A : Type 0} → (A → A → Option A) → (A → A → Option A) → A → List A → List A → Option A
added_from plus times total (x ∷ xs) (y ∷ ys) = times x y |> (λ z. plus total z |> (λ sum. added_from plus times sum xs ys))
added_from plus times total xs ys = Some total

abbrev pub complex_nought : Complex
complex_nought = record { re = nought; im = nought }

abbrev pub real_matrix : Shape → List Exact → Shape → List Exact → Option Val
real_matrix s xs t ys =
    product_shape s t
    |> (λ r. all_of (entries s t (λ is js. added_from (folded work.Sum) (folded work.Product) nought (picked nought xs is) (picked nought ys js)))
    |> (λ cs. Some (Number r cs)))

abbrev pub complex_matrix : Shape → List Complex → Shape → List Complex → Option Val
complex_matrix s xs t ys =
    product_shape s t
    |> (λ r. all_of (entries s t (λ is js. added_from (complex_folded work.Sum) (complex_folded work.Product) complex_nought (picked complex_nought xs is) (picked complex_nought ys js)))
    |> (λ cs. Some (complex_value r cs)))

-- ---- fis

-- those elements of an operand
abbrev pub picked_parts : Parts → List ℕ → Parts
picked_parts p ks = record { re = picked (pos 0) p.re ks; im = of p.im }
  where
    of : Option (List ℤ) → Option (List ℤ)
    of None = None
    of (Some ys) = Some (picked (pos 0) ys ks)

abbrev pub at_places : Operand → List ℕ → Operand
at_places a ks = record { num = a.num; math = a.math; shape = a.shape; parts = picked_parts a.parts ks }

-- the products of a row and a column, of this type, added up in the sum type
abbrev pub entry : Fimath → NumericType → NumericType → Operand → Operand → List ℕ → List ℕ → Option (ℤ × Option ℤ)
entry m p t a b is js =
    result_parts work.Product m p (at_places a is) (at_places b js) (is_some a.parts.im) (is_some b.parts.im)
    |> (λ r. Some (sum_of m t p r.re, of r.im))
  where
    of : Option (List ℤ) → Option ℤ
    of None = None
    of (Some ys) = Some (sum_of m t p ys)

-- the lists of parts
abbrev pub all_parts : Bool → List (ℤ × Option ℤ) → Parts
all_parts true zs = record { re = map (λ z. z.0) zs; im = Some (map (λ z. or_nought z.1) zs) }
  where
    or_nought : Option ℤ → ℤ
    or_nought None = pos 0
    or_nought (Some y) = y
all_parts false zs = record { re = map (λ z. z.0) zs; im = None }

abbrev pub fi_matrix : Operand × Operand → Option Val
fi_matrix ab =
    let a = ab.0 in
    let b = ab.1 in
    let p = is_some a.parts.im in
    let q = is_some b.parts.im in
    product_shape a.shape b.shape
    |> (λ s. governing a.math b.math
    |> (λ g. made (result_made work.Product (p && q) g.math a.num b.num)
    |> (λ u. made (sum_made g.math u a.shape.columns)
    |> (λ t. all_of (entries a.shape b.shape (entry g.math u t a b)) |> (λ zs. Some (fi_value t g.attached s (all_parts (p || q) zs)))))))

-- ---- all classes

unfoldable pub matrix : Val → Val → Option Val
matrix (Number s xs) (Number t ys) = real_matrix s xs t ys
matrix (Number s xs) (ComplexNumber t us vs) = complex_matrix s (zipped xs (nought_parts xs)) t (zipped us vs)
matrix (ComplexNumber s xs ys) (Number t us) = complex_matrix s (zipped xs ys) t (zipped us (nought_parts us))
matrix (ComplexNumber s xs ys) (ComplexNumber t us vs) = complex_matrix s (zipped xs ys) t (zipped us vs)
matrix v x = operands v x |> fi_matrix

-- `*`: element by element where one operand has a single one
abbrev pub multiplied : Val → Val → Option Val
multiplied v x = if is_scalar (shape_of v) || is_scalar (shape_of x) then arithmetic work.Product v x else matrix v x
