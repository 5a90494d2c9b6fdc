-- Built-in functions that ask for a shape, take parts, and make arrays of numbers.
use Rattle.std.specs.Prelude.{ℕ, zero, suc, pos, max, map, Option, Some, None}
use Rattle.num_type.specs.Constants.{Exact}
use Rattle.fi_rules.specs.Types.{same_type}
use Rattle.fi_rules.specs.Value.{Shape, count, Val, Fi, ComplexFi, Logical, Number, ComplexNumber}
use Rattle.fi_rules.specs.Options.{◌|>◌, where_so}
use Rattle.fi_eval.specs.Operators.{pairwise}
use Rattle.fi_values.specs.Arithmetic.{governing}
use Rattle.fi_values.specs.Elements.{below}
use Rattle.fi_values.specs.Numbers.{whole_value}
use Rattle.fi_values.specs.Shapes.{common, is_small}

-- the shape of a fi, a logical or a number
unfoldable pub array_shape : Val → Option Shape
array_shape (Fi t m s xs) = Some s
array_shape (ComplexFi t m s xs ys) = Some s
array_shape (Logical s bs) = Some s
array_shape (Number s cs) = Some s
array_shape (ComplexNumber s xs ys) = Some s
array_shape v = None

abbrev pub element_count : Val → Option Val
element_count v = array_shape v |> (λ s. Some (whole_value (count s)))

abbrev pub greater_extent : Val → Option Val
greater_extent v = array_shape v |> (λ s. Some (whole_value (max s.rows s.columns)))

-- along dimension 1 or 2
unfoldable pub extent_along : ℕ → Shape → Option ℕ
extent_along (suc zero) s = Some s.rows
extent_along (suc (suc zero)) s = Some s.columns
extent_along d s = None

abbrev pub extent_of : ℕ → Val → Option Val
extent_of d v = array_shape v |> (λ s. extent_along d s |> (λ n. Some (whole_value n)))

-- ---- parts

unfoldable pub real_part : Val → Option Val
real_part (Fi t m s xs) = Some (Fi t m s xs)
real_part (ComplexFi t m s xs ys) = Some (Fi t m s xs)
real_part v = None

unfoldable pub imaginary_part : Val → Option Val
imaginary_part (Fi t m s xs) = Some (Fi t m s (map (λ x. pos 0) xs))
imaginary_part (ComplexFi t m s xs ys) = Some (Fi t m s ys)
imaginary_part v = None

-- a complex fi of two real ones of one type
unfoldable pub complex_of : Val → Val → Option Val
complex_of (Fi t m s xs) (Fi u n r ys) =
    where_so (same_type t u) t
    |> (λ t. common s r
    |> (λ q. governing m n |> (λ g. Some (ComplexFi t g.attached q (pairwise (λ x y. x) xs ys) (pairwise (λ x y. y) xs ys)))))
complex_of v w = None

-- ---- arrays of one number

abbrev pub filled : Exact → Shape → Option Val
filled c s = where_so (is_small s) s |> (λ s. Some (Number s (map (λ k. c) (below (count s)))))
