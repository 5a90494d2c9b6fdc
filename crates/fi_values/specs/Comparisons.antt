-- Comparisons, by exact values.
use Rattle.std.specs.Prelude.{ℤ, neg_ℤ, Bool, true, false, not, ◌&&◌, ◌||◌, if◌then◌else◌, List, map, Option, Some, None, is_none}
use mathlib.Core.Bool.{beq}
use Rattle.std.specs.declared.cmp.Ordering.{Ordering}
use Rattle.std.specs.declared.cmp.Ordering.TheVariants.{Less, Equal, Greater}
use Rattle.mat_ast.specs.declared.tree.BinOp.{BinOp}
use Rattle.mat_ast.specs.declared.tree.BinOp.TheVariants as bin
use Rattle.num_type.specs.Constants.{Exact, order_of}
use Rattle.num_type.specs.Types.{NumericType}
use Rattle.fi_rules.specs.Value.{Shape, Val, Logical, Number, ComplexNumber}
use Rattle.fi_rules.specs.Options.{◌|>◌, where_so}
use Rattle.fi_eval.specs.Operators.{pairwise}
use Rattle.fi_values.specs.Arithmetic.{Operand, operands, governing}
use Rattle.fi_values.specs.Numbers.{nought_parts}
use Rattle.fi_values.specs.Shapes.{common}

-- which orders of the two values an operator asks for
pub data Comparison : Type 0 where
  -- of real values alone
  Orders : (Ordering → Bool) → Comparison
  -- whether they are equal, or differ
  Equals : Bool → Comparison

abbrev pub is_less : Ordering → Bool
is_less Less = true
is_less Equal = false
is_less Greater = false

abbrev pub is_greater : Ordering → Bool
is_greater Less = false
is_greater Equal = false
is_greater Greater = true

abbrev pub is_equal : Ordering → Bool
is_equal o = not (is_less o || is_greater o)

unfoldable pub comparison_of : BinOp → Option Comparison
comparison_of bin.Eq = Some (Equals true)
comparison_of bin.Ne = Some (Equals false)
comparison_of bin.Lt = Some (Orders is_less)
comparison_of bin.Le = Some (Orders (λ o. not (is_greater o)))
comparison_of bin.Gt = Some (Orders is_greater)
comparison_of bin.Ge = Some (Orders (λ o. not (is_less o)))
comparison_of o = None

-- ---- what is compared: exact values

pub record Compared : Type 0 where
  pub shape : Shape
  pub re : List Exact
  -- of a complex value
  pub im : Option (List Exact)

-- the exact values of stored integers
abbrev pub exacts : NumericType → List ℤ → List Exact
exacts t zs = map (λ z. record { significand = z; exponent = neg_ℤ t.fraction }) zs

abbrev pub compared : Operand → Compared
compared a = record { shape = a.shape; re = exacts a.num a.parts.re; im = of a.parts.im }
  where
    of : Option (List ℤ) → Option (List Exact)
    of None = None
    of (Some ys) = Some (exacts a.num ys)

-- zeros for the imaginary parts of real values
abbrev pub imaginary_of : Compared → List Exact
imaginary_of c = parts c.im
  where
    parts : Option (List Exact) → List Exact
    parts None = nought_parts c.re
    parts (Some ys) = ys

abbrev pub are_equal : Exact → Exact → Bool
are_equal x y = is_equal (order_of x y)

-- both parts are equal
abbrev pub equal_elements : Compared → Compared → List Bool
equal_elements a b = pairwise (λ p q. p && q) (pairwise are_equal a.re b.re) (pairwise are_equal (imaginary_of a) (imaginary_of b))

unfoldable pub elements_of : Comparison → Compared → Compared → Option (List Bool)
elements_of (Orders f) a b = where_so (is_none a.im && is_none b.im) (pairwise (λ x y. f (order_of x y)) a.re b.re)
elements_of (Equals true) a b = Some (equal_elements a b)
elements_of (Equals false) a b = Some (map not (equal_elements a b))

abbrev pub of_compared : Comparison → Compared → Compared → Option Val
of_compared o a b = common a.shape b.shape |> (λ s. elements_of o a b |> (λ bs. Some (Logical s bs)))

-- ---- by classes

-- of two logicals whether they are equal, or differ
unfoldable pub of_truths : Comparison → Shape → List Bool → Shape → List Bool → Option Val
of_truths (Orders f) s bs t cs = None
of_truths (Equals same) s bs t cs = common s t |> (λ r. Some (Logical r (pairwise (λ b c. beq same (beq b c)) bs cs)))

-- a number, where no fi stands beside it
unfoldable pub number_compared : Val → Option Compared
number_compared (Number s cs) = Some (record { shape = s; re = cs; im = None })
number_compared (ComplexNumber s xs ys) = Some (record { shape = s; re = xs; im = Some ys })
number_compared v = None

unfoldable pub is_number : Val → Bool
is_number (Number s cs) = true
is_number (ComplexNumber s xs ys) = true
is_number v = false

-- fis, and numbers beside them, which have to be exact there; the fimaths agree
abbrev pub of_operands : Comparison → Operand × Operand → Option Val
of_operands o ab = governing ab.0.math ab.1.math |> (λ g. of_compared o (compared ab.0) (compared ab.1))

abbrev pub of_numbers : Comparison → Val → Val → Option Val
of_numbers o v w = number_compared v |> (λ a. number_compared w |> (λ b. of_compared o a b))

unfoldable pub compared_values : Comparison → Val → Val → Option Val
compared_values o (Logical s bs) (Logical t cs) = of_truths o s bs t cs
compared_values o v w = if is_number v && is_number w then of_numbers o v w else (operands v w |> of_operands o)
