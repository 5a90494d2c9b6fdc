-- Sums along a dimension, as the code goes through them.
use Rattle.std.specs.Prelude.{ℕ, ℤ, List, Option, Some, None}
use Rattle.num_type.specs.Types.{NumericType}
use Rattle.fi_math.specs.declared.fimath.Fimath.{Fimath}
use Rattle.fi_rules.specs.Value.{Shape}
use Rattle.fi_values.specs.Arithmetic.{Operand}
use Rattle.fi_values.specs.Sums.{Along, Columns, Rows, column_places, row_places, sum_shape, sums}
use Rattle.eval_math.specs.declared.sums.Along as code_along
use Rattle.eval_math.specs.declared.sums.Along.TheVariants as along

abbrev pub along_view : code_along.Along → Along
along_view along.Columns = Columns
along_view along.Rows = Rows

-- how many sums there are
abbrev pub group_count : Along → Shape → ℕ
group_count Columns s = s.columns
group_count Rows s = s.rows

-- the places of the elements of one of them
abbrev pub group : Along → Shape → ℕ → List ℕ
group Columns s g = column_places s g
group Rows s g = row_places s g

abbrev pub summed_imaginary : Fimath → NumericType → NumericType → Along → Shape → Option (List ℤ) → Option (List ℤ)
summed_imaginary m t a along s None = None
summed_imaginary m t a along s (Some ys) = Some (sums m t a along s ys)

-- the sums of an operand's elements, in this type
abbrev pub summed_operand : Fimath → NumericType → Along → Operand → Operand
summed_operand m t along a = record {
  num = t;
  math = a.math;
  shape = sum_shape along a.shape;
  parts = record { re = sums m t a.num along a.shape a.parts.re; im = summed_imaginary m t a.num along a.shape a.parts.im };
}
