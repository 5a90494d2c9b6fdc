-- The parts of numbers.
use Rattle.std.specs.Prelude.{Bool, is_some, List, map, Option, Some, None}
use Rattle.std.specs.Global.{Vec}
use Rattle.num_type.specs.Constants.{Exact}
use Rattle.num_type.specs.View.{exact_of}
use Rattle.num_type.specs.declared.dyadic.Dyadic.{Dyadic}
use Rattle.const_eval.specs.Complex.{Complex}
use Rattle.fi_values.specs.Arithmetic.{zipped}
use Rattle.fi_values.specs.Numbers.{nought_parts}
use Rattle.eval_value.specs.declared.number_value.NumberValue.{NumberValue}

-- the imaginary parts: zeros of a real number
abbrev pub imaginary_exacts : NumberValue → List Exact
imaginary_exacts n = of n.im
  where
    of : Option (Vec Dyadic) → List Exact
    of None = nought_parts (map exact_of n.re.items)
    of (Some v) = map exact_of v.items

abbrev pub is_complex_number : NumberValue → Bool
is_complex_number n = is_some n.im

-- the elements as complex numbers
abbrev pub complex_numbers : NumberValue → List Complex
complex_numbers n = zipped (map exact_of n.re.items) (imaginary_exacts n)
