-- The governing fimath of an operation with two operands.
use Rattle.std.specs.Prelude.{Option, Some, None, Result, Ok, Err, pos, true, if◌then◌else◌}
use Rattle.num_type.specs.declared.methods.Rounding.TheVariants.{Nearest}
use Rattle.num_type.specs.declared.methods.Overflow.TheVariants.{Saturate}
use Rattle.fi_math.specs.declared.fimath.Fimath.{Fimath}
use Rattle.fi_math.specs.declared.fimath.Mode.TheVariants.{FullPrecision}
use Rattle.fi_math.specs.declared.governing.Governed.{Governed}
use Rattle.fi_math.specs.declared.governing.Differ.{Differ}
use Rattle.fi_math.specs.Same.{same_fimath}

-- the defaults of the nine properties
abbrev pub usual : Fimath
usual = record {
  rounding = Nearest;
  overflow = Saturate;
  product_mode = FullPrecision;
  product_word = 32;
  product_fraction = pos 30;
  sum_mode = FullPrecision;
  sum_word = 32;
  sum_fraction = pos 30;
  cast_before_sum = true;
}

-- an attached fimath governs and is attached to the result; two must be equal; without one the default governs and none is attached
unfoldable pub governed : Option Fimath → Option Fimath → Result Governed Differ
governed None None = Ok (record { math = usual; attached = None })
governed (Some m) None = Ok (record { math = m; attached = Some m })
governed None (Some m) = Ok (record { math = m; attached = Some m })
governed (Some m) (Some n) = if same_fimath m n then Ok (record { math = m; attached = Some m }) else Err (record { left = m; right = n })
