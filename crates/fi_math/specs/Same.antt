-- Whether two fimaths are equal in all nine properties.
use Rattle.std.specs.Prelude.{ℕ, Bool, nat_eq, ◌&&◌}
use mathlib.Core.Bool.{beq}
use Rattle.std.specs.Ordering.{int_eq}
use Rattle.num_type.specs.declared.methods.Rounding.{Rounding}
use Rattle.num_type.specs.declared.methods.Rounding.TheVariants.{Ceiling, Floor, Zero, Nearest, Round, Convergent}
use Rattle.num_type.specs.declared.methods.Overflow.{Overflow}
use Rattle.num_type.specs.declared.methods.Overflow.TheVariants.{Saturate, Wrap}
use Rattle.fi_math.specs.declared.fimath.Mode.{Mode}
use Rattle.fi_math.specs.declared.fimath.Mode.TheVariants.{FullPrecision, KeepLSB, KeepMSB, SpecifyPrecision}
use Rattle.fi_math.specs.declared.fimath.Fimath.{Fimath}

-- a number for each rounding method
abbrev pub rounding_number : Rounding → ℕ
rounding_number Ceiling = 0
rounding_number Floor = 1
rounding_number Zero = 2
rounding_number Nearest = 3
rounding_number Round = 4
rounding_number Convergent = 5

-- one for each overflow action
abbrev pub overflow_number : Overflow → ℕ
overflow_number Saturate = 0
overflow_number Wrap = 1

-- one for each mode
abbrev pub mode_number : Mode → ℕ
mode_number FullPrecision = 0
mode_number KeepLSB = 1
mode_number KeepMSB = 2
mode_number SpecifyPrecision = 3

-- whether all nine properties are equal
unfoldable pub same_fimath : Fimath → Fimath → Bool
same_fimath m n =
    nat_eq (rounding_number m.rounding) (rounding_number n.rounding)
    && nat_eq (overflow_number m.overflow) (overflow_number n.overflow)
    && nat_eq (mode_number m.product_mode) (mode_number n.product_mode)
    && nat_eq m.product_word n.product_word
    && int_eq m.product_fraction n.product_fraction
    && nat_eq (mode_number m.sum_mode) (mode_number n.sum_mode)
    && nat_eq m.sum_word n.sum_word
    && int_eq m.sum_fraction n.sum_fraction
    && beq m.cast_before_sum n.cast_before_sum
