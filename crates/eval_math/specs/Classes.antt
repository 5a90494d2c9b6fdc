-- The classes of values of the code.
use Rattle.std.specs.Prelude.{Bool, true, false}
use Rattle.eval_value.specs.declared.value.Value.{Value}
use Rattle.eval_value.specs.declared.value.Value.TheVariants as value

abbrev pub is_number : Value → Bool
is_number (value.Fi v) = false
is_number (value.Logical v) = false
is_number (value.Number v) = true
is_number (value.Words text) = false
is_number (value.Math m) = false
is_number (value.Type t) = false
