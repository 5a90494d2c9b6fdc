-- What values of the code stand for.
use Rattle.std.specs.Prelude.{ℤ, List, map, Option, Some, None}
use Rattle.std.specs.Global.{Vec}
use Rattle.num_type.specs.View.{type_of, exact_of}
use Rattle.num_type.specs.declared.dyadic.Dyadic.{Dyadic}
use Rattle.shape_rules.specs.declared.shape.Shape as code_shape
use Rattle.shape_rules.specs.Shapes.{rows_of, columns_of}
use Rattle.fi_rules.specs.Value.{Shape, Val, Fi, ComplexFi, Logical, Number, ComplexNumber, Words, MathObject, TypeObject}
use Rattle.eval_value.specs.declared.fi_value.FiValue.{FiValue}
use Rattle.eval_value.specs.declared.logical_value.LogicalValue.{LogicalValue}
use Rattle.eval_value.specs.declared.number_value.NumberValue.{NumberValue}
use Rattle.eval_value.specs.declared.value.Value.{Value}
use Rattle.eval_value.specs.declared.value.Value.TheVariants as value

abbrev pub shape_view : code_shape.Shape → Shape
shape_view s = record { rows = rows_of s; columns = columns_of s }

abbrev pub fi_view : FiValue → Val
fi_view v = of v.im
  where
    of : Option (Vec ℤ) → Val
    of None = Fi (type_of v.num) v.math (shape_view v.shape) v.re.items
    of (Some parts) = ComplexFi (type_of v.num) v.math (shape_view v.shape) v.re.items parts.items

abbrev pub logical_view : LogicalValue → Val
logical_view v = Logical (shape_view v.shape) v.truths.items

abbrev pub number_view : NumberValue → Val
number_view v = of v.im
  where
    of : Option (Vec Dyadic) → Val
    of None = Number (shape_view v.shape) (map exact_of v.re.items)
    of (Some parts) = ComplexNumber (shape_view v.shape) (map exact_of v.re.items) (map exact_of parts.items)

abbrev pub value_view : Value → Val
value_view (value.Fi v) = fi_view v
value_view (value.Logical v) = logical_view v
value_view (value.Number v) = number_view v
value_view (value.Words text) = Words text
value_view (value.Math m) = MathObject m
value_view (value.Type t) = TypeObject (type_of t)

-- an answer or an item of a list: none stays none
abbrev pub item_view : Option Value → Option Val
item_view None = None
item_view (Some v) = Some (value_view v)

-- the values of a row of a bracket
abbrev pub row_view : Vec Value → List Val
row_view r = map value_view r.items
