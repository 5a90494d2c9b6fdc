-- Arrays that are joined.
use Rattle.std.specs.Prelude.{◌≡◌, List, [], Option}
use Rattle.num_type.specs.Constants.{Exact}
use Rattle.num_type.specs.Types.{NumericType}
use Rattle.fi_math.specs.declared.fimath.Fimath.{Fimath}
use Rattle.fi_rules.specs.Options.{and_then, where_so}
use Rattle.fi_rules.specs.Value.{Shape, Val, Number, ComplexNumber}
use Rattle.fi_values.specs.Brackets.{Join, Beside, Above, same_kind, shape_by}
use Rattle.fi_values.specs.Numbers.{nought_parts}

-- beside each other the same height, above each other the same width
abbrev pub IsJoint : Join → Shape → Shape → Type 0
IsJoint Beside s t = s.rows ≡ t.rows
IsJoint Above s t = s.columns ≡ t.columns

-- the joined shape of fis with the same type and fimath
abbrev pub fi_joint : Join → NumericType → Option Fimath → Shape → NumericType → Option Fimath → Shape → Option Shape
fi_joint j t m s u n r = and_then (where_so (same_kind t m u n) s) (λ s. shape_by j s r)

-- the imaginary parts of numbers: zeros where they are real
unfoldable pub imaginary_of : Val → List Exact
imaginary_of (Number s xs) = nought_parts xs
imaginary_of (ComplexNumber s xs ys) = ys
imaginary_of v = []
