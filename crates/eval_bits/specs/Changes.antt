-- What is done to each stored integer of a fi.
use Rattle.std.specs.Prelude.{ℕ, ◌+◌, ◌-◌, ◌<◌, ◌≤◌, Bool, ℤ, List, map, Option, Some, None}
use Rattle.num_type.specs.Types.{NumericType}
use Rattle.num_type.specs.View.{type_of}
use Rattle.fi_math.specs.declared.fimath.Fimath.{Fimath}
use Rattle.fi_ops.specs.Elements.{Element}
use Rattle.fi_ops.specs.Bits.{left_shifted, right_shifted, sign_shifted, complemented, sliced, word_type}
use Rattle.fi_rules.specs.Value.{Val, Fi, ComplexFi, Logical, Number, ComplexNumber, Words, MathObject, TypeObject}
use Rattle.fi_eval.specs.Calls as calls
use Rattle.fi_eval.specs.Operators.{Negate, Remove, math_of, turned_element}
use Rattle.fi_meaning.specs.Calls.{truth_number}
use Rattle.eval_bits.specs.declared.change.Shift.{Shift}
use Rattle.eval_bits.specs.declared.change.Shift.TheVariants as shift
use Rattle.eval_bits.specs.declared.change.Change.{Change}
use Rattle.eval_bits.specs.declared.change.Change.TheVariants as change

-- bits moved by so many places
abbrev pub moved : Shift → ℕ → Element → ℤ
moved shift.Left = left_shifted
moved shift.Right = right_shifted
moved shift.Sign = sign_shifted

-- the changed stored integer of an element of a type
unfoldable pub applied : Change → NumericType → ℤ → ℤ
applied (change.Negated m) t z = turned_element Negate (math_of m) t z
applied (change.Absolute m) t z = turned_element Remove (math_of m) t z
applied change.Complemented t z = complemented (record { num = t; z = z })
applied (change.Shifted s k) t z = moved s k (record { num = t; z = z })
applied (change.Sliced l r) t z = (sliced l r (record { num = t; z = z })).z
applied (change.Taken u m) t z = calls.taken (type_of u) m z t.fraction

-- its type
unfoldable pub target_of : Change → NumericType → NumericType
target_of (change.Sliced l r) t = word_type (l - r + 1)
target_of (change.Taken u m) t = type_of u
target_of c t = t

-- fewer places than the word has bits, and bits that it has
abbrev pub CanApply : Change → NumericType → Type 0
CanApply (change.Shifted s k) t = k < t.word
CanApply (change.Sliced l r) t = (1 ≤ r) × (r ≤ l) × (l ≤ t.word)
CanApply c t = Unit {0}

-- a fi with its stored integers changed part by part, in this type and with this fimath
unfoldable pub changed : (ℤ → ℤ) → NumericType → Option Fimath → Val → Val
changed f t m (Fi u n s xs) = Fi t m s (map f xs)
changed f t m (ComplexFi u n s xs ys) = ComplexFi t m s (map f xs) (map f ys)
changed f t m v = v

-- a real fi
unfoldable pub real_fi : Val → Option Val
real_fi (Fi t m s xs) = Some (Fi t m s xs)
real_fi v = None

-- the stored integer of a truth value in a type
abbrev pub taken_truth : NumericType → Option Fimath → Bool → ℤ
taken_truth t m b = calls.taken_constant t m (truth_number b)
