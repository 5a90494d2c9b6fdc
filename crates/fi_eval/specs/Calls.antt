-- Calls of built-in functions on values. Their conditions and the types of their results are the rules on the types of the arguments.
use Rattle.std.specs.Prelude.{ℕ, ℤ, neg_ℤ, List, [], ◌∷◌, map, Option, Some, None}
use Rattle.fic_base.specs.declared.place.Place.{Place}
use Rattle.num_type.specs.Constants.{Exact}
use Rattle.num_type.specs.Types.{NumericType}
use Rattle.fi_quant.specs.Numbers.{quantised}
use Rattle.fi_math.specs.declared.fimath.Fimath.{Fimath}
use Rattle.fi_rules.specs.declared.built_ins.BuiltIn.{BuiltIn}
use Rattle.fi_rules.specs.Value.{Val, Fi, Number}
use Rattle.fi_rules.specs.Types.{type_of, known_value}
use Rattle.fi_rules.specs.Calls.{Built, Taken, Attached, SignTaken, Object, call_checked, built_in_named}
use Rattle.fi_eval.specs.Outcome.{Got, Gives, Wrong, ◌>>=◌, or_wrong}
use Rattle.fi_eval.specs.Operators.{math_of, met_at, turned, Remove}

-- the exact z * 2 ^ -f in a type, by a fimath or by the default one
abbrev pub taken : NumericType → Option Fimath → ℤ → ℤ → ℤ
taken t m z f = quantised (math_of m).rounding (math_of m).overflow t z f

-- a constant there
abbrev pub taken_constant : NumericType → Option Fimath → Exact → ℤ
taken_constant t m c = taken t m c.significand (neg_ℤ c.exponent)

-- a value in a type, with this fimath attached
unfoldable pub taken_value : Place → NumericType → Option Fimath → Val → Got Place Val
taken_value at t m (Fi u n s xs) = Gives (Fi t m s (map (λ z. taken t m z u.fraction) xs))
taken_value at t m (Number s cs) = Gives (Fi t m s (map (taken_constant t m) cs))
taken_value at t m v = Wrong at

-- a fi with another fimath, or with none
unfoldable pub attached : Place → Option Fimath → Val → Got Place Val
attached at m (Fi t n s xs) = Gives (Fi t m s xs)
attached at m v = Wrong at

-- what a call gives, from its first argument
unfoldable pub built_value : Place → Built → List Val → Got Place Val
built_value at (Object t) vs = or_wrong at (known_value t)
built_value at (Taken t m) (v ∷ vs) = taken_value at t m v
built_value at (Attached m) (v ∷ vs) = attached at m v
built_value at SignTaken (v ∷ vs) = turned at Remove v
built_value at r [] = Wrong at

unfoldable pub called_built_in : Place → Option BuiltIn → List Val → Got Place Val
called_built_in at None vs = Wrong at
called_built_in at (Some b) vs = met_at at (call_checked b (map type_of vs)) >>= (λ r. built_value at r vs)

-- a call of a name on values
abbrev pub called_name : Place → List ℕ → List Val → Got Place Val
called_name at name vs = called_built_in at (built_in_named name) vs
