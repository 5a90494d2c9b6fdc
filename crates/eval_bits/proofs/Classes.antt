-- Values by their classes.
use Rattle.std.proofs.Common.{◌≡◌, List, Option, Some, None, refl, ap, sym, ◌∙◌}
use Rattle.std.specs.Prelude.{ℕ, ℤ, map}
use Rattle.std.specs.Global.{Vec}
use Rattle.num_type.specs.Constants.{Exact}
use Rattle.num_type.specs.Types.{NumericType}
use Rattle.num_type.specs.View.{exact_of, type_of}
use Rattle.num_type.specs.declared.dyadic.Dyadic.{Dyadic}
use Rattle.fi_math.specs.declared.fimath.Fimath.{Fimath}
use Rattle.fi_rules.specs.Value.{Shape, Val, Fi, ComplexFi, Logical, Number, ComplexNumber, Words, MathObject, TypeObject}
use Rattle.fi_rules.specs.Options.{and_then}
use Rattle.fi_eval.specs.Calls as calls_taken
use Rattle.fi_values.specs.Stores.{complex_taken}
use Rattle.fi_meaning.specs.Calls as calls
use Rattle.eval_value.specs.View.{fi_view, logical_view, number_view, shape_view, value_view}
use Rattle.eval_value.specs.declared.fi_value.FiValue.{FiValue}
use Rattle.eval_value.specs.declared.logical_value.LogicalValue.{LogicalValue}
use Rattle.eval_value.specs.declared.number_value.NumberValue.{NumberValue}
use Rattle.eval_value.specs.declared.value.Value.{Value}
use Rattle.eval_value.specs.declared.value.Value.TheVariants as value

abbrev pub numbers_view : Shape → List Exact → Option (Vec Dyadic) → Val
numbers_view s xs None = Number s xs
numbers_view s xs (Some parts) = ComplexNumber s xs (map exact_of parts.items)

numbers_by : (P : Val → Type 0) (s : Shape) (xs : List Exact) (im : Option (Vec Dyadic)) → P (Number s xs) → ((ys : List Exact) → P (ComplexNumber s xs ys)) → P (numbers_view s xs im)
numbers_by P s xs None p q = p
numbers_by P s xs (Some parts) p q = q (map exact_of parts.items)

-- what holds of real constants and of complex ones
pub number_cases : (P : Val → Type 0) (v : NumberValue) → ((s : Shape) (cs : List Exact) → P (Number s cs)) → ((s : Shape) (xs ys : List Exact) → P (ComplexNumber s xs ys)) → P (number_view v)
number_cases P v p q = numbers_by P (shape_view v.shape) (map exact_of v.re.items) v.im (p (shape_view v.shape) (map exact_of v.re.items)) (q (shape_view v.shape) (map exact_of v.re.items))

-- what holds of the values of each class
pub value_cases : (P : Val → Type 0) (w : Value)
    → ((v : FiValue) → w ≡ value.Fi v → P (fi_view v))
    → ((v : LogicalValue) → w ≡ value.Logical v → P (logical_view v))
    → ((v : NumberValue) → w ≡ value.Number v → P (number_view v))
    → ((text : List ℕ) → P (Words text)) → ((m : Fimath) → P (MathObject m)) → ((t : NumericType) → P (TypeObject t)) → P (value_view w)
value_cases P (value.Fi v) fi logical number words math type = fi v refl
value_cases P (value.Logical v) fi logical number words math type = logical v refl
value_cases P (value.Number v) fi logical number words math type = number v refl
value_cases P (value.Words text) fi logical number words math type = words text
value_cases P (value.Math m) fi logical number words math type = math m
value_cases P (value.Type t) fi logical number words math type = type (type_of t)

-- ---- constants taken into a type

real_taken_by : (t : NumericType) (m : Option Fimath) (s : Shape) (xs : List Exact) (im : Option (Vec Dyadic)) (zs : List ℤ) → im ≡ None → zs ≡ map (calls_taken.taken_constant t m) xs → Some (Fi t m s zs) ≡ calls.taken_value t m (numbers_view s xs im)
unfolding calls.taken_value
real_taken_by t m s xs im zs e h = ap (λ ys. Some (Fi t m s ys)) h ∙ ap (λ o. calls.taken_value t m (numbers_view s xs o)) (sym e)

pub real_constants_taken : (v : NumberValue) (t : NumericType) (m : Option Fimath) (zs : List ℤ) → v.im ≡ None → zs ≡ map (calls_taken.taken_constant t m) (map exact_of v.re.items) → Some (Fi t m (shape_view v.shape) zs) ≡ calls.taken_value t m (number_view v)
real_constants_taken v t m zs e h = real_taken_by t m (shape_view v.shape) (map exact_of v.re.items) v.im zs e h

complex_taken_by : (t : NumericType) (m : Option Fimath) (s : Shape) (xs : List Exact) (im : Option (Vec Dyadic)) (parts : Vec Dyadic) (zs ws : List ℤ) → im ≡ Some parts → zs ≡ map (calls_taken.taken_constant t m) xs → ws ≡ map (calls_taken.taken_constant t m) (map exact_of parts.items)
    → Some (ComplexFi t m s zs ws) ≡ calls.taken_value t m (numbers_view s xs im)
unfolding calls.taken_value complex_taken and_then
complex_taken_by t m s xs im parts zs ws e h k = (λ i. Some (ComplexFi t m s (h i) (k i))) ∙ ap (λ o. calls.taken_value t m (numbers_view s xs o)) (sym e)

pub complex_constants_taken : (v : NumberValue) (parts : Vec Dyadic) (t : NumericType) (m : Option Fimath) (zs ws : List ℤ) → v.im ≡ Some parts → zs ≡ map (calls_taken.taken_constant t m) (map exact_of v.re.items) → ws ≡ map (calls_taken.taken_constant t m) (map exact_of parts.items)
    → Some (ComplexFi t m (shape_view v.shape) zs ws) ≡ calls.taken_value t m (number_view v)
complex_constants_taken v parts t m zs ws e h k = complex_taken_by t m (shape_view v.shape) (map exact_of v.re.items) v.im parts zs ws e h k
