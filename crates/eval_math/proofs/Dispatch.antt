-- Two values as operands, at least one of them a fi.
use Rattle.std.proofs.Common.{◌≡◌, ◌∙◌, refl, sym, ap, subst, ℕ, ℤ, List, map}
use Rattle.std.specs.Prelude.{Option, Some, None}
use Rattle.std.specs.Global.{Vec}
use Rattle.num_type.specs.Types.{NumericType}
use Rattle.num_type.specs.View.{exact_of, type_of}
use Rattle.num_type.specs.declared.dyadic.Dyadic.{Dyadic}
use Rattle.num_type.specs.declared.num_type.NumType.{NumType}
use Rattle.fi_math.specs.declared.fimath.Fimath.{Fimath}
use Rattle.fi_rules.specs.Options.{and_then}
use Rattle.fi_rules.specs.Value.{Shape, Val, Fi, ComplexFi, Logical, Number, ComplexNumber, Words, MathObject, TypeObject}
use Rattle.fi_values.specs.Arithmetic.{Operand, operands, fi_operand, beside_operand}
use Rattle.eval_value.specs.View.{fi_view, number_view, shape_view, value_view}
use Rattle.eval_value.specs.declared.fi_value.FiValue.{FiValue}
use Rattle.eval_value.specs.declared.logical_value.LogicalValue.{LogicalValue}
use Rattle.eval_value.specs.declared.number_value.NumberValue.{NumberValue}
use Rattle.eval_value.specs.declared.value.Value.{Value}
use Rattle.eval_value.specs.declared.value.Value.TheVariants as value
use Rattle.eval_math.specs.View.{items_of, operand_view}
use Rattle.eval_math.proofs.Bound.{bound_none, bound_some}

abbrev pub fi_of : NumericType → Option Fimath → Shape → List ℤ → Option (Vec ℤ) → Val
fi_of t m s xs None = Fi t m s xs
fi_of t m s xs (Some v) = ComplexFi t m s xs v.items

abbrev pub number_of : Shape → List Dyadic → Option (Vec Dyadic) → Val
number_of s ds None = Number s (map exact_of ds)
number_of s ds (Some v) = ComplexNumber s (map exact_of ds) (map exact_of v.items)

abbrev pub operand_of : NumericType → Option Fimath → Shape → List ℤ → Option (Vec ℤ) → Operand
operand_of t m s xs o = record { num = t; math = m; shape = s; parts = record { re = xs; im = items_of o } }

-- ---- a fi to the left

fi_then : (t : NumericType) (m : Option Fimath) (s : Shape) (xs : List ℤ) (o : Option (Vec ℤ)) (w : Val) → operands (fi_of t m s xs o) w ≡ and_then (beside_operand t w) (λ b. Some (operand_of t m s xs o, b))
unfolding operands fi_operand and_then
fi_then t m s xs None w = refl
fi_then t m s xs (Some v) w = refl

fi_left : (a : FiValue) (w : Val) → operands (fi_view a) w ≡ and_then (beside_operand (type_of a.num) w) (λ b. Some (operand_view a, b))
fi_left a w = fi_then (type_of a.num) a.math (shape_view a.shape) a.re.items a.im w

beside_fi : (t u : NumericType) (m : Option Fimath) (s : Shape) (xs : List ℤ) (o : Option (Vec ℤ)) → Some (operand_of u m s xs o) ≡ beside_operand t (fi_of u m s xs o)
unfolding beside_operand fi_operand
beside_fi t u m s xs None = refl
beside_fi t u m s xs (Some v) = refl

pub fi_with : {B : Type 0} (a : FiValue) (b : Operand) (w : Val) (next : Operand × Operand → Option B) (y : Option B) → Some b ≡ beside_operand (type_of a.num) w → y ≡ next (operand_view a, b) → y ≡ and_then (operands (fi_view a) w) next
fi_with a b w next y e f =
    bound_some (operands (fi_view a) w) next (operand_view a, b) y
    (bound_some (beside_operand (type_of a.num) w) (λ b. Some (operand_view a, b)) b (Some (operand_view a, b)) e refl ∙ sym (fi_left a w))
    f

pub fi_without : {B : Type 0} (a : FiValue) (w : Val) (next : Operand × Operand → Option B) → None ≡ beside_operand (type_of a.num) w → None ≡ and_then (operands (fi_view a) w) next
fi_without a w next e =
    bound_none (operands (fi_view a) w) next (bound_none (beside_operand (type_of a.num) w) (λ b. Some (operand_view a, b)) e ∙ sym (fi_left a w))

pub two_fis : {B : Type 0} (a b : FiValue) (y : Value) (next : Operand × Operand → Option B) (r : Option B) → y ≡ value.Fi b → r ≡ next (operand_view a, operand_view b) → r ≡ and_then (operands (fi_view a) (value_view y)) next
two_fis a b y next r e f =
    fi_with a (operand_view b) (fi_view b) next r (beside_fi (type_of a.num) (type_of b.num) b.math (shape_view b.shape) b.re.items b.im) f
    ∙ ap (λ (v : Value). and_then (operands (fi_view a) (value_view v)) next) (sym e)

-- a value that is neither a fi nor a number
pub data IsOther : Value → Type 0 where
  IsLogical : {v : LogicalValue} → IsOther (value.Logical v)
  IsWords : {v : List ℕ} → IsOther (value.Words v)
  IsMath : {m : Fimath} → IsOther (value.Math m)
  IsType : {t : NumType} → IsOther (value.Type t)

other_beside : (t : NumericType) (y : Value) → IsOther y → None ≡ beside_operand t (value_view y)
unfolding beside_operand fi_operand
other_beside t y IsLogical = refl
other_beside t y IsWords = refl
other_beside t y IsMath = refl
other_beside t y IsType = refl

pub fi_and_other : {B : Type 0} (a : FiValue) (y : Value) (next : Operand × Operand → Option B) → IsOther y → None ≡ and_then (operands (fi_view a) (value_view y)) next
fi_and_other a y next h = fi_without a (value_view y) next (other_beside (type_of a.num) y h)

-- ---- a number to the left

then_fi : (s : Shape) (ds : List Dyadic) (q : Option (Vec Dyadic)) (u : NumericType) (m : Option Fimath) (r : Shape) (xs : List ℤ) (o : Option (Vec ℤ)) → operands (number_of s ds q) (fi_of u m r xs o) ≡ and_then (beside_operand u (number_of s ds q)) (λ a. Some (a, operand_of u m r xs o))
unfolding operands fi_operand and_then
then_fi s ds None u m r xs None = refl
then_fi s ds None u m r xs (Some v) = refl
then_fi s ds (Some w) u m r xs None = refl
then_fi s ds (Some w) u m r xs (Some v) = refl

fi_right : (n : NumberValue) (b : FiValue) → operands (number_view n) (fi_view b) ≡ and_then (beside_operand (type_of b.num) (number_view n)) (λ a. Some (a, operand_view b))
fi_right n b = then_fi (shape_view n.shape) n.re.items n.im (type_of b.num) b.math (shape_view b.shape) b.re.items b.im

pub number_with : {B : Type 0} (n : NumberValue) (a : Operand) (b : FiValue) (next : Operand × Operand → Option B) (y : Option B) → Some a ≡ beside_operand (type_of b.num) (number_view n) → y ≡ next (a, operand_view b) → y ≡ and_then (operands (number_view n) (fi_view b)) next
number_with n a b next y e f =
    bound_some (operands (number_view n) (fi_view b)) next (a, operand_view b) y
    (bound_some (beside_operand (type_of b.num) (number_view n)) (λ a. Some (a, operand_view b)) a (Some (a, operand_view b)) e refl ∙ sym (fi_right n b))
    f

pub number_without : {B : Type 0} (n : NumberValue) (b : FiValue) (next : Operand × Operand → Option B) → None ≡ beside_operand (type_of b.num) (number_view n) → None ≡ and_then (operands (number_view n) (fi_view b)) next
number_without n b next e =
    bound_none (operands (number_view n) (fi_view b)) next (bound_none (beside_operand (type_of b.num) (number_view n)) (λ a. Some (a, operand_view b)) e ∙ sym (fi_right n b))

then_other : (s : Shape) (ds : List Dyadic) (q : Option (Vec Dyadic)) (y : Value) → IsOther y → None ≡ operands (number_of s ds q) (value_view y)
unfolding operands
then_other s ds None y IsLogical = refl
then_other s ds None y IsWords = refl
then_other s ds None y IsMath = refl
then_other s ds None y IsType = refl
then_other s ds (Some w) y IsLogical = refl
then_other s ds (Some w) y IsWords = refl
then_other s ds (Some w) y IsMath = refl
then_other s ds (Some w) y IsType = refl

pub number_and_other : {B : Type 0} (n : NumberValue) (y : Value) (next : Operand × Operand → Option B) → IsOther y → None ≡ and_then (operands (number_view n) (value_view y)) next
number_and_other n y next h = bound_none (operands (number_view n) (value_view y)) next (then_other (shape_view n.shape) n.re.items n.im y h)

then_number : (s : Shape) (ds : List Dyadic) (q : Option (Vec Dyadic)) (r : Shape) (es : List Dyadic) (p : Option (Vec Dyadic)) → None ≡ operands (number_of s ds q) (number_of r es p)
unfolding operands
then_number s ds None r es None = refl
then_number s ds None r es (Some v) = refl
then_number s ds (Some w) r es None = refl
then_number s ds (Some w) r es (Some v) = refl

pub two_numbers : {B : Type 0} (n o : NumberValue) (y : Value) (next : Operand × Operand → Option B) → y ≡ value.Number o → None ≡ and_then (operands (number_view n) (value_view y)) next
two_numbers n o y next e =
    bound_none (operands (number_view n) (number_view o)) next (then_number (shape_view n.shape) n.re.items n.im (shape_view o.shape) o.re.items o.im)
    ∙ ap (λ (v : Value). and_then (operands (number_view n) (value_view v)) next) (sym e)

-- ---- another value to the left

other_first : (x : Value) (w : Val) → IsOther x → None ≡ operands (value_view x) w
unfolding operands beside_operand fi_operand and_then
other_first x (Fi t m s xs) IsLogical = refl
other_first x (Fi t m s xs) IsWords = refl
other_first x (Fi t m s xs) IsMath = refl
other_first x (Fi t m s xs) IsType = refl
other_first x (ComplexFi t m s xs ys) IsLogical = refl
other_first x (ComplexFi t m s xs ys) IsWords = refl
other_first x (ComplexFi t m s xs ys) IsMath = refl
other_first x (ComplexFi t m s xs ys) IsType = refl
other_first x w IsLogical = refl
other_first x w IsWords = refl
other_first x w IsMath = refl
other_first x w IsType = refl

pub other_left : {B : Type 0} (x : Value) (w : Val) (next : Operand × Operand → Option B) → IsOther x → None ≡ and_then (operands (value_view x) w) next
other_left x w next h = bound_none (operands (value_view x) w) next (other_first x w h)

-- ---- by what the code finds

pub is_logical : (x : Value) (v : LogicalValue) → x ≡ value.Logical v → IsOther x
is_logical x v e = let h : IsOther (value.Logical v) = IsLogical in subst IsOther (sym e) h

pub is_words : (x : Value) (v : List ℕ) → x ≡ value.Words v → IsOther x
is_words x v e = let h : IsOther (value.Words v) = IsWords in subst IsOther (sym e) h

pub is_math : (x : Value) (v : Fimath) → x ≡ value.Math v → IsOther x
is_math x v e = let h : IsOther (value.Math v) = IsMath in subst IsOther (sym e) h

pub is_type : (x : Value) (v : NumType) → x ≡ value.Type v → IsOther x
is_type x v e = let h : IsOther (value.Type v) = IsType in subst IsOther (sym e) h
