-- Arithmetic on two values of which one at least is no number.
use Rattle.std.proofs.Common.{◌≡◌, ◌∙◌, refl, sym, ℤ, Bool, true, false, List}
use Rattle.std.specs.Prelude.{◌&&◌, Option, Some, None}
use Rattle.std.specs.Global.{Vec}
use Rattle.num_type.specs.Types.{NumericType}
use Rattle.num_type.specs.View.{type_of}
use Rattle.num_type.specs.declared.dyadic.Dyadic.{Dyadic}
use Rattle.num_type.proofs.Constants.{not_true}
use Rattle.fi_math.specs.declared.fimath.Fimath.{Fimath}
use Rattle.fi_rules.specs.declared.work.Work.{Work}
use Rattle.fi_rules.specs.Options.{and_then, where_so}
use Rattle.fi_rules.specs.Value.{Shape, Val}
use Rattle.fi_values.specs.Arithmetic.{arithmetic, computed, is_arithmetic, operands}
use Rattle.eval_value.specs.View.{fi_view, number_view, shape_view, value_view}
use Rattle.eval_value.specs.declared.value.Value.{Value}
use Rattle.eval_value.specs.declared.value.Value.TheVariants as value
use Rattle.eval_math.specs.Classes.{is_number}
use Rattle.eval_math.proofs.Dispatch.{IsLogical, IsMath, IsOther, IsType, IsWords, fi_of, number_of}

abbrev of_fis : Work → Val → Val → Option Val
of_fis w v u = and_then (where_so (is_arithmetic w) w) (λ x. and_then (operands v u) (computed x))

fi_case : (w : Work) (t : NumericType) (m : Option Fimath) (s : Shape) (xs : List ℤ) (o : Option (Vec ℤ)) (u : Val) → of_fis w (fi_of t m s xs o) u ≡ arithmetic w (fi_of t m s xs o) u
unfolding arithmetic
fi_case w t m s xs None u = refl
fi_case w t m s xs (Some v) u = refl

number_fi_case : (w : Work) (s : Shape) (ds : List Dyadic) (q : Option (Vec Dyadic)) (t : NumericType) (m : Option Fimath) (r : Shape) (xs : List ℤ) (o : Option (Vec ℤ)) → of_fis w (number_of s ds q) (fi_of t m r xs o) ≡ arithmetic w (number_of s ds q) (fi_of t m r xs o)
unfolding arithmetic
number_fi_case w s ds None t m r xs None = refl
number_fi_case w s ds None t m r xs (Some v) = refl
number_fi_case w s ds (Some u) t m r xs None = refl
number_fi_case w s ds (Some u) t m r xs (Some v) = refl

number_case : (w : Work) (s : Shape) (ds : List Dyadic) (q : Option (Vec Dyadic)) (y : Value) → IsOther y → of_fis w (number_of s ds q) (value_view y) ≡ arithmetic w (number_of s ds q) (value_view y)
unfolding arithmetic
number_case w s ds None y IsLogical = refl
number_case w s ds None y IsWords = refl
number_case w s ds None y IsMath = refl
number_case w s ds None y IsType = refl
number_case w s ds (Some u) y IsLogical = refl
number_case w s ds (Some u) y IsWords = refl
number_case w s ds (Some u) y IsMath = refl
number_case w s ds (Some u) y IsType = refl

pub of_fis_are : (w : Work) (x y : Value) → (is_number x && is_number y) ≡ false → of_fis w (value_view x) (value_view y) ≡ arithmetic w (value_view x) (value_view y)
unfolding arithmetic
of_fis_are w (value.Fi a) y h = fi_case w (type_of a.num) a.math (shape_view a.shape) a.re.items a.im (value_view y)
of_fis_are w (value.Logical v) y h = refl
of_fis_are w (value.Words t) y h = refl
of_fis_are w (value.Math m) y h = refl
of_fis_are w (value.Type t) y h = refl
of_fis_are w (value.Number n) (value.Fi b) h = number_fi_case w (shape_view n.shape) n.re.items n.im (type_of b.num) b.math (shape_view b.shape) b.re.items b.im
of_fis_are w (value.Number n) (value.Number o) h = absurd (not_true (sym h))
of_fis_are w (value.Number n) (value.Logical v) h = number_case w (shape_view n.shape) n.re.items n.im (value.Logical v) IsLogical
of_fis_are w (value.Number n) (value.Words t) h = number_case w (shape_view n.shape) n.re.items n.im (value.Words t) IsWords
of_fis_are w (value.Number n) (value.Math m) h = number_case w (shape_view n.shape) n.re.items n.im (value.Math m) IsMath
of_fis_are w (value.Number n) (value.Type t) h = number_case w (shape_view n.shape) n.re.items n.im (value.Type t) IsType
