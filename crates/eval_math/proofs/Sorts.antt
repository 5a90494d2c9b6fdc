-- Comparisons and arithmetic by the classes of two values.
use Rattle.std.proofs.Common.{◌≡◌, ◌∙◌, refl, sym, ap, ℕ, ℤ, Bool, true, false, List, length, map}
use Rattle.std.specs.Prelude.{Option, Some, None, is_some, ◌&&◌, ◌||◌}
use Rattle.std.specs.Global.{Vec}
use Rattle.std.specs.declared.cmp.Ordering.{Ordering}
use Rattle.num_type.specs.Constants.{Exact}
use Rattle.num_type.specs.Types.{NumericType}
use Rattle.num_type.specs.View.{exact_of, type_of}
use Rattle.num_type.specs.declared.dyadic.Dyadic.{Dyadic}
use Rattle.num_type.specs.declared.num_type.NumType.{NumType}
use Rattle.num_type.proofs.Constants.{not_true}
use Rattle.fi_math.specs.declared.fimath.Fimath.{Fimath}
use Rattle.fi_rules.specs.declared.work.Work.{Work}
use Rattle.fi_rules.specs.declared.work.Work.TheVariants as work
use Rattle.fi_rules.specs.Options.{and_then, where_so}
use Rattle.fi_rules.specs.Value.{Shape, Val, Fi, ComplexFi, Logical, Number, ComplexNumber}
use Rattle.fi_values.specs.Arithmetic.{arithmetic, complexes_folded, computed, is_arithmetic, operands, fi_operand, beside_operand, reals_folded, zipped}
use Rattle.fi_values.specs.Comparisons.{Comparison, Compared, compared_values, elements_of, imaginary_of, is_number, number_compared, of_compared, of_operands}
use Rattle.fi_values.specs.Numbers.{nought_parts}
use Rattle.fi_values.specs.Shapes.{common}
use Rattle.eval_value.specs.View.{fi_view, logical_view, number_view, shape_view, value_view}
use Rattle.eval_value.specs.declared.fi_value.FiValue.{FiValue}
use Rattle.eval_value.specs.declared.logical_value.LogicalValue.{LogicalValue}
use Rattle.eval_value.specs.declared.number_value.NumberValue.{NumberValue}
use Rattle.eval_value.specs.declared.value.Value.{Value}
use Rattle.eval_value.specs.declared.value.Value.TheVariants as value
use Rattle.eval_math.specs.Classes as classes
use Rattle.eval_math.specs.Numbers.{complex_numbers, imaginary_exacts, is_complex_number}
use Rattle.eval_math.specs.Orders.{comparison_view, orders, truths_of}
use Rattle.eval_math.specs.declared.comparison.Comparison as code_comparison
use Rattle.eval_math.proofs.Bound.{bound_some}
use Rattle.eval_math.proofs.Dispatch.{IsLogical, IsMath, IsOther, IsType, IsWords, fi_of, number_and_other, number_of, other_left}
use Rattle.eval_math.proofs.Ordered.{truths_are}

-- ---- comparisons

fi_then : (o : Comparison) (t : NumericType) (m : Option Fimath) (s : Shape) (xs : List ℤ) (p : Option (Vec ℤ)) (w : Val) → and_then (operands (fi_of t m s xs p) w) (of_operands o) ≡ compared_values o (fi_of t m s xs p) w
unfolding compared_values is_number
fi_then o t m s xs None w = refl
fi_then o t m s xs (Some v) w = refl

pub fi_compared : (o : Comparison) (a : FiValue) (w : Val) (r : Option Val) → r ≡ and_then (operands (fi_view a) w) (of_operands o) → r ≡ compared_values o (fi_view a) w
fi_compared o a w r e = e ∙ fi_then o (type_of a.num) a.math (shape_view a.shape) a.re.items a.im w

then_fi : (o : Comparison) (s : Shape) (ds : List Dyadic) (q : Option (Vec Dyadic)) (t : NumericType) (m : Option Fimath) (r : Shape) (xs : List ℤ) (p : Option (Vec ℤ)) → and_then (operands (number_of s ds q) (fi_of t m r xs p)) (of_operands o) ≡ compared_values o (number_of s ds q) (fi_of t m r xs p)
unfolding compared_values is_number
then_fi o s ds None t m r xs None = refl
then_fi o s ds None t m r xs (Some v) = refl
then_fi o s ds (Some w) t m r xs None = refl
then_fi o s ds (Some w) t m r xs (Some v) = refl

pub number_fi_compared : (o : Comparison) (n : NumberValue) (b : FiValue) (r : Option Val) → r ≡ and_then (operands (number_view n) (fi_view b)) (of_operands o) → r ≡ compared_values o (number_view n) (fi_view b)
number_fi_compared o n b r e = e ∙ then_fi o (shape_view n.shape) n.re.items n.im (type_of b.num) b.math (shape_view b.shape) b.re.items b.im

number_then : (o : Comparison) (s : Shape) (ds : List Dyadic) (q : Option (Vec Dyadic)) (y : Value) → IsOther y → and_then (operands (number_of s ds q) (value_view y)) (of_operands o) ≡ compared_values o (number_of s ds q) (value_view y)
unfolding compared_values is_number
number_then o s ds None y IsLogical = refl
number_then o s ds None y IsWords = refl
number_then o s ds None y IsMath = refl
number_then o s ds None y IsType = refl
number_then o s ds (Some w) y IsLogical = refl
number_then o s ds (Some w) y IsWords = refl
number_then o s ds (Some w) y IsMath = refl
number_then o s ds (Some w) y IsType = refl

pub number_not_compared : (o : Comparison) (n : NumberValue) (y : Value) → IsOther y → None ≡ compared_values o (number_view n) (value_view y)
number_not_compared o n y h = number_and_other n y (of_operands o) h ∙ number_then o (shape_view n.shape) n.re.items n.im y h

-- a logical value with no logical one to its right
logical_then_fi : (o : Comparison) (s : Shape) (bs : List Bool) (t : NumericType) (m : Option Fimath) (r : Shape) (xs : List ℤ) (p : Option (Vec ℤ)) → None ≡ compared_values o (Logical s bs) (fi_of t m r xs p)
unfolding compared_values is_number operands beside_operand fi_operand and_then
logical_then_fi o s bs t m r xs None = refl
logical_then_fi o s bs t m r xs (Some v) = refl

pub logical_and_fi : (o : Comparison) (a : LogicalValue) (y : Value) (b : FiValue) → y ≡ value.Fi b → None ≡ compared_values o (logical_view a) (value_view y)
logical_and_fi o a y b e =
    logical_then_fi o (shape_view a.shape) a.truths.items (type_of b.num) b.math (shape_view b.shape) b.re.items b.im
    ∙ ap (λ (v : Value). compared_values o (logical_view a) (value_view v)) (sym e)

logical_then_number : (o : Comparison) (s : Shape) (bs : List Bool) (r : Shape) (ds : List Dyadic) (q : Option (Vec Dyadic)) → None ≡ compared_values o (Logical s bs) (number_of r ds q)
unfolding compared_values is_number operands and_then
logical_then_number o s bs r ds None = refl
logical_then_number o s bs r ds (Some v) = refl

pub logical_and_number : (o : Comparison) (a : LogicalValue) (y : Value) (n : NumberValue) → y ≡ value.Number n → None ≡ compared_values o (logical_view a) (value_view y)
logical_and_number o a y n e =
    logical_then_number o (shape_view a.shape) a.truths.items (shape_view n.shape) n.re.items n.im
    ∙ ap (λ (v : Value). compared_values o (logical_view a) (value_view v)) (sym e)

pub logical_and_words : (o : Comparison) (a : LogicalValue) (y : Value) (t : List ℕ) → y ≡ value.Words t → None ≡ compared_values o (logical_view a) (value_view y)
unfolding compared_values is_number operands and_then
logical_and_words o a y t e = ap (λ (v : Value). compared_values o (logical_view a) (value_view v)) (sym e)

pub logical_and_math : (o : Comparison) (a : LogicalValue) (y : Value) (m : Fimath) → y ≡ value.Math m → None ≡ compared_values o (logical_view a) (value_view y)
unfolding compared_values is_number operands and_then
logical_and_math o a y m e = ap (λ (v : Value). compared_values o (logical_view a) (value_view v)) (sym e)

pub logical_and_type : (o : Comparison) (a : LogicalValue) (y : Value) (t : NumType) → y ≡ value.Type t → None ≡ compared_values o (logical_view a) (value_view y)
unfolding compared_values is_number operands and_then
logical_and_type o a y t e = ap (λ (v : Value). compared_values o (logical_view a) (value_view v)) (sym e)

-- another value to the left
pub words_first : (o : Comparison) (x : Value) (t : List ℕ) (w : Val) → x ≡ value.Words t → None ≡ compared_values o (value_view x) w
unfolding compared_values is_number
words_first o x t w e = other_left (value.Words t) w (of_operands o) IsWords ∙ ap (λ (v : Value). compared_values o (value_view v) w) (sym e)

pub math_first : (o : Comparison) (x : Value) (m : Fimath) (w : Val) → x ≡ value.Math m → None ≡ compared_values o (value_view x) w
unfolding compared_values is_number
math_first o x m w e = other_left (value.Math m) w (of_operands o) IsMath ∙ ap (λ (v : Value). compared_values o (value_view v) w) (sym e)

-- ---- numbers

abbrev parts_of : Option (Vec Dyadic) → Option (List Exact)
parts_of None = None
parts_of (Some v) = Some (map exact_of v.items)

abbrev number_value : Shape → List Dyadic → Option (Vec Dyadic) → Compared
number_value s ds q = record { shape = s; re = map exact_of ds; im = parts_of q }

abbrev imaginary_from : List Dyadic → Option (Vec Dyadic) → List Exact
imaginary_from ds None = nought_parts (map exact_of ds)
imaginary_from ds (Some v) = map exact_of v.items

abbrev pub compared_number : NumberValue → Compared
compared_number n = number_value (shape_view n.shape) n.re.items n.im

two_then : (o : Comparison) (s : Shape) (ds : List Dyadic) (p : Option (Vec Dyadic)) (r : Shape) (es : List Dyadic) (q : Option (Vec Dyadic)) → of_compared o (number_value s ds p) (number_value r es q) ≡ compared_values o (number_of s ds p) (number_of r es q)
unfolding compared_values is_number number_compared and_then
two_then o s ds None r es None = refl
two_then o s ds None r es (Some v) = refl
two_then o s ds (Some u) r es None = refl
two_then o s ds (Some u) r es (Some v) = refl

pub numbers_are : (o : Comparison) (a b : NumberValue) → of_compared o (compared_number a) (compared_number b) ≡ compared_values o (number_view a) (number_view b)
numbers_are o a b = two_then o (shape_view a.shape) a.re.items a.im (shape_view b.shape) b.re.items b.im

-- what a comparison makes of the orders of two values
pub compared_by : (k : code_comparison.Comparison) (a b : Compared) (s : Shape) (complex : Bool) (re im : List Ordering) → Some s ≡ common a.shape b.shape → complex ≡ (is_some a.im || is_some b.im) → re ≡ orders a.re b.re → im ≡ orders (imaginary_of a) (imaginary_of b) → length re ≡ length im → and_then (truths_of k complex re im) (λ bs. Some (Logical s bs)) ≡ of_compared (comparison_view k) a b
compared_by k a b s complex re im h c e f l =
    bound_some (common a.shape b.shape) (λ (r : Shape). and_then (elements_of (comparison_view k) a b) (λ bs. Some (Logical r bs))) s _ h
    (ap (λ (o : Option (List Bool)). and_then o (λ bs. Some (Logical s bs)))
    ((λ i. truths_of k (c i) (e i) (f i))
    ∙ truths_are k a b (ap length (sym e) ∙ l ∙ ap length f)))

pub type_first : (o : Comparison) (x : Value) (t : NumType) (w : Val) → x ≡ value.Type t → None ≡ compared_values o (value_view x) w
unfolding compared_values is_number
type_first o x t w e = other_left (value.Type t) w (of_operands o) IsType ∙ ap (λ (v : Value). compared_values o (value_view v) w) (sym e)

imaginary_same : (s : Shape) (ds : List Dyadic) (q : Option (Vec Dyadic)) → imaginary_from ds q ≡ imaginary_of (number_value s ds q)
imaginary_same s ds None = refl
imaginary_same s ds (Some v) = refl

pub imaginary_exacts_are : (n : NumberValue) → imaginary_exacts n ≡ imaginary_of (compared_number n)
imaginary_exacts_are n = imaginary_same (shape_view n.shape) n.re.items n.im

complex_same : (s : Shape) (ds : List Dyadic) (q : Option (Vec Dyadic)) → is_some q ≡ is_some (number_value s ds q).im
complex_same s ds None = refl
complex_same s ds (Some v) = refl

pub complex_number_is : (n : NumberValue) → is_complex_number n ≡ is_some (compared_number n).im
complex_number_is n = complex_same (shape_view n.shape) n.re.items n.im
