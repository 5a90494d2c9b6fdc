-- Operators on sound values give sound ones.
use Rattle.std.proofs.Common.{refl, ◌∙◌, Bool, true, false, List, [], ◌∷◌}
use Rattle.std.specs.Prelude.{ℤ, ◌≤◌, ◌&&◌, ◌||◌, map, Option, None}
use Rattle.std.proofs.lemmas.List.{length-map}
use Rattle.fic_base.specs.declared.code.Code.{Code}
use Rattle.fic_base.specs.declared.place.Place.{Place}
use Rattle.mat_ast.specs.declared.tree.BinOp.{BinOp}
use Rattle.mat_ast.specs.declared.tree.BinOp.TheVariants as bin
use Rattle.mat_ast.specs.declared.tree.UnOp.{UnOp}
use Rattle.mat_ast.specs.declared.tree.UnOp.TheVariants as un
use Rattle.num_type.specs.Constants.{Exact}
use Rattle.num_type.specs.Types.{NumericType, IsInRange}
use Rattle.const_rules.specs.Folds.{negated}
use Rattle.fi_math.specs.declared.fimath.Fimath.{Fimath}
use Rattle.fi_rules.specs.declared.work.Work.TheVariants as work
use Rattle.fi_rules.specs.Checked as checked
use Rattle.fi_rules.specs.Checked.{Checked, Fine, Missing, Shown}
use Rattle.fi_rules.specs.Pairs.{constant_checked, scalar_number, power_folded}
use Rattle.fi_rules.specs.Types.{Ty, known_value}
use Rattle.fi_rules.specs.Value.{Shape, Val, Fi, ComplexFi, Logical, Number, ComplexNumber, Words, MathObject, TypeObject}
use Rattle.fi_eval.specs.Operators.{Turn, Negate, math_of, met_at, turned_element}
use Rattle.fi_values.specs.Comparisons.{comparison_of}
use Rattle.fi_values.specs.Sound.{IsStored, IsSound, Granted, grants, at_wrong}
use Rattle.fi_values.proofs.Arithmetic.{arithmetic_sound}
use Rattle.fi_values.proofs.Each.{each_map, is_stored}
use Rattle.fi_values.proofs.Holds.{Holds, holds, empty, holds_any, holds_then}
use Rattle.fi_values.proofs.Integers.{turned_in}
use Rattle.fi_values.proofs.Logicals.{complement_sound, connected_sound, compared_sound}
use Rattle.fi_values.proofs.Products.{multiplied_sound}
use Rattle.fi_values.proofs.Sizes.{scalar_sized}
use Rattle.fi_meaning.specs.Operators.{power, by_operator, signed_class, minus, by_sign}

-- ---- conditions

-- this holds of what conditions come to
pub data Passes {A : Type 0} (P : A → Type 0) : Checked A → Type 0 where
  passes : (x : A) → P x → Passes P (Fine x)
  misses : (code : Code) (shown : Shown) → Passes P (Missing code shown)

pub passes_then : {A B : Type 0} {P : A → Type 0} {Q : B → Type 0} {c : Checked A} {f : A → Checked B} → Passes P c → ((x : A) → P x → Passes Q (f x)) → Passes Q (checked.bind c f)
unfolding checked.bind
passes_then (passes x p) each = each x p
passes_then (misses code shown) each = misses code shown

pub passes_any : {A : Type 0} (c : Checked A) → Passes (λ x. Unit {0}) c
passes_any (Fine x) = passes x tt
passes_any (Missing code shown) = misses code shown

pub passes_if : {A : Type 0} {P : A → Type 0} (b : Bool) {c d : Checked A} → Passes P c → Passes P d → Passes P (checked.choose b c d)
unfolding checked.choose
passes_if true h k = h
passes_if false h k = k

pub granted_met : {A : Type 0} {P : A → Type 0} (at : Place) {c : Checked A} → Passes P c → Granted P (met_at at c)
unfolding met_at
granted_met at (passes x p) = grants x p
granted_met at (misses code shown) = at_wrong at

-- ---- powers

-- the value of a type that is known
abbrev pub IsKnown : Ty → Type 0
IsKnown t = Holds IsSound (known_value t)

number_known : (c : Exact) → IsKnown (scalar_number c)
unfolding known_value
number_known c = holds _ (scalar_sized, refl)

constant_known : (c : Option Exact) → Passes IsKnown (constant_checked c)
constant_known c = passes_then (passes_any _) (λ z _. passes (scalar_number z) (number_known z))

power_known : (s : Shape) (xs : List Exact) (t : Shape) (ys : List Exact) → Passes IsKnown (power_folded s xs t ys)
unfolding power_folded
power_known s (x ∷ []) t (y ∷ []) = passes_if _ (passes_then (passes_any _) (λ n _. constant_known _)) (misses _ _)
power_known s xs t ys = misses _ _

abbrev value_of : Checked Ty → Option Val
value_of (Fine t) = known_value t
value_of (Missing code shown) = None

value_known : {c : Checked Ty} → Passes IsKnown c → Holds IsSound (value_of c)
value_known (passes t h) = h
value_known (misses code shown) = empty

power_sound : (x y : Val) → Holds IsSound (power x y)
unfolding power
power_sound (Number s xs) (Number t ys) = value_known (power_known s xs t ys)
power_sound x y = empty

-- ---- operators

pub operator_sound : (o : BinOp) (x y : Val) → IsSound x → IsSound y → Holds IsSound (by_operator o x y)
unfolding by_operator
operator_sound bin.Add x y h k = arithmetic_sound work.Sum x y h k
operator_sound bin.Sub x y h k = arithmetic_sound work.Difference x y h k
operator_sound bin.ElemMul x y h k = arithmetic_sound work.Product x y h k
operator_sound bin.Mul x y h k = multiplied_sound x y h k
operator_sound bin.Pow x y h k = power_sound x y
operator_sound bin.ElemPow x y h k = power_sound x y
operator_sound bin.And x y h k = connected_sound (λ b c. b && c) x y h k
operator_sound bin.Or x y h k = connected_sound (λ b c. b || c) x y h k
operator_sound o x y h k = holds_then (holds_any (comparison_of o)) (λ c _. compared_sound c x y h k)

signed_sound : (v : Val) → IsSound v → Holds IsSound (signed_class v)
unfolding signed_class
signed_sound (Fi t m s xs) h = holds _ h
signed_sound (ComplexFi t m s xs ys) h = holds _ h
signed_sound (Number s cs) h = holds _ h
signed_sound (ComplexNumber s xs ys) h = holds _ h
signed_sound (Logical s bs) h = empty
signed_sound (Words text) h = empty
signed_sound (MathObject m) h = empty
signed_sound (TypeObject t) h = empty

pub turned_stored : (turn : Turn) (t : NumericType) (m : Option Fimath) (s : Shape) (xs : List ℤ) → 1 ≤ t.word → IsStored t s xs → IsStored t s (map (turned_element turn (math_of m) t) xs)
turned_stored turn t m s xs one h =
    is_stored (length-map xs _ ∙ h.filled)
    (each_map (IsInRange t) (turned_element turn (math_of m) t) (λ x. turned_in turn (math_of m) t x one) xs)

minus_sound : (v : Val) → IsSound v → Holds IsSound (minus v)
unfolding minus
minus_sound (Fi t m s xs) h = holds _ (h.0, h.1, turned_stored Negate t m s xs h.0.one_bit h.2)
minus_sound (ComplexFi t m s xs ys) h = holds _ (h.0, h.1, turned_stored Negate t m s xs h.0.one_bit h.2, turned_stored Negate t m s ys h.0.one_bit h.3)
minus_sound (Number s cs) h = holds _ (h.0, length-map cs negated ∙ h.1)
minus_sound (ComplexNumber s xs ys) h = holds _ (h.0, length-map xs negated ∙ h.1, length-map ys negated ∙ h.2)
minus_sound (Logical s bs) h = empty
minus_sound (Words text) h = empty
minus_sound (MathObject m) h = empty
minus_sound (TypeObject t) h = empty

pub sign_sound : (sign : UnOp) (v : Val) → IsSound v → Holds IsSound (by_sign sign v)
unfolding by_sign
sign_sound un.Plus v h = signed_sound v h
sign_sound un.Minus v h = minus_sound v h
sign_sound un.Not v h = complement_sound v h
