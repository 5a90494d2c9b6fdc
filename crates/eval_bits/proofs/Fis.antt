-- A fi is real or complex.
use Rattle.std.proofs.Common.{◌≡◌, ◌+◌, ◌-◌, List, Option, Some, None, Bool, refl, ap, sym, subst, ◌∙◌, true, false}
use Rattle.std.specs.Prelude.{ℕ, ℤ, ◌&&◌, map, nat_le, nat_lt}
use Rattle.std.specs.Global.{Vec}
use Rattle.fic_base.specs.declared.place.Place.{Place}
use Rattle.num_type.specs.Types.{NumericType}
use Rattle.num_type.specs.View.{type_of}
use Rattle.num_type.specs.declared.num_type.NumType.{NumType}
use Rattle.fi_math.specs.declared.fimath.Fimath.{Fimath}
use Rattle.fi_rules.specs.Options.{and_then, where_so}
use Rattle.fi_rules.specs.Value.{Shape, Val, Fi, ComplexFi}
use Rattle.fi_eval.specs.Operators.{Remove, turned}
use Rattle.fi_eval.specs.Outcome.{Gives, Wrong}
use Rattle.fi_values.specs.Bits.{turned_bits, shifted, word_of, one_typed, bits_between, each}
use Rattle.fi_ops.specs.Bits.{sliced, word_type}
use Rattle.fi_values.specs.Stores.{complex_taken}
use Rattle.fi_meaning.specs.Calls as calls
use Rattle.fi_meaning.specs.Operators as operators
use Rattle.eval_value.specs.View.{fi_view, shape_view}
use Rattle.eval_value.specs.declared.fi_value.FiValue.{FiValue}
use Rattle.eval_bits.specs.Changes.{applied, changed, moved, real_fi, target_of}
use Rattle.eval_bits.specs.declared.change.Shift.{Shift}
use Rattle.eval_bits.specs.declared.change.Change.TheVariants as change

-- a fi by its parts
abbrev pub parts_view : NumericType → Option Fimath → Shape → List ℤ → Option (Vec ℤ) → Val
parts_view t m s xs None = Fi t m s xs
parts_view t m s xs (Some parts) = ComplexFi t m s xs parts.items

fi_by : (P : Val → Type 0) (t : NumericType) (m : Option Fimath) (s : Shape) (xs : List ℤ) (im : Option (Vec ℤ)) → P (Fi t m s xs) → ((ys : List ℤ) → P (ComplexFi t m s xs ys)) → P (parts_view t m s xs im)
fi_by P t m s xs None p q = p
fi_by P t m s xs (Some parts) p q = q parts.items

-- what holds of a real fi and of a complex one
pub fi_cases : (P : Val → Type 0) (v : FiValue) → ((xs : List ℤ) → P (Fi (type_of v.num) v.math (shape_view v.shape) xs)) → ((xs ys : List ℤ) → P (ComplexFi (type_of v.num) v.math (shape_view v.shape) xs ys)) → P (fi_view v)
fi_cases P v p q = fi_by P (type_of v.num) v.math (shape_view v.shape) v.re.items v.im (p v.re.items) (q v.re.items)

-- ---- changes

pub bits_turned : (v : FiValue) → turned_bits (fi_view v) ≡ Some (changed (applied change.Complemented (type_of v.num)) (target_of change.Complemented (type_of v.num)) v.math (fi_view v))
unfolding applied target_of changed
bits_turned v =
    fi_cases (λ w. turned_bits w ≡ Some (changed (applied change.Complemented (type_of v.num)) (target_of change.Complemented (type_of v.num)) v.math w)) v (λ xs. refl) (λ xs ys. refl)

pub bits_moved : (v : FiValue) (s : Shift) (k : ℕ) → nat_lt k v.num.word ≡ true → shifted (moved s) k (fi_view v) ≡ Some (changed (applied (change.Shifted s k) (type_of v.num)) (target_of (change.Shifted s k) (type_of v.num)) v.math (fi_view v))
unfolding applied target_of changed word_of and_then where_so
bits_moved v s k h =
    fi_cases (λ w. shifted (moved s) k w ≡ Some (changed (applied (change.Shifted s k) (type_of v.num)) (target_of (change.Shifted s k) (type_of v.num)) v.math w)) v
    (λ xs. ap (λ b. and_then (where_so b k) (λ n. one_typed (moved s n) (Fi (type_of v.num) v.math (shape_view v.shape) xs))) h)
    (λ xs ys. ap (λ b. and_then (where_so b k) (λ n. one_typed (moved s n) (ComplexFi (type_of v.num) v.math (shape_view v.shape) xs ys))) h)

pub no_bits_moved : (v : FiValue) (s : Shift) (k : ℕ) → nat_lt k v.num.word ≡ false → shifted (moved s) k (fi_view v) ≡ None
unfolding word_of and_then where_so
no_bits_moved v s k h =
    fi_cases (λ w. shifted (moved s) k w ≡ None) v
    (λ xs. ap (λ b. and_then (where_so b k) (λ n. one_typed (moved s n) (Fi (type_of v.num) v.math (shape_view v.shape) xs))) h)
    (λ xs ys. ap (λ b. and_then (where_so b k) (λ n. one_typed (moved s n) (ComplexFi (type_of v.num) v.math (shape_view v.shape) xs ys))) h)

abbrev pub has_all : ℕ → ℕ → ℕ → Bool
has_all l r w = nat_le 1 r && (nat_le r l && nat_le l w)

pub bits_sliced : (v : FiValue) (l r : ℕ) → has_all l r v.num.word ≡ true → bits_between l r (fi_view v) ≡ Some (changed (applied (change.Sliced l r) (type_of v.num)) (target_of (change.Sliced l r) (type_of v.num)) None (fi_view v))
unfolding applied target_of changed bits_between and_then where_so
bits_sliced v l r h =
    fi_cases (λ w. bits_between l r w ≡ Some (changed (applied (change.Sliced l r) (type_of v.num)) (target_of (change.Sliced l r) (type_of v.num)) None w)) v
    (λ xs. ap (λ b. and_then (where_so b l) (λ n. Some (Fi (word_type (n - r + 1)) None (shape_view v.shape) (each (type_of v.num) (λ a. (sliced n r a).z) xs)))) h)
    (λ xs ys. ap (λ b. and_then (where_so b l) (λ n. Some (ComplexFi (word_type (n - r + 1)) None (shape_view v.shape) (each (type_of v.num) (λ a. (sliced n r a).z) xs) (each (type_of v.num) (λ a. (sliced n r a).z) ys)))) h)

pub no_bits_sliced : (v : FiValue) (l r : ℕ) → has_all l r v.num.word ≡ false → bits_between l r (fi_view v) ≡ None
unfolding bits_between and_then where_so
no_bits_sliced v l r h =
    fi_cases (λ w. bits_between l r w ≡ None) v
    (λ xs. ap (λ b. and_then (where_so b l) (λ n. Some (Fi (word_type (n - r + 1)) None (shape_view v.shape) (each (type_of v.num) (λ a. (sliced n r a).z) xs)))) h)
    (λ xs ys. ap (λ b. and_then (where_so b l) (λ n. Some (ComplexFi (word_type (n - r + 1)) None (shape_view v.shape) (each (type_of v.num) (λ a. (sliced n r a).z) xs) (each (type_of v.num) (λ a. (sliced n r a).z) ys)))) h)

pub sign_turned : (v : FiValue) → operators.minus (fi_view v) ≡ Some (changed (applied (change.Negated v.math) (type_of v.num)) (target_of (change.Negated v.math) (type_of v.num)) v.math (fi_view v))
unfolding applied target_of changed operators.minus
sign_turned v =
    fi_cases (λ w. operators.minus w ≡ Some (changed (applied (change.Negated v.math) (type_of v.num)) (target_of (change.Negated v.math) (type_of v.num)) v.math w)) v (λ xs. refl) (λ xs ys. refl)

-- a real fi, by its parts
real_by : (P : Val → Type 0) (t : NumericType) (m : Option Fimath) (s : Shape) (xs : List ℤ) (im : Option (Vec ℤ)) → im ≡ None → P (Fi t m s xs) → P (parts_view t m s xs im)
real_by P t m s xs im e p = subst (λ (o : Option (Vec ℤ)). P (parts_view t m s xs o)) (sym e) p

-- what holds of a real fi
pub real_case : (P : Val → Type 0) (v : FiValue) → v.im ≡ None → P (Fi (type_of v.num) v.math (shape_view v.shape) v.re.items) → P (fi_view v)
real_case P v e p = real_by P (type_of v.num) v.math (shape_view v.shape) v.re.items v.im e p

pub sign_removed : (at : Place) (v : FiValue) → v.im ≡ None → turned at Remove (fi_view v) ≡ Gives (changed (applied (change.Absolute v.math) (type_of v.num)) (target_of (change.Absolute v.math) (type_of v.num)) v.math (fi_view v))
unfolding applied target_of changed turned
sign_removed at v e =
    real_case (λ w. turned at Remove w ≡ Gives (changed (applied (change.Absolute v.math) (type_of v.num)) (target_of (change.Absolute v.math) (type_of v.num)) v.math w)) v e refl

pub no_sign_removed : (at : Place) (w : Val) → real_fi w ≡ None → Wrong at ≡ turned at Remove w
unfolding turned real_fi
no_sign_removed at (Fi t m s xs) h = cc
no_sign_removed at w h = refl

pub itself : (v : FiValue) → operators.signed_class (fi_view v) ≡ Some (fi_view v)
unfolding operators.signed_class
itself v = fi_cases (λ w. operators.signed_class w ≡ Some w) v (λ xs. refl) (λ xs ys. refl)

pub taken_in : (v : FiValue) (u : NumType) (m : Option Fimath) → calls.taken_value (type_of u) m (fi_view v) ≡ Some (changed (applied (change.Taken u m) (type_of v.num)) (target_of (change.Taken u m) (type_of v.num)) m (fi_view v))
unfolding applied target_of changed calls.taken_value complex_taken and_then
taken_in v u m =
    fi_cases (λ w. calls.taken_value (type_of u) m w ≡ Some (changed (applied (change.Taken u m) (type_of v.num)) (target_of (change.Taken u m) (type_of v.num)) m w)) v (λ xs. refl) (λ xs ys. refl)

with_math_by : (t : NumericType) (m n : Option Fimath) (s : Shape) (xs : List ℤ) (im : Option (Vec ℤ)) → calls.attached m (parts_view t n s xs im) ≡ Some (parts_view t m s xs im)
unfolding calls.attached
with_math_by t m n s xs None = refl
with_math_by t m n s xs (Some parts) = refl

-- a fi with another fimath
pub with_math : (v : FiValue) (m : Option Fimath) → calls.attached m (fi_view v) ≡ Some (parts_view (type_of v.num) m (shape_view v.shape) v.re.items v.im)
with_math v m = with_math_by (type_of v.num) m v.math (shape_view v.shape) v.re.items v.im

-- ---- answers

real_changed_by : (f : ℤ → ℤ) (t u : NumericType) (m : Option Fimath) (s : Shape) (w : Val) (xs zs : List ℤ) → u ≡ t → zs ≡ map f xs → Fi t m s (map f xs) ≡ changed f t m w → Fi u m s zs ≡ changed f t m w
real_changed_by f t u m s w xs zs p e h = (λ i. Fi (p i) m s (e i)) ∙ h

pub real_changed : (v : FiValue) (f : ℤ → ℤ) (t u : NumericType) (m : Option Fimath) (zs : List ℤ) → v.im ≡ None → u ≡ t → zs ≡ map f v.re.items → Fi u m (shape_view v.shape) zs ≡ changed f t m (fi_view v)
unfolding changed
real_changed v f t u m zs r p e =
    real_changed_by f t u m (shape_view v.shape) (fi_view v) v.re.items zs p e (real_case (λ w. Fi t m (shape_view v.shape) (map f v.re.items) ≡ changed f t m w) v r refl)

complex_changed_by : (f : ℤ → ℤ) (t : NumericType) (m n : Option Fimath) (k : NumericType) (s : Shape) (xs : List ℤ) (im : Option (Vec ℤ)) (parts : Vec ℤ) → im ≡ Some parts → ComplexFi t m s (map f xs) (map f parts.items) ≡ changed f t m (parts_view k n s xs im)
unfolding changed
complex_changed_by f t m n k s xs im parts e = ap (λ o. changed f t m (parts_view k n s xs o)) (sym e)

pub complex_changed : (v : FiValue) (parts : Vec ℤ) (f : ℤ → ℤ) (t u : NumericType) (m : Option Fimath) (zs ws : List ℤ) → v.im ≡ Some parts → u ≡ t → zs ≡ map f v.re.items → ws ≡ map f parts.items → ComplexFi u m (shape_view v.shape) zs ws ≡ changed f t m (fi_view v)
complex_changed v parts f t u m zs ws r p e k = (λ i. ComplexFi (p i) m (shape_view v.shape) (e i) (k i)) ∙ complex_changed_by f t m v.math (type_of v.num) (shape_view v.shape) v.re.items v.im parts r

-- an answer that is what a definition gives
pub answered : (f : Val → Option Val) (r x y w : Val) → r ≡ x → f y ≡ Some x → w ≡ y → Some r ≡ f w
answered f r x y w e h k = ap (λ (v : Val). Some v) e ∙ sym h ∙ sym (ap f k)
