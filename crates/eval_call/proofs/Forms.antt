-- Casts to what is like a fi.
use Rattle.std.proofs.Common.{◌≡◌, ◌-◌, Bool, true, false, List, [], ◌∷◌, length, map, Option, Some, None, refl, sym, ap, ◌∙◌, arith}
use Rattle.std.specs.Prelude.{ℕ, ℤ, pos, is_none, All}
use Rattle.std.specs.Global.{Vec}
use Rattle.std.proofs.lemmas.Int.{ints}
use Rattle.std.proofs.lemmas.List.{length-map}
use Rattle.std.proofs.lemmas.List.Elements.{All-cons, All-nil, All-same}
use Rattle.std.proofs.lemmas.Nat.{pow_pos}
use Rattle.num_type.specs.Types.{NumericType, IsInRange}
use Rattle.num_type.specs.View.{type_of}
use Rattle.fi_math.specs.declared.fimath.Fimath.{Fimath}
use Rattle.fi_rules.specs.Value.{Shape, Val, Fi, ComplexFi}
use Rattle.fi_meaning.specs.Calls.{cast_like}
use Rattle.fi_meaning.specs.Functions.{shape_of_fi}
use Rattle.eval_value.specs.View.{fi_view, shape_view, value_view}
use Rattle.eval_value.specs.declared.fi_value.FiValue.{FiValue}
use Rattle.eval_value.specs.declared.value.Value.{Value}
use Rattle.eval_value.specs.declared.value.Value.TheVariants as value
use Rattle.eval_bits.proofs.Classes.{number_cases}
use Rattle.eval_call.specs.Casts.{complex_form, real_only}
use Rattle.eval_call.proofs.Follow.{some_none}

abbrev fis_view : NumericType → Option Fimath → Shape → List ℤ → Option (Vec ℤ) → Val
fis_view t m s xs None = Fi t m s xs
fis_view t m s xs (Some parts) = ComplexFi t m s xs parts.items

fis_by : (P : Val → Type 0) (t : NumericType) (m : Option Fimath) (s : Shape) (xs : List ℤ) (im : Option (Vec ℤ)) → P (Fi t m s xs) → ((ys : List ℤ) → P (ComplexFi t m s xs ys)) → P (fis_view t m s xs im)
fis_by P t m s xs None p q = p
fis_by P t m s xs (Some parts) p q = q parts.items

-- what holds of real fis and of complex ones
pub fi_cases : (P : Val → Type 0) (v : FiValue) → ((t : NumericType) (m : Option Fimath) (s : Shape) (xs : List ℤ) → P (Fi t m s xs))
    → ((t : NumericType) (m : Option Fimath) (s : Shape) (xs ys : List ℤ) → P (ComplexFi t m s xs ys)) → P (fi_view v)
fi_cases P v p q =
    fis_by P (type_of v.num) v.math (shape_view v.shape) v.re.items v.im (p (type_of v.num) v.math (shape_view v.shape) v.re.items) (q (type_of v.num) v.math (shape_view v.shape) v.re.items)

pub real_is : (v : FiValue) → v.im ≡ None → fi_view v ≡ Fi (type_of v.num) v.math (shape_view v.shape) v.re.items
real_is v h = ap (fis_view (type_of v.num) v.math (shape_view v.shape) v.re.items) h

pub complex_is : (v : FiValue) (parts : Vec ℤ) → v.im ≡ Some parts → fi_view v ≡ ComplexFi (type_of v.num) v.math (shape_view v.shape) v.re.items parts.items
complex_is v parts h = ap (fis_view (type_of v.num) v.math (shape_view v.shape) v.re.items) h

-- ---- fis

pub no_fi : (w : Value) → ((v : FiValue) → w ≡ value.Fi v → ⊥) → shape_of_fi (value_view w) ≡ None
no_fi (value.Fi v) h = absurd (h v refl)
no_fi (value.Logical v) h = refl
no_fi (value.Number v) h = number_cases (λ u. shape_of_fi u ≡ None) v (λ s cs. refl) (λ s xs ys. refl)
no_fi (value.Words text) h = refl
no_fi (value.Math m) h = refl
no_fi (value.Type t) h = refl

pub like_none : (v w : Val) → shape_of_fi w ≡ None → None ≡ cast_like v w
unfolding cast_like
like_none (Fi t m s xs) (Fi u n r us) h = absurd (some_none r h)
like_none (Fi t m s xs) (ComplexFi u n r us vs) h = absurd (some_none r h)
like_none (Fi t m s xs) w h = refl
like_none (ComplexFi t m s xs ys) (Fi u n r us) h = absurd (some_none r h)
like_none (ComplexFi t m s xs ys) (ComplexFi u n r us vs) h = absurd (some_none r h)
like_none (ComplexFi t m s xs ys) w h = refl
like_none v w h = refl

none_like : (v w : Val) → shape_of_fi v ≡ None → None ≡ cast_like v w
unfolding cast_like
none_like (Fi t m s xs) w h = absurd (some_none s h)
none_like (ComplexFi t m s xs ys) w h = absurd (some_none s h)
none_like v w h = refl

pub other_like : (v : Value) (w : Val) → ((a : FiValue) → v ≡ value.Fi a → ⊥) → None ≡ cast_like (value_view v) w
other_like v w h = none_like (value_view v) w (no_fi v h)

real_like : (v : Val) (u : NumericType) (n : Option Fimath) (r : Shape) (us : List ℤ) → real_only v ≡ cast_like v (Fi u n r us)
unfolding cast_like real_only
real_like (Fi t m s xs) u n r us = refl
real_like v u n r us = refl

complex_like : (v : Val) (u : NumericType) (n : Option Fimath) (r : Shape) (us vs : List ℤ) → complex_form v ≡ cast_like v (ComplexFi u n r us vs)
unfolding cast_like complex_form
complex_like (Fi t m s xs) u n r us vs = refl
complex_like (ComplexFi t m s xs ys) u n r us vs = refl
complex_like v u n r us vs = refl

pub like_real : (v : Val) (p : FiValue) → p.im ≡ None → real_only v ≡ cast_like v (fi_view p)
like_real v p h = real_like v (type_of p.num) p.math (shape_view p.shape) p.re.items ∙ ap (cast_like v) (sym (real_is p h))

pub like_complex : (v : Val) (p : FiValue) (parts : Vec ℤ) → p.im ≡ Some parts → complex_form v ≡ cast_like v (fi_view p)
like_complex v p parts h = complex_like v (type_of p.num) p.math (shape_view p.shape) p.re.items parts.items ∙ ap (cast_like v) (sym (complex_is p parts h))

-- ---- a fi as a real one, and as a complex one

by_none : {A : Type 0} (o : Option A) → is_none o ≡ true → o ≡ None
by_none None h = refl
by_none (Some x) h = absurd (let k : false ≡ true = h in cc)

pub real_stays : (a : FiValue) → is_none a.im ≡ true → Some (fi_view a) ≡ real_only (fi_view a)
unfolding real_only
real_stays a h = let e = real_is a (by_none a.im h) in ap (λ v. Some v) e ∙ ap real_only (sym e)

pub complex_goes : (a : FiValue) → is_none a.im ≡ false → None ≡ real_only (fi_view a)
unfolding real_only
complex_goes a h = by a.im refl
  where
    by : (o : Option (Vec ℤ)) → a.im ≡ o → None ≡ real_only (fi_view a)
    by None e = absurd (let k : true ≡ false = sym (ap (λ p. is_none p) e) ∙ h in cc)
    by (Some parts) e = ap real_only (sym (complex_is a parts e))

pub made_complex : (a : FiValue) (v : Val) → is_none a.im ≡ true → v ≡ ComplexFi (type_of a.num) a.math (shape_view a.shape) a.re.items (map (λ x. pos 0) a.re.items) → Some v ≡ complex_form (fi_view a)
unfolding complex_form
made_complex a v h e = ap (λ u. Some u) e ∙ ap complex_form (sym (real_is a (by_none a.im h)))

pub is_complex : (a : FiValue) → is_none a.im ≡ false → Some (fi_view a) ≡ complex_form (fi_view a)
unfolding complex_form
is_complex a h = by a.im refl
  where
    by : (o : Option (Vec ℤ)) → a.im ≡ o → Some (fi_view a) ≡ complex_form (fi_view a)
    by None e = absurd (let k : true ≡ false = sym (ap (λ p. is_none p) e) ∙ h in cc)
    by (Some parts) e = ap (λ v. Some v) (complex_is a parts e) ∙ ap complex_form (sym (complex_is a parts e))

-- 0 is in the range of each type
zero_by : (s : Bool) (w : ℕ) (f : ℤ) → IsInRange (record { signed = s; word = w; fraction = f }) (pos 0)
zero_by true w f = record { least = omega (arith, ints); most = omega (arith, ints, pow_pos (w - 1)) }
zero_by false w f = record { least = omega (arith, ints); most = omega (arith, ints, pow_pos w) }

pub zero_inside : (t : NumericType) → IsInRange t (pos 0)
zero_inside t = zero_by t.signed t.word t.fraction

pub zeros_inside : (t : NumericType) (xs ys : List ℤ) → ys ≡ map (λ x. pos 0) xs → All (IsInRange t) ys
zeros_inside t xs ys h = All-same (IsInRange t) ys (map (λ x. pos 0) xs) h (all xs)
  where
    all : (xs : List ℤ) → All (IsInRange t) (map (λ x. pos 0) xs)
    all [] = All-nil (IsInRange t)
    all (x ∷ xs) = All-cons (IsInRange t) (pos 0) (map (λ x. pos 0) xs) (zero_inside t) (all xs)

pub zeros_count : (xs ys : List ℤ) (n : ℕ) → ys ≡ map (λ x. pos 0) xs → length xs ≡ n → length ys ≡ n
zeros_count xs ys n h e = ap length h ∙ length-map xs (λ x. pos 0) ∙ e
