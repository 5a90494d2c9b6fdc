-- Types within the limits, and steps from one type to the next.
use Rattle.std.proofs.Common.{ℕ, ℤ, ◌≡◌, ◌∙◌, ◌⊎◌, inl, inr, refl, sym, ◌<◌, ◌≤◌, Bool, true, false, arith, subst, Result, Ok, Err, IfOk}
use Rattle.std.specs.Prelude.{◌≤ℤ◌, ◌<ℤ◌, nat_lt, int_lt, ◌||◌, if◌then◌else◌}
use Rattle.std.proofs.lemmas.Int.{ints}
use Rattle.std.proofs.lemmas.Bool.{lt-ltb, le-ltb, or_left, or_right, or_from}
use Rattle.num_type.specs.View.{type_of}
use Rattle.num_type.specs.declared.num_type.NumType.{NumType}
use Rattle.num_type.specs.Types.{NumericType, IsWithin, fraction_least, fraction_most, word_limit}
use Rattle.fi_math.specs.declared.types.NoType.{NoType}
use Rattle.fi_math.specs.declared.types.NoType.TheVariants.{TooWide, FractionOut}
use Rattle.fi_math.specs.Made.{Made, Is, Wide, Out, limited, and_then}
use Rattle.fi_math.specs.View.{made_of}
use Rattle.fi_math.specs.declared.fimath.Mode.{Mode}
use Rattle.fi_math.specs.declared.fimath.Fimath.{Fimath}
use Rattle.fi_math.specs.Full.{full_sum}
use Rattle.fi_math.specs.declared.fimath.Mode.TheVariants.{FullPrecision}
use Rattle.fi_math.specs.Rules.{mode_type, stepped}

if_true : {A : Type 0} (b : Bool) (x y : A) → b ≡ true → (if b then x else y) ≡ x
if_true b x y e = rw e refl

if_false : {A : Type 0} (b : Bool) (x y : A) → b ≡ false → (if b then x else y) ≡ y
if_false b x y e = rw e refl

pub wide_is : (limit : ℕ) (t : NumericType) → (t.word < 1) ⊎ (limit < t.word) → Wide t.word ≡ limited limit t
unfolding limited
wide_is limit t (inl h) = sym (if_true (nat_lt t.word 1 || nat_lt limit t.word) _ _ (or_left (nat_lt t.word 1) (nat_lt limit t.word) (lt-ltb t.word 1 h)))
wide_is limit t (inr h) = sym (if_true (nat_lt t.word 1 || nat_lt limit t.word) _ _ (or_right (nat_lt t.word 1) (nat_lt limit t.word) (lt-ltb limit t.word h)))

word_in : (limit : ℕ) (t : NumericType) → 1 ≤ t.word → t.word ≤ limit → limited limit t ≡ (if int_lt t.fraction fraction_least || int_lt fraction_most t.fraction then Out t.fraction else Is t)
unfolding limited
word_in limit t h k = if_false (nat_lt t.word 1 || nat_lt limit t.word) _ _ (or_from (nat_lt t.word 1) (nat_lt limit t.word) (le-ltb t.word 1 h) (le-ltb limit t.word k))

lt_int : (a b : ℤ) → a <ℤ b → int_lt a b ≡ true
lt_int a b h = grind (arith, ints)

le_int : (a b : ℤ) → b ≤ℤ a → int_lt a b ≡ false
le_int a b h = grind (arith, ints)

pub type_is : (limit : ℕ) (t : NumericType) → t.word ≤ limit → IsWithin t → Is t ≡ limited limit t
type_is limit t k w = sym (word_in limit t w.one_bit k
    ∙ if_false (int_lt t.fraction fraction_least || int_lt fraction_most t.fraction) _ _ (or_from (int_lt t.fraction fraction_least) (int_lt fraction_most t.fraction) (le_int t.fraction fraction_least w.least) (le_int fraction_most t.fraction w.most)))

pub out_is : (limit : ℕ) (t : NumericType) → 1 ≤ t.word → t.word ≤ limit → limit ≤ word_limit → (IsWithin t → ⊥) → Out t.fraction ≡ limited limit t
out_is limit t h k l n = at_tests (int_lt t.fraction fraction_least) refl (int_lt fraction_most t.fraction) refl
  where
    at_tests : (a : Bool) → int_lt t.fraction fraction_least ≡ a → (b : Bool) → int_lt fraction_most t.fraction ≡ b → Out t.fraction ≡ limited limit t
    at_tests true e b f = sym (word_in limit t h k ∙ if_true (int_lt t.fraction fraction_least || int_lt fraction_most t.fraction) _ _ (or_left (int_lt t.fraction fraction_least) (int_lt fraction_most t.fraction) e))
    at_tests false e true f = sym (word_in limit t h k ∙ if_true (int_lt t.fraction fraction_least || int_lt fraction_most t.fraction) _ _ (or_right (int_lt t.fraction fraction_least) (int_lt fraction_most t.fraction) f))
    at_tests false e false f = absurd (n (record { one_bit = h; bits = omega arith; least = grind (arith, ints); most = grind (arith, ints) }))

-- ---- the next type
pub next_is : (x : Made) (t : NumericType) (next : NumericType → Made) (y : Made) → Is t ≡ x → y ≡ next t → y ≡ and_then x next
unfolding and_then
next_is x t next y e f = rw (sym e) f

pub none_is : (x : Made) (none : NoType) (next : NumericType → Made) → made_of (Err none) ≡ x → made_of (Err none) ≡ and_then x next
unfolding and_then
none_is x (TooWide w) next e = rw (sym e) refl
none_is x (FractionOut f) next e = rw (sym e) refl

-- ---- the modes
pub full_is : (mode : Mode) (w : ℕ) (f : ℤ) (t : NumericType) → mode ≡ FullPrecision → IsWithin t → Is t ≡ limited word_limit (mode_type mode w f t)
unfolding mode_type
full_is mode w f t e h = rw e (type_is word_limit t h.bits h)

pub at_mode : (a b : Mode) (w : ℕ) (f : ℤ) (t : NumericType) (x : Made) → a ≡ b → x ≡ limited word_limit (mode_type b w f t) → x ≡ limited word_limit (mode_type a w f t)
at_mode a b w f t x e h = rw e h

-- ---- the step of a sum
pub cast_is : (m : Fimath) (a t : NumericType) → m.cast_before_sum ≡ true → Is t ≡ stepped m a t
unfolding stepped
cast_is m a t h = sym (if_true m.cast_before_sum _ _ h)

pub step_is : (m : Fimath) (a t full : NumericType) → m.cast_before_sum ≡ false → Is full ≡ limited word_limit (full_sum t a) → Is t ≡ stepped m a t
unfolding stepped
step_is m a t full h e = next_is (limited word_limit (full_sum t a)) full (λ _. Is t) (Is t) e refl ∙ sym (if_false m.cast_before_sum _ _ h)

pub no_step_is : (m : Fimath) (a t : NumericType) (none : NoType) → m.cast_before_sum ≡ false → made_of (Err none) ≡ limited word_limit (full_sum t a) → made_of (Err none) ≡ stepped m a t
unfolding stepped
no_step_is m a t none h e = none_is (limited word_limit (full_sum t a)) none (λ _. Is t) e ∙ sym (if_false m.cast_before_sum _ _ h)

is_one : (a b : NumericType) → Is a ≡ Is b → a ≡ b
is_one a b e = cc

kept : (x : Made) (t made : NumericType) → and_then x (λ _. Is t) ≡ Is made → t ≡ made
unfolding and_then
kept (Is u) t made e = is_one t made e
kept (Wide w) t made e = cc
kept (Out f) t made e = cc

-- the type that comes out of a step is the one that went in
step_same : (m : Fimath) (a t made : NumericType) (c : Bool) → m.cast_before_sum ≡ c → stepped m a t ≡ Is made → t ≡ made
unfolding stepped
step_same m a t made true e h = is_one t made (sym (if_true m.cast_before_sum _ _ e) ∙ h)
step_same m a t made false e h = kept (limited word_limit (full_sum t a)) t made (sym (if_false m.cast_before_sum _ _ e) ∙ h)

pub step_kept : (r : Result NumType NoType) (m : Fimath) (a t : NumericType) → made_of r ≡ stepped m a t → IfOk r (λ u. stepped m a (type_of u) ≡ Is (type_of u))
step_kept (Ok u) m a t e = let s : t ≡ type_of u = step_same m a t (type_of u) m.cast_before_sum refl (sym e) in subst (λ (x : NumericType). stepped m a x ≡ Is (type_of u)) s (sym e)
step_kept (Err none) m a t e = tt
