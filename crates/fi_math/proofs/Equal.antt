-- Two fimaths are the same exactly where they are equal.
use Rattle.std.proofs.Common.{ℕ, zero, suc, ℤ, ◌≡◌, ◌∙◌, refl, sym, ap, Bool, true, false, eqb, ◌&&◌, arith}
use mathlib.Core.Bool.{beq}
use denote.Enum.Bare.{sameb}
use denote.Enum.Declared.{tag_of}
use Rattle.std.specs.Ordering.{int_eq}
use Rattle.std.proofs.lemmas.Bool.{eqb-true, eq-eqb, and_parts}
use Rattle.std.proofs.lemmas.Int.{ints}
use Rattle.num_type.specs.declared.methods.Rounding.{Rounding}
use Rattle.num_type.specs.declared.methods.Rounding.TheVariants.{Ceiling, Floor, Zero, Nearest, Round, Convergent}
use Rattle.num_type.specs.declared.methods.Overflow.{Overflow}
use Rattle.num_type.specs.declared.methods.Overflow.TheVariants.{Saturate, Wrap}
use Rattle.num_type.specs.contracts.methods.Rounding as round
use Rattle.num_type.specs.contracts.methods.Overflow as overflow
use Rattle.fi_math.specs.contracts.fimath.Mode as mode
use Rattle.fi_math.specs.declared.fimath.Mode.{Mode}
use Rattle.fi_math.specs.declared.fimath.Mode.TheVariants.{FullPrecision, KeepLSB, KeepMSB, SpecifyPrecision}
use Rattle.fi_math.specs.declared.fimath.Fimath.{Fimath}
use Rattle.fi_math.specs.Same.{rounding_number, overflow_number, mode_number, same_fimath}

rounding_tag : (r : Rounding) → tag_of round.the_type r ≡ rounding_number r
rounding_tag Ceiling = refl
rounding_tag Floor = refl
rounding_tag Zero = refl
rounding_tag Nearest = refl
rounding_tag Round = refl
rounding_tag Convergent = refl

overflow_tag : (a : Overflow) → tag_of overflow.the_type a ≡ overflow_number a
overflow_tag Saturate = refl
overflow_tag Wrap = refl

mode_tag : (m : Mode) → tag_of mode.the_type m ≡ mode_number m
mode_tag FullPrecision = refl
mode_tag KeepLSB = refl
mode_tag KeepMSB = refl
mode_tag SpecifyPrecision = refl

both : (a b c d : ℕ) → a ≡ c → b ≡ d → eqb a b ≡ eqb c d
both a b c d e f = cc

pub rounding_same : (a b : Rounding) → sameb round.the_type a b ≡ eqb (rounding_number a) (rounding_number b)
rounding_same a b = both (tag_of round.the_type a) (tag_of round.the_type b) (rounding_number a) (rounding_number b) (rounding_tag a) (rounding_tag b)

pub overflow_same : (a b : Overflow) → sameb overflow.the_type a b ≡ eqb (overflow_number a) (overflow_number b)
overflow_same a b = both (tag_of overflow.the_type a) (tag_of overflow.the_type b) (overflow_number a) (overflow_number b) (overflow_tag a) (overflow_tag b)

pub mode_same : (a b : Mode) → sameb mode.the_type a b ≡ eqb (mode_number a) (mode_number b)
mode_same a b = both (tag_of mode.the_type a) (tag_of mode.the_type b) (mode_number a) (mode_number b) (mode_tag a) (mode_tag b)

-- nine tests from the left and from the right
regrouped : (a b c d e f g h i : Bool) → (a && (b && (c && (d && (e && (f && (g && (h && i)))))))) ≡ (a && b && c && d && e && f && g && h && i)
regrouped false b c d e f g h i = refl
regrouped true false c d e f g h i = refl
regrouped true true false d e f g h i = refl
regrouped true true true false e f g h i = refl
regrouped true true true true false f g h i = refl
regrouped true true true true true false g h i = refl
regrouped true true true true true true false h i = refl
regrouped true true true true true true true false i = refl
regrouped true true true true true true true true i = refl

nine : (a b c d e f g h i a' b' c' f' : Bool) → a ≡ a' → b ≡ b' → c ≡ c' → f ≡ f' → (a && (b && (c && (d && (e && (f && (g && (h && i)))))))) ≡ (a' && b' && c' && d && e && f' && g && h && i)
nine a b c d e f g h i a' b' c' f' p q r s = rw (p, q, r, s) (regrouped a' b' c' d e f' g h i)

-- the derived comparison
pub derived_is : (m n : Fimath) → (sameb round.the_type m.rounding n.rounding && (sameb overflow.the_type m.overflow n.overflow && (sameb mode.the_type m.product_mode n.product_mode && (eqb m.product_word n.product_word && (int_eq m.product_fraction n.product_fraction && (sameb mode.the_type m.sum_mode n.sum_mode && (eqb m.sum_word n.sum_word && (int_eq m.sum_fraction n.sum_fraction && beq m.cast_before_sum n.cast_before_sum)))))))) ≡ same_fimath m n
unfolding same_fimath
derived_is m n = nine _ _ _ _ _ _ _ _ _ _ _ _ _ (rounding_same m.rounding n.rounding) (overflow_same m.overflow n.overflow) (mode_same m.product_mode n.product_mode) (mode_same m.sum_mode n.sum_mode)

-- ---- the same fimath is an equal one

-- the rounding method of a number
rounding_at : ℕ → Rounding
rounding_at zero = Ceiling
rounding_at (suc zero) = Floor
rounding_at (suc (suc zero)) = Zero
rounding_at (suc (suc (suc zero))) = Nearest
rounding_at (suc (suc (suc (suc zero)))) = Round
rounding_at (suc (suc (suc (suc (suc n))))) = Convergent

rounding_back : (r : Rounding) → rounding_at (rounding_number r) ≡ r
unfolding rounding_at
rounding_back Ceiling = refl
rounding_back Floor = refl
rounding_back Zero = refl
rounding_back Nearest = refl
rounding_back Round = refl
rounding_back Convergent = refl

overflow_at : ℕ → Overflow
overflow_at zero = Saturate
overflow_at (suc n) = Wrap

overflow_back : (a : Overflow) → overflow_at (overflow_number a) ≡ a
unfolding overflow_at
overflow_back Saturate = refl
overflow_back Wrap = refl

mode_at : ℕ → Mode
mode_at zero = FullPrecision
mode_at (suc zero) = KeepLSB
mode_at (suc (suc zero)) = KeepMSB
mode_at (suc (suc (suc n))) = SpecifyPrecision

mode_back : (m : Mode) → mode_at (mode_number m) ≡ m
unfolding mode_at
mode_back FullPrecision = refl
mode_back KeepLSB = refl
mode_back KeepMSB = refl
mode_back SpecifyPrecision = refl

rounding_one : (a b : Rounding) → eqb (rounding_number a) (rounding_number b) ≡ true → a ≡ b
rounding_one a b e = sym (rounding_back a) ∙ ap rounding_at (eqb-true (rounding_number a) (rounding_number b) e) ∙ rounding_back b

overflow_one : (a b : Overflow) → eqb (overflow_number a) (overflow_number b) ≡ true → a ≡ b
overflow_one a b e = sym (overflow_back a) ∙ ap overflow_at (eqb-true (overflow_number a) (overflow_number b) e) ∙ overflow_back b

mode_one : (a b : Mode) → eqb (mode_number a) (mode_number b) ≡ true → a ≡ b
mode_one a b e = sym (mode_back a) ∙ ap mode_at (eqb-true (mode_number a) (mode_number b) e) ∙ mode_back b

int_one : (a b : ℤ) → int_eq a b ≡ true → a ≡ b
int_one a b e = grind (arith, ints)

bool_one : (a b : Bool) → beq a b ≡ true → a ≡ b
bool_one true true e = refl
bool_one false false e = refl
bool_one true false e = cc
bool_one false true e = cc

nine_parts : (a b c d e f g h i : Bool) → (a && b && c && d && e && f && g && h && i) ≡ true
    → (a ≡ true) × (b ≡ true) × (c ≡ true) × (d ≡ true) × (e ≡ true) × (f ≡ true) × (g ≡ true) × (h ≡ true) × (i ≡ true)
nine_parts a b c d e f g h i x =
    let y1 = and_parts (a && b && c && d && e && f && g && h) i x in
    let y2 = and_parts (a && b && c && d && e && f && g) h y1.0 in
    let y3 = and_parts (a && b && c && d && e && f) g y2.0 in
    let y4 = and_parts (a && b && c && d && e) f y3.0 in
    let y5 = and_parts (a && b && c && d) e y4.0 in
    let y6 = and_parts (a && b && c) d y5.0 in
    let y7 = and_parts (a && b) c y6.0 in
    let y8 = and_parts a b y7.0 in
    (y8.0, y8.1, y7.1, y6.1, y5.1, y4.1, y3.1, y2.1, y1.1)

-- a fimath by its nine properties
abbrev made : Rounding → Overflow → Mode → ℕ → ℤ → Mode → ℕ → ℤ → Bool → Fimath
made a b c d e f g h i = record { rounding = a; overflow = b; product_mode = c; product_word = d; product_fraction = e; sum_mode = f; sum_word = g; sum_fraction = h; cast_before_sum = i }

alike : (a a' : Rounding) (b b' : Overflow) (c c' : Mode) (d d' : ℕ) (e e' : ℤ) (f f' : Mode) (g g' : ℕ) (h h' : ℤ) (i i' : Bool) → a ≡ a' → b ≡ b' → c ≡ c' → d ≡ d' → e ≡ e' → f ≡ f' → g ≡ g' → h ≡ h' → i ≡ i' → made a b c d e f g h i ≡ made a' b' c' d' e' f' g' h' i'
alike a a' b b' c c' d d' e e' f f' g g' h h' i i' x0 x1 x2 x3 x4 x5 x6 x7 x8 = rw (x0, x1, x2, x3, x4, x5, x6, x7, x8) refl

pub same_to : (m n : Fimath) → same_fimath m n ≡ true → m ≡ n
unfolding same_fimath
same_to m n e =
    let p = nine_parts _ _ _ _ _ _ _ _ _ e in
    alike _ _ _ _ _ _ _ _ _ _ _ _ _ _ _ _ _ _
    (rounding_one m.rounding n.rounding p.0)
    (overflow_one m.overflow n.overflow p.1)
    (mode_one m.product_mode n.product_mode p.2)
    (eqb-true m.product_word n.product_word p.3)
    (int_one m.product_fraction n.product_fraction p.4)
    (mode_one m.sum_mode n.sum_mode p.5)
    (eqb-true m.sum_word n.sum_word p.6)
    (int_one m.sum_fraction n.sum_fraction p.7)
    (bool_one m.cast_before_sum n.cast_before_sum p.8)

int_self : (a : ℤ) → int_eq a a ≡ true
int_self a = grind (arith, ints)

bool_self : (a : Bool) → beq a a ≡ true
bool_self true = refl
bool_self false = refl

all_nine : (a b c d e f g h i : Bool) → a ≡ true → b ≡ true → c ≡ true → d ≡ true → e ≡ true → f ≡ true → g ≡ true → h ≡ true → i ≡ true → (a && b && c && d && e && f && g && h && i) ≡ true
all_nine a b c d e f g h i x0 x1 x2 x3 x4 x5 x6 x7 x8 = rw (x0, x1, x2, x3, x4, x5, x6, x7, x8) refl

same_self : (m : Fimath) → same_fimath m m ≡ true
unfolding same_fimath
same_self m = all_nine _ _ _ _ _ _ _ _ _
    (eq-eqb (rounding_number m.rounding) (rounding_number m.rounding) refl)
    (eq-eqb (overflow_number m.overflow) (overflow_number m.overflow) refl)
    (eq-eqb (mode_number m.product_mode) (mode_number m.product_mode) refl)
    (eq-eqb m.product_word m.product_word refl)
    (int_self m.product_fraction)
    (eq-eqb (mode_number m.sum_mode) (mode_number m.sum_mode) refl)
    (eq-eqb m.sum_word m.sum_word refl)
    (int_self m.sum_fraction)
    (bool_self m.cast_before_sum)

pub same_from : (m n : Fimath) → m ≡ n → same_fimath m n ≡ true
same_from m n e = rw e (same_self n)
