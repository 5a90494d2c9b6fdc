-- The widest of several numbers.
use Rattle.std.proofs.Common.{◌≡◌, ℕ, zero, suc, ◌<◌, ◌≤◌, ◌^◌, Bool, true, false, List, map, Option, Some, None, ⊎_elim, refl, sym, ap, ◌∙◌, arith}
use Rattle.std.specs.Prelude.{ℤ, pos, negsuc, ◌+ℤ◌, ◌<ℤ◌, ◌≤ℤ◌, option_map}
use Rattle.std.specs.Global.{Vec}
use Rattle.std.proofs.lemmas.Int.{ints}
use Rattle.std.proofs.lemmas.Bool.{cases_lt}
use Rattle.std.proofs.Math.Nat.{pow-suc, pow-le-pow_right}
use Rattle.num_type.specs.Constants.{Exact}
use Rattle.num_type.specs.Precision.{IsWidth}
use Rattle.num_type.specs.View.{exact_of}
use Rattle.num_type.specs.declared.dyadic.Dyadic.{Dyadic}
use Rattle.const_rules.specs.BestFraction.{size_in, width_of}
use Rattle.fi_rules.specs.Pairs.{scalar_number}
use Rattle.fi_rules.specs.Value.{Shape, Val, Number, ComplexNumber}
use Rattle.fi_values.specs.Numbers.{nought}
use Rattle.eval_value.specs.View.{number_view, shape_view}
use Rattle.eval_value.specs.declared.number_value.NumberValue.{NumberValue}
use Rattle.eval_call.specs.Represented.{represented, top_of, widest_from}
use Rattle.eval_call.proofs.Represented.{widest_both}

abbrev numbers : Shape → List Exact → Option (Vec Dyadic) → Val
numbers s xs None = Number s xs
numbers s xs (Some parts) = ComplexNumber s xs (map exact_of parts.items)

zero_is : (z : Dyadic) → z.m ≡ pos 0 → z.e ≡ pos 0 → exact_of z ≡ nought
zero_is z m e = λ i. record { significand = m i; exponent = e i }

from_zero : (signed : Bool) (z : Dyadic) (x : Exact) (cs : List Exact) → z.m ≡ pos 0 → z.e ≡ pos 0 → x ≡ widest_from signed (exact_of z) cs → x ≡ widest_from signed nought cs
from_zero signed z x cs m e h = h ∙ ap (λ y. widest_from signed y cs) (zero_is z m e)

pub widest_real : (signed : Bool) (v : NumberValue) (z : Dyadic) (x : Exact) → v.im ≡ None → z.m ≡ pos 0 → z.e ≡ pos 0 → x ≡ widest_from signed (exact_of z) (map exact_of v.re.items)
    → scalar_number x ≡ represented signed (number_view v)
unfolding represented
widest_real signed v z x none m e h =
    ap scalar_number (from_zero signed z x (map exact_of v.re.items) m e h) ∙ ap (λ o. represented signed (numbers (shape_view v.shape) (map exact_of v.re.items) o)) (sym none)

pub widest_complex : (signed : Bool) (v : NumberValue) (parts : Vec Dyadic) (z : Dyadic) (w x : Exact) → v.im ≡ Some parts → z.m ≡ pos 0 → z.e ≡ pos 0 → w ≡ widest_from signed (exact_of z) (map exact_of v.re.items)
    → x ≡ widest_from signed w (map exact_of parts.items) → scalar_number x ≡ represented signed (number_view v)
unfolding represented
widest_complex signed v parts z w x some m e h k =
    ap scalar_number (k ∙ ap (λ y. widest_from signed y (map exact_of parts.items)) (from_zero signed z w (map exact_of v.re.items) m e h) ∙ sym (widest_both signed nought (map exact_of v.re.items) (map exact_of parts.items)))
    ∙ ap (λ o. represented signed (numbers (shape_view v.shape) (map exact_of v.re.items) o)) (sym some)

-- ---- the power of 2 below which a number is

top_at : (signed : Bool) (c : Dyadic) (m : ℤ) → c.m ≡ m → top_of signed (exact_of c) ≡ option_map (λ n. c.e +ℤ pos (width_of n)) (size_in signed m)
unfolding top_of
top_at signed c m h = ap (λ m. option_map (λ n. c.e +ℤ pos (width_of n)) (size_in signed m)) h

pub top_above : (signed : Bool) (c : Dyadic) (n : ℕ) (t : ℤ) → c.m ≡ pos n → pos 0 <ℤ c.m → t ≡ c.e +ℤ pos (width_of n) → Some t ≡ top_of signed (exact_of c)
top_above signed c zero t h g e = absurd (omega (arith, ints, h, g))
top_above signed c (suc n) t h g e = ap (λ z. Some z) e ∙ sym (top_at signed c (pos (suc n)) h)

pub top_none : (signed : Bool) (c : Dyadic) → c.m ≡ pos 0 → None ≡ top_of signed (exact_of c)
top_none signed c h = sym (top_at signed c (pos 0) h)

pub top_below : (c : Dyadic) (n : ℕ) (t : ℤ) → c.m ≡ negsuc n → t ≡ c.e +ℤ pos (width_of n) → Some t ≡ top_of true (exact_of c)
top_below c n t h e = ap (λ z. Some z) e ∙ sym (top_at true c (negsuc n) h)

pub top_unsigned : (c : Dyadic) → (c.m ≡ pos 0 → ⊥) → c.m ≤ℤ pos 0 → None ≡ top_of false (exact_of c)
top_unsigned c h g = by c.m refl
  where
    by : (m : ℤ) → c.m ≡ m → None ≡ top_of false (exact_of c)
    by (pos zero) e = absurd (h e)
    by (pos (suc n)) e = absurd (omega (arith, ints, e, g))
    by (negsuc n) e = sym (top_at false c (negsuc n) e)

-- ---- the bits of a size

no_wider : (size v w : ℕ) → IsWidth size v → IsWidth size w → v < w → ⊥
no_wider size v w h g l =
    let k : suc v ≤ w = omega (arith, l) in
    let two : 0 < 2 = omega arith in
    let m : 2 ^ suc v ≤ 2 ^ w = pow-le-pow_right two k in
    omega (arith, m, h.below, g.least, pow-suc 2 v)

pub width_once : (size v w : ℕ) → IsWidth size v → IsWidth size w → v ≡ w
width_once size v w h g = ⊎_elim (λ l. absurd (no_wider size v w h g l)) (λ l. ⊎_elim (λ m. absurd (no_wider size w v g h m)) (λ m. omega (arith, l, m)) (cases_lt w v)) (cases_lt v w)
