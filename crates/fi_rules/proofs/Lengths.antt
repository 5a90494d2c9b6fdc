-- Word lengths and fraction lengths that a source states.
use Rattle.std.proofs.Common.{◌≡◌, ◌⊎◌, inl, inr, ◌∙◌, refl, sym, ap, ℕ, zero, suc, ◌<◌, ◌≤◌, Bool, true, false, arith}
use Rattle.std.specs.Prelude.{ℤ, pos, negsuc, ◌≤ℤ◌, ◌<ℤ◌, int_le, ◌&&◌, Option, Some, None, IfSome, IfNone, unwrap_or}
use Rattle.std.proofs.lemmas.Int.{ints}
use Rattle.num_type.specs.Constants.{Exact}
use Rattle.num_type.specs.View.{exact_of}
use Rattle.num_type.specs.declared.dyadic.Dyadic.{Dyadic}
use Rattle.const_rules.specs.Stored.{is_exact_at, stored_at, whole_within}
use Rattle.fi_rules.specs.Options.{and_then, where_so}
use Rattle.fi_rules.specs.Arguments.{whole_of, length_of}
use Rattle.fi_rules.specs.View.{stated_word, stated_fraction}
use Rattle.fi_rules.proofs.Numbers.{passed, within_is, length_there, whole_there, whole_up, fraction_stored, same_value, none_some}

-- a length is shown as it is stated
pub length_stored : (c : Dyadic) → pos 0 ≤ℤ c.e → pos 0 <ℤ c.m → stored_at (exact_of c) (pos 0) ≡ pos (stated_word c)
length_stored c h some =
    let t = length_there c h some in
    let w : stated_word c ≡ t.0 = ap (λ (o : Option ℕ). unwrap_or o 0) t.2 in
    same_value (stored_at (exact_of c) (pos 0)) (pos t.0) (sym (whole_there c (whole_up c h)) ∙ t.1) ∙ ap (λ (n : ℕ). pos n) (sym w)

-- the number that stands between bounds is the whole number
pub whole_between : (least most n : ℤ) (x : Exact) → Some n ≡ whole_within least most x → whole_of x ≡ Some n
whole_between least most n x e = passed (whole_of x) n (λ z. int_le least z && int_le z most) (within_is least most x ∙ sym e)

length_of_some : (j : ℕ) → 1 ≤ j → unwrap_or (and_then (Some (pos j)) length_of) 0 ≡ j
unfolding and_then length_of
length_of_some zero h = absurd (omega (arith, h))
length_of_some (suc j) h = refl

pub short_word : (c : Dyadic) (n : ℤ) (j : ℕ) → Some n ≡ whole_within (pos 1) (pos 64) (exact_of c) → n ≡ pos j → 1 ≤ j → j ≡ stated_word c
short_word c n j e f h =
    sym (ap (λ (o : Option ℤ). unwrap_or (and_then o length_of) 0) (whole_between (pos 1) (pos 64) n (exact_of c) e ∙ ap Some f) ∙ length_of_some j h)

chosen_out : (b : Bool) (z : ℤ) → None ≡ where_so b z → b ≡ false
unfolding where_so
chosen_out true z e = absurd (none_some z e)
chosen_out false z e = refl

long_out : (n : ℕ) → (int_le (pos 1) (pos (suc n)) && int_le (pos (suc n)) (pos 64)) ≡ false → 64 < suc n
long_out n e = grind (arith, ints)

long : (o : Option ℤ) → None ≡ and_then o (λ z. where_so (int_le (pos 1) z && int_le z (pos 64)) z) → (unwrap_or (and_then o length_of) 0 < 1) ⊎ (64 < unwrap_or (and_then o length_of) 0)
unfolding and_then length_of
long None e = inl (omega arith)
long (Some (pos zero)) e = inl (omega arith)
long (Some (pos (suc n))) e = inr (long_out n (chosen_out (int_le (pos 1) (pos (suc n)) && int_le (pos (suc n)) (pos 64)) (pos (suc n)) e))
long (Some (negsuc n)) e = inl (omega arith)

pub long_word : (c : Dyadic) → None ≡ whole_within (pos 1) (pos 64) (exact_of c) → (stated_word c < 1) ⊎ (64 < stated_word c)
long_word c e = long (whole_of (exact_of c)) (e ∙ sym (within_is (pos 1) (pos 64) (exact_of c)))

pub near_fraction : (c : Dyadic) (n : ℤ) → Some n ≡ whole_within (negsuc 255) (pos 256) (exact_of c) → n ≡ stated_fraction c
near_fraction c n e = sym (ap (λ (o : Option ℤ). unwrap_or o (pos 0)) (whole_between (negsuc 255) (pos 256) n (exact_of c) e))

far : (z : ℤ) → (int_le (negsuc 255) z && int_le z (pos 256)) ≡ false → (z <ℤ negsuc 255) ⊎ (pos 256 <ℤ z)
far z e = by (int_le (negsuc 255) z) refl
  where
    by : (b : Bool) → int_le (negsuc 255) z ≡ b → (z <ℤ negsuc 255) ⊎ (pos 256 <ℤ z)
    by false f = inl (grind (arith, ints))
    by true f = inr (grind (arith, ints))

far_of : (o : Option ℤ) (z : ℤ) → o ≡ Some z → None ≡ and_then o (λ y. where_so (int_le (negsuc 255) y && int_le y (pos 256)) y) → (unwrap_or o (pos 0) <ℤ negsuc 255) ⊎ (pos 256 <ℤ unwrap_or o (pos 0))
unfolding and_then
far_of None z f e = absurd (none_some z f)
far_of (Some y) z f e = far y (chosen_out (int_le (negsuc 255) y && int_le y (pos 256)) y e)

pub far_fraction : (c : Dyadic) → is_exact_at (exact_of c) (pos 0) ≡ true → None ≡ whole_within (negsuc 255) (pos 256) (exact_of c) → (stated_fraction c <ℤ negsuc 255) ⊎ (pos 256 <ℤ stated_fraction c)
far_fraction c h e = far_of (whole_of (exact_of c)) (stored_at (exact_of c) (pos 0)) (whole_there c h) (e ∙ sym (within_is (negsuc 255) (pos 256) (exact_of c)))

pub near_some : (c : Dyadic) (r : Option ℤ) → r ≡ whole_within (negsuc 255) (pos 256) (exact_of c) → IfSome r (λ f. f ≡ stated_fraction c)
near_some c (Some n) e = near_fraction c n e
near_some c None e = tt

pub near_none : (c : Dyadic) (r : Option ℤ) → is_exact_at (exact_of c) (pos 0) ≡ true → r ≡ whole_within (negsuc 255) (pos 256) (exact_of c) → IfNone r ((stated_fraction c <ℤ negsuc 255) ⊎ (pos 256 <ℤ stated_fraction c))
near_none c (Some n) h e = tt
near_none c None h e = far_fraction c h e

pub near_stored : (c : Dyadic) (r : Option ℤ) → is_exact_at (exact_of c) (pos 0) ≡ true → IfNone r (stored_at (exact_of c) (pos 0) ≡ stated_fraction c)
near_stored c (Some n) h = tt
near_stored c None h = fraction_stored c h
