-- Arguments that are taken.
use Rattle.std.proofs.Common.{◌≡◌, ◌∙◌, refl, sym, ap, ◌⊎◌, inl, inr, ℕ, zero, suc, ◌%◌, List, [], length, map, true, false, arith}
use Rattle.std.specs.Prelude.{ℤ, pos, negsuc, not, int_le, ◌&&◌, Option, Some, None}
use Rattle.std.proofs.lemmas.List.{length-map}
use Rattle.fic_base.specs.declared.code.Code.TheVariants as code
use Rattle.num_type.specs.Constants.{Exact}
use Rattle.num_type.specs.View.{exact_of}
use Rattle.num_type.specs.declared.dyadic.Dyadic.{Dyadic}
use Rattle.const_rules.specs.Stored.{whole_within}
use Rattle.fi_math.specs.declared.fimath.Fimath.{Fimath}
use Rattle.fi_math.specs.Govern.{usual}
use Rattle.fi_rules.specs.declared.ty.Ty as code_ty
use Rattle.fi_rules.specs.declared.ty.Ty.TheVariants as ty
use Rattle.fi_rules.specs.Options.{and_then, where_so}
use Rattle.fi_rules.specs.Pairs.{scalar_number}
use Rattle.fi_rules.specs.Arguments.{constant_in, whole_of, whole_in, size_of, word_in, fraction_in}
use Rattle.fi_rules.specs.Properties.{with_properties}
use Rattle.fi_rules.specs.Checked.{Fine, Missing, Itself, Counts, bind, needed, choose}
use Rattle.fi_rules.specs.Calls.{MakesMath, is_even, fimath_asked}
use Rattle.fi_rules.specs.View.{ty_view, number_view}
use Rattle.fi_rules.proofs.Numbers.{within_is}

number_whole : (c : Exact) → whole_in (scalar_number c) ≡ whole_of c
unfolding constant_in and_then where_so
number_whole c = refl

between_is : (least most : ℤ) (c : Exact) → whole_within least most c ≡ and_then (whole_in (scalar_number c)) (λ z. where_so (int_le least z && int_le z most) z)
between_is least most c =
    sym (within_is least most c) ∙ ap (λ (o : Option ℤ). and_then o (λ z. where_so (int_le least z && int_le z most) z)) (sym (number_whole c))

pub fraction_is : (t : code_ty.Ty) (c : Dyadic) → t ≡ ty.Number c → whole_within (negsuc 255) (pos 256) (exact_of c) ≡ fraction_in (ty_view t)
fraction_is t c e = between_is (negsuc 255) (pos 256) (exact_of c) ∙ ap (λ (x : code_ty.Ty). fraction_in (ty_view x)) (sym e)

pub word_is : (c : Dyadic) (r : Option ℤ) → r ≡ whole_within (pos 1) (pos 128) (exact_of c) → and_then r size_of ≡ word_in (number_view c)
word_is c r e = ap (λ (o : Option ℤ). and_then o size_of) (e ∙ between_is (pos 1) (pos 128) (exact_of c))

pub size_is : (n : ℤ) (j : ℕ) → n ≡ pos j → Some j ≡ and_then (Some n) size_of
unfolding and_then size_of
size_is n j e = rw e refl

pub no_size : None ≡ and_then None size_of
unfolding and_then
no_size = refl

-- ---- pairs

parity : (n : ℕ) → ((is_even n ≡ true) × (n % 2 ≡ 0)) ⊎ ((is_even n ≡ false) × (n % 2 ≡ 1))
parity zero = inl (refl, omega arith)
parity (suc n) = next n (parity n)
  where
    next : (n : ℕ) → ((is_even n ≡ true) × (n % 2 ≡ 0)) ⊎ ((is_even n ≡ false) × (n % 2 ≡ 1)) → ((is_even (suc n) ≡ true) × (suc n % 2 ≡ 0)) ⊎ ((is_even (suc n) ≡ false) × (suc n % 2 ≡ 1))
    next n (inl h) = inr (ap not h.0, omega (arith, h.1))
    next n (inr h) = inl (ap not h.0, omega (arith, h.1))

pub even_is : (n : ℕ) → n % 2 ≡ 0 → is_even n ≡ true
even_is n h = by (parity n)
  where
    by : ((is_even n ≡ true) × (n % 2 ≡ 0)) ⊎ ((is_even n ≡ false) × (n % 2 ≡ 1)) → is_even n ≡ true
    by (inl p) = p.0
    by (inr p) = absurd (omega (arith, h, p.1))

pub odd_is : (n : ℕ) → (n % 2 ≡ 0 → ⊥) → is_even n ≡ false
odd_is n h = by (parity n)
  where
    by : ((is_even n ≡ true) × (n % 2 ≡ 0)) ⊎ ((is_even n ≡ false) × (n % 2 ≡ 1)) → is_even n ≡ false
    by (inl p) = absurd (h p.1)
    by (inr p) = p.0

even_viewed : (ts : List code_ty.Ty) → length ts % 2 ≡ 0 → is_even (length (map ty_view ts)) ≡ true
even_viewed ts h = ap is_even (length-map ts ty_view) ∙ even_is (length ts) h

odd_viewed : (ts : List code_ty.Ty) → (length ts % 2 ≡ 0 → ⊥) → is_even (length (map ty_view ts)) ≡ false
odd_viewed ts h = ap is_even (length-map ts ty_view) ∙ odd_is (length ts) h

pub math_some : (ts : List code_ty.Ty) (m : Fimath) → length ts % 2 ≡ 0 → Some m ≡ with_properties (map ty_view ts) [] usual → Fine (MakesMath m) ≡ fimath_asked (map ty_view ts)
unfolding fimath_asked choose bind needed
math_some ts m h e = rw (even_viewed ts h, sym e) refl

pub math_none : (ts : List code_ty.Ty) → length ts % 2 ≡ 0 → None ≡ with_properties (map ty_view ts) [] usual → Missing code.BadArgument Itself ≡ fimath_asked (map ty_view ts)
unfolding fimath_asked choose bind needed
math_none ts h e = rw (even_viewed ts h, sym e) refl

pub odd_counted : (ts : List code_ty.Ty) (have want : ℕ) → have ≡ length ts → want ≡ suc (length ts) → (length ts % 2 ≡ 0 → ⊥) → Missing code.ArgCount (Counts have want) ≡ fimath_asked (map ty_view ts)
unfolding fimath_asked choose
odd_counted ts have want e f h = rw (odd_viewed ts h, e, f, length-map ts ty_view) refl
