-- Constants of sizes without their zero bits.
use Rattle.std.proofs.Common.{◌≡◌, ◌↔◌, ℕ, ◌*◌, ◌^◌, Bool, ◌⊎◌, inl, inr, ◌<◌, ◌≤◌, ◌∙◌, sym, subst, to_z, of_z, FitsSigned, w32, w64, arith}
use Rattle.std.specs.Int.{w128}
use Rattle.std.proofs.lemmas.Int.{ints, to_z-of_z, fits_signed_from_abs, fits_signed_mul}
use Rattle.std.specs.Prelude.{ℤ, pos, negsuc, ◌+ℤ◌, ◌*ℤ◌, ◌≤ℤ◌, nat_abs, unsigned_abs, Option, Some, None, IsSome, IfSome}
use Rattle.num_type.specs.Whole.{signed}
use Rattle.num_type.specs.Constants.{Exact, IsSame, IsConstant, product_of}
use Rattle.num_type.specs.View.{exact_of}
use Rattle.num_type.specs.declared.dyadic.Dyadic.{Dyadic}
use Rattle.num_type.proofs.Constants.{raised_same, same_turned, constant_same, kept_top, zero_or}

pub limits_raised : (r : Option Dyadic) (s : Bool) (q n t : ℕ) (e f : ℤ) → q * 2 ^ t ≡ n → f ≡ e +ℤ pos t → (IsSome r ↔ IsConstant (record { significand = signed s q; exponent = f })) → (IsSome r ↔ IsConstant (record { significand = signed s n; exponent = e }))
limits_raised r s q n t e f h g k =
    let x : Exact = record { significand = signed s q; exponent = f } in
    let y : Exact = record { significand = signed s n; exponent = e } in
    let same : IsSame x y = raised_same s q n t e f h g in
    (λ o. constant_same x y same (k.0 o), λ o. k.1 (constant_same y x (same_turned x y same) o))

pub some_raised : (r : Option Dyadic) (s : Bool) (q n t : ℕ) (e f : ℤ) → q * 2 ^ t ≡ n → f ≡ e +ℤ pos t → IfSome r (λ d. exact_of d ≡ record { significand = signed s q; exponent = f }) → IfSome r (λ d. IsSame (exact_of d) (record { significand = signed s n; exponent = e }))
some_raised (Some d) s q n t e f h g k =
    let x : Exact = record { significand = signed s q; exponent = f } in
    let y : Exact = record { significand = signed s n; exponent = e } in
    subst (λ (z : Exact). IsSame z y) (sym k) (raised_same s q n t e f h g)
some_raised None s q n t e f h g k = tt

-- numbers of few bits pass through a machine word
pub plain : (z : ℤ) → negsuc (2 ^ 60) ≤ℤ z → z ≤ℤ pos (2 ^ 60) → to_z w64 (of_z w64 z) ≡ z
plain z l m = to_z-of_z w64 z (fits_signed_from_abs w64 z (small z l m))
  where
    small : (z : ℤ) → negsuc (2 ^ 60) ≤ℤ z → z ≤ℤ pos (2 ^ 60) → unsigned_abs z < 2 ^ 63
    small (pos n) l m = omega (arith, ints, m)
    small (negsuc n) l m = omega (arith, ints, l)

plain_short : (z : ℤ) → negsuc 399 ≤ℤ z → z ≤ℤ pos 452 → to_z w32 (of_z w32 z) ≡ z
plain_short z l m = to_z-of_z w32 z (fits_signed_from_abs w32 z (small z l m))
  where
    small : (z : ℤ) → negsuc 399 ≤ℤ z → z ≤ℤ pos 452 → unsigned_abs z < 2 ^ 31
    small (pos n) l m = omega (arith, ints, m)
    small (negsuc n) l m = omega (arith, ints, l)

-- the greatest exponent of the one form
pub top_of : (d : Dyadic) → d.e ≤ℤ pos 452
top_of d = by (zero_or d.m)
  where
    by : (d.m ≡ pos 0) ⊎ (d.m ≡ pos 0 → ⊥) → d.e ≤ℤ pos 452
    by (inl z) = omega (arith, ints, d.zero_form z)
    by (inr some) = kept_top (nat_abs d.m) d.e (d.odd some) (record { bits = d.bits; least = d.least; room = d.room })

few : (z : ℤ) → nat_abs z < 2 ^ 53 → unsigned_abs z ≤ 2 ^ 53
few (pos n) h = omega (arith, ints, h)
few (negsuc n) h = omega (arith, ints, h)

pub plain_m : (d : Dyadic) → to_z w64 (of_z w64 d.m) ≡ d.m
plain_m d = plain d.m (omega (arith, ints, d.bits)) (omega (arith, ints, d.bits))

pub plain_e : (d : Dyadic) → to_z w32 (of_z w32 d.e) ≡ d.e
plain_e d = plain_short d.e d.least (top_of d)

-- the product, as the machine makes it
pub product_is : (a b : Dyadic) (m e : ℤ) → m ≡ to_z w64 (of_z w64 a.m) *ℤ to_z w64 (of_z w64 b.m) → e ≡ to_z w32 (of_z w32 a.e) +ℤ to_z w32 (of_z w32 b.e) → record { significand = to_z w128 (of_z w128 m); exponent = to_z w64 (of_z w64 e) } ≡ product_of (exact_of a) (exact_of b)
product_is a b m e p q =
    let s : m ≡ a.m *ℤ b.m = p ∙ (λ i. plain_m a i *ℤ plain_m b i) in
    let t : e ≡ a.e +ℤ b.e = q ∙ (λ i. plain_e a i +ℤ plain_e b i) in
    let f : FitsSigned w128 (a.m *ℤ b.m) = fits_signed_mul w128 a.m b.m (2 ^ 53) (2 ^ 53) (few a.m a.bits) (few b.m b.bits) (omega arith) in
    let u : to_z w128 (of_z w128 m) ≡ a.m *ℤ b.m = to_z-of_z w128 m (subst (FitsSigned w128) (sym s) f) ∙ s in
    let v : to_z w64 (of_z w64 e) ≡ a.e +ℤ b.e = plain e (omega (arith, ints, t, a.least, b.least)) (omega (arith, ints, t, top_of a, top_of b)) ∙ t in
    λ i. record { significand = u i; exponent = v i }
