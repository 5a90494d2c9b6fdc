-- Whole numbers that constants are.
use Rattle.std.proofs.Common.{◌≡◌, ℕ, zero, suc, ◌*◌, ◌^◌, ◌<◌, Bool, true, false, refl, sym, ap, subst, ◌∙◌, arith}
use Rattle.std.specs.Prelude.{ℤ, pos, negsuc, ◌+ℤ◌, ◌*ℤ◌, ◌≤ℤ◌, ◌<ℤ◌, neg_ℤ, nat_abs, int_le, ◌&&◌, if◌then◌else◌, Option, Some, None, IfSome, IfNone, unwrap_or}
use Rattle.std.proofs.lemmas.Int.{ints, clamps}
use Rattle.std.proofs.lemmas.Nat.{pow_pos}
use Rattle.num_type.specs.Constants.{Exact, IsSame, IsConstant}
use Rattle.num_type.specs.Precision.{whole, scaled}
use Rattle.num_type.specs.View.{exact_of}
use Rattle.num_type.specs.declared.dyadic.Dyadic.{Dyadic}
use Rattle.num_type.proofs.Constants.{same_from, same_turned, under}
use Rattle.const_eval.specs.Powers.{IsExponent}
use Rattle.const_rules.specs.Stored.{is_exact_at, stored_at, stored_within, whole_within}
use Rattle.const_rules.proofs.Stored.{stored_is, whole_within_is}
use Rattle.fi_rules.specs.Options.{and_then, where_so}
use Rattle.fi_rules.specs.Arguments.{whole_of, bit_of, length_of}
use Rattle.fi_rules.specs.View.{stated_word, stated_fraction}

-- ---- exponents

-- a constant that isn't 0 is no whole number at an exponent below 0
pub no_whole : (c : Dyadic) (f z : ℤ) → (c.m ≡ pos 0 → ⊥) → (c.e +ℤ f) <ℤ pos 0 → IsSame (whole z) (scaled f (exact_of c)) → ⊥
no_whole c f z some below h =
    let k : ℕ = nat_abs (c.e +ℤ f) in
    let at : z *ℤ pos (2 ^ k) ≡ c.m *ℤ pos (2 ^ 0) = same_from (c.e +ℤ f) (whole z) (scaled f (exact_of c)) k 0 (omega (arith, ints, clamps, below)) (omega (arith, ints)) h in
    let u = under c.m z 0 k (c.odd some) (sym at) in
    omega (arith, ints, clamps, below, u.1)

pub not_exact : (c : Dyadic) (f : ℤ) → (c.m ≡ pos 0 → ⊥) → (c.e +ℤ f) <ℤ pos 0 → is_exact_at (exact_of c) f ≡ false
not_exact c f some below = by (is_exact_at (exact_of c) f) refl
  where
    by : (b : Bool) → is_exact_at (exact_of c) f ≡ b → is_exact_at (exact_of c) f ≡ false
    by true e = absurd (no_whole c f (stored_at (exact_of c) f) some below ((stored_is (exact_of c) f (stored_at (exact_of c) f)).1 (e, refl)))
    by false e = e

pub exact_up : (x : Exact) (f : ℤ) (k : ℕ) → x.exponent +ℤ f ≡ pos k → is_exact_at x f ≡ true
unfolding is_exact_at
exact_up x f k e = rw e refl

pub stored_up : (x : Exact) (f : ℤ) (k : ℕ) → x.exponent +ℤ f ≡ pos k → stored_at x f ≡ x.significand *ℤ pos (2 ^ k)
unfolding stored_at
stored_up x f k e = rw e refl

-- ---- exponents of powers

pub exponent_is : (c : Dyadic) (r : Option ℤ) → IfSome r (IsExponent (exact_of c)) → IfNone r ((n : ℤ) → IsExponent (exact_of c) n → ⊥) → r ≡ whole_within (negsuc 399) (pos 400) (exact_of c)
exponent_is c (Some n) h g =
    sym ((whole_within_is (negsuc 399) (pos 400) (exact_of c) n).1 (same_turned (exact_of c) (whole n) h.same, h.least, h.most))
exponent_is c None h g = by (whole_within (negsuc 399) (pos 400) (exact_of c)) refl
  where
    by : (o : Option ℤ) → whole_within (negsuc 399) (pos 400) (exact_of c) ≡ o → None ≡ o
    by None e = refl
    by (Some z) e =
        let w = (whole_within_is (negsuc 399) (pos 400) (exact_of c) z).0 e in
        absurd (g z (record { least = w.1; most = w.2; same = same_turned (whole z) (exact_of c) w.0 }))

pub exponent_least : (c : Dyadic) (r : Option ℤ) → IfSome r (IsExponent (exact_of c)) → IfSome r (λ n. negsuc 399 ≤ℤ n)
exponent_least c (Some n) h = h.least
exponent_least c None h = h

pub exponent_most : (c : Dyadic) (r : Option ℤ) → IfSome r (IsExponent (exact_of c)) → IfSome r (λ n. n ≤ℤ pos 400)
exponent_most c (Some n) h = h.most
exponent_most c None h = h

-- ---- whole numbers between bounds

chosen : (c : Bool) (z : ℤ) → where_so c z ≡ (if c then Some z else None)
unfolding where_so
chosen true z = refl
chosen false z = refl

filtered : (b : Bool) (z : ℤ) (test : ℤ → Bool) → and_then (where_so b z) (λ y. where_so (test y) y) ≡ (if b && test z then Some z else None)
unfolding and_then where_so
filtered true z test = chosen (test z) z
filtered false z test = refl

pub within_is : (least most : ℤ) (x : Exact) → and_then (whole_of x) (λ z. where_so (int_le least z && int_le z most) z) ≡ whole_within least most x
unfolding whole_of stored_within
within_is least most x = filtered (is_exact_at x (pos 0)) (stored_at x (pos 0)) (λ z. int_le least z && int_le z most)

pub same_value : (a b : ℤ) → Some a ≡ Some b → a ≡ b
same_value a b e = ap (λ (o : Option ℤ). unwrap_or o a) e

pub between_some : (least most n : ℤ) (x : Exact) → Some n ≡ whole_within (negsuc 399) (pos 400) x → least ≤ℤ n → n ≤ℤ most → Some n ≡ whole_within least most x
between_some least most n x e l m =
    let w = (whole_within_is (negsuc 399) (pos 400) x n).0 (sym e) in
    sym ((whole_within_is least most x n).1 (w.0, l, m))

-- a number between narrower bounds is between the wide ones
wide : (least most z : ℤ) (x : Exact) → negsuc 399 ≤ℤ least → most ≤ℤ pos 400 → whole_within least most x ≡ Some z → whole_within (negsuc 399) (pos 400) x ≡ Some z
wide least most z x l m e =
    let w = (whole_within_is least most x z).0 e in
    (whole_within_is (negsuc 399) (pos 400) x z).1 (w.0, omega (arith, ints, w.1, l), omega (arith, ints, w.2, m))

pub between_out : (least most n : ℤ) (x : Exact) → negsuc 399 ≤ℤ least → most ≤ℤ pos 400 → Some n ≡ whole_within (negsuc 399) (pos 400) x → (least ≤ℤ n → n ≤ℤ most → ⊥) → None ≡ whole_within least most x
between_out least most n x l m e out = by (whole_within least most x) refl
  where
    by : (o : Option ℤ) → whole_within least most x ≡ o → None ≡ o
    by None h = refl
    by (Some z) h =
        let s : n ≡ z = same_value n z (e ∙ wide least most z x l m h) in
        let w = (whole_within_is least most x z).0 h in
        absurd (out (subst (λ (y : ℤ). least ≤ℤ y) (sym s) w.1) (subst (λ (y : ℤ). y ≤ℤ most) (sym s) w.2))

pub none_some : (z : ℤ) → None ≡ Some z → ⊥
none_some z e = cc

pub between_none : (least most : ℤ) (x : Exact) → negsuc 399 ≤ℤ least → most ≤ℤ pos 400 → None ≡ whole_within (negsuc 399) (pos 400) x → None ≡ whole_within least most x
between_none least most x l m e = by (whole_within least most x) refl
  where
    by : (o : Option ℤ) → whole_within least most x ≡ o → None ≡ o
    by None h = refl
    by (Some z) h = absurd (none_some z (e ∙ wide least most z x l m h))

-- ---- 0 and 1

out_of_bits : (c : Bool) (n : ℕ) → and_then (where_so c (pos (suc (suc n)))) bit_of ≡ None
unfolding and_then where_so bit_of
out_of_bits true n = refl
out_of_bits false n = refl

below_bits : (c : Bool) (n : ℕ) → and_then (where_so c (negsuc n)) bit_of ≡ None
unfolding and_then where_so bit_of
below_bits true n = refl
below_bits false n = refl

bit_filtered : (o : Option ℤ) → and_then (and_then o (λ z. where_so (int_le (negsuc 399) z && int_le z (pos 400)) z)) bit_of ≡ and_then o bit_of
unfolding and_then where_so bit_of
bit_filtered None = refl
bit_filtered (Some (pos zero)) = refl
bit_filtered (Some (pos (suc zero))) = refl
bit_filtered (Some (pos (suc (suc n)))) = out_of_bits (int_le (negsuc 399) (pos (suc (suc n))) && int_le (pos (suc (suc n))) (pos 400)) n
bit_filtered (Some (negsuc n)) = below_bits (int_le (negsuc 399) (negsuc n) && int_le (negsuc n) (pos 400)) n

pub bit_is : (r : Option ℤ) (x : Exact) → r ≡ whole_within (negsuc 399) (pos 400) x → and_then r bit_of ≡ and_then (whole_of x) bit_of
bit_is r x e = ap (λ (o : Option ℤ). and_then o bit_of) (e ∙ sym (within_is (negsuc 399) (pos 400) x)) ∙ bit_filtered (whole_of x)

-- ---- stated lengths

pub whole_there : (c : Dyadic) → is_exact_at (exact_of c) (pos 0) ≡ true → whole_of (exact_of c) ≡ Some (stored_at (exact_of c) (pos 0))
unfolding whole_of where_so
whole_there c e = rw e refl

pub whole_missing : (c : Dyadic) → is_exact_at (exact_of c) (pos 0) ≡ false → whole_of (exact_of c) ≡ None
unfolding whole_of where_so
whole_missing c e = rw e refl

pub fraction_there : (c : Dyadic) → is_exact_at (exact_of c) (pos 0) ≡ true → Some (stated_fraction c) ≡ whole_of (exact_of c)
fraction_there c e = rw (whole_there c e) refl

pub fraction_stored : (c : Dyadic) → is_exact_at (exact_of c) (pos 0) ≡ true → stored_at (exact_of c) (pos 0) ≡ stated_fraction c
fraction_stored c e = rw (whole_there c e) refl

pub fraction_missing : (c : Dyadic) → is_exact_at (exact_of c) (pos 0) ≡ false → pos 0 ≡ stated_fraction c
fraction_missing c e = rw (whole_missing c e) refl

-- a constant is whole exactly where its exponent isn't below 0
pub whole_up : (c : Dyadic) → pos 0 ≤ℤ c.e → is_exact_at (exact_of c) (pos 0) ≡ true
whole_up c h = exact_up (exact_of c) (pos 0) (nat_abs c.e) (omega (arith, ints, clamps, h))

pub whole_down : (c : Dyadic) → c.e <ℤ pos 0 → is_exact_at (exact_of c) (pos 0) ≡ false
whole_down c h = not_exact c (pos 0) (λ z. omega (arith, ints, h, c.zero_form z)) (omega (arith, ints, h))

positive : (n p : ℕ) → 0 < p → 0 < suc n * p
positive n p some = grind arith

length_positive : (j : ℕ) → 0 < j → and_then (Some (pos j)) length_of ≡ Some j
unfolding and_then length_of
length_positive zero h = absurd (omega (arith, h))
length_positive (suc j) h = refl

times_positive : (m : ℤ) (k : ℕ) → pos 0 <ℤ m → (j : ℕ) × (m *ℤ pos (2 ^ k) ≡ pos j) × (0 < j)
times_positive (pos zero) k h = absurd (omega (arith, ints, h))
times_positive (pos (suc n)) k h = (suc n * 2 ^ k, refl, positive n (2 ^ k) (pow_pos k))
times_positive (negsuc n) k h = absurd (omega (arith, ints, h))

-- the whole number of a constant of an exponent from 0 on
pub whole_raised : (c : Dyadic) (k : ℕ) → c.e ≡ pos k → whole_of (exact_of c) ≡ Some (c.m *ℤ pos (2 ^ k))
whole_raised c k e =
    let f : c.e +ℤ pos 0 ≡ pos k = omega (arith, ints, e) in
    whole_there c (exact_up (exact_of c) (pos 0) k f) ∙ ap Some (stored_up (exact_of c) (pos 0) k f)

-- a length and its parts
pub length_there : (c : Dyadic) → pos 0 ≤ℤ c.e → pos 0 <ℤ c.m → (j : ℕ) × (whole_of (exact_of c) ≡ Some (pos j)) × (and_then (whole_of (exact_of c)) length_of ≡ Some j)
length_there c h some =
    let k : ℕ = nat_abs c.e in
    let w : whole_of (exact_of c) ≡ Some (c.m *ℤ pos (2 ^ k)) = whole_raised c k (omega (arith, ints, clamps, h)) in
    let t = times_positive c.m k some in
    let v : whole_of (exact_of c) ≡ Some (pos t.0) = w ∙ ap Some t.1 in
    (t.0, v, ap (λ (o : Option ℤ). and_then o length_of) v ∙ length_positive t.0 t.2)

pub length_some : (c : Dyadic) → pos 0 ≤ℤ c.e → pos 0 <ℤ c.m → Some (stated_word c) ≡ and_then (whole_of (exact_of c)) length_of
length_some c h some = rw (length_there c h some).2 refl

zero_length : (j : ℕ) → j ≡ 0 → and_then (Some (pos j)) length_of ≡ None
unfolding and_then length_of
zero_length j e = rw e refl

below_length : (j : ℕ) → and_then (Some (neg_ℤ (pos j))) length_of ≡ None
unfolding and_then length_of
below_length zero = refl
below_length (suc j) = refl

length_least : (m : ℤ) (k : ℕ) → m ≤ℤ pos 0 → and_then (Some (m *ℤ pos (2 ^ k))) length_of ≡ None
length_least (pos zero) k h = zero_length (0 * 2 ^ k) (omega arith)
length_least (pos (suc n)) k h = absurd (omega (arith, ints, h))
length_least (negsuc n) k h = below_length (suc n * 2 ^ k)

nothing : and_then None length_of ≡ None
unfolding and_then
nothing = refl

pub length_down : (c : Dyadic) → c.e <ℤ pos 0 → None ≡ and_then (whole_of (exact_of c)) length_of
length_down c h = sym (ap (λ (o : Option ℤ). and_then o length_of) (whole_missing c (whole_down c h)) ∙ nothing)

pub length_small : (c : Dyadic) → c.m ≤ℤ pos 0 → None ≡ and_then (whole_of (exact_of c)) length_of
length_small c h = by (int_le (pos 0) c.e) refl
  where
    by : (b : Bool) → int_le (pos 0) c.e ≡ b → None ≡ and_then (whole_of (exact_of c)) length_of
    by true e =
        let k : ℕ = nat_abs c.e in
        let g : pos 0 ≤ℤ c.e = grind (arith, ints) in
        sym (ap (λ (o : Option ℤ). and_then o length_of) (whole_raised c k (omega (arith, ints, clamps, g))) ∙ length_least c.m k h)
    by false e = let g : c.e <ℤ pos 0 = grind (arith, ints) in length_down c g

-- ---- 16

pub passed : (o : Option ℤ) (z : ℤ) (test : ℤ → Bool) → and_then o (λ y. where_so (test y) y) ≡ Some z → o ≡ Some z
unfolding and_then where_so
passed None z test e = absurd (none_some z e)
passed (Some y) z test e = by (test y) e
  where
    by : (b : Bool) → where_so b y ≡ Some z → Some y ≡ Some z
    by true h = h
    by false h = absurd (none_some z h)

pub sixteen_constant : IsConstant (record { significand = pos 16; exponent = pos 0 })
sixteen_constant = record { form = whole (pos 16); bits = omega arith; least = omega (arith, ints); most = omega (arith, ints); same = refl }

sixteen_length : and_then (Some (pos 16)) length_of ≡ Some 16
unfolding and_then length_of
sixteen_length = refl

pub sixteen_word : (d : Dyadic) → IsSame (exact_of d) (whole (pos 16)) → stated_word d ≡ 16
sixteen_word d h =
    let w : whole_within (pos 16) (pos 16) (exact_of d) ≡ Some (pos 16) =
    (whole_within_is (pos 16) (pos 16) (exact_of d) (pos 16)).1 (same_turned (exact_of d) (whole (pos 16)) h, omega (arith, ints), omega (arith, ints)) in
    let e : whole_of (exact_of d) ≡ Some (pos 16) = passed (whole_of (exact_of d)) (pos 16) (λ z. int_le (pos 16) z && int_le z (pos 16)) (within_is (pos 16) (pos 16) (exact_of d) ∙ w) in
    ap (λ (o : Option ℕ). unwrap_or o 0) (ap (λ (o : Option ℤ). and_then o length_of) e ∙ sixteen_length)

pub bit_zero : (n : ℤ) → n ≡ pos 0 → Some false ≡ bit_of n
unfolding bit_of
bit_zero n e = rw e refl

pub bit_one : (n : ℤ) → n ≡ pos 1 → Some true ≡ bit_of n
unfolding bit_of
bit_one n e = rw e refl

pub bit_other : (n : ℤ) → (n ≡ pos 0 → ⊥) → (n ≡ pos 1 → ⊥) → None ≡ bit_of n
unfolding bit_of
bit_other (pos zero) h g = absurd (h refl)
bit_other (pos (suc zero)) h g = absurd (g refl)
bit_other (pos (suc (suc n))) h g = refl
bit_other (negsuc n) h g = refl

pub whole_none : (c : Dyadic) → c.e <ℤ pos 0 → None ≡ whole_of (exact_of c)
whole_none c h = sym (whole_missing c (whole_down c h))

pub bit_is_some : (n : ℤ) (x : Exact) → Some n ≡ whole_within (negsuc 399) (pos 400) x → bit_of n ≡ and_then (whole_of x) bit_of
unfolding and_then
bit_is_some n x e = bit_is (Some n) x e

pub bit_is_none : (x : Exact) → None ≡ whole_within (negsuc 399) (pos 400) x → None ≡ and_then (whole_of x) bit_of
unfolding and_then
bit_is_none x e = bit_is None x e
