-- Accumulations in full sum types are exact.
use Rattle.std.proofs.Common.{ℕ, zero, suc, ◌+◌, ◌-◌, ◌*◌, ◌^◌, ◌≤◌, ◌≡◌, refl, sym, ap, ◌∙◌, subst, Bool, true, false, List, [], ◌∷◌, length, arith}
use Rattle.std.specs.Prelude.{ℤ, pos, negsuc, nat_abs, ◌+ℤ◌, ◌-ℤ◌, ◌*ℤ◌, ◌≤ℤ◌, if◌then◌else◌}
use Rattle.std.specs.Int.{int_max}
use Rattle.std.specs.List.{AllByRecursion}
use Rattle.std.proofs.lemmas.Int.{ints, clamps}
use Rattle.std.proofs.lemmas.Bool.{cond-true, cond-false}
use Rattle.std.proofs.lemmas.Nat.{pow_pos, pow-add, mul-le}
use Rattle.std.proofs.Math.Nat.{suc-mul}
use Rattle.num_type.specs.Types.{NumericType, IsInRange, low, high}
use Rattle.fi_quant.specs.Numbers.{fitted}
use Rattle.fi_quant.proofs.Signs.{neg-mul}
use Rattle.fi_quant.proofs.Exact.{fitted_same, quantised_same}
use Rattle.fi_math.specs.declared.fimath.Fimath.{Fimath}
use Rattle.fi_math.specs.Full.{full_sum, full_sum_of}
use Rattle.fi_math.specs.Logs.{log2_up}
use Rattle.fi_math.specs.Made.{Made, Is, limited, and_then}
use Rattle.fi_math.specs.Rules.{sum_by, sum_made, stepped}
use Rattle.fi_math.proofs.Logs.{log2_holds}
use Rattle.fi_math.proofs.Inside.{first_is}
use Rattle.num_type.specs.Types.{word_limit}
use Rattle.fi_ops.specs.Elements.{Element}
use Rattle.fi_ops.specs.Operations.{aligned, taken, summed, joined}
use Rattle.fi_complex.specs.Steps.{accumulated, total}

-- ---- the type of a step

same_type : (a b : NumericType) → Is a ≡ Is b → a ≡ b
same_type a b e = cc

step_by : (c : Bool) (x : Made) (t t' : NumericType) → (if c then Is t else and_then x (λ _. Is t)) ≡ Is t' → t ≡ t'
step_by true x t t' e = same_type t t' e
step_by false x t t' e = let f = first_is x (λ _. Is t) t' e in same_type t t' f.2

step_same : (m : Fimath) (a t t' : NumericType) → stepped m a t ≡ Is t' → t ≡ t'
unfolding stepped
step_same m a t t' e = step_by m.cast_before_sum (limited word_limit (full_sum t a)) t t' e

pub sum_stepped : (m : Fimath) (a t : NumericType) (n : ℕ) → sum_made m a n ≡ Is t → stepped m a t ≡ Is t
unfolding sum_made
sum_stepped m a t n e =
    let f = first_is (and_then (limited word_limit (full_sum_of n a)) (sum_by m)) (stepped m a) t e in
    subst (λ (s : NumericType). stepped m a s ≡ Is t) (step_same m a f.0 t f.2) f.2

-- ---- a step between numbers that are in range

times_one : (z : ℤ) → z *ℤ pos (2 ^ 0) ≡ z
times_one z = omega (arith, ints)

aligned_same : (f : ℤ) (a : Element) → f ≡ a.num.fraction → aligned f a ≡ a.z
unfolding aligned
aligned_same f a e = let n : nat_abs (f -ℤ a.num.fraction) ≡ 0 = omega (arith, ints) in ap (λ (i : ℕ). a.z *ℤ pos (2 ^ i)) n ∙ times_one a.z

taken_same : (m : Fimath) (t : NumericType) (z f : ℤ) → 1 ≤ t.word → t.fraction ≡ f → IsInRange t z → taken m t z f ≡ z
unfolding taken
taken_same m t z f one e h = quantised_same m.rounding m.overflow t z f one e h

-- an element by its parts
abbrev element : NumericType → ℤ → Element
element n z = record { num = n; z = z }

step_exact_by : (m : Fimath) (t u : NumericType) (x y : ℤ) (c : Bool) → m.cast_before_sum ≡ c → 1 ≤ t.word → t.fraction ≡ u.fraction → IsInRange t x → IsInRange t y → IsInRange t (x +ℤ y)
    → summed m t (element t x) (element u y) ≡ x +ℤ y
unfolding joined
step_exact_by m t u x y true e one f h k l =
    cond-true m.cast_before_sum _ _ e
    ∙ ap (λ (i : ℤ). fitted m.overflow t (i +ℤ taken m t y u.fraction)) (taken_same m t x t.fraction one refl h)
    ∙ ap (λ (i : ℤ). fitted m.overflow t (x +ℤ i)) (taken_same m t y u.fraction one f k)
    ∙ fitted_same m.overflow t (x +ℤ y) one l
step_exact_by m t u x y false e one f h k l =
    let g : int_max t.fraction u.fraction ≡ t.fraction = omega (arith, ints, clamps, f) in
    let g' : int_max t.fraction u.fraction ≡ u.fraction = omega (arith, ints, clamps, f) in
    cond-false m.cast_before_sum _ _ e
    ∙ ap (λ (i : ℤ). taken m t (i +ℤ aligned (int_max t.fraction u.fraction) (element u y)) (int_max t.fraction u.fraction)) (aligned_same (int_max t.fraction u.fraction) (element t x) g)
    ∙ ap (λ (i : ℤ). taken m t (x +ℤ i) (int_max t.fraction u.fraction)) (aligned_same (int_max t.fraction u.fraction) (element u y) g')
    ∙ taken_same m t (x +ℤ y) (int_max t.fraction u.fraction) one (sym g) l

step_exact : (m : Fimath) (t u : NumericType) (x y : ℤ) → 1 ≤ t.word → t.fraction ≡ u.fraction → IsInRange t x → IsInRange t y → IsInRange t (x +ℤ y) → summed m t (element t x) (element u y) ≡ x +ℤ y
step_exact m t u x y one f h k l = step_exact_by m t u x y m.cast_before_sum refl one f h k l

-- ---- sums of j numbers of a range

record IsSumOf (u : NumericType) (j : ℕ) (z : ℤ) : Type 0 where
  least : (low u *ℤ pos j) ≤ℤ z
  most : z ≤ℤ (high u *ℤ pos j)

times_next : (x : ℤ) (j : ℕ) → x *ℤ pos (j + 1) ≡ x *ℤ pos j +ℤ x
times_next (pos n) j = omega (arith, ints)
times_next (negsuc n) j = omega (arith, ints, neg-mul (suc n) (j + 1), neg-mul (suc n) j)

times_none : (x : ℤ) → x *ℤ pos 0 ≡ pos 0
times_none x = omega (arith, ints)

none_sum : (u : NumericType) → IsSumOf u 0 (pos 0)
none_sum u = record { least = omega (arith, ints, times_none (low u)); most = omega (arith, ints, times_none (high u)) }

next_sum : (u : NumericType) (j : ℕ) (x z : ℤ) → IsSumOf u j x → IsInRange u z → IsSumOf u (j + 1) (x +ℤ z)
next_sum u j x z s h = record {
  least = omega (arith, ints, s.least, h.least, times_next (low u) j);
  most = omega (arith, ints, s.most, h.most, times_next (high u) j);
}

one_sum : (u : NumericType) (z : ℤ) → IsInRange u z → IsSumOf u 1 z
one_sum u z h = record { least = omega (arith, ints, h.least); most = omega (arith, ints, h.most) }

-- j times the greatest number, which is one below a power
top_fits : (q j r : ℕ) → j ≤ r → 1 ≤ r → q * j + 1 ≤ suc q * r
top_fits q zero r h k = let o : 1 * 1 ≤ suc q * r = mul-le 1 1 (suc q) r (omega arith) k in omega arith
top_fits q (suc j) r h k = let o : suc q * suc j ≤ suc q * r = mul-le (suc q) (suc j) (suc q) r (omega arith) h in omega (arith, suc-mul q (suc j))

below_fits : (p j r : ℕ) → 1 ≤ p → j ≤ r → 1 ≤ r → (p - 1) * j ≤ p * r - 1
below_fits p j r one h k = let e : suc (p - 1) ≡ p = omega arith in let t = top_fits (p - 1) j r h k in let f : suc (p - 1) * r ≡ p * r = ap (λ (i : ℕ). i * r) e in omega (arith, t, f)

fits_by : (s : Bool) (w l : ℕ) (f z : ℤ) (j : ℕ) → 1 ≤ w → j ≤ 2 ^ l → IsSumOf (record { signed = s; word = w; fraction = f }) j z → IsInRange (record { signed = s; word = w + l; fraction = f }) z
fits_by true w l f z j one h s =
    let e : 2 ^ (w + l - 1) ≡ 2 ^ (w - 1) * 2 ^ l = ap (λ (i : ℕ). 2 ^ i) (let k : w + l - 1 ≡ w - 1 + l = omega arith in k) ∙ pow-add 2 (w - 1) l in
    let m : 2 ^ (w - 1) * j ≤ 2 ^ (w - 1) * 2 ^ l = mul-le (2 ^ (w - 1)) j (2 ^ (w - 1)) (2 ^ l) (omega arith) h in
    let b = below_fits (2 ^ (w - 1)) j (2 ^ l) (pow_pos (w - 1)) h (pow_pos l) in
    record { least = omega (arith, ints, s.least, neg-mul (2 ^ (w - 1)) j, e, m); most = omega (arith, ints, s.most, e, b) }
fits_by false w l f z j one h s =
    let e : 2 ^ (w + l) ≡ 2 ^ w * 2 ^ l = pow-add 2 w l in
    let b = below_fits (2 ^ w) j (2 ^ l) (pow_pos w) h (pow_pos l) in
    record { least = omega (arith, ints, s.least); most = omega (arith, ints, s.most, e, b) }

fits : (u : NumericType) (n j : ℕ) (z : ℤ) → 1 ≤ u.word → j ≤ n → IsSumOf u j z → IsInRange (full_sum_of n u) z
fits u n j z one h s = let p = log2_holds n in fits_by u.signed u.word (log2_up n) u.fraction z j one (omega arith) s

-- ---- all steps

some_bits : (u : NumericType) (n : ℕ) → 1 ≤ u.word → 1 ≤ (full_sum_of n u).word
some_bits u n one = omega arith

nothing_more : (z : ℤ) → z ≡ z +ℤ pos 0
nothing_more z = omega (arith, ints)

moved : (x y z : ℤ) → x +ℤ y +ℤ z ≡ x +ℤ (y +ℤ z)
moved x y z = omega (arith, ints)

exact_from : (m : Fimath) (u : NumericType) (n j : ℕ) (acc : ℤ) (zs : List ℤ) → 1 ≤ u.word → IsSumOf u j acc → AllByRecursion (IsInRange u) zs → j + length zs ≤ n
    → accumulated m (full_sum_of n u) u acc zs ≡ acc +ℤ total zs
unfolding accumulated total
exact_from m u n j acc [] one s a h = nothing_more acc
exact_from m u n j acc (z ∷ zs) one s a h =
    let next = next_sum u j acc z s a.0 in
    let e : summed m (full_sum_of n u) (element (full_sum_of n u) acc) (element u z) ≡ acc +ℤ z = step_exact m (full_sum_of n u) u acc z (some_bits u n one) refl (fits u n j acc one (omega arith) s) (fits u n 1 z one (omega arith) (one_sum u z a.0)) (fits u n (j + 1) (acc +ℤ z) one (omega arith) next) in
    ap (λ (x : ℤ). accumulated m (full_sum_of n u) u x zs) e ∙ exact_from m u n (j + 1) (acc +ℤ z) zs one next a.1 (omega arith) ∙ moved acc z (total zs)

zero_first : (z : ℤ) → pos 0 +ℤ z ≡ z
zero_first z = omega (arith, ints)

pub exact : (m : Fimath) (u : NumericType) (n : ℕ) (zs : List ℤ) → 1 ≤ u.word → AllByRecursion (IsInRange u) zs → length zs ≤ n → accumulated m (full_sum_of n u) u (pos 0) zs ≡ total zs
exact m u n zs one a h = exact_from m u n 0 (pos 0) zs one (none_sum u) a (omega arith) ∙ zero_first (total zs)

sum_from : (u : NumericType) (j : ℕ) (acc : ℤ) (zs : List ℤ) → IsSumOf u j acc → AllByRecursion (IsInRange u) zs → IsSumOf u (j + length zs) (acc +ℤ total zs)
unfolding total
sum_from u j acc [] s a = record { least = omega (arith, ints, s.least); most = omega (arith, ints, s.most) }
sum_from u j acc (z ∷ zs) s a =
    let r = sum_from u (j + 1) (acc +ℤ z) zs (next_sum u j acc z s a.0) a.1 in
    let e : j + 1 + length zs ≡ j + length (z ∷ zs) = omega arith in
    subst (λ (i : ℕ). IsSumOf u i (acc +ℤ (z +ℤ total zs))) e (subst (λ (x : ℤ). IsSumOf u (j + 1 + length zs) x) (moved acc z (total zs)) r)

pub inside : (u : NumericType) (n : ℕ) (zs : List ℤ) → 1 ≤ u.word → AllByRecursion (IsInRange u) zs → length zs ≤ n → IsInRange (full_sum_of n u) (total zs)
inside u n zs one a h = subst (λ (x : ℤ). IsInRange (full_sum_of n u) x) (zero_first (total zs)) (fits u n (0 + length zs) (pos 0 +ℤ total zs) one (omega arith) (sum_from u 0 (pos 0) zs (none_sum u) a))
