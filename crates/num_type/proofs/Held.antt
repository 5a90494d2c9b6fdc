-- Which fraction lengths hold a number, and the best one of several.
use Rattle.std.proofs.Common.{◌≡◌, ◌↔◌, ℕ, zero, suc, ◌+◌, ◌*◌, ◌-◌, ◌^◌, ◌<◌, ◌≤◌, Bool, true, false, List, [], ◌∷◌, length, drop, get_or, refl, sym, ap, subst, ◌∙◌, arith}
use Rattle.std.specs.Prelude.{ℤ, pos, negsuc, ◌+ℤ◌, ◌-ℤ◌, ◌*ℤ◌, ◌≤ℤ◌, ◌<ℤ◌, neg_ℤ, Option, Some, None, IsNone}
use Rattle.std.specs.Int.{int_min}
use Rattle.std.specs.List.{AllByRecursion}
use Rattle.std.proofs.lemmas.Int.{ints, clamps}
use Rattle.std.proofs.lemmas.Nat.{mul-le, pow_pos, pow_below, pow-add, shl_below}
use Rattle.std.proofs.lemmas.List.{drop_more, drop_all}
use Rattle.std.proofs.Math.Nat.{pow-suc, suc-mul}
use Rattle.std.proofs.Math.Pow.{pow_mono}
use Rattle.num_type.specs.Constants.{Exact, units, common}
use Rattle.num_type.specs.Types.{least_of, greatest_of}
use Rattle.num_type.specs.Precision.{IsAtMost, IsBelow, whole, scaled, counted, as_counted, bits_beside_sign, IsWidth, IsHeld, IsUpTo, AreHeld, AreZero, IsBestFraction}
use Rattle.num_type.specs.declared.dyadic.Dyadic.{Dyadic}
use Rattle.num_type.proofs.Constants.{times_one, units_at, signed-mul}
use Rattle.num_type.proofs.Orders.{zero_times}

-- Sizes against powers of 2

pub product_below : (n w k bits : ℕ) → IsWidth n w → w + k ≤ bits → n * 2 ^ k < 2 ^ bits
product_below n w k bits h l =
    let up : 2 ^ (w + k) ≤ 2 ^ bits = pow_mono l in
    omega (arith, shl_below n w k h.below, up)

product_up : (n m p : ℕ) → n ≤ m → n * p ≤ m * p
product_up n m p h = mul-le n p m p h (omega arith)

-- a size of suc i bits is at least 2 ^ i
top_bit : (n i : ℕ) → IsWidth n (suc i) → 2 ^ i ≤ n
top_bit n i h = omega (arith, h.least, pow-suc 2 i)

under_power : (i j : ℕ) → 2 ^ i < 2 ^ j → i < j
under_power i j h = by (j - i) (omega arith)
  where
    by : (d : ℕ) → j - i ≡ d → i < j
    by (suc d) e = omega (arith, e)
    by zero e = absurd (let up : 2 ^ j ≤ 2 ^ i = pow_mono (let l : j ≤ i = omega (arith, e) in l) in omega (arith, h, up))

not_above_power : (i j : ℕ) → 2 ^ i ≤ 2 ^ j → i ≤ j
not_above_power i j h = by (i - j) (omega arith)
  where
    by : (d : ℕ) → i - j ≡ d → i ≤ j
    by zero e = omega (arith, e)
    by (suc d) e = absurd (omega (arith, h, pow_below j i (omega (arith, e))))

pub below_product : (n w k bits : ℕ) → 0 < n → IsWidth n w → n * 2 ^ k < 2 ^ bits → w + k ≤ bits
below_product n zero k bits some h l = omega (arith, under_power k bits (omega (arith, l, product_up 1 n (2 ^ k) some)))
below_product n (suc i) k bits some h l =
    let up : 2 ^ i * 2 ^ k ≤ n * 2 ^ k = product_up (2 ^ i) n (2 ^ k) (top_bit n i h) in
    omega (arith, under_power (i + k) bits (omega (arith, l, up, pow-add 2 i k)))

-- the same for a size plus 1 that may be the power itself

pub product_at_most : (n w k bits : ℕ) → IsWidth n w → w + k ≤ bits → suc n * 2 ^ k ≤ 2 ^ bits
product_at_most n w k bits h l =
    let up : 2 ^ (w + k) ≤ 2 ^ bits = pow_mono l in
    omega (arith, product_up (suc n) (2 ^ w) (2 ^ k) (omega (arith, h.below)), up, pow-add 2 w k)

pub at_most_product : (n w k bits : ℕ) → IsWidth n w → suc n * 2 ^ k ≤ 2 ^ bits → w + k ≤ bits
at_most_product n zero k bits h l = omega (arith, not_above_power k bits (omega (arith, l, product_up 1 (suc n) (2 ^ k) (omega arith))))
at_most_product n (suc i) k bits h l =
    let up : suc (2 ^ i) * 2 ^ k ≤ suc n * 2 ^ k = product_up (suc (2 ^ i)) (suc n) (2 ^ k) (omega (arith, top_bit n i h)) in
    let more : suc (2 ^ i) * 2 ^ k ≡ 2 ^ i * 2 ^ k + 2 ^ k = suc-mul (2 ^ i) (2 ^ k) in
    omega (arith, under_power (i + k) bits (omega (arith, l, up, more, pow-add 2 i k, pow_pos k)))

-- Ends of a range

ends_above : (signed : Bool) (word : ℕ) → 1 ≤ word → (greatest_of signed word +ℤ pos 1) ≡ pos (2 ^ bits_beside_sign signed word)
ends_above true word h = omega (arith, ints, pow_pos (word - 1))
ends_above false word h = omega (arith, ints, pow_pos word)

-- Numbers at a scale, beside a whole number

-- an exponent of 0 or more
pub below_up : (x : Exact) (z : ℤ) (k : ℕ) → x.exponent ≡ pos k → IsBelow x (whole z) ↔ ((x.significand *ℤ pos (2 ^ k)) <ℤ z)
below_up x z k e =
    let s : ℤ = common x (whole z) in
    let p : units s x ≡ x.significand *ℤ pos (2 ^ k) = units_at s x k (omega (arith, ints, clamps, e)) in
    let q : units s (whole z) ≡ z = units_at s (whole z) 0 (omega (arith, ints, clamps, e)) ∙ times_one z in
    (λ h. omega (arith, ints, p, q, h), λ h. omega (arith, ints, p, q, h))

-- an exponent below 0
pub below_down : (x : Exact) (z : ℤ) (j : ℕ) → x.exponent ≡ negsuc j → IsBelow x (whole z) ↔ (x.significand <ℤ (z *ℤ pos (2 ^ suc j)))
below_down x z j e =
    let s : ℤ = common x (whole z) in
    let p : units s x ≡ x.significand = units_at s x 0 (omega (arith, ints, clamps, e)) ∙ times_one x.significand in
    let q : units s (whole z) ≡ z *ℤ pos (2 ^ suc j) = units_at s (whole z) (suc j) (omega (arith, ints, clamps, e)) in
    (λ h. omega (arith, ints, p, q, h), λ h. omega (arith, ints, p, q, h))

pub above_up : (x : Exact) (z : ℤ) (k : ℕ) → x.exponent ≡ pos k → IsAtMost (whole z) x ↔ (z ≤ℤ (x.significand *ℤ pos (2 ^ k)))
above_up x z k e =
    let s : ℤ = common (whole z) x in
    let p : units s x ≡ x.significand *ℤ pos (2 ^ k) = units_at s x k (omega (arith, ints, clamps, e)) in
    let q : units s (whole z) ≡ z = units_at s (whole z) 0 (omega (arith, ints, clamps, e)) ∙ times_one z in
    (λ h. omega (arith, ints, p, q, h), λ h. omega (arith, ints, p, q, h))

pub above_down : (x : Exact) (z : ℤ) (j : ℕ) → x.exponent ≡ negsuc j → IsAtMost (whole z) x ↔ ((z *ℤ pos (2 ^ suc j)) ≤ℤ x.significand)
above_down x z j e =
    let s : ℤ = common (whole z) x in
    let p : units s x ≡ x.significand = units_at s x 0 (omega (arith, ints, clamps, e)) ∙ times_one x.significand in
    let q : units s (whole z) ≡ z *ℤ pos (2 ^ suc j) = units_at s (whole z) (suc j) (omega (arith, ints, clamps, e)) in
    (λ h. omega (arith, ints, p, q, h), λ h. omega (arith, ints, p, q, h))

-- Signs of products

nonpos_times : (z : ℤ) (p : ℕ) → z ≤ℤ pos 0 → (z *ℤ pos p) ≤ℤ pos 0
nonpos_times (pos zero) p h = let e : 0 * p ≡ 0 = omega arith in omega (arith, ints, e)
nonpos_times (pos (suc n)) p h = absurd (omega (arith, ints, h))
nonpos_times (negsuc n) p h = let e : neg_ℤ (pos (suc n * p)) ≤ℤ pos 0 = omega (arith, ints) in e

above_zero_times : (z : ℤ) (k : ℕ) → pos 0 <ℤ z → pos 0 <ℤ (z *ℤ pos (2 ^ k))
above_zero_times (pos zero) k h = absurd (omega (arith, ints, h))
above_zero_times (pos (suc n)) k h = let e : pos 0 <ℤ pos (suc n * 2 ^ k) = omega (arith, ints, pow_pos k, product_up 1 (suc n) (2 ^ k) (omega arith)) in e
above_zero_times (negsuc n) k h = absurd (omega (arith, ints, h))

-- Ranges of a word, by the sign of the number

positive_in : (y : Exact) (n w bits : ℕ) (low : ℤ) → y.significand ≡ pos n → 0 < n → IsWidth n w → low ≤ℤ pos 0 → (IsAtMost (whole low) y × IsBelow y (whole (pos (2 ^ bits)))) ↔ ((y.exponent +ℤ pos w) ≤ℤ pos bits)
positive_in y n w bits low c some wide down = by y.exponent refl
  where
    by : (r : ℤ) → y.exponent ≡ r → (IsAtMost (whole low) y × IsBelow y (whole (pos (2 ^ bits)))) ↔ ((y.exponent +ℤ pos w) ≤ℤ pos bits)
    by (pos k) e =
        let m : y.significand *ℤ pos (2 ^ k) ≡ pos (n * 2 ^ k) = ap (λ (z : ℤ). z *ℤ pos (2 ^ k)) c in (
          λ h.
              let l : (y.significand *ℤ pos (2 ^ k)) <ℤ pos (2 ^ bits) = (below_up y (pos (2 ^ bits)) k e).0 h.1 in
              let t : n * 2 ^ k < 2 ^ bits = omega (arith, ints, l, m) in
              omega (arith, ints, e, below_product n w k bits some wide t),
          λ h.
              let t : n * 2 ^ k < 2 ^ bits = product_below n w k bits wide (omega (arith, ints, h, e)) in
              ((above_up y low k e).1 (omega (arith, ints, down, m)), (below_up y (pos (2 ^ bits)) k e).1 (omega (arith, ints, t, m))),
        )
    by (negsuc j) e =
        let one : n * 2 ^ 0 ≡ n = omega arith in
        let both : 2 ^ bits * 2 ^ suc j ≡ 2 ^ (bits + suc j) = sym (pow-add 2 bits (suc j)) in (
          λ h.
              let l : y.significand <ℤ pos (2 ^ bits * 2 ^ suc j) = (below_down y (pos (2 ^ bits)) j e).0 h.1 in
              let t : n * 2 ^ 0 < 2 ^ (bits + suc j) = omega (arith, ints, l, c, one, both) in
              omega (arith, ints, e, below_product n w 0 (bits + suc j) some wide t),
          λ h.
              let t : n * 2 ^ 0 < 2 ^ (bits + suc j) = product_below n w 0 (bits + suc j) wide (omega (arith, ints, h, e)) in
              let l : y.significand <ℤ pos (2 ^ bits * 2 ^ suc j) = omega (arith, ints, t, c, one, both) in
              ((above_down y low j e).1 (omega (arith, ints, nonpos_times low (2 ^ suc j) down, c)), (below_down y (pos (2 ^ bits)) j e).1 l),
        )

negative_in : (y : Exact) (n w bits : ℕ) (high : ℤ) → y.significand ≡ negsuc n → IsWidth n w → pos 0 <ℤ high → (IsAtMost (whole (neg_ℤ (pos (2 ^ bits)))) y × IsBelow y (whole high)) ↔ ((y.exponent +ℤ pos w) ≤ℤ pos bits)
negative_in y n w bits high c wide up = by y.exponent refl
  where
    by : (r : ℤ) → y.exponent ≡ r → (IsAtMost (whole (neg_ℤ (pos (2 ^ bits)))) y × IsBelow y (whole high)) ↔ ((y.exponent +ℤ pos w) ≤ℤ pos bits)
    by (pos k) e =
        let m : y.significand *ℤ pos (2 ^ k) ≡ neg_ℤ (pos (suc n * 2 ^ k)) = ap (λ (z : ℤ). z *ℤ pos (2 ^ k)) c in (
          λ h.
              let l : neg_ℤ (pos (2 ^ bits)) ≤ℤ (y.significand *ℤ pos (2 ^ k)) = (above_up y (neg_ℤ (pos (2 ^ bits))) k e).0 h.0 in
              let t : suc n * 2 ^ k ≤ 2 ^ bits = omega (arith, ints, l, m) in
              omega (arith, ints, e, at_most_product n w k bits wide t),
          λ h.
              let t : suc n * 2 ^ k ≤ 2 ^ bits = product_at_most n w k bits wide (omega (arith, ints, h, e)) in
              ((above_up y (neg_ℤ (pos (2 ^ bits))) k e).1 (omega (arith, ints, t, m)), (below_up y high k e).1 (omega (arith, ints, up, m))),
        )
    by (negsuc j) e =
        let one : suc n * 2 ^ 0 ≡ suc n = omega arith in
        let both : 2 ^ bits * 2 ^ suc j ≡ 2 ^ (bits + suc j) = sym (pow-add 2 bits (suc j)) in
        let m : neg_ℤ (pos (2 ^ bits)) *ℤ pos (2 ^ suc j) ≡ neg_ℤ (pos (2 ^ bits * 2 ^ suc j)) = signed-mul true (2 ^ bits) (2 ^ suc j) in (
          λ h.
              let l : (neg_ℤ (pos (2 ^ bits)) *ℤ pos (2 ^ suc j)) ≤ℤ y.significand = (above_down y (neg_ℤ (pos (2 ^ bits))) j e).0 h.0 in
              let t : suc n * 2 ^ 0 ≤ 2 ^ (bits + suc j) = omega (arith, ints, l, m, c, one, both) in
              omega (arith, ints, e, at_most_product n w 0 (bits + suc j) wide t),
          λ h.
              let t : suc n * 2 ^ 0 ≤ 2 ^ (bits + suc j) = product_at_most n w 0 (bits + suc j) wide (omega (arith, ints, h, e)) in
              let l : (neg_ℤ (pos (2 ^ bits)) *ℤ pos (2 ^ suc j)) ≤ℤ y.significand = omega (arith, ints, t, m, c, one, both) in
              ((above_down y (neg_ℤ (pos (2 ^ bits))) j e).1 l, (below_down y high j e).1 (omega (arith, ints, above_zero_times high (suc j) up, c))),
        )

zero_in : (y : Exact) (low high : ℤ) → y.significand ≡ pos 0 → low ≤ℤ pos 0 → pos 0 <ℤ high → IsAtMost (whole low) y × IsBelow y (whole high)
zero_in y low high c down up = by y.exponent refl
  where
    by : (r : ℤ) → y.exponent ≡ r → IsAtMost (whole low) y × IsBelow y (whole high)
    by (pos k) e =
        let m : y.significand *ℤ pos (2 ^ k) ≡ pos 0 = zero_times y.significand (2 ^ k) c in
        ((above_up y low k e).1 (omega (arith, ints, down, m)), (below_up y high k e).1 (omega (arith, ints, up, m)))
    by (negsuc j) e =
        ((above_down y low j e).1 (omega (arith, ints, nonpos_times low (2 ^ suc j) down, c)), (below_down y high j e).1 (omega (arith, ints, above_zero_times high (suc j) up, c)))

-- Types

low_down : (signed : Bool) (word : ℕ) → least_of signed word ≤ℤ pos 0
low_down true word = omega (arith, ints)
low_down false word = omega (arith, ints)

high_up : (signed : Bool) (word : ℕ) → 1 ≤ word → pos 0 <ℤ (greatest_of signed word +ℤ pos 1)
high_up signed word h = omega (arith, ints, ends_above signed word h, pow_pos (bits_beside_sign signed word))

counted_above : (signed : Bool) (n : ℕ) → counted signed (pos n) ≡ pos n
counted_above true n = refl
counted_above false n = refl

-- a number above 0
pub held_above : (signed : Bool) (word n w : ℕ) (x : Exact) (f : ℤ) → 1 ≤ word → x.significand ≡ pos n → 0 < n → IsWidth n w → f ≡ pos (bits_beside_sign signed word) -ℤ x.exponent -ℤ pos w → (fraction : ℤ) → IsHeld signed word fraction x ↔ (fraction ≤ℤ f)
held_above signed word n w x f one m some wide e g =
    let y : Exact = scaled g (as_counted signed x) in
    let c : y.significand ≡ pos n = ap (counted signed) m ∙ counted_above signed n in
    let top : (greatest_of signed word +ℤ pos 1) ≡ pos (2 ^ bits_beside_sign signed word) = ends_above signed word one in
    let k = positive_in y n w (bits_beside_sign signed word) (least_of signed word) c some wide (low_down signed word) in (
      λ h. omega (arith, ints, e, k.0 (h.least, subst (λ (z : ℤ). IsBelow y (whole z)) top h.most)),
      λ h.
          let r = k.1 (omega (arith, ints, e, h)) in
          record { least = r.0; most = subst (λ (z : ℤ). IsBelow y (whole z)) (sym top) r.1 },
    )

-- a number below 0 in a signed type
pub held_below : (word n w : ℕ) (x : Exact) (f : ℤ) → 1 ≤ word → x.significand ≡ negsuc n → IsWidth n w → f ≡ pos (word - 1) -ℤ x.exponent -ℤ pos w → (fraction : ℤ) → IsHeld true word fraction x ↔ (fraction ≤ℤ f)
held_below word n w x f one m wide e g =
    let y : Exact = scaled g (as_counted true x) in
    let k = negative_in y n w (word - 1) (greatest_of true word +ℤ pos 1) m wide (high_up true word one) in (
      λ h. omega (arith, ints, e, k.0 (h.least, h.most)),
      λ h.
          let r = k.1 (omega (arith, ints, e, h)) in
          record { least = r.0; most = r.1 },
    )

-- a number that counts as 0
pub held_zero : (signed : Bool) (word : ℕ) (x : Exact) → 1 ≤ word → counted signed x.significand ≡ pos 0 → (fraction : ℤ) → IsHeld signed word fraction x
held_zero signed word x one z g =
    let r = zero_in (scaled g (as_counted signed x)) (least_of signed word) (greatest_of signed word +ℤ pos 1) z (low_down signed word) (high_up signed word one) in
    record { least = r.0; most = r.1 }

-- Lists of values

pub step : {X : Type 0} (P : X → Type 0) (xs : List X) (i : ℕ) (x : X) → i < length xs → x ≡ get_or xs i x → AllByRecursion P (drop i xs) ↔ (P x × AllByRecursion P (drop (i + 1) xs))
step P xs i x l r =
    let e : drop i xs ≡ x ∷ drop (i + 1) xs = drop_more xs i x l ∙ ap (λ y. y ∷ drop (i + 1) xs) (sym r) in
    (subst (AllByRecursion P) e, subst (AllByRecursion P) (sym e))

-- what holds of each value of a list, by what holds of those that were read, of the next one, and of the rest
pub joined : {Whole Read Rest Next More Bound Now : Type 0} → (Whole ↔ (Read × Rest)) → (Rest ↔ (Next × More)) → (Next ↔ Bound) → (Now ↔ (Read × Bound)) → (Whole ↔ (Now × More))
joined a b c d = (
  λ w.
      let x = a.0 w in
      let y = b.0 x.1 in
      (d.1 (x.0, c.0 y.0), y.1),
  λ n.
      let x = d.0 n.0 in
      a.1 (x.0, b.1 (c.1 x.1, n.1)),
)

-- Which numbers count as 0

pub some_not_none : (true ≡ false) → ⊥
some_not_none t = cc

pub counted_some : (signed : Bool) (z : ℤ) → pos 0 <ℤ z → counted signed z ≡ pos 0 → ⊥
counted_some true z h e = omega (arith, ints, h, e)
counted_some false (pos n) h e = omega (arith, ints, h, e)
counted_some false (negsuc n) h e = omega (arith, ints, h)

pub counted_below : (signed : Bool) (z : ℤ) → signed ≡ true → z <ℤ pos 0 → counted signed z ≡ pos 0 → ⊥
counted_below true z s h e = omega (arith, ints, h, e)
counted_below false z s h e = cc

pub counted_unsigned : (signed : Bool) (z : ℤ) → signed ≡ false → z <ℤ pos 0 → counted signed z ≡ pos 0
counted_unsigned true z s h = absurd (some_not_none s)
counted_unsigned false (pos n) s h = absurd (omega (arith, ints, h))
counted_unsigned false (negsuc n) s h = refl

pub counted_nought : (signed : Bool) (z : ℤ) → z ≡ pos 0 → counted signed z ≡ pos 0
counted_nought true z e = e
counted_nought false (pos n) e = e
counted_nought false (negsuc n) e = absurd (omega (arith, ints, e))

-- a number below 0 where the type is known to be signed by a test
pub held_signed : (signed : Bool) (word n w : ℕ) (x : Exact) (f : ℤ) → signed ≡ true → 1 ≤ word → x.significand ≡ negsuc n → IsWidth n w → f ≡ pos (bits_beside_sign signed word) -ℤ x.exponent -ℤ pos w → (fraction : ℤ) → IsHeld signed word fraction x ↔ (fraction ≤ℤ f)
held_signed true word n w x f s one m wide e g = held_below word n w x f one m wide e g
held_signed false word n w x f s one m wide e g = absurd (let no_sign : ⊥ = cc in no_sign)

-- Bounds

pub none_both : (a b : Option ℤ) → a ≡ None → IsNone b ↔ (IsNone a × IsNone b)
none_both None b e = (λ h. (refl, h), λ h. h.1)
none_both (Some x) b e = absurd (let no_value : ⊥ = cc in no_value)

pub upto_both : (a b : Option ℤ) → a ≡ None → (z : ℤ) → IsUpTo b z ↔ (IsUpTo a z × IsUpTo b z)
upto_both None b e z = (λ h. (tt, h), λ h. h.1)
upto_both (Some x) b e z = absurd (let no_value : ⊥ = cc in no_value)

pub some_either : (a b : Option ℤ) (x : ℤ) → a ≡ Some x → (true ≡ false → IsNone a × IsNone b) × (IsNone a × IsNone b → true ≡ false)
some_either None b x e = absurd (let no_value : ⊥ = cc in no_value)
some_either (Some y) b x e = (λ t. absurd (some_not_none t), λ h. h.0)

pub upto_left : (a b : Option ℤ) (x r : ℤ) → a ≡ Some x → b ≡ None → r ≡ x → (z : ℤ) → (z ≤ℤ r) ↔ (IsUpTo a z × IsUpTo b z)
upto_left a b x r e f q z =
    let P : Option ℤ → Type 0 = λ o. IsUpTo o z in (
      λ h. (let l : z ≤ℤ x = omega (arith, ints, h, q) in subst P (sym e) l, subst P (sym f) tt),
      λ h.
          let l : z ≤ℤ x = subst P e h.0 in
          omega (arith, ints, l, q),
    )

pub upto_lesser : (a b : Option ℤ) (x y r : ℤ) → a ≡ Some x → b ≡ Some y → r ≡ int_min x y → (z : ℤ) → (z ≤ℤ r) ↔ (IsUpTo a z × IsUpTo b z)
upto_lesser a b x y r e f q z =
    let P : Option ℤ → Type 0 = λ o. IsUpTo o z in (
      λ h. (
        let l : z ≤ℤ x = omega (arith, ints, clamps, h, q) in subst P (sym e) l,
        let l : z ≤ℤ y = omega (arith, ints, clamps, h, q) in subst P (sym f) l,
      ),
      λ h.
          let l : z ≤ℤ x = subst P e h.0 in
          let m : z ≤ℤ y = subst P f h.1 in
          omega (arith, ints, clamps, l, m, q),
    )

-- The best fraction length, where all values were read

none_some : (o : Option ℤ) (x : ℤ) → o ≡ Some x → IsNone o → ⊥
none_some None x e h = cc
none_some (Some y) x e h = some_not_none h

pub best_some : (signed : Bool) (word : ℕ) (values : List Dyadic) (i : ℕ) (best : Option ℤ) (x f : ℤ) → length values ≤ i → best ≡ Some x → f ≡ x → ((g : ℤ) → AreHeld signed word g values ↔ (IsUpTo best g × AreHeld signed word g (drop i values))) → (AreZero signed values ↔ (IsNone best × AreZero signed (drop i values))) → IsBestFraction signed word values f
best_some signed word values i best x f l b e held zeros = record {
  zeros = λ z. absurd (none_some best x b (zeros.0 z).0);
  greatest = λ some g.
      let P : Option ℤ → Type 0 = λ o. IsUpTo o g in
      let d : drop i values ≡ [] = drop_all i values l in (
        λ h.
            let u : g ≤ℤ x = subst P b ((held g).0 h).0 in
            omega (arith, ints, e, u),
        λ h. (held g).1 (let u : g ≤ℤ x = omega (arith, ints, e, h) in subst P (sym b) u, subst (AreHeld signed word g) (sym d) tt),
      );
}

pub best_none : (signed : Bool) (word : ℕ) (values : List Dyadic) (i : ℕ) (best : Option ℤ) (f : ℤ) → length values ≤ i → best ≡ None → f ≡ pos (bits_beside_sign signed word) → (AreZero signed values ↔ (IsNone best × AreZero signed (drop i values))) → IsBestFraction signed word values f
best_none signed word values i best f l b e zeros =
    let P : Option ℤ → Type 0 = λ o. IsNone o in
    let d : drop i values ≡ [] = drop_all i values l in
    record {
      zeros = λ z. e;
      greatest = λ some g. absurd (some (zeros.1 (subst P (sym b) refl, subst (AreZero signed) (sym d) tt)));
    }
