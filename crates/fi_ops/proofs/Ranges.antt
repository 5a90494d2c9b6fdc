-- Exact products and sums are in the range of their full types.
use Rattle.std.proofs.Common.{ℕ, suc, ◌+◌, ◌-◌, ◌*◌, ◌^◌, ◌<◌, ◌≤◌, ◌≡◌, max, refl, sym, ap, ◌∙◌, subst, Bool, true, false, arith}
use Rattle.std.specs.Prelude.{ℤ, pos, negsuc, ◌+ℤ◌, ◌-ℤ◌, ◌*ℤ◌, ◌≤ℤ◌, ◌<ℤ◌, neg_ℤ, nat_abs, ◌||◌}
use Rattle.std.specs.Int.{int_max}
use Rattle.std.proofs.lemmas.Int.{ints, unsigned_abs-mul}
use Rattle.std.proofs.Math.Pow.{pow_mono}
use Rattle.std.proofs.Math.Nat.{pow-suc, mul-suc}
use Rattle.std.proofs.lemmas.Nat.{pow_pos, pow-add, mul-le}
use Rattle.num_type.specs.Types.{NumericType, IsInRange}
use Rattle.fi_quant.proofs.Signs.{distrib, neg-mul}
use Rattle.fi_quant.proofs.Splits.{double}
use Rattle.fi_quant.proofs.Once.{scale_le}
use Rattle.fi_math.specs.Full.{full_product, full_sum, aligned_word}

-- from -2 ^ p to 2 ^ p - 1
pub record IsBetween (p : ℕ) (z : ℤ) : Type 0 where
  pub least : neg_ℤ (pos (2 ^ p)) ≤ℤ z
  pub most : z <ℤ pos (2 ^ p)

-- from 0 to 2 ^ p - 1
pub record IsNatural (p : ℕ) (z : ℤ) : Type 0 where
  pub least : pos 0 ≤ℤ z
  pub most : z <ℤ pos (2 ^ p)

pub signed_between : (w : ℕ) (f z : ℤ) → IsInRange (record { signed = true; word = w; fraction = f }) z → IsBetween (w - 1) z
signed_between w f z h = record { least = h.least; most = omega (arith, ints, h.most, pow_pos (w - 1)) }

pub between_signed : (w : ℕ) (f z : ℤ) → IsBetween (w - 1) z → IsInRange (record { signed = true; word = w; fraction = f }) z
between_signed w f z h = record { least = h.least; most = omega (arith, ints, h.most, pow_pos (w - 1)) }

pub unsigned_natural : (w : ℕ) (f z : ℤ) → IsInRange (record { signed = false; word = w; fraction = f }) z → IsNatural w z
unsigned_natural w f z h = record { least = h.least; most = omega (arith, ints, h.most, pow_pos w) }

pub natural_unsigned : (w : ℕ) (f z : ℤ) → IsNatural w z → IsInRange (record { signed = false; word = w; fraction = f }) z
natural_unsigned w f z h = record { least = h.least; most = omega (arith, ints, h.most, pow_pos w) }

pub natural_between : (p : ℕ) (z : ℤ) → IsNatural p z → IsBetween p z
natural_between p z h = record { least = omega (arith, ints, h.least); most = h.most }

pow_up : (i j : ℕ) → i ≤ j → 2 ^ i ≤ 2 ^ j
pow_up i j h = pow_mono h

pub widen : (p q : ℕ) (z : ℤ) → p ≤ q → IsBetween p z → IsBetween q z
widen p q z h b = let m = pow_up p q h in record { least = omega (arith, ints, b.least); most = omega (arith, ints, b.most) }

pub widen_natural : (p q : ℕ) (z : ℤ) → p ≤ q → IsNatural p z → IsNatural q z
widen_natural p q z h b = let m = pow_up p q h in record { least = b.least; most = omega (arith, ints, b.most) }

pub scale_between : (p k : ℕ) (z : ℤ) → IsBetween p z → IsBetween (p + k) (z *ℤ pos (2 ^ k))
scale_between p k z b =
    let e = pow-add 2 p k in
    let l = scale_le (neg_ℤ (pos (2 ^ p))) z (2 ^ k) b.least in
    let m = scale_le (z +ℤ pos 1) (pos (2 ^ p)) (2 ^ k) (omega (arith, ints, b.most)) in
    let n = neg-mul (2 ^ p) (2 ^ k) in
    let d = distrib z (pos 1) (2 ^ k) in
    record { least = omega (arith, ints); most = omega (arith, ints, pow_pos k) }

pub scale_natural : (p k : ℕ) (z : ℤ) → IsNatural p z → IsNatural (p + k) (z *ℤ pos (2 ^ k))
scale_natural p k z b =
    let s = scale_between p k z (natural_between p z b) in
    let l = scale_le (pos 0) z (2 ^ k) b.least in
    record { least = omega (arith, ints); most = s.most }

-- ---- sums

pub add_between : (p : ℕ) (x y : ℤ) → IsBetween p x → IsBetween p y → IsBetween (suc p) (x +ℤ y)
add_between p x y h k = let e = pow-suc 2 p in record { least = omega (arith, ints, h.least, k.least); most = omega (arith, ints, h.most, k.most) }

pub subtract_between : (p : ℕ) (x y : ℤ) → IsBetween p x → IsBetween p y → IsBetween (suc p) (x -ℤ y)
subtract_between p x y h k = let e = pow-suc 2 p in record { least = omega (arith, ints, h.least, k.most); most = omega (arith, ints, h.most, k.least) }

pub add_natural : (p : ℕ) (x y : ℤ) → IsNatural p x → IsNatural p y → IsNatural (suc p) (x +ℤ y)
add_natural p x y h k = let e = pow-suc 2 p in record { least = omega (arith, ints, h.least, k.least); most = omega (arith, ints, h.most, k.most) }

-- an aligned operand of a signed sum: one bit less than its aligned word length
pub operand_between : (s : Bool) (w : ℕ) (f g z : ℤ) → 1 ≤ w → IsInRange (record { signed = s; word = w; fraction = f }) z
    → IsBetween (aligned_word true g (record { signed = s; word = w; fraction = f }) - 1) (z *ℤ pos (2 ^ nat_abs (g -ℤ f)))
operand_between true w f g z one h =
    let e : w - 1 + nat_abs (g -ℤ f) ≡ w + 0 + nat_abs (g -ℤ f) - 1 = omega arith in
    subst (λ (n : ℕ). IsBetween n (z *ℤ pos (2 ^ nat_abs (g -ℤ f)))) e (scale_between (w - 1) (nat_abs (g -ℤ f)) z (signed_between w f z h))
operand_between false w f g z one h =
    let e : w + nat_abs (g -ℤ f) ≡ w + 1 + nat_abs (g -ℤ f) - 1 = omega arith in
    subst (λ (n : ℕ). IsBetween n (z *ℤ pos (2 ^ nat_abs (g -ℤ f)))) e (scale_between w (nat_abs (g -ℤ f)) z (natural_between w z (unsigned_natural w f z h)))

pub operand_natural : (w : ℕ) (f g z : ℤ) → IsInRange (record { signed = false; word = w; fraction = f }) z
    → IsNatural (aligned_word false g (record { signed = false; word = w; fraction = f })) (z *ℤ pos (2 ^ nat_abs (g -ℤ f)))
operand_natural w f g z h =
    let e : w + nat_abs (g -ℤ f) ≡ w + 0 + nat_abs (g -ℤ f) = omega arith in
    subst (λ (n : ℕ). IsNatural n (z *ℤ pos (2 ^ nat_abs (g -ℤ f)))) e (scale_natural w (nat_abs (g -ℤ f)) z (unsigned_natural w f z h))

-- the parts of a full sum's word length
record IsUnder (p q : ℕ) : Type 0 where
  left : p - 1 ≤ max p q + 1 - 1
  right : q - 1 ≤ max p q + 1 - 1
  left_whole : p ≤ max p q + 1
  right_whole : q ≤ max p q + 1

under : (p q : ℕ) → IsUnder p q
under p q = record { left = omega arith; right = omega arith; left_whole = omega arith; right_whole = omega arith }

-- a type by its parts
abbrev typed : Bool → ℕ → ℤ → NumericType
typed s w f = record { signed = s; word = w; fraction = f }

-- an operand of a signed sum whose aligned word lengths are p and q
signed_left : (s : Bool) (w : ℕ) (f g z : ℤ) (q : ℕ) → 1 ≤ w → IsInRange (typed s w f) z → IsInRange (typed true (max (aligned_word true g (typed s w f)) q + 1) g) (z *ℤ pos (2 ^ nat_abs (g -ℤ f)))
signed_left s w f g z q one h =
    let p : ℕ = aligned_word true g (typed s w f) in
    between_signed (max p q + 1) g (z *ℤ pos (2 ^ nat_abs (g -ℤ f))) (widen (p - 1) (max p q + 1 - 1) (z *ℤ pos (2 ^ nat_abs (g -ℤ f))) ((under p q).left) (operand_between s w f g z one h))

signed_right : (s : Bool) (w : ℕ) (f g z : ℤ) (p : ℕ) → 1 ≤ w → IsInRange (typed s w f) z → IsInRange (typed true (max p (aligned_word true g (typed s w f)) + 1) g) (z *ℤ pos (2 ^ nat_abs (g -ℤ f)))
signed_right s w f g z p one h =
    let q : ℕ = aligned_word true g (typed s w f) in
    between_signed (max p q + 1) g (z *ℤ pos (2 ^ nat_abs (g -ℤ f))) (widen (q - 1) (max p q + 1 - 1) (z *ℤ pos (2 ^ nat_abs (g -ℤ f))) ((under p q).right) (operand_between s w f g z one h))

unsigned_left : (w : ℕ) (f g z : ℤ) (q : ℕ) → IsInRange (typed false w f) z → IsInRange (typed false (max (aligned_word false g (typed false w f)) q + 1) g) (z *ℤ pos (2 ^ nat_abs (g -ℤ f)))
unsigned_left w f g z q h =
    let p : ℕ = aligned_word false g (typed false w f) in
    natural_unsigned (max p q + 1) g (z *ℤ pos (2 ^ nat_abs (g -ℤ f))) (widen_natural p (max p q + 1) (z *ℤ pos (2 ^ nat_abs (g -ℤ f))) ((under p q).left_whole) (operand_natural w f g z h))

unsigned_right : (w : ℕ) (f g z : ℤ) (p : ℕ) → IsInRange (typed false w f) z → IsInRange (typed false (max p (aligned_word false g (typed false w f)) + 1) g) (z *ℤ pos (2 ^ nat_abs (g -ℤ f)))
unsigned_right w f g z p h =
    let q : ℕ = aligned_word false g (typed false w f) in
    natural_unsigned (max p q + 1) g (z *ℤ pos (2 ^ nat_abs (g -ℤ f))) (widen_natural q (max p q + 1) (z *ℤ pos (2 ^ nat_abs (g -ℤ f))) ((under p q).right_whole) (operand_natural w f g z h))

-- both aligned operands are in the range of the full type of their sum
left_by : (sa sb : Bool) (wa wb : ℕ) (fa fb x : ℤ) → 1 ≤ wa → IsInRange (typed sa wa fa) x → IsInRange (full_sum (typed sa wa fa) (typed sb wb fb)) (x *ℤ pos (2 ^ nat_abs (int_max fa fb -ℤ fa)))
left_by true sb wa wb fa fb x one h = signed_left true wa fa (int_max fa fb) x (aligned_word true (int_max fa fb) (typed sb wb fb)) one h
left_by false true wa wb fa fb x one h = signed_left false wa fa (int_max fa fb) x (aligned_word true (int_max fa fb) (typed true wb fb)) one h
left_by false false wa wb fa fb x one h = unsigned_left wa fa (int_max fa fb) x (aligned_word false (int_max fa fb) (typed false wb fb)) h

right_by : (sa sb : Bool) (wa wb : ℕ) (fa fb y : ℤ) → 1 ≤ wb → IsInRange (typed sb wb fb) y → IsInRange (full_sum (typed sa wa fa) (typed sb wb fb)) (y *ℤ pos (2 ^ nat_abs (int_max fa fb -ℤ fb)))
right_by true sb wa wb fa fb y one h = signed_right sb wb fb (int_max fa fb) y (aligned_word true (int_max fa fb) (typed true wa fa)) one h
right_by false true wa wb fa fb y one h = signed_right true wb fb (int_max fa fb) y (aligned_word true (int_max fa fb) (typed false wa fa)) one h
right_by false false wa wb fa fb y one h = unsigned_right wb fb (int_max fa fb) y (aligned_word false (int_max fa fb) (typed false wa fa)) h

pub left_inside : (a b : NumericType) (x : ℤ) → 1 ≤ a.word → IsInRange a x → IsInRange (full_sum a b) (x *ℤ pos (2 ^ nat_abs (int_max a.fraction b.fraction -ℤ a.fraction)))
left_inside a b x one h = left_by a.signed b.signed a.word b.word a.fraction b.fraction x one h

pub right_inside : (a b : NumericType) (y : ℤ) → 1 ≤ b.word → IsInRange b y → IsInRange (full_sum a b) (y *ℤ pos (2 ^ nat_abs (int_max a.fraction b.fraction -ℤ b.fraction)))
right_inside a b y one h = right_by a.signed b.signed a.word b.word a.fraction b.fraction y one h

-- two numbers within p and q bits, and their sum
signed_sum : (p q : ℕ) (g x y : ℤ) → 1 ≤ p → IsBetween (p - 1) x → IsBetween (q - 1) y → IsInRange (typed true (max p q + 1) g) (x +ℤ y)
signed_sum p q g x y one h k =
    let m : ℕ = max p q - 1 in
    let e : suc m ≡ max p q + 1 - 1 = omega arith in
    between_signed (max p q + 1) g (x +ℤ y) (subst (λ (n : ℕ). IsBetween n (x +ℤ y)) e (add_between m x y (widen (p - 1) m x (omega arith) h) (widen (q - 1) m y (omega arith) k)))

signed_difference : (p q : ℕ) (g x y : ℤ) → 1 ≤ p → IsBetween (p - 1) x → IsBetween (q - 1) y → IsInRange (typed true (max p q + 1) g) (x -ℤ y)
signed_difference p q g x y one h k =
    let m : ℕ = max p q - 1 in
    let e : suc m ≡ max p q + 1 - 1 = omega arith in
    between_signed (max p q + 1) g (x -ℤ y) (subst (λ (n : ℕ). IsBetween n (x -ℤ y)) e (subtract_between m x y (widen (p - 1) m x (omega arith) h) (widen (q - 1) m y (omega arith) k)))

unsigned_sum : (p q : ℕ) (g x y : ℤ) → IsNatural p x → IsNatural q y → IsInRange (typed false (max p q + 1) g) (x +ℤ y)
unsigned_sum p q g x y h k =
    let m : ℕ = max p q in
    let e : suc m ≡ max p q + 1 = omega arith in
    natural_unsigned (max p q + 1) g (x +ℤ y) (subst (λ (n : ℕ). IsNatural n (x +ℤ y)) e (add_natural m x y (widen_natural p m x (omega arith) h) (widen_natural q m y (omega arith) k)))

some_bits : (s : Bool) (w : ℕ) (f g : ℤ) → 1 ≤ w → 1 ≤ aligned_word true g (typed s w f)
some_bits s w f g one = omega arith

sum_by : (sa sb : Bool) (wa wb : ℕ) (fa fb x y : ℤ) → 1 ≤ wa → 1 ≤ wb → IsInRange (typed sa wa fa) x → IsInRange (typed sb wb fb) y
    → IsInRange (full_sum (typed sa wa fa) (typed sb wb fb)) (x *ℤ pos (2 ^ nat_abs (int_max fa fb -ℤ fa)) +ℤ y *ℤ pos (2 ^ nat_abs (int_max fa fb -ℤ fb)))
sum_by true sb wa wb fa fb x y i j h k = signed_sum _ _ (int_max fa fb) _ _ (some_bits true wa fa (int_max fa fb) i) (operand_between true wa fa (int_max fa fb) x i h) (operand_between sb wb fb (int_max fa fb) y j k)
sum_by false true wa wb fa fb x y i j h k = signed_sum _ _ (int_max fa fb) _ _ (some_bits false wa fa (int_max fa fb) i) (operand_between false wa fa (int_max fa fb) x i h) (operand_between true wb fb (int_max fa fb) y j k)
sum_by false false wa wb fa fb x y i j h k = unsigned_sum _ _ (int_max fa fb) _ _ (operand_natural wa fa (int_max fa fb) x h) (operand_natural wb fb (int_max fa fb) y k)

-- the exact sum is in the range of the full type
pub sum_inside : (a b : NumericType) (x y : ℤ) → 1 ≤ a.word → 1 ≤ b.word → IsInRange a x → IsInRange b y
    → IsInRange (full_sum a b) (x *ℤ pos (2 ^ nat_abs (int_max a.fraction b.fraction -ℤ a.fraction)) +ℤ y *ℤ pos (2 ^ nat_abs (int_max a.fraction b.fraction -ℤ b.fraction)))
sum_inside a b x y i j h k = sum_by a.signed b.signed a.word b.word a.fraction b.fraction x y i j h k

difference_by : (sa sb : Bool) (wa wb : ℕ) (fa fb x y : ℤ) → (sa || sb) ≡ true → 1 ≤ wa → 1 ≤ wb → IsInRange (typed sa wa fa) x → IsInRange (typed sb wb fb) y
    → IsInRange (full_sum (typed sa wa fa) (typed sb wb fb)) (x *ℤ pos (2 ^ nat_abs (int_max fa fb -ℤ fa)) -ℤ y *ℤ pos (2 ^ nat_abs (int_max fa fb -ℤ fb)))
difference_by true sb wa wb fa fb x y s i j h k = signed_difference _ _ (int_max fa fb) _ _ (some_bits true wa fa (int_max fa fb) i) (operand_between true wa fa (int_max fa fb) x i h) (operand_between sb wb fb (int_max fa fb) y j k)
difference_by false true wa wb fa fb x y s i j h k = signed_difference _ _ (int_max fa fb) _ _ (some_bits false wa fa (int_max fa fb) i) (operand_between false wa fa (int_max fa fb) x i h) (operand_between true wb fb (int_max fa fb) y j k)
difference_by false false wa wb fa fb x y s i j h k = cc

-- the exact difference is, where one operand is signed
pub difference_inside : (a b : NumericType) (x y : ℤ) → (a.signed || b.signed) ≡ true → 1 ≤ a.word → 1 ≤ b.word → IsInRange a x → IsInRange b y
    → IsInRange (full_sum a b) (x *ℤ pos (2 ^ nat_abs (int_max a.fraction b.fraction -ℤ a.fraction)) -ℤ y *ℤ pos (2 ^ nat_abs (int_max a.fraction b.fraction -ℤ b.fraction)))
difference_inside a b x y s i j h k = difference_by a.signed b.signed a.word b.word a.fraction b.fraction x y s i j h k

-- ---- products

-- a product of sizes
less_one : (a b : ℕ) → 1 ≤ b → a * (b - 1) + a ≡ a * b
less_one a b h = let e : suc (b - 1) ≡ b = omega arith in sym (mul-suc a (b - 1)) ∙ ap (λ (n : ℕ). a * n) e

below : (x y i j : ℕ) → x ≤ 2 ^ i → y < 2 ^ j → x * y < 2 ^ (i + j)
below x y i j h k =
    let m : x * y ≤ 2 ^ i * (2 ^ j - 1) = mul-le x y (2 ^ i) (2 ^ j - 1) h (omega arith) in
    let d : 2 ^ i * (2 ^ j - 1) + 2 ^ i ≡ 2 ^ i * 2 ^ j = less_one (2 ^ i) (2 ^ j) (pow_pos j) in
    omega (arith, pow-add 2 i j, pow_pos i)

size_between : (p : ℕ) (z : ℤ) → nat_abs z < 2 ^ p → IsBetween p z
size_between p z h = record { least = omega (arith, ints); most = omega (arith, ints) }

signed_size : (w : ℕ) (f z : ℤ) → IsInRange (typed true w f) z → nat_abs z ≤ 2 ^ (w - 1)
signed_size w f z h = omega (arith, ints, h.least, h.most)

pub any_size : (s : Bool) (w : ℕ) (f z : ℤ) → 1 ≤ w → IsInRange (typed s w f) z → nat_abs z < 2 ^ w
any_size true w f z one h = let m = signed_size w f z h in omega (arith, double w one, pow_pos (w - 1))
any_size false w f z one h = omega (arith, ints, h.least, h.most, pow_pos w)

natural_product : (p : ℕ) (x y : ℤ) → pos 0 ≤ℤ x → pos 0 ≤ℤ y → nat_abs (x *ℤ y) < 2 ^ p → IsNatural p (x *ℤ y)
natural_product p (pos m) (pos n) h k l = record { least = omega (arith, ints); most = omega (arith, ints, l) }
natural_product p (negsuc m) y h k l = absurd (omega (arith, ints, h))
natural_product p (pos m) (negsuc n) h k l = absurd (omega (arith, ints, k))

sizes_by : (x y : ℤ) (i j n : ℕ) → i + j ≡ n → nat_abs x ≤ 2 ^ i → nat_abs y < 2 ^ j → nat_abs (x *ℤ y) < 2 ^ n
sizes_by x y i j n e h k = rw (unsigned_abs-mul x y) (subst (λ (q : ℕ). nat_abs x * nat_abs y < 2 ^ q) e (below (nat_abs x) (nat_abs y) i j h k))

sizes_turned : (x y : ℤ) (i j n : ℕ) → i + j ≡ n → nat_abs y ≤ 2 ^ i → nat_abs x < 2 ^ j → nat_abs (x *ℤ y) < 2 ^ n
sizes_turned x y i j n e h k =
    let t : nat_abs x * nat_abs y ≡ nat_abs y * nat_abs x = omega arith in
    rw (unsigned_abs-mul x y, t) (subst (λ (q : ℕ). nat_abs y * nat_abs x < 2 ^ q) e (below (nat_abs y) (nat_abs x) i j h k))

product_by : (sa sb : Bool) (wa wb : ℕ) (fa fb x y : ℤ) → 1 ≤ wa → 1 ≤ wb → IsInRange (typed sa wa fa) x → IsInRange (typed sb wb fb) y → IsInRange (full_product (typed sa wa fa) (typed sb wb fb)) (x *ℤ y)
product_by true sb wa wb fa fb x y i j h k =
    between_signed (wa + wb) (fa +ℤ fb) (x *ℤ y) (size_between (wa + wb - 1) (x *ℤ y) (sizes_by x y (wa - 1) wb (wa + wb - 1) (omega arith) (signed_size wa fa x h) (any_size sb wb fb y j k)))
product_by false true wa wb fa fb x y i j h k =
    between_signed (wa + wb) (fa +ℤ fb) (x *ℤ y) (size_between (wa + wb - 1) (x *ℤ y) (sizes_turned x y (wb - 1) wa (wa + wb - 1) (omega arith) (signed_size wb fb y k) (any_size false wa fa x i h)))
product_by false false wa wb fa fb x y i j h k =
    let l = any_size false wa fa x i h in
    natural_unsigned (wa + wb) (fa +ℤ fb) (x *ℤ y) (natural_product (wa + wb) x y h.least k.least (sizes_by x y wa wb (wa + wb) refl (omega arith) (any_size false wb fb y j k)))

-- the exact product is in the range of the full type
pub product_inside : (a b : NumericType) (x y : ℤ) → 1 ≤ a.word → 1 ≤ b.word → IsInRange a x → IsInRange b y → IsInRange (full_product a b) (x *ℤ y)
product_inside a b x y i j h k = product_by a.signed b.signed a.word b.word a.fraction b.fraction x y i j h k
