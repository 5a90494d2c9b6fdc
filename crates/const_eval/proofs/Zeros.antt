-- Numbers without the zeros at their end, and digits that follow.
use Rattle.std.proofs.Common.{◌≡◌, ◌≢◌, ℕ, zero, suc, ◌+◌, ◌*◌, ◌-◌, ◌^◌, ◌%◌, ◌<◌, ◌≤◌, List, [], ◌∷◌, ◌++◌, length, drop, get_or, refl, sym, ap, ◌∙◌, arith}
use Rattle.std.specs.Char.{digit_value}
use Rattle.std.specs.Str.Parse.{AllDigits, digits_value_after}
use Rattle.std.proofs.lemmas.Str.{digit_value_digit}
use Rattle.std.proofs.lemmas.Str.Parse.{digit_from_value}
use Rattle.std.proofs.Math.Nat.{pow-suc, mul_assoc, pow-le-pow_right}
use Rattle.std.proofs.lemmas.Nat.{mul-le}
use Rattle.std.specs.Prelude.{Option, Some, None, IfSome, IfNone}
use Rattle.const_eval.specs.Digits.{IsLong, number_of}
use Rattle.const_eval.specs.declared.run.Run.{Run}

pub ten_more : (n k : ℕ) → n * 10 ^ suc k ≡ n * 10 ^ k * 10
ten_more n k = ap (λ (p : ℕ). n * p) (pow-suc 10 k) ∙ sym (mul_assoc n (10 ^ k) 10)

pub ten_plus : (n k : ℕ) → n * 10 ^ (k + 1) ≡ n * 10 ^ k * 10
ten_plus n k = let e : k + 1 ≡ suc k = omega arith in ap (λ (i : ℕ). n * 10 ^ i) e ∙ ten_more n k

-- there is one such number
pub same_trimmed : (d e s t : ℕ) → d % 10 ≢ 0 → e % 10 ≢ 0 → d * 10 ^ s ≡ e * 10 ^ t → (d ≡ e) × (s ≡ t)
same_trimmed d e zero zero p q h = (omega (arith, h), refl)
same_trimmed d e zero (suc t) p q h = absurd (p (omega (arith, h, ten_more e t)))
same_trimmed d e (suc s) zero p q h = absurd (q (omega (arith, h, ten_more d s)))
same_trimmed d e (suc s) (suc t) p q h =
    let r = same_trimmed d e s t p q (omega (arith, h, ten_more d s, ten_more e t)) in
    (r.0, ap suc r.1)

-- a digit behind zeros
pub last_digit : (n k b : ℕ) → b < 10 → (n * 10 ^ (k + 1) + b) % 10 ≡ b
last_digit n k b h = omega (arith, h, ten_plus n k)

-- Numbers of more than 17 digits

pub long_number : (n : ℕ) → n % 10 ≢ 0 → 10 ^ 17 ≤ n → IsLong n
long_number n last h d zero e = omega (arith, h, e)
long_number n last h d (suc z) e = absurd (last (omega (arith, e, ten_more d z)))

pub long_least : (n : ℕ) → IsLong n → 10 ^ 17 ≤ n
long_least n h = h n 0 (let e : n ≡ n * 10 ^ 0 = omega arith in e)

long_more : (n b : ℕ) → b < 10 → IsLong n → IsLong (n * 10 + b)
long_more n b l h d zero e = omega (arith, long_least n h, e)
long_more n b l h d (suc z) e = h d z (omega (arith, e, l, ten_more d z))

pub long_after : (n : ℕ) (ds : List ℕ) → AllDigits 10 ds → IsLong n → IsLong (digits_value_after 10 n ds)
long_after n [] a h = h
long_after n (c ∷ cs) a h = long_after (n * 10 + digit_value c) cs a.1 (long_more n (digit_value c) a.0 h)

pub after_append : (n : ℕ) (xs ys : List ℕ) → digits_value_after 10 n (xs ++ ys) ≡ digits_value_after 10 (digits_value_after 10 n xs) ys
after_append n [] ys = refl
after_append n (x ∷ xs) ys = after_append (n * 10 + digit_value x) xs ys

-- 17 zeros alone are too many
pub many_zeros : (n k : ℕ) → 0 < n → 17 ≤ k → 10 ^ 17 ≤ n * 10 ^ k
many_zeros n k some many = omega (arith, powers k many, mul-le 1 (10 ^ k) n (10 ^ k) (omega (arith, some)) (omega arith))
  where
    grown : (j k : ℕ) → k ≡ 17 + j → 10 ^ 17 ≤ 10 ^ k
    grown zero k e = let s : k ≡ 17 = omega (arith, e) in omega (arith, ap (λ (i : ℕ). 10 ^ i) s)
    grown (suc j) k e =
        let s : k ≡ suc (17 + j) = omega (arith, e) in
        omega (arith, ap (λ (i : ℕ). 10 ^ i) s, pow-suc 10 (17 + j), grown j (17 + j) refl)

    powers : (k : ℕ) → 17 ≤ k → 10 ^ 17 ≤ 10 ^ k
    powers k h = grown (k - 17) k (omega (arith, h))

-- the last digit behind one or more zeros
pub last_room : (n room b : ℕ) → 1 ≤ room → b < 10 → (n * 10 ^ room + b) % 10 ≡ b
last_room n zero b some h = absurd (omega (arith, some))
last_room n (suc k) b some h = omega (arith, h, ten_more n k)

-- a power that is one factor short
pub power_room : (b k n : ℕ) → 0 < b → k < n → b ^ n < 2 ^ 70 → b ^ k * b < 2 ^ 70
power_room b k n some h few =
    let up : b ^ suc k ≤ b ^ n = pow-le-pow_right some (let l : suc k ≤ n = omega (arith, h) in l) in
    omega (arith, pow-suc b k, up, few)

pub five_most : (k : ℕ) → k ≤ 22 → 5 ^ k ≤ 2384185791015625
five_most k h = let up : 5 ^ k ≤ 5 ^ 22 = pow-le-pow_right (let some : 0 < 5 = omega arith in some) h in up

pub ten_most : (k : ℕ) → k ≤ 17 → 10 ^ k ≤ 10 ^ 17
ten_most k h = let up : 10 ^ k ≤ 10 ^ 17 = pow-le-pow_right (let some : 0 < 10 = omega arith in some) h in up

pub five_some : (k : ℕ) → 0 < 5 ^ k
five_some zero = omega arith
five_some (suc k) = omega (arith, pow-suc 5 k, five_some k)

-- Runs of digits

pub joined_number : (o : Option Run) (h k b room : ℕ) → room ≡ k + 1 → IfSome o (λ r. r.head ≡ h * 10 ^ room + b) → IfSome o (λ r. r.zeros ≡ 0) → IfSome o (λ r. number_of r ≡ h * 10 ^ k * 10 + b)
joined_number None h k b room e f z = tt
joined_number (Some r) h k b room e f z =
    let one : r.head * 10 ^ r.zeros ≡ r.head * 10 ^ 0 = ap (λ (i : ℕ). r.head * 10 ^ i) z in
    let two : h * 10 ^ room ≡ h * 10 ^ k * 10 = ap (λ (i : ℕ). h * 10 ^ i) e ∙ ten_plus h k in
    omega (arith, one, two, f)

pub joined_long : (o : Option Run) (h k b room : ℕ) → 0 < b → b < 10 → room ≡ k + 1 → IfNone o (10 ^ 17 ≤ h * 10 ^ room + b) → IfNone o (IsLong (h * 10 ^ k * 10 + b))
joined_long None h k b room some few e l =
    let two : h * 10 ^ room ≡ h * 10 ^ k * 10 = ap (λ (i : ℕ). h * 10 ^ i) e ∙ ten_plus h k in
    long_number (h * 10 ^ k * 10 + b) (λ z. omega (arith, z, some, few)) (omega (arith, two, l))
joined_long (Some r) h k b room some few e l = tt

-- Digits of a text

pub rest_digits : (text : List ℕ) (i : ℕ) → AllDigits 10 text → AllDigits 10 (drop (suc i) text)
rest_digits [] i a = tt
rest_digits (c ∷ cs) zero a = a.1
rest_digits (c ∷ cs) (suc i) a = rest_digits cs i a.1

pub digit_from_test : (text : List ℕ) (i : ℕ) → AllDigits 10 text → i < length text → get_or text i 0 - 48 ≡ digit_value (get_or text i 0)
digit_from_test [] i a l = absurd (omega (arith, l))
digit_from_test (c ∷ cs) zero a l = omega (arith, digit_value_digit c (digit_from_value c a.0))
digit_from_test (c ∷ cs) (suc i) a l = digit_from_test cs i a.1 (omega (arith, l))
