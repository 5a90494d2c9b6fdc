-- Powers of two.
use Rattle.std.proofs.Common.{◌≡◌, ℕ, zero, suc, ◌+◌, ◌-◌, ◌*◌, ◌^◌, ◌≤◌, subst, arith, lit≤, add-one}
use Rattle.std.proofs.Math.Nat.{mul-le-mul_left}
use Rattle.std.proofs.lemmas.Nat.{pow-add}

pub pow_step : (p : ℕ) → 2 ^ (p + 1) ≡ 2 ^ p * 2
pow_step p = pow-add 2 p 1

pub pow_pos : (p : ℕ) → 1 ≤ 2 ^ p
pow_pos zero = lit≤ tt
pow_pos (suc p) = let e : 2 ^ suc p ≡ 2 ^ p * 2 = subst (λ n. 2 ^ n ≡ 2 ^ p * 2) (add-one p) (pow_step p) in omega (arith, pow_pos p, e)

pow_more : (p k : ℕ) → 2 ^ p ≤ 2 ^ (p + k)
pow_more p k = let e = pow-add 2 p k in let one = pow_pos k in let m = mul-le-mul_left (2 ^ p) one in omega (arith, e, m)

pub pow_mono : (p q : ℕ) → p ≤ q → 2 ^ p ≤ 2 ^ q
pow_mono p q h = let e : p + (q - p) ≡ q = omega arith in subst (λ n. 2 ^ p ≤ 2 ^ n) e (pow_more p (q - p))
