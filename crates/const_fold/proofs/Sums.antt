-- Sums of products, and the arrays of them.
use Rattle.std.proofs.Common.{◌≡◌, ◌↔◌, ℕ, suc, refl, sym, subst}
use Rattle.std.specs.Prelude.{Option, Some, None, IsSome, IfSome}
use Rattle.num_type.proofs.Constants.{constant_same, same_turned, same_through}
use Rattle.const_eval.specs.declared.complex.Complex as code_complex
use Rattle.const_eval.specs.declared.constant.Const.{Const}
use Rattle.const_eval.specs.Complex.{Complex, complex_of, AreSame, AreConstant, HasConstantSteps, plus, times}
use Rattle.const_eval.proofs.Alike.{sum_same}
use Rattle.const_fold.specs.MatrixProducts.{entry, sum_to, IsExactStep}

-- The same numbers

pub plus_same : (x u y v : Complex) → AreSame x u → AreSame y v → AreSame (plus x y) (plus u v)
plus_same x u y v h k = record { re = sum_same x.re u.re y.re v.re h.re k.re; im = sum_same x.im u.im y.im v.im h.im k.im }

pub through : (x y z : Complex) → AreSame x y → AreSame y z → AreSame x z
through x y z h k = record { re = same_through x.re y.re z.re h.re k.re; im = same_through x.im y.im z.im h.im k.im }

pub turned : (x y : Complex) → AreSame x y → AreSame y x
turned x y h = record { re = same_turned x.re y.re h.re; im = same_turned x.im y.im h.im }

pub constants_same : (x y : Complex) → AreSame x y → AreConstant x → AreConstant y
constants_same x y h k = record { re = constant_same x.re y.re h.re k.re; im = constant_same x.im y.im h.im k.im }

pub same_self : (x y : Complex) → x ≡ y → AreSame x y
same_self x y e = subst (λ (z : Complex). AreSame x z) e (record { re = refl; im = refl })

-- One more product

pub added_steps : (r : Option code_complex.Complex) (s p x y : Complex) → HasConstantSteps x y → AreSame p (times x y) → (IsSome r ↔ AreConstant (plus s p)) → (IsSome r ↔ (HasConstantSteps x y × AreConstant (plus s (times x y))))
added_steps r s p x y h k l =
    let same : AreSame (plus s p) (plus s (times x y)) = plus_same s s p (times x y) (same_self s s refl) k in (
      λ t. (h, constants_same (plus s p) (plus s (times x y)) same (l.0 t)),
      λ t. l.1 (constants_same (plus s (times x y)) (plus s p) (turned (plus s p) (plus s (times x y)) same) t.1),
    )

pub added_same : (r : Option code_complex.Complex) (s p x y : Complex) → AreSame p (times x y) → IfSome r (λ c. AreSame (complex_of c) (plus s p)) → IfSome r (λ c. AreSame (complex_of c) (plus s (times x y)))
added_same None s p x y k l = tt
added_same (Some c) s p x y k l = through (complex_of c) (plus s p) (plus s (times x y)) l (plus_same s s p (times x y) (same_self s s refl) k)

-- the sum with one more product, from one that is the same as the sum before it
pub next_same : (a b : Const) (row column n : ℕ) (r s x y : Complex) → x ≡ entry a row n → y ≡ entry b n column → AreSame s (sum_to a b row column n) → AreSame r (plus s (times x y)) → AreSame r (sum_to a b row column (suc n))
next_same a b row column n r s x y e f h k =
    let moved : plus s (times x y) ≡ plus s (times (entry a row n) (entry b n column)) = λ i. plus s (times (e i) (f i)) in
    through r (plus s (times (entry a row n) (entry b n column))) (sum_to a b row column (suc n))
    (subst (λ (z : Complex). AreSame r z) moved k)
    (plus_same s (sum_to a b row column n) (times (entry a row n) (entry b n column)) (times (entry a row n) (entry b n column)) h (same_self (times (entry a row n) (entry b n column)) _ refl))

pub next_step : (a b : Const) (row column n : ℕ) (s x y : Complex) → x ≡ entry a row n → y ≡ entry b n column → AreSame s (sum_to a b row column n) → HasConstantSteps x y → AreConstant (plus s (times x y)) → IsExactStep a b row column n
next_step a b row column n s x y e f h k l = record {
  product = subst (λ (z : Complex). HasConstantSteps (entry a row n) z) f (subst (λ (z : Complex). HasConstantSteps z y) e k);
  sum = constants_same (plus s (times x y)) (sum_to a b row column (suc n)) (next_same a b row column n (plus s (times x y)) s x y e f h (same_self (plus s (times x y)) _ refl)) l;
}

pub step_before : (a b : Const) (row column n : ℕ) (s x y : Complex) → x ≡ entry a row n → y ≡ entry b n column → AreSame s (sum_to a b row column n) → IsExactStep a b row column n → HasConstantSteps x y × AreConstant (plus s (times x y))
step_before a b row column n s x y e f h k = (
  subst (λ (z : Complex). HasConstantSteps x z) (sym f) (subst (λ (z : Complex). HasConstantSteps z (entry b n column)) (sym e) k.product),
  constants_same (sum_to a b row column (suc n)) (plus s (times x y))
      (turned (plus s (times x y)) (sum_to a b row column (suc n)) (next_same a b row column n (plus s (times x y)) s x y e f h (same_self (plus s (times x y)) _ refl)))
      k.sum,
)
