-- Complex constants by their parts.
use Rattle.std.proofs.Common.{◌≡◌, ◌↔◌, subst}
use Rattle.std.specs.Prelude.{Option, Some, None, IsSome, IfSome}
use Rattle.num_type.specs.Constants.{Exact, IsSame, IsConstant, sum_of, difference, product_of}
use Rattle.num_type.specs.View.{exact_of}
use Rattle.num_type.specs.declared.dyadic.Dyadic.{Dyadic}
use Rattle.num_type.proofs.Constants.{same_through, same_turned, constant_same}
use Rattle.const_eval.specs.declared.complex.Complex as code_complex
use Rattle.const_eval.specs.Complex.{Complex, complex_of, AreSame, AreConstant, HasConstantSteps, times}
use Rattle.const_eval.proofs.Alike.{sum_same, difference_same}

pub paired_limits : (r : Option code_complex.Complex) (p q : Option Dyadic) (x : Complex) → (IsSome r ↔ (IsSome p × IsSome q)) → (IsSome p ↔ IsConstant x.re) → (IsSome q ↔ IsConstant x.im) → (IsSome r ↔ AreConstant x)
paired_limits r p q x a f g = (
  λ h.
      let b = a.0 h in
      record { re = f.0 b.0; im = g.0 b.1 },
  λ k. a.1 (f.1 k.re, g.1 k.im),
)

pub paired_same : (r : Option code_complex.Complex) (p q : Option Dyadic) (x : Complex) → IfSome r (λ c. p ≡ Some c.re) → IfSome r (λ c. q ≡ Some c.im) → IfSome p (λ d. IsSame (exact_of d) x.re) → IfSome q (λ d. IsSame (exact_of d) x.im) → IfSome r (λ c. AreSame (complex_of c) x)
paired_same None p q x e f h k = tt
paired_same (Some c) p q x e f h k =
    let P : Option Dyadic → Type 0 = λ o. IfSome o (λ d. IsSame (exact_of d) x.re) in
    let Q : Option Dyadic → Type 0 = λ o. IfSome o (λ d. IsSame (exact_of d) x.im) in
    record { re = subst P e h; im = subst Q f k }

pub product_limits : (r : Option code_complex.Complex) (p q : Option Dyadic) (x y : Complex) → (IsSome r ↔ (IsSome p × IsSome q)) → (IsSome p ↔ (IsConstant (product_of x.re y.re) × IsConstant (product_of x.im y.im) × IsConstant (times x y).re)) → (IsSome q ↔ (IsConstant (product_of x.re y.im) × IsConstant (product_of x.im y.re) × IsConstant (times x y).im)) → (IsSome r ↔ HasConstantSteps x y)
product_limits r p q x y a f g = (
  λ h.
      let b = a.0 h in
      let u = f.0 b.0 in
      let v = g.0 b.1 in
      record { re_re = u.0; im_im = u.1; re_im = v.0; im_re = v.1; parts = record { re = u.2; im = v.2 } },
  λ k. a.1 (f.1 (k.re_re, k.im_im, k.parts.re), g.1 (k.re_im, k.im_re, k.parts.im)),
)

-- a difference and a sum of two products that the code has made

pub made_difference : (r : Option Dyadic) (a b : Dyadic) (x y : Exact) → IsConstant x → IsConstant y → IsSame (exact_of a) x → IsSame (exact_of b) y → (IsSome r ↔ IsConstant (difference (exact_of a) (exact_of b))) → (IsSome r ↔ (IsConstant x × IsConstant y × IsConstant (difference x y)))
made_difference r a b x y c d h k l =
    let same : IsSame (difference (exact_of a) (exact_of b)) (difference x y) = difference_same (exact_of a) x (exact_of b) y h k in (
      λ s. (c, d, constant_same (difference (exact_of a) (exact_of b)) (difference x y) same (l.0 s)),
      λ t. l.1 (constant_same (difference x y) (difference (exact_of a) (exact_of b)) (same_turned (difference (exact_of a) (exact_of b)) (difference x y) same) t.2),
    )

pub difference_is : (r : Option Dyadic) (a b : Dyadic) (x y : Exact) → IsSame (exact_of a) x → IsSame (exact_of b) y → IfSome r (λ d. IsSame (exact_of d) (difference (exact_of a) (exact_of b))) → IfSome r (λ d. IsSame (exact_of d) (difference x y))
difference_is None a b x y h k s = tt
difference_is (Some d) a b x y h k s = same_through (exact_of d) (difference (exact_of a) (exact_of b)) (difference x y) s (difference_same (exact_of a) x (exact_of b) y h k)

pub made_sum : (r : Option Dyadic) (a b : Dyadic) (x y : Exact) → IsConstant x → IsConstant y → IsSame (exact_of a) x → IsSame (exact_of b) y → (IsSome r ↔ IsConstant (sum_of (exact_of a) (exact_of b))) → (IsSome r ↔ (IsConstant x × IsConstant y × IsConstant (sum_of x y)))
made_sum r a b x y c d h k l =
    let same : IsSame (sum_of (exact_of a) (exact_of b)) (sum_of x y) = sum_same (exact_of a) x (exact_of b) y h k in (
      λ s. (c, d, constant_same (sum_of (exact_of a) (exact_of b)) (sum_of x y) same (l.0 s)),
      λ t. l.1 (constant_same (sum_of x y) (sum_of (exact_of a) (exact_of b)) (same_turned (sum_of (exact_of a) (exact_of b)) (sum_of x y) same) t.2),
    )

pub sum_is : (r : Option Dyadic) (a b : Dyadic) (x y : Exact) → IsSame (exact_of a) x → IsSame (exact_of b) y → IfSome r (λ d. IsSame (exact_of d) (sum_of (exact_of a) (exact_of b))) → IfSome r (λ d. IsSame (exact_of d) (sum_of x y))
sum_is None a b x y h k s = tt
sum_is (Some d) a b x y h k s = same_through (exact_of d) (sum_of (exact_of a) (exact_of b)) (sum_of x y) s (sum_same (exact_of a) x (exact_of b) y h k)
