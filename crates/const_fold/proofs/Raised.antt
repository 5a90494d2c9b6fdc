-- Why two constants have no power.
use Rattle.std.proofs.Common.{◌≡◌, ◌*◌, ◌<◌, sym, subst, arith}
use Rattle.std.specs.Prelude.{ℤ}
use Rattle.fic_base.specs.declared.code.Code.TheVariants.{SizeMismatch}
use Rattle.fic_base.specs.declared.place.Place.{Place}
use Rattle.fic_base.specs.declared.refusal.Refusal.{Refusal}
use Rattle.num_type.specs.declared.memory.Stop.{Stop}
use Rattle.shape_rules.specs.declared.shape.Shape.{Shape}
use Rattle.shape_rules.specs.Places.{IsOne}
use Rattle.shape_rules.specs.Shapes.{elements_of}
use Rattle.const_eval.specs.Complex.{Complex}
use Rattle.const_eval.specs.Elementwise.{shapes_text}
use Rattle.const_eval.specs.Powers.{IsExponent}
use Rattle.const_eval.specs.Refusals.{RefusesOnly, IsRefusal}
use Rattle.const_eval.specs.Values.{number_at}
use Rattle.const_eval.specs.declared.constant.Const.{Const}
use Rattle.const_fold.specs.Exponents.{AreOperands}

pub one_element : (s : Shape) → IsOne s → elements_of s ≡ 1
one_element s h = λ i. h.0 i * h.1 i

pub first_place : (s : Shape) → IsOne s → 0 < elements_of s
first_place s h = omega (arith, one_element s h)

pub no_exponent : (a b : Const) (x : Complex) → x ≡ number_at b 0 → IsOne b.shape → ((n : ℤ) → IsExponent x.re n → ⊥) → AreOperands a b → ⊥
no_exponent a b x e one none h =
    let p : (n : ℤ) × IsExponent (number_at b 0).re n = h.whole 0 (first_place b.shape one) in
    none p.0 (subst (λ (z : Complex). IsExponent z.re p.0) (sym e) p.1)

-- the shapes that are shown
pub shown_shapes : (stop : Stop Refusal) (a b u v : Shape) (at : Place) → u ≡ a → v ≡ b → RefusesOnly stop (λ r. IsRefusal SizeMismatch at (shapes_text u v) r) → RefusesOnly stop (λ r. IsRefusal SizeMismatch at (shapes_text a b) r)
shown_shapes stop a b u v at e f h =
    subst (λ (t : Shape). RefusesOnly stop (λ r. IsRefusal SizeMismatch at (shapes_text a t) r)) f
    (subst (λ (s : Shape). RefusesOnly stop (λ r. IsRefusal SizeMismatch at (shapes_text s v) r)) e h)
