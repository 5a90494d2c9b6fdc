-- Products of a real and a complex element, from their parts.
use Rattle.std.proofs.Common.{◌≡◌, refl, sym}
use Rattle.std.specs.Prelude.{ℤ}
use Rattle.num_type.specs.Types.{NumericType}
use Rattle.fi_math.specs.declared.fimath.Fimath.{Fimath}
use Rattle.fi_ops.specs.Elements.{Element}
use Rattle.fi_ops.specs.Complex.{ComplexElement, real_of, imaginary_of}
use Rattle.fi_ops.specs.Operations.{multiplied}
use Rattle.fi_complex.specs.Real.{real_times, times_real}

-- a complex element by its parts
abbrev parts : NumericType → ℤ → ℤ → ComplexElement
parts n re im = record { num = n; re = re; im = im }

alike : (n : NumericType) (r r' i i' : ℤ) → r ≡ r' → i ≡ i' → parts n r i ≡ parts n r' i'
alike n r r' i i' e f = rw (e, f) refl

right_at : (m : Fimath) (t : NumericType) (x y y' : Element) (z : ℤ) → y ≡ y' → z ≡ multiplied m t x y → z ≡ multiplied m t x y'
right_at m t x y y' z e f = rw (sym e) f

left_at : (m : Fimath) (t : NumericType) (x x' y : Element) (z : ℤ) → x ≡ x' → z ≡ multiplied m t x y → z ≡ multiplied m t x' y
left_at m t x x' y z e f = rw (sym e) f

pub real_times_parts : (m : Fimath) (t : NumericType) (a : Element) (b : ComplexElement) (rb ib : Element) (r i : ℤ) → rb ≡ real_of b → ib ≡ imaginary_of b
    → r ≡ multiplied m t a rb → i ≡ multiplied m t a ib → parts t r i ≡ real_times m t a b
unfolding real_times
real_times_parts m t a b rb ib r i e f g h =
    alike t r (multiplied m t a (real_of b)) i (multiplied m t a (imaginary_of b)) (right_at m t a rb (real_of b) r e g) (right_at m t a ib (imaginary_of b) i f h)

pub times_real_parts : (m : Fimath) (t : NumericType) (a : ComplexElement) (b ra ia : Element) (r i : ℤ) → ra ≡ real_of a → ia ≡ imaginary_of a
    → r ≡ multiplied m t ra b → i ≡ multiplied m t ia b → parts t r i ≡ times_real m t a b
unfolding times_real
times_real_parts m t a b ra ia r i e f g h =
    alike t r (multiplied m t (real_of a) b) i (multiplied m t (imaginary_of a) b) (left_at m t ra (real_of a) b r e g) (left_at m t ia (imaginary_of a) b i f h)
