-- Operations on complex elements that act on both parts alike.
use Rattle.std.specs.Prelude.{ℕ, ℤ, ◌+◌, ◌-◌, ◌<◌}
use Rattle.fi_ops.specs.Elements.{Element}
use Rattle.fi_ops.specs.Complex.{ComplexElement, real_of, imaginary_of}
use Rattle.fi_ops.specs.Bits.{left_shifted, right_shifted, sign_shifted, complemented, word_type, sliced}
use Rattle.fi_bits.specs.declared.complex.BitChange.{BitChange}
use Rattle.fi_bits.specs.declared.complex.BitChange.TheVariants as change

-- the changed stored integer of an element
abbrev pub applied : BitChange → Element → ℤ
applied (change.Left k) = left_shifted k
applied (change.Right k) = right_shifted k
applied (change.Sign k) = sign_shifted k
applied change.Complement = complemented

-- fewer places than the word has bits
abbrev pub CanApply : BitChange → ℕ → Type 0
CanApply (change.Left k) w = k < w
CanApply (change.Right k) w = k < w
CanApply (change.Sign k) w = k < w
CanApply change.Complement w = Unit {0}

-- both parts of the same type as before
unfoldable pub each_part : (Element → ℤ) → ComplexElement → ComplexElement
each_part f a = record { num = a.num; re = f (real_of a); im = f (imaginary_of a) }

-- the bits l down to r of both parts
unfoldable pub each_sliced : ℕ → ℕ → ComplexElement → ComplexElement
each_sliced l r a = record { num = word_type (l - r + 1); re = (sliced l r (real_of a)).z; im = (sliced l r (imaginary_of a)).z }
