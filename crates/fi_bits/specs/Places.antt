-- Bits of stored integers by their places.
use Rattle.std.specs.Prelude.{ℕ, ℤ}
use Rattle.std.specs.Int.{bit_at}
use Rattle.fi_ops.specs.Elements.{Element}
use Rattle.fi_ops.specs.Bits.{bits_of}

-- the stored bit of an element at a place, 0 the least
abbrev pub bit_of : ℕ → Element → ℕ
bit_of i a = bit_at (bits_of a) i

-- another stored integer of the same type
abbrev pub of_type : Element → ℤ → Element
of_type a z = record { num = a.num; z = z }
