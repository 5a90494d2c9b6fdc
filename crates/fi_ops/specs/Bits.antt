-- Operations on the bits of stored integers.
use Rattle.std.specs.Prelude.{ℕ, ℤ, pos, nat_abs, false, ◌+◌, ◌-◌, ◌*◌, ◌/◌, ◌%◌, ◌^◌, bit_and, bit_or, bit_xor}
use Rattle.std.specs.Int.{int_rem_euclid}
use Rattle.num_type.specs.Types.{NumericType}
use Rattle.num_type.specs.declared.methods.Rounding.TheVariants.{Floor}
use Rattle.num_type.specs.declared.methods.Overflow.TheVariants.{Wrap}
use Rattle.fi_quant.specs.Numbers.{rounded, fitted}
use Rattle.fi_ops.specs.Elements.{Element}

-- the stored bits, as the number modulo 2 ^ W
unfoldable pub bits_of : Element → ℕ
bits_of a = nat_abs (int_rem_euclid a.z (pos (2 ^ a.num.word)))

-- the stored integer of a type with these bits; those from W on don't count
unfoldable pub with_bits : NumericType → ℕ → ℤ
with_bits t u = fitted Wrap t (pos u)

-- bits shifted left, zeros come in (bitsll)
unfoldable pub left_shifted : ℕ → Element → ℤ
left_shifted k a = with_bits a.num (bits_of a * 2 ^ k)

-- bits shifted right, zeros come in (bitsrl)
unfoldable pub right_shifted : ℕ → Element → ℤ
right_shifted k a = with_bits a.num (bits_of a / 2 ^ k)

-- bits shifted right, the sign comes in: z / 2 ^ k, rounded down (bitsra)
unfoldable pub sign_shifted : ℕ → Element → ℤ
sign_shifted k a = rounded Floor a.z k

-- every bit turned (bitcmp)
unfoldable pub complemented : Element → ℤ
complemented a = with_bits a.num (2 ^ a.num.word - 1 - bits_of a)

-- bit by bit of two of one type (bitand, bitor, bitxor)
unfoldable pub anded : Element → Element → ℤ
anded a b = with_bits a.num (bit_and (bits_of a) (bits_of b))

-- where either has a bit
unfoldable pub ored : Element → Element → ℤ
ored a b = with_bits a.num (bit_or (bits_of a) (bits_of b))

-- where just one has a bit
unfoldable pub xored : Element → Element → ℤ
xored a b = with_bits a.num (bit_xor (bits_of a) (bits_of b))

-- an unsigned type without a fraction
abbrev pub word_type : ℕ → NumericType
word_type w = record { signed = false; word = w; fraction = pos 0 }

-- the bits of the first on top of those of the second (bitconcat)
unfoldable pub concatenated : Element → Element → Element
concatenated a b = record { num = word_type (a.num.word + b.num.word); z = pos (bits_of a * 2 ^ b.num.word + bits_of b) }

-- the bits l down to r, 1 the least (bitsliceget)
unfoldable pub sliced : ℕ → ℕ → Element → Element
sliced l r a = record { num = word_type (l - r + 1); z = pos (bits_of a / 2 ^ (r - 1) % 2 ^ (l - r + 1)) }
