-- The widths of C's integer types (ISO/IEC 9899:1999, 7.18.1.1).
use Rattle.std.specs.Prelude.{ℕ, Bool, true, false}
use Rattle.num_type.specs.declared.container.Container.{Container}
use Rattle.num_type.specs.declared.container.Container.TheVariants.{I8, I16, I32, I64, U8, U16, U32, U64}

-- the width of a container in bits
abbrev pub bits_of : Container → ℕ
bits_of I8 = 8
bits_of I16 = 16
bits_of I32 = 32
bits_of I64 = 64
bits_of U8 = 8
bits_of U16 = 16
bits_of U32 = 32
bits_of U64 = 64

-- whether a container is signed
abbrev pub is_signed_container : Container → Bool
is_signed_container I8 = true
is_signed_container I16 = true
is_signed_container I32 = true
is_signed_container I64 = true
is_signed_container U8 = false
is_signed_container U16 = false
is_signed_container U32 = false
is_signed_container U64 = false
