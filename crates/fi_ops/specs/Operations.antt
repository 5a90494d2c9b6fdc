-- The stored integers that operations on elements give.
use Rattle.std.specs.Prelude.{ℤ, pos, neg_ℤ, nat_abs, ◌^◌, ◌+ℤ◌, ◌-ℤ◌, ◌*ℤ◌, if◌then◌else◌}
use Rattle.std.specs.Int.{int_max}
use Rattle.std.specs.Ordering.{int_cmp}
use Rattle.std.specs.declared.cmp.Ordering.{Ordering}
use Rattle.num_type.specs.Types.{NumericType}
use Rattle.fi_quant.specs.Numbers.{fitted, quantised}
use Rattle.fi_math.specs.declared.fimath.Fimath.{Fimath}
use Rattle.fi_ops.specs.Elements.{Element}

-- the greater fraction length of two
abbrev pub common : Element → Element → ℤ
common a b = int_max a.num.fraction b.num.fraction

-- the integer of an element at a fraction length f that isn't below its own: the same number as f-fold fractions
unfoldable pub aligned : ℤ → Element → ℤ
aligned f a = a.z *ℤ pos (2 ^ nat_abs (f -ℤ a.num.fraction))

-- the exact z * 2 ^ -f taken to the type under the fimath
unfoldable pub taken : Fimath → NumericType → ℤ → ℤ → ℤ
taken m t z f = quantised m.rounding m.overflow t z f

-- a product: exact, then taken to the product type
unfoldable pub multiplied : Fimath → NumericType → Element → Element → ℤ
multiplied m t a b = taken m t (a.z *ℤ b.z) (a.num.fraction +ℤ b.num.fraction)

-- a sum or a difference: with CastBeforeSum both operands are taken to the sum type first; else it is exact and then taken there
unfoldable pub joined : (ℤ → ℤ → ℤ) → Fimath → NumericType → Element → Element → ℤ
joined join m t a b =
    if m.cast_before_sum
    then fitted m.overflow t (join (taken m t a.z a.num.fraction) (taken m t b.z b.num.fraction))
    else taken m t (join (aligned (common a b) a) (aligned (common a b) b)) (common a b)

-- a sum
abbrev pub summed : Fimath → NumericType → Element → Element → ℤ
summed = joined (λ x y. x +ℤ y)

-- a difference
abbrev pub subtracted : Fimath → NumericType → Element → Element → ℤ
subtracted = joined (λ x y. x -ℤ y)

-- the negated number
unfoldable pub negated : Fimath → Element → ℤ
negated m a = fitted m.overflow a.num (neg_ℤ a.z)

-- the number without its sign
unfoldable pub absolute : Fimath → Element → ℤ
absolute m a = fitted m.overflow a.num (pos (nat_abs a.z))

-- the order of the exact values
unfoldable pub compared : Element → Element → Ordering
compared a b = int_cmp (aligned (common a b) a) (aligned (common a b) b)
