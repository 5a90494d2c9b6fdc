-- Sums of many elements of one type, one step after the other.
use Rattle.std.specs.Prelude.{ℤ, pos, ◌+ℤ◌, List, [], ◌∷◌}
use Rattle.num_type.specs.Types.{NumericType}
use Rattle.fi_math.specs.declared.fimath.Fimath.{Fimath}
use Rattle.fi_ops.specs.Operations.{summed}

-- the stored integer of the sum type t after the addends of the type u were added to acc in their order, each by the rule of sums
unfoldable pub accumulated : Fimath → NumericType → NumericType → ℤ → List ℤ → ℤ
accumulated m t u acc [] = acc
accumulated m t u acc (z ∷ zs) = accumulated m t u (summed m t (record { num = t; z = acc }) (record { num = u; z = z })) zs

-- the exact sum
unfoldable pub total : List ℤ → ℤ
total [] = pos 0
total (z ∷ zs) = z +ℤ total zs
