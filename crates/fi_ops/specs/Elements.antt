-- Elements: stored integers with their types.
use Rattle.std.specs.Prelude.{ℤ, ◌≤◌}
use Rattle.num_type.specs.Types.{NumericType, IsInRange}

-- A stored integer of a type. It stands for z * 2 ^ -fraction.
pub record Element : Type 0 where
  pub num : NumericType
  pub z : ℤ

-- the stored integer is in the range of a type of at least one bit
pub record IsElement (a : Element) : Type 0 where
  pub one_bit : 1 ≤ a.num.word
  pub in_range : IsInRange a.num a.z
