-- What the private parts of the operations say.
use Rattle.std.specs.Prelude.{ℤ, ◌+ℤ◌, ◌-ℤ◌, Bool, true, false}

-- a sum, or a difference where the flag is set
abbrev pub plus_or_minus : Bool → ℤ → ℤ → ℤ
plus_or_minus false x y = x +ℤ y
plus_or_minus true x y = x -ℤ y
