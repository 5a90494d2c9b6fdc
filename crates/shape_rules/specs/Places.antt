-- Places of elements, shapes of elementwise operations, and the items of ranges.
use Rattle.std.specs.Prelude.{◌≡◌, ◌⊎◌, ℕ, ◌≤ℤ◌, ◌<ℤ◌, ◌+ℤ◌, ◌-ℤ◌, ◌*ℤ◌, ◌^◌, neg_ℤ, ℤ, pos}
use Rattle.shape_rules.specs.declared.shape.Shape.{Shape}
use Rattle.shape_rules.specs.Shapes.{rows_of, columns_of}

-- the same rows and columns
abbrev pub IsSameShape : Shape → Shape → Type 0
IsSameShape a b = (rows_of a ≡ rows_of b) × (columns_of a ≡ columns_of b)

-- one element
abbrev pub IsOne : Shape → Type 0
IsOne s = (rows_of s ≡ 1) × (columns_of s ≡ 1)

-- the shape s of an elementwise operation on a and b: they have the same one, or one of them has one element and s is the other's
abbrev pub IsElementwise : Shape → Shape → Shape → Type 0
IsElementwise a b s = (IsSameShape a b × IsSameShape s a) ⊎ (IsOne a × IsSameShape s b) ⊎ (IsOne b × IsSameShape s a)

-- a subscript, from 1, within an extent
pub record IsSubscript (extent : ℕ) (k : ℤ) : Type 0 where
  pub least : pos 1 ≤ℤ k
  pub most : k ≤ℤ pos extent

-- the place, from 0 and by columns, of the element in a row and a column from 1
abbrev pub place : ℕ → ℤ → ℤ → ℤ
place rows row column = (column -ℤ pos 1) *ℤ pos rows +ℤ (row -ℤ pos 1)

-- a bound or a step of a range, within 2 ^ 31 - 1 of 0
pub record IsBound (z : ℤ) : Type 0 where
  pub least : neg_ℤ (pos (2 ^ 31)) <ℤ z
  pub most : z <ℤ pos (2 ^ 31)

-- item k, from 0, of the range first:step:last is there: it isn't beyond the last bound
abbrev pub IsItem : ℤ → ℤ → ℤ → ℕ → Type 0
IsItem first step last k =
    ((pos 0 <ℤ step) × ((first +ℤ step *ℤ pos k) ≤ℤ last))
    ⊎ ((step <ℤ pos 0) × (last ≤ℤ (first +ℤ step *ℤ pos k)))
