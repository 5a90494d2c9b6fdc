-- Matrix products of constants.
use Rattle.std.specs.Prelude.{◌≡◌, ◌<◌, ◌+◌, ◌*◌, ◌||◌, ℕ, zero, suc, pos, List, decimal}
use Rattle.num_type.specs.Precision.{whole}
use Rattle.fic_base.specs.declared.code.Code.TheVariants.{Limit, LiteralInexact, SizeMismatch}
use Rattle.fic_base.specs.declared.place.Place.{Place}
use Rattle.fic_base.specs.declared.refusal.Refusal.{Refusal}
use Rattle.shape_rules.specs.Shapes.{rows_of, columns_of, element_limit}
use Rattle.const_eval.specs.Complex.{Complex, AreSame, AreConstant, HasConstantSteps, plus, times}
use Rattle.const_eval.specs.Elementwise.{shapes_text}
use Rattle.const_eval.specs.Refusals.{IsRefusal}
use Rattle.const_eval.specs.Values.{number_at, is_complex}
use Rattle.const_eval.specs.declared.constant.Const.{Const}

-- the number in a row and a column, both counted from 0
abbrev pub entry : Const → ℕ → ℕ → Complex
entry c row column = number_at c (column * rows_of c.shape + row)

-- 0
abbrev pub nought : Complex
nought = record { re = whole (pos 0); im = whole (pos 0) }

-- the first n products of a row of a and a column of b, in ascending order, added to 0
abbrev pub sum_to : Const → Const → ℕ → ℕ → ℕ → Complex
sum_to a b row column zero = nought
sum_to a b row column (suc n) = plus (sum_to a b row column n) (times (entry a row n) (entry b n column))

-- each step of product n is a constant, and so is the sum with it
pub record IsExactStep (a b : Const) (row column n : ℕ) : Type 0 where
  pub product : HasConstantSteps (entry a row n) (entry b n column)
  pub sum : AreConstant (sum_to a b row column (suc n))

-- so it is for each product of the row and the column
abbrev pub IsExactSum : Const → Const → ℕ → ℕ → Type 0
IsExactSum a b row column = (n : ℕ) → n < columns_of a.shape → IsExactStep a b row column n

-- and for each row and each column
abbrev pub AreExactSums : Const → Const → Type 0
AreExactSums a b = (row column : ℕ) → row < rows_of a.shape → column < columns_of b.shape → IsExactSum a b row column

-- a row of a has as many numbers as a column of b
abbrev pub HasInner : Const → Const → Type 0
HasInner a b = columns_of a.shape ≡ rows_of b.shape

-- c is the matrix product of a and b, each step of which is a constant
pub record IsMatrixProduct (a b c : Const) : Type 0 where
  pub inner : HasInner a b
  pub rows : rows_of c.shape ≡ rows_of a.shape
  pub columns : columns_of c.shape ≡ columns_of b.shape
  pub complex : is_complex c ≡ (is_complex a || is_complex b)
  pub steps : AreExactSums a b
  pub numbers : (row column : ℕ) → row < rows_of a.shape → column < columns_of b.shape → AreSame (entry c row column) (sum_to a b row column (columns_of a.shape))

-- why there is none: the shapes don't fit; or they do and some step is no constant; or each is and the product has too many elements
pub data IsNoMatrixProduct (shown : List ℕ) (a b : Const) (at : Place) (r : Refusal) : Type 0 where
  Misfit : (HasInner a b → ⊥) → IsRefusal SizeMismatch at (shapes_text a.shape b.shape) r → IsNoMatrixProduct shown a b at r
  Inexact : HasInner a b → (AreExactSums a b → ⊥) → IsRefusal LiteralInexact at shown r → IsNoMatrixProduct shown a b at r
  TooMany : HasInner a b → AreExactSums a b → element_limit < rows_of a.shape * columns_of b.shape → IsRefusal Limit at (decimal element_limit) r → IsNoMatrixProduct shown a b at r
