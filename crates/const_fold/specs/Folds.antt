-- What the operators between two constants make of them.
use Rattle.std.specs.Prelude.{◌⊎◌, ℕ, List}
use Rattle.fic_base.specs.declared.place.Place.{Place}
use Rattle.fic_base.specs.declared.refusal.Refusal.{Refusal}
use Rattle.mat_ast.specs.declared.tree.BinOp.{BinOp}
use Rattle.mat_ast.specs.declared.tree.BinOp.TheVariants.{Add, Sub, Mul, ElemMul, Pow, ElemPow}
use Rattle.shape_rules.specs.Places.{IsOne}
use Rattle.const_eval.specs.Elementwise.{IsOperated, IsUnoperated}
use Rattle.const_eval.specs.declared.constant.Const.{Const}
use Rattle.const_eval.specs.declared.element_op.ElementOp.TheVariants.{Sum, Difference, Product}
use Rattle.const_fold.specs.Exponents.{IsPowered, IsUnpowered}
use Rattle.const_fold.specs.MatrixProducts.{IsMatrixProduct, IsNoMatrixProduct}

-- the operators that constants have
abbrev pub HasFolds : BinOp → Type 0
HasFolds Add = Unit {0}
HasFolds Sub = Unit {0}
HasFolds Mul = Unit {0}
HasFolds ElemMul = Unit {0}
HasFolds Pow = Unit {0}
HasFolds ElemPow = Unit {0}
HasFolds _ = ⊥

-- one of two constants has one element
abbrev pub IsByElement : Const → Const → Type 0
IsByElement a b = IsOne a.shape ⊎ IsOne b.shape

-- c is a * b: number by number where one of them has one element, else the matrix product
pub data IsMultiplied (a b c : Const) : Type 0 where
  ByElement : IsByElement a b → IsOperated Product a b c → IsMultiplied a b c
  ByMatrix : (IsByElement a b → ⊥) → IsMatrixProduct a b c → IsMultiplied a b c

-- and why there is none
pub data IsUnmultiplied (shown : List ℕ) (a b : Const) (at : Place) (r : Refusal) : Type 0 where
  NotByElement : IsByElement a b → IsUnoperated Product shown a b at r → IsUnmultiplied shown a b at r
  NotByMatrix : (IsByElement a b → ⊥) → IsNoMatrixProduct shown a b at r → IsUnmultiplied shown a b at r

-- c is what the operator makes of a and b
abbrev pub IsFolded : BinOp → Const → Const → Const → Type 0
IsFolded Add a b c = IsOperated Sum a b c
IsFolded Sub a b c = IsOperated Difference a b c
IsFolded Mul a b c = IsMultiplied a b c
IsFolded ElemMul a b c = IsOperated Product a b c
IsFolded Pow a b c = IsPowered a b c
IsFolded ElemPow a b c = IsPowered a b c
IsFolded _ a b c = ⊥

-- why it makes nothing of them
abbrev pub IsUnfolded : BinOp → List ℕ → Const → Const → Place → Refusal → Type 0
IsUnfolded Add shown a b at r = IsUnoperated Sum shown a b at r
IsUnfolded Sub shown a b at r = IsUnoperated Difference shown a b at r
IsUnfolded Mul shown a b at r = IsUnmultiplied shown a b at r
IsUnfolded ElemMul shown a b at r = IsUnoperated Product shown a b at r
IsUnfolded Pow shown a b at r = IsUnpowered shown a b at r
IsUnfolded ElemPow shown a b at r = IsUnpowered shown a b at r
IsUnfolded _ shown a b at r = ⊥
