-- Operators that compare.
use Rattle.std.proofs.Common.{◌≡◌, refl}
use Rattle.mat_ast.specs.declared.tree.BinOp.{BinOp}
use Rattle.mat_ast.specs.declared.tree.BinOp.TheVariants as bin
use Rattle.fi_rules.specs.Options.{and_then}
use Rattle.fi_rules.specs.Value.{Val}
use Rattle.fi_values.specs.Comparisons.{comparison_of, compared_values}
use Rattle.fi_meaning.specs.Operators.{by_operator}

pub compared_is : (op : BinOp) (x y : Val) → (op ≡ bin.Add → ⊥) → (op ≡ bin.Sub → ⊥) → (op ≡ bin.ElemMul → ⊥) → (op ≡ bin.Mul → ⊥) → (op ≡ bin.Pow → ⊥)
    → (op ≡ bin.ElemPow → ⊥) → (op ≡ bin.And → ⊥) → (op ≡ bin.Or → ⊥) → by_operator op x y ≡ and_then (comparison_of op) (λ k. compared_values k x y)
unfolding by_operator
compared_is bin.Add x y a b c d e f g h = absurd (a refl)
compared_is bin.Sub x y a b c d e f g h = absurd (b refl)
compared_is bin.ElemMul x y a b c d e f g h = absurd (c refl)
compared_is bin.Mul x y a b c d e f g h = absurd (d refl)
compared_is bin.Pow x y a b c d e f g h = absurd (e refl)
compared_is bin.ElemPow x y a b c d e f g h = absurd (f refl)
compared_is bin.And x y a b c d e f g h = absurd (g refl)
compared_is bin.Or x y a b c d e f g h = absurd (h refl)
compared_is op x y a b c d e f g h = refl
