-- The arguments of operations, and what a part that lowers one computes.
use Rattle.std.specs.Prelude.{ℕ, suc, pos, Bool, true, false, [], ◌∷◌, ◌++◌}
use Rattle.num_type.specs.Types.{NumericType}
use Rattle.num_type.specs.View.{type_of}
use Rattle.num_type.specs.declared.num_type.NumType.{NumType}
use Rattle.c_tree.specs.declared.tree.CExpr.{CExpr}
use Rattle.c_tree.specs.View.{expr_view}
use Rattle.c_tree.specs.declared.tree.CWord.TheVariants.{I64}
use Rattle.c_tree.specs.declared.tree.COp.TheVariants as op
use Rattle.c_tree.specs.declared.tree.COp.{COp}
use Rattle.c_tree.specs.Tree.{Exp, Var, Binary, Cast, Choose, Set}
use Rattle.lower_scalar.specs.Part.{Operand, Part, word_for}
use Rattle.lower_scalar.specs.Shapes.{constant, top, least, is_less, bits_of}

-- an expression for stored integers of a type
abbrev pub operand : NumType → CExpr → Operand
operand t e = record { num = type_of t; exp = expr_view e }

-- logical values are the stored integers 0 and 1 of a signed type of two bits
abbrev pub truth_num : NumericType
truth_num = record { signed = true; word = 2; fraction = pos 0 }

-- an expression for a logical value
abbrev pub truth : Exp → Operand
truth e = record { num = truth_num; exp = e }

-- a difference of words of a signedness, as an int64_t
abbrev pub minus_of : Bool → Exp → Exp → Exp
minus_of true a b = Binary op.Sub a b
minus_of false a b = Binary op.Sub (Cast I64 a) (Cast I64 b)

-- x op y, or the greatest number where x is above top back y
abbrev pub above_end : COp → COp → Bool → ℕ → ℕ → ℕ → Exp
above_end o back s w x y = Choose (is_less (Binary back (constant s (top s w)) (Var y)) (Var x)) (constant s (top s w)) (Binary o (Var x) (Var y))

-- x op y, or the least number of a signed type where x is below least back y
abbrev pub below_end : COp → COp → ℕ → ℕ → ℕ → Exp
below_end o back w x y = Choose (is_less (Var x) (Binary back (least true w) (Var y))) (least true w) (Binary o (Var x) (Var y))

-- two parts one after the other, their values in the variables k and k + 1, and an expression over these
abbrev pub joined_at : ℕ → Bool → Part → Part → Exp → Part
joined_at k s p q e = record {
  words = p.words ++ (q.words ++ (word_for s ∷ word_for s ∷ []));
  before = p.before ++ (q.before ++ (Set k p.value ∷ Set (suc k) q.value ∷ []));
  value = e;
}

-- an operation on two words modulo 2 ^ 64
abbrev pub bits_pair : COp → Bool → ℕ → ℕ → Exp
bits_pair o s x y = Binary o (bits_of s (Var x)) (bits_of s (Var y))
