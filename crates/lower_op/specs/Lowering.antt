-- Operations on arguments: which are lowered, and what their parts compute.
use Rattle.std.specs.Prelude.{ℕ, ◌≤◌, List, [], ◌∷◌, Option, Some, None}
use Rattle.num_type.specs.Types.{NumericType}
use Rattle.num_type.specs.View.{type_of}
use Rattle.num_type.specs.declared.num_type.NumType.{NumType}
use Rattle.fi_math.specs.declared.fimath.Fimath.{Fimath}
use Rattle.array_ir.specs.declared.op.Op.{Op}
use Rattle.array_ir.specs.declared.op.FlatOp.{FlatOp}
use Rattle.c_tree.specs.Tree.{Exp}
use Rattle.c_tree.specs.View.{expr_view}
use Rattle.lower_scalar.specs.Part.{Part, Operand, reach}
use Rattle.lower_op.specs.declared.argument.CArg.{CArg}
use Rattle.lower_op.specs.declared.argument.CArg.TheVariants as arg
use Rattle.lower_op.specs.Arguments.{operand, truth}
use Rattle.lower_op.specs.Comparisons.{IsComparison, IsEquality, ComparesTwo}
use Rattle.lower_op.specs.Operations.{IsOfOne, IsOfTwo, ComputesOne, ComputesTwo}

-- a real value, a complex one with its real part first, or a logical one
pub data Arg : Type 0 where
  Real : Operand → Arg
  Complex : NumericType → Exp → Exp → Arg
  Logical : Exp → Arg

-- what an argument of the code stands for
abbrev pub arg_view : CArg → Arg
arg_view (arg.Real t e) = Real (operand t e)
arg_view (arg.Complex t a b) = Complex (type_of t) (expr_view a) (expr_view b)
arg_view (arg.Bool e) = Logical (expr_view e)

-- an operation on two real values that has a result of this type, or a comparison, whose result is logical
abbrev pub HasTwo : Op → Fimath → Option NumType → NumericType → NumericType → Type 0
HasTwo o m (Some t) a b = IsOfTwo o m (type_of t) a b
HasTwo o m None a b = IsComparison o

-- a test of two logical values for equality, whose result is logical
abbrev pub HasTruths : Op → Option NumType → Type 0
HasTruths o (Some t) = ⊥
HasTruths o None = IsEquality o

-- the operation is one on real values or tests two logical ones for equality, its arguments are as many as it takes, their types are
-- such as it allows, its result has the type that the rules give, and the arguments read only variables below fresh
abbrev pub CanLower : FlatOp → List Arg → ℕ → Type 0
CanLower o (Real a ∷ []) x = IsOfOne o.op × (reach a.exp ≤ x)
CanLower o (Real a ∷ Real b ∷ []) x = HasTwo o.op o.math o.result a.num b.num × (reach a.exp ≤ x) × (reach b.exp ≤ x)
CanLower o (Logical a ∷ Logical b ∷ []) x = HasTruths o.op o.result × (reach a ≤ x) × (reach b ≤ x)
CanLower o args x = ⊥

-- the part computes the operation on two real values, in the type of the result, or a comparison
abbrev pub GivesTwo : Op → Fimath → Option NumType → Operand → Operand → ℕ → Part → Type 0
GivesTwo o m (Some t) a b x p = ComputesTwo o m (type_of t) a b x p
GivesTwo o m None a b x p = ComparesTwo o a b x p

-- the part computes the operation
abbrev pub Lowers : FlatOp → List Arg → ℕ → Part → Type 0
Lowers o (Real a ∷ []) x p = ComputesOne o.op o.math a x p
Lowers o (Real a ∷ Real b ∷ []) x p = GivesTwo o.op o.math o.result a b x p
Lowers o (Logical a ∷ Logical b ∷ []) x p = ComparesTwo o.op (truth a) (truth b) x p
Lowers o args x p = ⊥
