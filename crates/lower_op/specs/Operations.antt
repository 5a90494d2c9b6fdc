-- Which operations are lowered, and what their parts compute.
use Rattle.std.specs.Prelude.{ℕ, ◌≡◌, ◌⊎◌}
use Rattle.num_type.specs.Types.{NumericType}
use Rattle.fi_math.specs.declared.fimath.Fimath.{Fimath}
use Rattle.fi_math.specs.Made.{Is}
use Rattle.fi_math.specs.Rules.{product_made, add_made, sub_made}
use Rattle.array_ir.specs.declared.op.Op.{Op}
use Rattle.array_ir.specs.declared.op.Op.TheVariants as op
use Rattle.lower_scalar.specs.Part.{Part, Operand}
use Rattle.lower_scalar.specs.Operators.{Adds, Subtracts, Multiplies, Negates, TakesSign}

-- a sum, a difference or a product, whose result has the type that the fimath gives for the types of the operands
abbrev pub IsOfTwo : Op → Fimath → NumericType → NumericType → NumericType → Type 0
IsOfTwo o m t a b = ((o ≡ op.Add) × (add_made m a b ≡ Is t)) ⊎ (((o ≡ op.Sub) × (sub_made m a b ≡ Is t)) ⊎ ((o ≡ op.Mul) × (product_made m a b ≡ Is t)))

-- the part computes the operation on two real values
pub record ComputesTwo (o : Op) (m : Fimath) (t : NumericType) (a b : Operand) (fresh : ℕ) (p : Part) : Type 0 where
  pub sum : o ≡ op.Add → Adds m t a b fresh p
  pub difference : o ≡ op.Sub → Subtracts m t a b fresh p
  pub product : o ≡ op.Mul → Multiplies m t a b fresh p

-- a negation or a value without its sign
abbrev pub IsOfOne : Op → Type 0
IsOfOne o = (o ≡ op.Neg) ⊎ (o ≡ op.Abs)

-- the part computes the operation on one real value
pub record ComputesOne (o : Op) (m : Fimath) (a : Operand) (fresh : ℕ) (p : Part) : Type 0 where
  pub negation : o ≡ op.Neg → Negates m a.num a.exp fresh p
  pub size : o ≡ op.Abs → TakesSign m a.num a.exp fresh p
