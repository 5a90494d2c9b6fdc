-- Sums and differences of two words of one type, in variables x and y, brought into its range.
use Rattle.std.specs.Prelude.{ℕ, Bool}
use Rattle.num_type.specs.Types.{NumericType}
use Rattle.num_type.specs.declared.methods.Overflow.{Overflow}
use Rattle.num_type.specs.declared.methods.Overflow.TheVariants.{Saturate, Wrap}
use Rattle.fi_math.specs.declared.fimath.Fimath.{Fimath}
use Rattle.c_tree.specs.Tree.{Exp}
use Rattle.c_tree.specs.declared.tree.COp.{COp}
use Rattle.c_tree.specs.declared.tree.COp.TheVariants as op
use Rattle.lower_scalar.specs.Part.{Operand, Part}
use Rattle.lower_scalar.specs.Shapes.{wrapped}
use Rattle.lower_scalar.specs.Operators.{Adds, Subtracts, sum_saturated, difference_saturated}
use Rattle.lower_op.specs.Arguments.{bits_pair}
use Rattle.lower_op.specs.declared.ends.Additive.{Additive}
use Rattle.lower_op.specs.declared.ends.Additive.TheVariants.{Sum, Difference}

-- the operator of C
abbrev pub operator : Additive → COp
operator Sum = op.Add
operator Difference = op.Sub

-- brought to the nearest number of a type of w bits that both words are of
abbrev pub saturated : Additive → Bool → ℕ → ℕ → ℕ → Exp
saturated Sum t w x y = sum_saturated t w x y
saturated Difference t w x y = difference_saturated t w x y

-- brought into the range by the action
abbrev pub fitted : Additive → Overflow → Bool → ℕ → ℕ → ℕ → Exp
fitted how Saturate t w x y = saturated how t w x y
fitted how Wrap t w x y = wrapped t w (bits_pair (operator how) t x y)

-- the part computes the sum or the difference of two operands
abbrev pub Joins : Additive → Fimath → NumericType → Operand → Operand → ℕ → Part → Type 0
Joins Sum m t a b fresh p = Adds m t a b fresh p
Joins Difference m t a b fresh p = Subtracts m t a b fresh p
