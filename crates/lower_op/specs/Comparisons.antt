-- Comparisons of two real values: which operations they are, and what their parts compute.
use Rattle.std.specs.Prelude.{ℕ, ◌≡◌, ◌≢◌, ◌⊎◌, Bool, true, [], ◌∷◌, Option, Some, None}
use Rattle.std.specs.declared.cmp.Ordering.{Ordering}
use Rattle.std.specs.Ordering.{is_eq, is_ne, is_lt, is_le, is_gt, is_ge}
use Rattle.fi_ops.specs.Operations.{compared}
use Rattle.array_ir.specs.declared.op.Op.{Op}
use Rattle.array_ir.specs.declared.op.Op.TheVariants as op
use Rattle.c_tree.specs.declared.tree.CRel.{CRel}
use Rattle.c_tree.specs.declared.tree.CRel.TheVariants as rel
use Rattle.c_tree.specs.Meaning.{number_of}
use Rattle.lower_scalar.specs.Part.{Part, Operand, IsPart, on_two}
use Rattle.lower_scalar.specs.Operators.{element}

-- the relation that an operation tests
abbrev pub relation_of : Op → Option CRel
relation_of op.Eq = Some rel.Eq
relation_of op.Ne = Some rel.Ne
relation_of op.Lt = Some rel.Lt
relation_of op.Le = Some rel.Le
relation_of op.Gt = Some rel.Gt
relation_of op.Ge = Some rel.Ge
relation_of _ = None

-- whether a relation holds between two numbers in this order
abbrev pub holds_in : CRel → Ordering → Bool
holds_in rel.Eq o = is_eq o
holds_in rel.Ne o = is_ne o
holds_in rel.Lt o = is_lt o
holds_in rel.Le o = is_le o
holds_in rel.Gt o = is_gt o
holds_in rel.Ge o = is_ge o

-- the part gives 1 where the relation holds between the exact values of two operands, and else 0
abbrev pub Compares : CRel → Operand → Operand → ℕ → Part → Type 0
Compares r a b fresh p = IsPart (a ∷ b ∷ []) fresh true (on_two (λ x y. number_of (holds_in r (compared (element a.num x) (element b.num y))))) p

-- the operation is a comparison
abbrev pub IsComparison : Op → Type 0
IsComparison o = relation_of o ≢ None

-- the operation tests whether two values are equal or differ
abbrev pub IsEquality : Op → Type 0
IsEquality o = (o ≡ op.Eq) ⊎ (o ≡ op.Ne)

-- the part computes the comparison
abbrev pub ComparesTwo : Op → Operand → Operand → ℕ → Part → Type 0
ComparesTwo o a b fresh p = (r : CRel) → relation_of o ≡ Some r → Compares r a b fresh p
