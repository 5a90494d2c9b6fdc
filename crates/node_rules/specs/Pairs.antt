-- Sums, differences and products element by element: their conditions in the order of the codes, the types of their results, and their values.
use Rattle.std.specs.Prelude.{ℤ, ◌+ℤ◌, ◌-ℤ◌, ◌*ℤ◌, ◌≤ℤ◌, int_le, ◌&&◌, ◌||◌, if◌then◌else◌, List, map, Option, Some, None, is_some}
use Rattle.fic_base.specs.declared.code.Code.TheVariants as code
use Rattle.num_type.specs.Constants.{Exact}
use Rattle.num_type.specs.Types.{NumericType}
use Rattle.fi_math.specs.declared.fimath.Fimath.{Fimath}
use Rattle.const_eval.specs.Complex.{Complex}
use Rattle.fi_rules.specs.declared.work.Work.{Work}
use Rattle.fi_rules.specs.declared.work.Work.TheVariants as work
use Rattle.fi_rules.specs.Checked.{Itself}
use Rattle.fi_rules.specs.Options.{all_of}
use Rattle.fi_rules.specs.Pairs.{folded}
use Rattle.fi_rules.specs.Value.{Shape, Val}
use Rattle.fi_eval.specs.Operators.{pairwise, math_of}
use Rattle.fi_values.specs.Arithmetic.{complex_folded, zipped, Operand, operands, result_parts, fi_value}
use Rattle.fi_values.specs.Numbers.{is_bound, bound_of, nought_parts}
use Rattle.fi_values.specs.Shapes.{common}
use Rattle.fi_meaning.specs.Statements.{item_value}
use Rattle.node_rules.specs.Parts.{no_parts, parts_of, item_in}
use Rattle.node_rules.specs.Ruled.{Ruled, Fine, Missing, Shows, Misfit, ◌>>=◌, needed, tested}
use Rattle.node_rules.specs.Sides.{Meeting, Folds, Meets, sides}
use Rattle.node_rules.specs.Types.{NodeTy, FiNode, LogicalNode, NumberNode, IndexNode, is_index, known}

-- ---- before the node is counted

abbrev pub fits : Shape → Shape → Ruled Shape
fits s t = needed code.SizeMismatch (Misfit s t) (common s t)

-- all results have to be constants
abbrev pub constants : {A : Type 0} → List (Option A) → Ruled (List A)
constants cs = needed code.LiteralInexact (Shows Itself) (all_of cs)

abbrev pub complex_node : Shape → List Complex → NodeTy
complex_node s cs = NumberNode s (map (λ (c : Complex). c.re) cs) (Some (map (λ (c : Complex). c.im) cs))

abbrev pub reals_met : Work → Shape → List Exact → Shape → List Exact → Ruled Meeting
reals_met w s xs t ys = fits s t >>= (λ r. constants (pairwise (folded w) xs ys) >>= (λ cs. Fine (Folds (NumberNode r cs None))))

abbrev pub complexes_met : Work → Shape → List Complex → Shape → List Complex → Ruled Meeting
complexes_met w s xs t ys = fits s t >>= (λ r. constants (pairwise (complex_folded w) xs ys) >>= (λ cs. Fine (Folds (complex_node r cs))))

-- two numbers
unfoldable pub numbers_met : Work → Shape → List Exact → Option (List Exact) → Shape → List Exact → Option (List Exact) → Ruled Meeting
numbers_met w s xs None t us None = reals_met w s xs t us
numbers_met w s xs None t us (Some vs) = complexes_met w s (zipped xs (nought_parts xs)) t (zipped us vs)
numbers_met w s xs (Some ys) t us None = complexes_met w s (zipped xs ys) t (zipped us (nought_parts us))
numbers_met w s xs (Some ys) t us (Some vs) = complexes_met w s (zipped xs ys) t (zipped us vs)

-- at least one fi
abbrev pub sides_met : NodeTy → NodeTy → Ruled Meeting
sides_met x y = sides x y >>= (λ ab. fits ab.0.shape ab.1.shape >>= (λ r. Fine (Meets ab.0 ab.1 r)))

-- ---- indices

-- the whole numbers between two
pub record Span : Type 0 where
  pub lo : ℤ
  pub hi : ℤ

pub record IsIn (p : Span) (z : ℤ) : Type 0 where
  pub from : p.lo ≤ℤ z
  pub to : z ≤ℤ p.hi

-- an index, or a whole number beside one
unfoldable pub span_of : NodeTy → Ruled Span
span_of (IndexNode lo hi) = Fine (record { lo = lo; hi = hi })
span_of (NumberNode s xs ys) = needed code.LoopVariable (Shows Itself) (bound_of (known (NumberNode s xs ys))) >>= (λ z. Fine (record { lo = z; hi = z }))
span_of (FiNode t m c s) = Missing code.FloatOperand (Shows Itself)
span_of (LogicalNode s) = Missing code.FloatOperand (Shows Itself)
span_of t = Missing code.BadArgument (Shows Itself)

abbrev pub lesser : ℤ → ℤ → ℤ
lesser x y = if int_le x y then x else y

abbrev pub greater : ℤ → ℤ → ℤ
greater x y = if int_le x y then y else x

-- the least and the greatest of four
abbrev pub spanning : ℤ → ℤ → ℤ → ℤ → Span
spanning a b c d = record { lo = lesser (lesser a b) (lesser c d); hi = greater (greater a b) (greater c d) }

unfoldable pub span_worked : Work → Span → Span → Span
span_worked work.Sum p q = record { lo = p.lo +ℤ q.lo; hi = p.hi +ℤ q.hi }
span_worked work.Difference p q = record { lo = p.lo -ℤ q.hi; hi = p.hi -ℤ q.lo }
span_worked work.Product p q = spanning (p.lo *ℤ q.lo) (p.lo *ℤ q.hi) (p.hi *ℤ q.lo) (p.hi *ℤ q.hi)
span_worked w p q = p

-- an index stays within 2 ^ 31 - 1 of 0
abbrev pub index_checked : Span → Ruled NodeTy
index_checked p = tested code.LoopVariable (Shows Itself) (is_bound p.lo && is_bound p.hi) (IndexNode p.lo p.hi)

abbrev pub indices_met : Work → NodeTy → NodeTy → Ruled Meeting
indices_met w x y = span_of x >>= (λ p. span_of y >>= (λ q. index_checked (span_worked w p q) >>= (λ t. Fine (Folds t))))

-- ---- all classes

unfoldable pub arithmetic_met : Work → NodeTy → NodeTy → Ruled Meeting
arithmetic_met w (NumberNode s xs ys) (NumberNode t us vs) = numbers_met w s xs ys t us vs
arithmetic_met w x y = if is_index x || is_index y then indices_met w x y else sides_met x y

-- ---- values

-- the elements of a fi of this type; there are operands wherever it has a rule
unfoldable pub fi_result : Work → NumericType → Option Fimath → Shape → Option (Operand × Operand) → Val
fi_result w t m s None = fi_value t m s no_parts
fi_result w t m s (Some ab) =
    fi_value t m s (parts_of (result_parts w (math_of m) t ab.0 ab.1 (is_some ab.0.parts.im) (is_some ab.1.parts.im)))

-- an index in whole numbers
unfoldable pub items_worked : Work → ℤ → ℤ → ℤ
items_worked work.Sum x y = x +ℤ y
items_worked work.Difference x y = x -ℤ y
items_worked work.Product x y = x *ℤ y
items_worked w x y = x

unfoldable pub arithmetic_value : Work → NodeTy → Val → Val → Val
arithmetic_value w (FiNode t m c s) v x = fi_result w t m s (operands v x)
arithmetic_value w (IndexNode lo hi) v x = item_value (items_worked w (item_in v) (item_in x))
arithmetic_value w t v x = known t
