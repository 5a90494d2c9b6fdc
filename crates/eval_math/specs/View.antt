-- What the operands and the operations of the code stand for.
use Rattle.std.specs.Prelude.{◌≡◌, ◌⊎◌, ℕ, ℤ, Bool, true, false, List, [], ◌∷◌, ◌++◌, map, Option, Some, None}
use Rattle.std.specs.Global.{Vec}
use Rattle.num_type.specs.Types.{NumericType}
use Rattle.num_type.specs.View.{type_of}
use Rattle.num_type.specs.declared.num_type.NumType.{NumType}
use Rattle.fi_math.specs.declared.fimath.Fimath.{Fimath}
use Rattle.fi_rules.specs.declared.work.Work.{Work}
use Rattle.fi_rules.specs.declared.work.Work.TheVariants as work
use Rattle.fi_rules.specs.Options.{◌|>◌}
use Rattle.fi_eval.specs.Operators.{pairwise, element}
use Rattle.fi_values.specs.Arithmetic.{Operand, Parts, imaginary, complex_element, both_parts}
use Rattle.eval_value.specs.View.{shape_view}
use Rattle.eval_value.specs.declared.fi_value.FiValue.{FiValue}
use Rattle.eval_math.specs.declared.frame.Frame.{Frame}
use Rattle.const_eval.specs.declared.element_op.ElementOp.{ElementOp}
use Rattle.const_eval.specs.declared.element_op.ElementOp.TheVariants as operation

-- ---- elements that meet

-- so many pairs of two lists of these lengths: they are as long, or one has a single element
abbrev pub IsMet : ℕ → ℕ → ℕ → Type 0
IsMet n l r = ((l ≡ n) × (r ≡ n)) ⊎ (((l ≡ 1) × (r ≡ n)) ⊎ ((l ≡ n) × (r ≡ 1)))

-- the pairs of an operation element by element
abbrev pub paired : {A B : Type 0} → List A → List B → List (A × B)
paired xs ys = pairwise (λ x y. (x, y)) xs ys

-- the pairs of elements at the same place
abbrev pub side_by_side : {A B : Type 0} → List A → List B → List (A × B)
side_by_side [] ys = []
side_by_side (x ∷ xs) [] = []
side_by_side (x ∷ xs) (y ∷ ys) = (x, y) ∷ side_by_side xs ys

-- elements that are built, before the rest
abbrev pub with_built : {A : Type 0} → List A → Option (List A) → Option (List A)
with_built built rest = rest |> (λ ys. Some (built ++ ys))

-- ---- operands

-- the stored integers of parts that may be missing
abbrev pub items_of : Option (Vec ℤ) → Option (List ℤ)
items_of None = None
items_of (Some v) = Some v.items

abbrev pub parts_view : FiValue → Parts
parts_view v = record { re = v.re.items; im = items_of v.im }

-- a fi as an operand; so a number beside a fi is kept, too
abbrev pub operand_view : FiValue → Operand
operand_view v = record { num = type_of v.num; math = v.math; shape = shape_view v.shape; parts = parts_view v }

-- ---- operations

abbrev pub work_view : ElementOp → Work
work_view operation.Sum = work.Sum
work_view operation.Difference = work.Difference
work_view operation.Product = work.Product

-- a result of this type, shape and attached fimath
abbrev pub of_frame : Frame → Parts → Operand
of_frame f p = record { num = type_of f.num; math = f.by.attached; shape = shape_view f.shape; parts = p }

abbrev pub framed : Frame → Option Parts → Option Operand
framed f o = o |> (λ p. Some (of_frame f p))

-- the element of a result of the frame's type
abbrev pub element_by : Frame → NumericType → NumericType → ℤ → ℤ → ℤ
element_by f a b x y = element (work_view f.op) f.by.math (type_of f.num) a b x y

-- what an operand gives the imaginary part of a result: a real one its real part to a product, and zeros to a sum
abbrev pub crossing : ElementOp → Bool → Parts → List ℤ
crossing operation.Sum complex p = imaginary p
crossing operation.Difference complex p = imaginary p
crossing operation.Product true p = imaginary p
crossing operation.Product false p = p.re

-- the parts of a real result
abbrev pub real_parts : ElementOp → Fimath → NumericType → Operand → Operand → Parts
real_parts op m t a b = record { re = pairwise (element (work_view op) m t a.num b.num) a.parts.re b.parts.re; im = None }

abbrev pub real_by : Frame → Operand → Operand → Parts
real_by f a b = real_parts f.op f.by.math (type_of f.num) a b

-- the parts of a result where an operand is complex, but for a product of two
abbrev pub crossed_parts : ElementOp → Fimath → NumericType → Operand → Operand → Bool → Bool → Parts
crossed_parts op m t a b p q = record {
  re = pairwise (element (work_view op) m t a.num b.num) a.parts.re b.parts.re;
  im = Some (pairwise (element (work_view op) m t a.num b.num) (crossing op p a.parts) (crossing op q b.parts));
}

abbrev pub crossed : Frame → Operand → Operand → Bool → Bool → Parts
crossed f a b p q = crossed_parts f.op f.by.math (type_of f.num) a b p q

-- ---- complex products

-- the parts of a product of two complex operands, its products of parts in a type
abbrev pub complex_parts : Fimath → NumericType → NumericType → Operand → Operand → Parts
complex_parts m t p a b =
    let zs = pairwise (complex_element m p t a.num b.num) (both_parts a.parts.re (imaginary a.parts)) (both_parts b.parts.re (imaginary b.parts)) in
    record { re = map (λ z. z.0) zs; im = Some (map (λ z. z.1) zs) }

-- the same frame for another operation, with a result of this type
abbrev pub in_type : Frame → ElementOp → NumType → Frame
in_type f op t = record { op = op; by = f.by; num = t; shape = f.shape }
