-- The results of operations on fis, from their parts.
use Rattle.std.proofs.Common.{◌≡◌, ◌∙◌, refl, sym, ap, subst, ℤ, pos, Bool, true, false, List, map}
use Rattle.std.specs.Prelude.{◌&&◌, Option, Some, None, is_some, Result, Ok, Err}
use Rattle.std.specs.Global.{Vec}
use Rattle.std.proofs.lemmas.Bool.{and_left, and_right}
use Rattle.std.proofs.lemmas.Option.{same_Some}
use Rattle.num_type.specs.Types.{NumericType}
use Rattle.num_type.specs.View.{type_of}
use Rattle.num_type.specs.declared.num_type.NumType.{NumType}
use Rattle.fi_math.specs.declared.fimath.Fimath.{Fimath}
use Rattle.fi_math.specs.declared.governing.Governed.{Governed}
use Rattle.fi_math.specs.declared.governing.Differ.{Differ}
use Rattle.fi_math.specs.Govern.{governed}
use Rattle.fi_math.specs.Made.{Made, Is}
use Rattle.fi_math.specs.Rules.{product_made, complex_product_made}
use Rattle.fi_ops.proofs.Parts.{complex_inside, sub_from_add}
use Rattle.fi_rules.specs.Options.{and_then}
use Rattle.fi_rules.specs.Pairs.{work_made}
use Rattle.fi_rules.specs.Value.{Shape, Val, Fi, ComplexFi}
use Rattle.fi_rules.specs.declared.work.Work.TheVariants as work
use Rattle.fi_eval.specs.Operators.{pairwise, element}
use Rattle.fi_values.specs.Arithmetic.{Operand, Parts, imaginary, governing, result_made, result_parts, fi_value, both_parts}
use Rattle.fi_values.specs.Sums.{made}
use Rattle.eval_value.specs.View.{fi_view, shape_view}
use Rattle.eval_value.specs.declared.fi_value.FiValue.{FiValue}
use Rattle.eval_math.specs.View.{complex_parts, crossed, crossed_parts, framed, in_type, items_of, of_frame, operand_view, parts_view, real_by, real_parts, side_by_side, work_view}
use Rattle.eval_math.specs.declared.frame.Frame.{Frame}
use Rattle.const_eval.specs.declared.element_op.ElementOp.{ElementOp}
use Rattle.const_eval.specs.declared.element_op.ElementOp.TheVariants.{Sum, Difference, Product}
use Rattle.eval_math.proofs.Bound.{bound_some}

-- ---- imaginary parts

pub imaginary_none : (v : FiValue) → v.im ≡ None → map (λ x. pos 0) v.re.items ≡ imaginary (parts_view v)
imaginary_none v e = ap (λ (o : Option (Vec ℤ)). imaginary (record { re = v.re.items; im = items_of o })) (sym e)

pub imaginary_some : (v : FiValue) (p : Vec ℤ) → v.im ≡ Some p → p.items ≡ imaginary (parts_view v)
imaginary_some v p e = ap (λ (o : Option (Vec ℤ)). imaginary (record { re = v.re.items; im = items_of o })) (sym e)

pub real_none : (v : FiValue) → v.im ≡ None → false ≡ is_some (parts_view v).im
real_none v e = ap (λ (o : Option (Vec ℤ)). is_some (items_of o)) (sym e)

pub complex_some : (v : FiValue) (p : Vec ℤ) → v.im ≡ Some p → true ≡ is_some (parts_view v).im
complex_some v p e = ap (λ (o : Option (Vec ℤ)). is_some (items_of o)) (sym e)

pub together_is : (xs ys : List ℤ) → side_by_side xs ys ≡ both_parts xs ys
together_is xs ys = refl

-- ---- types

made_at : (op : ElementOp) (m : Fimath) (a b : NumericType) → result_made (work_view op) false m a b ≡ work_made (work_view op) m a b
unfolding result_made
made_at Sum m a b = refl
made_at Difference m a b = refl
made_at Product m a b = refl

pub made_real : (op : ElementOp) (m : Fimath) (a b t : NumericType) (c : Bool) → c ≡ false → result_made (work_view op) c m a b ≡ Is t → work_made (work_view op) m a b ≡ Is t
made_real op m a b t c h e = sym (made_at op m a b) ∙ ap (λ (d : Bool). result_made (work_view op) d m a b) (sym h) ∙ e

pub made_sum : (o : ElementOp) (m : Fimath) (a b t : NumericType) → o ≡ Sum → result_made (work_view o) true m a b ≡ Is t → work_made (work_view o) m a b ≡ Is t
unfolding result_made
made_sum o m a b t h e =
    ap (λ (x : ElementOp). work_made (work_view x) m a b) h
    ∙ ap (λ (x : ElementOp). result_made (work_view x) true m a b) (sym h)
    ∙ e

pub made_difference : (o : ElementOp) (m : Fimath) (a b t : NumericType) → o ≡ Difference → result_made (work_view o) true m a b ≡ Is t → work_made (work_view o) m a b ≡ Is t
unfolding result_made
made_difference o m a b t h e =
    ap (λ (x : ElementOp). work_made (work_view x) m a b) h
    ∙ ap (λ (x : ElementOp). result_made (work_view x) true m a b) (sym h)
    ∙ e

pub made_product : (o : ElementOp) (m : Fimath) (a b t : NumericType) → o ≡ Product → result_made (work_view o) true m a b ≡ Is t → complex_product_made m a b ≡ Is t
unfolding result_made
made_product o m a b t h e = ap (λ (x : ElementOp). result_made (work_view x) true m a b) (sym h) ∙ e

pub made_both : (o : ElementOp) (m : Fimath) (a b t : NumericType) (p q : Bool) → p ≡ true → q ≡ true → result_made (work_view o) (p && q) m a b ≡ Is t → result_made (work_view o) true m a b ≡ Is t
made_both o m a b t p q h g e = (λ i. result_made (work_view o) (sym h i && sym g i) m a b) ∙ e

-- ---- parts

pub framed_by : (f : Frame) (o : Option Parts) (p : Parts) (x : Operand) → x ≡ of_frame f p → Some p ≡ o → Some x ≡ framed f o
framed_by f o p x e h = bound_some o (λ (r : Parts). Some (of_frame f r)) p (Some x) h (ap Some e)

real_at : (op : ElementOp) (m : Fimath) (t : NumericType) (a b : Operand) → Some (real_parts op m t a b) ≡ result_parts (work_view op) m t a b false false
unfolding result_parts
real_at Sum m t a b = refl
real_at Difference m t a b = refl
real_at Product m t a b = refl

left_at : (op : ElementOp) (m : Fimath) (t : NumericType) (a b : Operand) → Some (crossed_parts op m t a b true false) ≡ result_parts (work_view op) m t a b true false
unfolding result_parts
left_at Sum m t a b = refl
left_at Difference m t a b = refl
left_at Product m t a b = refl

right_at : (op : ElementOp) (m : Fimath) (t : NumericType) (a b : Operand) → Some (crossed_parts op m t a b false true) ≡ result_parts (work_view op) m t a b false true
unfolding result_parts
right_at Sum m t a b = refl
right_at Difference m t a b = refl
right_at Product m t a b = refl

sum_at : (m : Fimath) (t : NumericType) (a b : Operand) → Some (crossed_parts Sum m t a b true true) ≡ result_parts work.Sum m t a b true true
unfolding result_parts
sum_at m t a b = refl

difference_at : (m : Fimath) (t : NumericType) (a b : Operand) → Some (crossed_parts Difference m t a b true true) ≡ result_parts work.Difference m t a b true true
unfolding result_parts
difference_at m t a b = refl

product_at : (m : Fimath) (t u : NumericType) (a b : Operand) → product_made m a.num b.num ≡ Is u → Some (complex_parts m t u a b) ≡ result_parts work.Product m t a b true true
unfolding result_parts made and_then
product_at m t u a b e = rw e refl

abbrev parts_by : Frame → Operand → Operand → Bool → Bool → Option Parts
parts_by f a b p q = result_parts (work_view f.op) f.by.math (type_of f.num) a b p q

-- a result of the frame, whose operands are complex as the flags say
pub of_real : (f : Frame) (a b x : Operand) (p q : Bool) → p ≡ false → q ≡ false → x ≡ of_frame f (real_by f a b) → Some x ≡ framed f (parts_by f a b p q)
of_real f a b x p q h g e =
    framed_by f (parts_by f a b p q) (real_by f a b) x e (real_at f.op f.by.math (type_of f.num) a b ∙ (λ i. parts_by f a b (sym h i) (sym g i)))

pub of_left : (f : Frame) (a b x : Operand) (p q : Bool) → p ≡ true → q ≡ false → x ≡ of_frame f (crossed f a b true false) → Some x ≡ framed f (parts_by f a b p q)
of_left f a b x p q h g e =
    framed_by f (parts_by f a b p q) (crossed f a b true false) x e (left_at f.op f.by.math (type_of f.num) a b ∙ (λ i. parts_by f a b (sym h i) (sym g i)))

pub of_right : (f : Frame) (a b x : Operand) (p q : Bool) → p ≡ false → q ≡ true → x ≡ of_frame f (crossed f a b false true) → Some x ≡ framed f (parts_by f a b p q)
of_right f a b x p q h g e =
    framed_by f (parts_by f a b p q) (crossed f a b false true) x e (right_at f.op f.by.math (type_of f.num) a b ∙ (λ i. parts_by f a b (sym h i) (sym g i)))

pub of_both : (f : Frame) (a b x : Operand) (p q : Bool) → p ≡ true → q ≡ true → Some x ≡ framed f (parts_by f a b true true) → Some x ≡ framed f (parts_by f a b p q)
of_both f a b x p q h g e = e ∙ (λ i. framed f (parts_by f a b (sym h i) (sym g i)))

pub of_sums : (f : Frame) (a b x : Operand) → f.op ≡ Sum → x ≡ of_frame f (crossed f a b true true) → Some x ≡ framed f (parts_by f a b true true)
of_sums f a b x h e =
    framed_by f (parts_by f a b true true) (crossed f a b true true) x e
    (ap (λ (o : ElementOp). Some (crossed_parts o f.by.math (type_of f.num) a b true true)) h
    ∙ sum_at f.by.math (type_of f.num) a b
    ∙ ap (λ (o : ElementOp). result_parts (work_view o) f.by.math (type_of f.num) a b true true) (sym h))

pub of_differences : (f : Frame) (a b x : Operand) → f.op ≡ Difference → x ≡ of_frame f (crossed f a b true true) → Some x ≡ framed f (parts_by f a b true true)
of_differences f a b x h e =
    framed_by f (parts_by f a b true true) (crossed f a b true true) x e
    (ap (λ (o : ElementOp). Some (crossed_parts o f.by.math (type_of f.num) a b true true)) h
    ∙ difference_at f.by.math (type_of f.num) a b
    ∙ ap (λ (o : ElementOp). result_parts (work_view o) f.by.math (type_of f.num) a b true true) (sym h))

pub of_products : (f : Frame) (a b x : Operand) → f.op ≡ Product → Some x ≡ framed f (result_parts work.Product f.by.math (type_of f.num) a b true true) → Some x ≡ framed f (parts_by f a b true true)
of_products f a b x h e = e ∙ ap (λ (o : ElementOp). framed f (result_parts (work_view o) f.by.math (type_of f.num) a b true true)) (sym h)

pub of_complex : (f : Frame) (a b x : Operand) (u : NumericType) → product_made f.by.math a.num b.num ≡ Is u → x ≡ of_frame f (complex_parts f.by.math (type_of f.num) u a b) → Some x ≡ framed f (result_parts work.Product f.by.math (type_of f.num) a b true true)
of_complex f a b x u h e =
    framed_by f (result_parts work.Product f.by.math (type_of f.num) a b true true) (complex_parts f.by.math (type_of f.num) u a b) x e (product_at f.by.math (type_of f.num) u a b h)

-- ---- values

abbrev pub value_of : Operand → Val
value_of o = fi_value o.num o.math o.shape o.parts

fi_from : (t : NumericType) (m : Option Fimath) (s : Shape) (xs : List ℤ) (o : Option (Vec ℤ)) → Val
fi_from t m s xs None = Fi t m s xs
fi_from t m s xs (Some v) = ComplexFi t m s xs v.items

value_from : (t : NumericType) (m : Option Fimath) (s : Shape) (xs : List ℤ) (o : Option (Vec ℤ)) → fi_from t m s xs o ≡ fi_value t m s (record { re = xs; im = items_of o })
unfolding fi_value fi_from
value_from t m s xs None = refl
value_from t m s xs (Some v) = refl

pub value_is : (v : FiValue) → fi_view v ≡ value_of (operand_view v)
unfolding fi_from
value_is v = value_from (type_of v.num) v.math (shape_view v.shape) v.re.items v.im

pub value_framed : (f : Frame) (v : FiValue) (o : Option Parts) → Some (operand_view v) ≡ framed f o → Some (fi_view v) ≡ and_then o (λ r. Some (fi_value (type_of f.num) f.by.attached (shape_view f.shape) r))
unfolding and_then
value_framed f v None e = absurd (no_some (operand_view v) e)
  where
    no_some : (x : Operand) → Some x ≡ None → ⊥
    no_some x h = cc
value_framed f v (Some r) e = ap Some (value_is v ∙ ap value_of (same_Some (operand_view v) (of_frame f r) e))

pub governs : (m n : Option Fimath) (g : Governed) → Ok g ≡ governed m n → Some g ≡ governing m n
unfolding governing
governs m n g e = rw (sym e) refl

pub differs : (m n : Option Fimath) (d : Differ) → Err d ≡ governed m n → None ≡ governing m n
unfolding governing
differs m n d e = rw (sym e) refl

-- ---- frames of the steps of a complex product

pub product_frame : (f g : Frame) (p : NumType) (a b : NumericType) → g ≡ in_type f Product p → product_made f.by.math a b ≡ Is (type_of p) → work_made (work_view g.op) g.by.math a b ≡ Is (type_of g.num)
unfolding work_made
product_frame f g p a b e h = subst (λ (k : Frame). work_made (work_view k.op) k.by.math a b ≡ Is (type_of k.num)) (sym e) h

pub difference_frame : (f g : Frame) (p : NumType) (a b : NumericType) → g ≡ in_type f Difference f.num → product_made f.by.math a b ≡ Is (type_of p) → complex_product_made f.by.math a b ≡ Is (type_of f.num) → work_made (work_view g.op) g.by.math (type_of p) (type_of p) ≡ Is (type_of g.num)
unfolding work_made
difference_frame f g p a b e h k =
    subst (λ (l : Frame). work_made (work_view l.op) l.by.math (type_of p) (type_of p) ≡ Is (type_of l.num)) (sym e)
    (sub_from_add f.by.math (type_of p) (type_of p) (type_of f.num) (complex_inside f.by.math a b (type_of p) (type_of f.num) (sym h) k))

pub sum_frame : (f g : Frame) (p : NumType) (a b : NumericType) → g ≡ in_type f Sum f.num → product_made f.by.math a b ≡ Is (type_of p) → complex_product_made f.by.math a b ≡ Is (type_of f.num) → work_made (work_view g.op) g.by.math (type_of p) (type_of p) ≡ Is (type_of g.num)
unfolding work_made
sum_frame f g p a b e h k =
    subst (λ (l : Frame). work_made (work_view l.op) l.by.math (type_of p) (type_of p) ≡ Is (type_of l.num)) (sym e)
    (complex_inside f.by.math a b (type_of p) (type_of f.num) (sym h) k)
