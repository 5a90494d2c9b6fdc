-- Matrix products of fis.
use Rattle.std.proofs.Common.{◌≡◌, ◌∙◌, refl, sym, ap, subst, ℕ, ℤ, pos, ◌<◌, Bool, true, false, List, get_or, length, map}
use Rattle.std.specs.Prelude.{◌&&◌, ◌||◌, Option, Some, None, IfSome, is_some}
use Rattle.std.specs.Global.{Vec}
use Rattle.std.specs.List.{All}
use Rattle.std.proofs.lemmas.Option.{same_Some}
use Rattle.num_type.specs.Types.{IsInRange, NumericType}
use Rattle.num_type.specs.View.{type_of}
use Rattle.num_type.specs.declared.dyadic.Dyadic.{Dyadic}
use Rattle.num_type.proofs.Constants.{not_true}
use Rattle.fi_math.specs.declared.fimath.Fimath.{Fimath}
use Rattle.fi_math.specs.declared.governing.Governed.{Governed}
use Rattle.fi_rules.specs.declared.work.Work.TheVariants as work
use Rattle.fi_rules.specs.Options.{all_of, and_then}
use Rattle.fi_rules.specs.Value.{Shape, Val, scalar}
use Rattle.fi_values.specs.Arithmetic.{Operand, Parts, fi_value, operands, result_parts}
use Rattle.fi_values.specs.Elements.{picked}
use Rattle.fi_values.specs.Products.{all_parts, at_places, entries, entry, fi_matrix, matrix, picked_parts}
use Rattle.fi_values.specs.Sums.{sum_of}
use Rattle.eval_value.specs.View.{fi_view, number_view, shape_view, value_view}
use Rattle.eval_value.specs.declared.fi_value.FiValue.{FiValue}
use Rattle.eval_value.specs.declared.value.Value.{Value}
use Rattle.eval_value.specs.declared.value.Value.TheVariants as value
use Rattle.eval_math.specs.Classes.{is_number}
use Rattle.eval_math.specs.Matrices.{IsEntry, cells, elements_product, entry_at, or_nought, summed_parts}
use Rattle.eval_math.specs.View.{framed, items_of, of_frame, operand_view, parts_view}
use Rattle.eval_math.specs.declared.accumulation.Accumulation.{Accumulation}
use Rattle.eval_math.specs.declared.frame.Frame.{Frame}
use Rattle.eval_math.proofs.Bound.{bound_none, bound_some}
use Rattle.eval_math.proofs.Composed.{value_is, value_of}
use Rattle.eval_math.proofs.Dispatch.{IsLogical, IsMath, IsOther, IsType, IsWords, fi_of, number_of}
use Rattle.eval_math.proofs.Entries.{entries_are}
use Rattle.eval_math.proofs.Zero.{zero_inside}

-- ---- classes

abbrev of_fis : Val → Val → Option Val
of_fis v u = and_then (operands v u) fi_matrix

fi_case : (t : NumericType) (m : Option Fimath) (s : Shape) (xs : List ℤ) (o : Option (Vec ℤ)) (u : Val) → of_fis (fi_of t m s xs o) u ≡ matrix (fi_of t m s xs o) u
unfolding matrix
fi_case t m s xs None u = refl
fi_case t m s xs (Some v) u = refl

number_fi_case : (s : Shape) (ds : List Dyadic) (q : Option (Vec Dyadic)) (t : NumericType) (m : Option Fimath) (r : Shape) (xs : List ℤ) (o : Option (Vec ℤ)) → of_fis (number_of s ds q) (fi_of t m r xs o) ≡ matrix (number_of s ds q) (fi_of t m r xs o)
unfolding matrix
number_fi_case s ds None t m r xs None = refl
number_fi_case s ds None t m r xs (Some v) = refl
number_fi_case s ds (Some u) t m r xs None = refl
number_fi_case s ds (Some u) t m r xs (Some v) = refl

number_case : (s : Shape) (ds : List Dyadic) (q : Option (Vec Dyadic)) (y : Value) → IsOther y → of_fis (number_of s ds q) (value_view y) ≡ matrix (number_of s ds q) (value_view y)
unfolding matrix
number_case s ds None y IsLogical = refl
number_case s ds None y IsWords = refl
number_case s ds None y IsMath = refl
number_case s ds None y IsType = refl
number_case s ds (Some u) y IsLogical = refl
number_case s ds (Some u) y IsWords = refl
number_case s ds (Some u) y IsMath = refl
number_case s ds (Some u) y IsType = refl

pub matrix_of_fis : (x y : Value) → (is_number x && is_number y) ≡ false → of_fis (value_view x) (value_view y) ≡ matrix (value_view x) (value_view y)
unfolding matrix
matrix_of_fis (value.Fi a) y h = fi_case (type_of a.num) a.math (shape_view a.shape) a.re.items a.im (value_view y)
matrix_of_fis (value.Logical v) y h = refl
matrix_of_fis (value.Words t) y h = refl
matrix_of_fis (value.Math m) y h = refl
matrix_of_fis (value.Type t) y h = refl
matrix_of_fis (value.Number n) (value.Fi b) h = number_fi_case (shape_view n.shape) n.re.items n.im (type_of b.num) b.math (shape_view b.shape) b.re.items b.im
matrix_of_fis (value.Number n) (value.Number o) h = absurd (not_true (sym h))
matrix_of_fis (value.Number n) (value.Logical v) h = number_case (shape_view n.shape) n.re.items n.im (value.Logical v) IsLogical
matrix_of_fis (value.Number n) (value.Words t) h = number_case (shape_view n.shape) n.re.items n.im (value.Words t) IsWords
matrix_of_fis (value.Number n) (value.Math m) h = number_case (shape_view n.shape) n.re.items n.im (value.Math m) IsMath
matrix_of_fis (value.Number n) (value.Type t) h = number_case (shape_view n.shape) n.re.items n.im (value.Type t) IsType

-- ---- an element

-- an operand of its type and its parts alone
bare : NumericType → Parts → Operand
bare n p = record { num = n; math = None; shape = scalar; parts = p }

bare_products : (m : Fimath) (u : NumericType) (a b : Operand) (p q : Bool) → result_parts work.Product m u a b p q ≡ result_parts work.Product m u (bare a.num a.parts) (bare b.num b.parts) p q
unfolding result_parts bare
bare_products m u a b false false = refl
bare_products m u a b false true = refl
bare_products m u a b true false = refl
bare_products m u a b true true = refl

-- the products hang on types and parts alone
same_products : (m : Fimath) (u : NumericType) (a b c d : Operand) (p q x y : Bool) → c.num ≡ a.num → c.parts ≡ a.parts → d.num ≡ b.num → d.parts ≡ b.parts → p ≡ x → q ≡ y → result_parts work.Product m u c d p q ≡ result_parts work.Product m u a b x y
same_products m u a b c d p q x y e f g h k l =
    bare_products m u c d p q
    ∙ (λ i. result_parts work.Product m u (bare (e i) (f i)) (bare (g i) (h i)) (k i) (l i))
    ∙ sym (bare_products m u a b x y)

framed_some : (f : Frame) (o : Option Parts) (x : Operand) → Some x ≡ framed f o → (Some x.parts ≡ o) × (x.num ≡ type_of f.num)
unfolding and_then
framed_some f None x e = absurd (no_some x e)
  where
    no_some : (y : Operand) → Some y ≡ None → ⊥
    no_some y h = cc
framed_some f (Some p) x e =
    let h : x ≡ of_frame f p = same_Some x (of_frame f p) e in
    (ap (λ (y : Operand). Some y.parts) h, ap (λ (y : Operand). y.num) h)

pub framed_parts : (f : Frame) (o : Option Parts) (x : Operand) → Some x ≡ framed f o → Some x.parts ≡ o
framed_parts f o x e = (framed_some f o x e).0

pub framed_type : (f : Frame) (o : Option Parts) (x : Operand) → Some x ≡ framed f o → x.num ≡ type_of f.num
framed_type f o x e = (framed_some f o x e).1

summed_entry : (m : Fimath) (u t : NumericType) (a b : Operand) (is js : List ℕ) (r : Parts) → Some r ≡ result_parts work.Product m u (at_places a is) (at_places b js) (is_some a.parts.im) (is_some b.parts.im) → Some (summed_parts m t u r) ≡ entry m u t a b is js
unfolding and_then
summed_entry m u t a b is js r e = bound_some (result_parts work.Product m u (at_places a is) (at_places b js) (is_some a.parts.im) (is_some b.parts.im)) _ r (Some (summed_parts m t u r)) e refl

pub entry_is : (m : Fimath) (u t : NumericType) (a b c d : Operand) (is js : List ℕ) (p q : Bool) (r : Parts) (v : NumericType) (z : ℤ × Option ℤ) → c.num ≡ a.num → c.parts ≡ picked_parts a.parts is → d.num ≡ b.num → d.parts ≡ picked_parts b.parts js → p ≡ is_some a.parts.im → q ≡ is_some b.parts.im → Some r ≡ result_parts work.Product m u c d p q → v ≡ u → z ≡ summed_parts m t v r → Some z ≡ entry m u t a b is js
entry_is m u t a b c d is js p q r v z e f g h k l s w y =
    ap Some (y ∙ ap (λ (n : NumericType). summed_parts m t n r) w)
    ∙ summed_entry m u t a b is js r (s ∙ same_products m u (at_places a is) (at_places b js) c d p q (is_some a.parts.im) (is_some b.parts.im) e f g h k l)

-- ---- the whole product

pub product_of : (s : Shape) (a b : Operand) (k : Accumulation) (m n : ℕ) (ps : List (ℕ × ℕ)) (zs ws : List (ℤ × Option ℤ)) (c : Bool) (x : FiValue) → m ≡ a.shape.rows → n ≡ b.shape.columns → ps ≡ cells m n → Some zs ≡ all_of (map (entry_at k a b) ps) → ws ≡ zs → c ≡ (is_some a.parts.im || is_some b.parts.im) → operand_view x ≡ record { num = type_of k.sum; math = k.by.attached; shape = s; parts = all_parts c ws } → Some (fi_view x) ≡ elements_product s a b k.by (type_of k.product) (type_of k.sum)
product_of s a b k m n ps zs ws c x d e p f w h g =
    bound_some (all_of (entries a.shape b.shape (entry k.by.math (type_of k.product) (type_of k.sum) a b))) _ zs (Some (fi_view x))
    (f ∙ ap (λ y. all_of (map (entry_at k a b) y)) p ∙ ap all_of (entries_are a.shape b.shape (entry k.by.math (type_of k.product) (type_of k.sum) a b) m n d e))
    (ap Some (value_is x ∙ ap value_of g ∙ (λ i. fi_value (type_of k.sum) k.by.attached s (all_parts (h i) (w i)))))

-- ---- its parts

pub entry_item : (t : NumericType) (zs : List (ℤ × Option ℤ)) (k : ℕ) (z : ℤ × Option ℤ) → k < length zs → z ≡ get_or zs k z → All (IsEntry t) zs → IsEntry t z
entry_item t zs k z l e h = subst (IsEntry t) (sym e) (h k z l)

pub nought_inside : (t : NumericType) (o : Option ℤ) → IfSome o (IsInRange t) → IsInRange t (or_nought o)
nought_inside t None h = zero_inside t
nought_inside t (Some y) h = h

pub complex_parts_are : (c : Bool) (zs : List (ℤ × Option ℤ)) (re im : List ℤ) → c ≡ true → re ≡ map (λ (z : ℤ × Option ℤ). z.0) zs → im ≡ map (λ (z : ℤ × Option ℤ). or_nought z.1) zs → record { re = re; im = Some im } ≡ all_parts c zs
complex_parts_are c zs re im e f g = (λ i. record { re = f i; im = Some (g i) }) ∙ ap (λ (d : Bool). all_parts d zs) (sym e)

pub real_parts_are : (c : Bool) (zs : List (ℤ × Option ℤ)) (re : List ℤ) → c ≡ false → re ≡ map (λ (z : ℤ × Option ℤ). z.0) zs → record { re = re; im = None } ≡ all_parts c zs
real_parts_are c zs re e f = (λ i. record { re = f i; im = None }) ∙ ap (λ (d : Bool). all_parts d zs) (sym e)

-- ---- elements at places

pub picked_real : (v : FiValue) (xs ys : List ℤ) (ks : List ℕ) → v.im ≡ None → xs ≡ v.re.items → ys ≡ picked (pos 0) xs ks → record { re = ys; im = None } ≡ picked_parts (parts_view v) ks
picked_real v xs ys ks e f h =
    (λ i. record { re = (h ∙ ap (λ (w : List ℤ). picked (pos 0) w ks) f) i; im = None })
    ∙ ap (λ (o : Option (Vec ℤ)). picked_parts (record { re = v.re.items; im = items_of o }) ks) (sym e)

pub picked_complex : (v : FiValue) (p : Vec ℤ) (xs ys us vs : List ℤ) (ks : List ℕ) → v.im ≡ Some p → xs ≡ v.re.items → us ≡ p.items → ys ≡ picked (pos 0) xs ks → vs ≡ picked (pos 0) us ks → record { re = ys; im = Some vs } ≡ picked_parts (parts_view v) ks
picked_complex v p xs ys us vs ks e f g h k =
    (λ i. record { re = (h ∙ ap (λ (w : List ℤ). picked (pos 0) w ks) f) i; im = Some ((k ∙ ap (λ (w : List ℤ). picked (pos 0) w ks) g) i) })
    ∙ ap (λ (o : Option (Vec ℤ)). picked_parts (record { re = v.re.items; im = items_of o }) ks) (sym e)

-- ---- totals of parts

pub totals_real : (m : Fimath) (t : NumericType) (v : FiValue) (xs : List ℤ) (z : ℤ) → v.im ≡ None → xs ≡ v.re.items → z ≡ sum_of m t (type_of v.num) xs → (z, None) ≡ summed_parts m t (type_of v.num) (parts_view v)
totals_real m t v xs z e f h =
    (λ i. ((h ∙ ap (sum_of m t (type_of v.num)) f) i, None))
    ∙ ap (λ (o : Option (Vec ℤ)). summed_parts m t (type_of v.num) (record { re = v.re.items; im = items_of o })) (sym e)

pub totals_complex : (m : Fimath) (t : NumericType) (v : FiValue) (p : Vec ℤ) (xs ys : List ℤ) (z w : ℤ) → v.im ≡ Some p → xs ≡ v.re.items → ys ≡ p.items → z ≡ sum_of m t (type_of v.num) xs → w ≡ sum_of m t (type_of v.num) ys → (z, Some w) ≡ summed_parts m t (type_of v.num) (parts_view v)
totals_complex m t v p xs ys z w e f g h k =
    (λ i. ((h ∙ ap (sum_of m t (type_of v.num)) f) i, Some ((k ∙ ap (sum_of m t (type_of v.num)) g) i)))
    ∙ ap (λ (o : Option (Vec ℤ)). summed_parts m t (type_of v.num) (record { re = v.re.items; im = items_of o })) (sym e)
