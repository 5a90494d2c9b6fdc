-- Parts as the code makes them, step by step, are the parts of the operations.
use Rattle.std.proofs.Common.{◌≡◌, ℕ, suc, ◌+◌, ◌≤◌, Bool, true, false, ◌⊎◌, refl, sym, ap, ◌∙◌, subst, length}
use Rattle.num_type.specs.Types.{NumericType, IsWithin}
use Rattle.num_type.specs.declared.methods.Overflow.{Overflow}
use Rattle.num_type.specs.declared.methods.Overflow.TheVariants.{Saturate, Wrap}
use Rattle.fi_math.specs.declared.fimath.Fimath.{Fimath}
use Rattle.fi_math.specs.Full.{full_product, full_sum}
use Rattle.fi_math.specs.Made.{Is}
use Rattle.fi_math.specs.Rules.{product_made, add_made, sub_made}
use Rattle.fi_math.proofs.Inside.{product_inside, sum_inside, difference_inside}
use Rattle.c_tree.specs.Tree.{Exp}
use Rattle.lower_scalar.specs.Part.{Part, Operand}
use Rattle.lower_scalar.specs.Shapes.{quantised_part}
use Rattle.lower_scalar.specs.Operators.{product_of, Multiplies, sum_of, Adds, difference_of, difference_type, Subtracts, left_part, right_part, behind, joined_part, sum_fitted, difference_fitted}
use Rattle.lower_scalar.proofs.OperatorParts.{multiplied_is_part}
use Rattle.lower_scalar.proofs.SumParts.{exact_sum_is_part, exact_difference_is_part}
use Rattle.lower_scalar.proofs.CastSums.{CanTake, cast_sum_is_part, cast_difference_is_part}
use Rattle.lower_op.specs.Arguments.{joined_at}
use Rattle.lower_op.specs.Ends.{Joins, fitted}
use Rattle.lower_op.specs.declared.ends.Additive.{Additive}
use Rattle.lower_op.specs.declared.ends.Additive.TheVariants.{Sum, Difference}

-- the type of a result, and operands that read lower variables
pub record Given (t : NumericType) (a b : Operand) (x : ℕ) : Type 0 where
  pub one : 1 ≤ t.word
  pub most : t.word ≤ 64
  pub left : CanTake a x
  pub right : CanTake b x

same_part : (m : Fimath) (t full made : NumericType) (e f : Exp) (x : ℕ) (p : Part) → full ≡ made → e ≡ f → p ≡ quantised_part m.rounding m.overflow t full e x → p ≡ quantised_part m.rounding m.overflow t made f x
same_part m t full made e f x p g h i = i ∙ (ap (λ (j : NumericType). quantised_part m.rounding m.overflow t j e x) g ∙ ap (λ (j : Exp). quantised_part m.rounding m.overflow t made j x) h)

pub product_is : (m : Fimath) (t : NumericType) (a b : Operand) (x : ℕ) (full : NumericType) (e : Exp) (p : Part) → Given t a b x → IsWithin (full_product a.num b.num) → full ≡ full_product a.num b.num → e ≡ product_of a b
    → p ≡ quantised_part m.rounding m.overflow t full e x → Multiplies m t a b x p
product_is m t a b x full e p given w g h i =
    subst (λ (q : Part). Multiplies m t a b x q) (sym (same_part m t full (full_product a.num b.num) e (product_of a b) x p g h i))
    (multiplied_is_part m t a b x given.one given.most given.left.some given.right.some w.bits given.left.reads given.right.reads)

pub sum_is : (m : Fimath) (t : NumericType) (a b : Operand) (x : ℕ) (full : NumericType) (e : Exp) (p : Part) → Given t a b x → IsWithin (full_sum a.num b.num) → (m.cast_before_sum ≡ false) ⊎ (t ≡ full_sum a.num b.num)
    → full ≡ full_sum a.num b.num → e ≡ sum_of a b → p ≡ quantised_part m.rounding m.overflow t full e x → Adds m t a b x p
sum_is m t a b x full e p given w rule g h i =
    subst (λ (q : Part). Adds m t a b x q) (sym (same_part m t full (full_sum a.num b.num) e (sum_of a b) x p g h i))
    (exact_sum_is_part m t a b x given.one given.most (record { left = given.left.some; right = given.right.some; room = w.bits }) rule given.left.reads given.right.reads)

pub difference_is : (m : Fimath) (t : NumericType) (a b : Operand) (x : ℕ) (full wide : NumericType) (e : Exp) (p : Part) → Given t a b x → IsWithin (full_sum a.num b.num) → m.cast_before_sum ≡ false
    → full ≡ full_sum a.num b.num → wide ≡ difference_type full → e ≡ difference_of a b → p ≡ quantised_part m.rounding m.overflow t wide e x → Subtracts m t a b x p
difference_is m t a b x full wide e p given w rule g k h i =
    subst (λ (q : Part). Subtracts m t a b x q) (sym (same_part m t wide (difference_type (full_sum a.num b.num)) e (difference_of a b) x p (k ∙ ap difference_type g) h i))
    (exact_difference_is_part m t a b x given.one given.most (record { left = given.left.some; right = given.right.some; room = w.bits }) rule given.left.reads given.right.reads)

-- two parts one after the other, as the code numbers their variables
joined_is : (m : Fimath) (t : NumericType) (a b : Operand) (x : ℕ) (f : ℕ → Exp) (l r : Part) (next k : ℕ) (e : Exp)
    → l ≡ left_part m t a x → next ≡ x + length l.words → r ≡ left_part m t b next → k ≡ next + length r.words → e ≡ f k
    → joined_at k t.signed l r e ≡ joined_part x t.signed (left_part m t a x) (right_part m t a b x) (f (behind x (left_part m t a x) (right_part m t a b x)))
joined_is m t a b x f l r next k e el en er ek ee = rw ee (rw ek (rw er (rw en (rw el refl))))

fitted_sum : (o : Overflow) (s : Bool) (w x y : ℕ) → fitted Sum o s w x y ≡ sum_fitted o s w x y
fitted_sum Saturate s w x y = refl
fitted_sum Wrap s w x y = refl

fitted_difference : (o : Overflow) (s : Bool) (w x y : ℕ) → fitted Difference o s w x y ≡ difference_fitted o s w x y
fitted_difference Saturate s w x y = refl
fitted_difference Wrap s w x y = refl

pub cast_is : (how : Additive) (m : Fimath) (t : NumericType) (a b : Operand) (x : ℕ) (l r : Part) (next k : ℕ) (e : Exp) (p : Part) → Given t a b x → m.cast_before_sum ≡ true
    → l ≡ left_part m t a x → next ≡ x + length l.words → r ≡ left_part m t b next → k ≡ next + length r.words → e ≡ fitted how m.overflow t.signed t.word k (suc k) → p ≡ joined_at k t.signed l r e → Joins how m t a b x p
cast_is Sum m t a b x l r next k e p given rule el en er ek ee ep =
    subst (λ (q : Part). Adds m t a b x q)
    (sym (ep ∙ joined_is m t a b x (λ i. sum_fitted m.overflow t.signed t.word i (suc i)) l r next k e el en er ek (ee ∙ fitted_sum m.overflow t.signed t.word k (suc k))))
    (cast_sum_is_part m t a b x given.one given.most given.left given.right rule)
cast_is Difference m t a b x l r next k e p given rule el en er ek ee ep =
    subst (λ (q : Part). Subtracts m t a b x q)
    (sym (ep ∙ joined_is m t a b x (λ i. difference_fitted m.overflow t.signed t.word i (suc i)) l r next k e el en er ek (ee ∙ fitted_difference m.overflow t.signed t.word k (suc k))))
    (cast_difference_is_part m t a b x given.one given.most given.left given.right rule)

-- ---- full types within the limits

pub product_within : (m : Fimath) (a b made : NumericType) → product_made m a b ≡ Is made → IsWithin (full_product a b)
product_within m a b made e =
    let i = product_inside m a b made e in
    record { one_bit = i.one_bit; bits = i.bits; least = i.least; most = i.most }

pub sum_within : (m : Fimath) (a b made : NumericType) → add_made m a b ≡ Is made → IsWithin (full_sum a b)
sum_within m a b made e =
    let i = sum_inside m a b made e in
    record { one_bit = i.one_bit; bits = i.bits; least = i.least; most = i.most }

pub difference_within : (m : Fimath) (a b made : NumericType) → sub_made m a b ≡ Is made → IsWithin (full_sum a b)
difference_within m a b made e =
    let i = difference_inside m a b made e in
    record { one_bit = i.one_bit; bits = i.bits; least = i.least; most = i.most }
