-- Complex results, from their parts.
use Rattle.std.proofs.Common.{◌≡◌, refl, sym, ◌∙◌, subst, Err}
use Rattle.std.specs.Prelude.{ℤ, ◌+ℤ◌, ◌-ℤ◌}
use Rattle.num_type.specs.Types.{NumericType}
use Rattle.fi_math.specs.declared.fimath.Fimath.{Fimath}
use Rattle.fi_math.specs.declared.types.NoType.{NoType}
use Rattle.fi_math.specs.declared.types.NoType.TheVariants.{TooWide, FractionOut}
use Rattle.fi_math.specs.Made.{Is}
use Rattle.fi_math.specs.View.{made_of}
use Rattle.fi_math.specs.Rules.{add_made, sub_made, product_made, complex_product_made}
use Rattle.fi_math.proofs.Inside.{first_is}
use Rattle.fi_ops.specs.Elements.{Element}
use Rattle.fi_ops.specs.Operations.{joined, multiplied, negated}
use Rattle.fi_ops.specs.Complex.{ComplexElement, real_of, imaginary_of, partial, complex_summed, complex_subtracted, complex_multiplied, conjugated}

-- a complex element by its parts
abbrev parts : NumericType → ℤ → ℤ → ComplexElement
parts n re im = record { num = n; re = re; im = im }

alike : (n : NumericType) (r r' i i' : ℤ) → r ≡ r' → i ≡ i' → parts n r i ≡ parts n r' i'
alike n r r' i i' e f = rw (e, f) refl

joined_at : (join : ℤ → ℤ → ℤ) (m : Fimath) (t : NumericType) (x x' y y' : Element) (r : ℤ) → x ≡ x' → y ≡ y' → r ≡ joined join m t x y → r ≡ joined join m t x' y'
joined_at join m t x x' y y' r e f g = rw (sym e, sym f) g

pub summed_parts : (m : Fimath) (t : NumericType) (a b : ComplexElement) (ra rb ia ib : Element) (r i : ℤ) → ra ≡ real_of a → rb ≡ real_of b → ia ≡ imaginary_of a → ib ≡ imaginary_of b
    → r ≡ joined (λ x y. x +ℤ y) m t ra rb → i ≡ joined (λ x y. x +ℤ y) m t ia ib → parts t r i ≡ complex_summed m t a b
unfolding complex_summed
summed_parts m t a b ra rb ia ib r i e f g h j k =
    alike t r (joined (λ x y. x +ℤ y) m t (real_of a) (real_of b)) i (joined (λ x y. x +ℤ y) m t (imaginary_of a) (imaginary_of b))
    (joined_at (λ x y. x +ℤ y) m t ra (real_of a) rb (real_of b) r e f j) (joined_at (λ x y. x +ℤ y) m t ia (imaginary_of a) ib (imaginary_of b) i g h k)

pub subtracted_parts : (m : Fimath) (t : NumericType) (a b : ComplexElement) (ra rb ia ib : Element) (r i : ℤ) → ra ≡ real_of a → rb ≡ real_of b → ia ≡ imaginary_of a → ib ≡ imaginary_of b
    → r ≡ joined (λ x y. x -ℤ y) m t ra rb → i ≡ joined (λ x y. x -ℤ y) m t ia ib → parts t r i ≡ complex_subtracted m t a b
unfolding complex_subtracted
subtracted_parts m t a b ra rb ia ib r i e f g h j k =
    alike t r (joined (λ x y. x -ℤ y) m t (real_of a) (real_of b)) i (joined (λ x y. x -ℤ y) m t (imaginary_of a) (imaginary_of b))
    (joined_at (λ x y. x -ℤ y) m t ra (real_of a) rb (real_of b) r e f j) (joined_at (λ x y. x -ℤ y) m t ia (imaginary_of a) ib (imaginary_of b) i g h k)

negated_at : (m : Fimath) (x x' : Element) (i : ℤ) → x ≡ x' → i ≡ negated m x → i ≡ negated m x'
negated_at m x x' i e f = rw (sym e) f

pub conjugated_parts : (m : Fimath) (a : ComplexElement) (x : Element) (i : ℤ) → x ≡ imaginary_of a → i ≡ negated m x → parts a.num a.re i ≡ conjugated m a
unfolding conjugated
conjugated_parts m a x i e f = alike a.num a.re a.re i (negated m (imaginary_of a)) refl (negated_at m x (imaginary_of a) i e f)

-- ---- products

element_alike : (n n' : NumericType) (z z' : ℤ) → n ≡ n' → z ≡ z' → (let e : Element = record { num = n; z = z } in e) ≡ (record { num = n'; z = z' })
element_alike n n' z z' e f = rw (e, f) refl

product_at : (m : Fimath) (p : NumericType) (x x' y y' : Element) (z : ℤ) → x ≡ x' → y ≡ y' → z ≡ multiplied m p x y → z ≡ multiplied m p x' y'
product_at m p x x' y y' z e f g = rw (sym e, sym f) g

pub partial_is : (m : Fimath) (p : NumericType) (x x' y y' e : Element) → x ≡ x' → y ≡ y' → e.num ≡ p → e.z ≡ multiplied m p x y → e ≡ partial m p x' y'
partial_is m p x x' y y' e f g h k = element_alike e.num p e.z (multiplied m p x' y') h (product_at m p x x' y y' e.z f g k)

pub multiplied_parts : (m : Fimath) (p t : NumericType) (a b : ComplexElement) (rr ii ri ir : Element) (r i : ℤ)
    → rr ≡ partial m p (real_of a) (real_of b) → ii ≡ partial m p (imaginary_of a) (imaginary_of b) → ri ≡ partial m p (real_of a) (imaginary_of b) → ir ≡ partial m p (imaginary_of a) (real_of b)
    → r ≡ joined (λ x y. x -ℤ y) m t rr ii → i ≡ joined (λ x y. x +ℤ y) m t ri ir → parts t r i ≡ complex_multiplied m p t a b
unfolding complex_multiplied
multiplied_parts m p t a b rr ii ri ir r i e f g h j k =
    alike t r (joined (λ x y. x -ℤ y) m t (partial m p (real_of a) (real_of b)) (partial m p (imaginary_of a) (imaginary_of b))) i (joined (λ x y. x +ℤ y) m t (partial m p (real_of a) (imaginary_of b)) (partial m p (imaginary_of a) (real_of b)))
    (joined_at (λ x y. x -ℤ y) m t rr (partial m p (real_of a) (real_of b)) ii (partial m p (imaginary_of a) (imaginary_of b)) r e f j) (joined_at (λ x y. x +ℤ y) m t ri (partial m p (real_of a) (imaginary_of b)) ir (partial m p (imaginary_of a) (real_of b)) i g h k)

-- the type of a difference is that of the sum
pub sub_from_add : (m : Fimath) (a b t : NumericType) → add_made m a b ≡ Is t → sub_made m a b ≡ Is t
unfolding add_made sub_made
sub_from_add m a b t e = e

pub partial_at : (m : Fimath) (p : NumericType) (x x' y y' e : Element) → x ≡ x' → y ≡ y' → e ≡ partial m p x y → e ≡ partial m p x' y'
partial_at m p x x' y y' e f g h = rw (sym f, sym g) h

same_type : (a b : NumericType) → Is a ≡ Is b → a ≡ b
same_type a b e = cc

-- the sum of two products of a complex product has a type
pub complex_inside : (m : Fimath) (a b p t : NumericType) → Is p ≡ product_made m a b → complex_product_made m a b ≡ Is t → add_made m p p ≡ Is t
unfolding complex_product_made
complex_inside m a b p t e h =
    let f = first_is (product_made m a b) (λ q. add_made m q q) t h in
    let same : f.0 ≡ p = same_type f.0 p (sym (e ∙ f.1)) in
    subst (λ (q : NumericType). add_made m q q ≡ Is t) same f.2

no_type : (none : NoType) (t : NumericType) → made_of (Err none) ≡ Is t → ⊥
no_type (TooWide w) t e = cc
no_type (FractionOut f) t e = cc

-- so its products have one
pub complex_has_product : (m : Fimath) (a b t : NumericType) (none : NoType) → made_of (Err none) ≡ product_made m a b → complex_product_made m a b ≡ Is t → ⊥
unfolding complex_product_made
complex_has_product m a b t none e h =
    let f = first_is (product_made m a b) (λ q. add_made m q q) t h in
    no_type none f.0 (e ∙ f.1)
