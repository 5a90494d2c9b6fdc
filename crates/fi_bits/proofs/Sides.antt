-- Operations on both parts of a complex element, from their parts.
use Rattle.std.proofs.Common.{ℕ, ◌≡◌, refl, sym, ap, ◌∙◌, subst}
use Rattle.std.specs.Prelude.{ℤ}
use Rattle.num_type.specs.Types.{NumericType, IsInRange}
use Rattle.num_type.specs.View.{type_of}
use Rattle.num_type.specs.declared.num_type.NumType.{NumType}
use Rattle.fi_ops.specs.Elements.{Element}
use Rattle.fi_ops.specs.Complex.{ComplexElement, real_of, imaginary_of}
use Rattle.fi_ops.specs.Bits.{sliced}
use Rattle.fi_bits.specs.Parts.{each_part, each_sliced}

-- a complex element by its parts
abbrev parts : NumericType → ℤ → ℤ → ComplexElement
parts n re im = record { num = n; re = re; im = im }

alike : (n n' : NumericType) (r r' i i' : ℤ) → n ≡ n' → r ≡ r' → i ≡ i' → parts n r i ≡ parts n' r' i'
alike n n' r r' i i' e f g = rw (e, f, g) refl

pub each_parts : (f : Element → ℤ) (a : ComplexElement) (re im : Element) (r i : ℤ) → re ≡ real_of a → im ≡ imaginary_of a → r ≡ f re → i ≡ f im → parts a.num r i ≡ each_part f a
unfolding each_part
each_parts f a re im r i e g h k = alike a.num a.num r (f (real_of a)) i (f (imaginary_of a)) refl (h ∙ ap f e) (k ∙ ap f g)

-- both slices have one type
slice_type : (l r : ℕ) (a b : Element) → (sliced l r a).num ≡ (sliced l r b).num
unfolding sliced
slice_type l r a b = refl

pub each_slices : (l r : ℕ) (a : ComplexElement) (re im x y : Element) → re ≡ real_of a → im ≡ imaginary_of a → x ≡ sliced l r re → y ≡ sliced l r im → parts x.num x.z y.z ≡ each_sliced l r a
unfolding each_sliced sliced
each_slices l r a re im x y e g h k =
    let p : x ≡ sliced l r (real_of a) = h ∙ ap (sliced l r) e in
    let q : y ≡ sliced l r (imaginary_of a) = k ∙ ap (sliced l r) g in
    alike x.num (sliced l r (real_of a)).num x.z (sliced l r (real_of a)).z y.z (sliced l r (imaginary_of a)).z (ap (λ (v : Element). v.num) p) (ap (λ (v : Element). v.z) p) (ap (λ (v : Element). v.z) q)

pub same_types : (l r : ℕ) (a : ComplexElement) (re im x y : Element) → re ≡ real_of a → im ≡ imaginary_of a → x ≡ sliced l r re → y ≡ sliced l r im → x.num ≡ y.num
same_types l r a re im x y e g h k = ap (λ (v : Element). v.num) h ∙ slice_type l r re im ∙ sym (ap (λ (v : Element). v.num) k)

-- a stored integer in range, along one type
pub along : (n n' : NumType) (z : ℤ) → n ≡ n' → IsInRange (type_of n) z → IsInRange (type_of n') z
along n n' z e h = subst (λ (t : NumType). IsInRange (type_of t) z) e h

pub across : (t t' : NumericType) (z : ℤ) → t ≡ t' → IsInRange t' z → IsInRange t z
across t t' z e h = rw e h
