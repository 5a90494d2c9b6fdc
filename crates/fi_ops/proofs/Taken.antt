-- Values taken to a type, from parts under names of their own.
use Rattle.std.proofs.Common.{◌≡◌, sym, ◌∙◌, true, false}
use Rattle.std.specs.Prelude.{ℤ}
use Rattle.std.proofs.lemmas.Bool.{cond-true, cond-false}
use Rattle.num_type.specs.Types.{NumericType}
use Rattle.fi_quant.specs.Numbers.{fitted}
use Rattle.fi_math.specs.declared.fimath.Fimath.{Fimath}
use Rattle.fi_ops.specs.Elements.{Element}
use Rattle.fi_ops.specs.Operations.{common, aligned, taken, joined}

pub taken_at : (m : Fimath) (t : NumericType) (z z' f f' r : ℤ) → z ≡ z' → f ≡ f' → r ≡ taken m t z f → r ≡ taken m t z' f'
taken_at m t z z' f f' r p q e = rw (sym p, sym q) e

-- the exact sum or difference
pub exact_is : (join : ℤ → ℤ → ℤ) (m : Fimath) (t : NumericType) (a b : Element) (f x y s r : ℤ) → f ≡ common a b → x ≡ aligned f a → y ≡ aligned f b → s ≡ join x y → r ≡ taken m t s f
    → r ≡ taken m t (join (aligned (common a b) a) (aligned (common a b) b)) (common a b)
exact_is join m t a b f x y s r e p q h k = rw (sym e, sym p, sym q, sym h) k

pub joined_cast : (join : ℤ → ℤ → ℤ) (m : Fimath) (t : NumericType) (a b : Element) (r : ℤ) → m.cast_before_sum ≡ true
    → r ≡ fitted m.overflow t (join (taken m t a.z a.num.fraction) (taken m t b.z b.num.fraction)) → r ≡ joined join m t a b
unfolding joined
joined_cast join m t a b r c e = e ∙ sym (cond-true m.cast_before_sum _ _ c)

pub joined_exact : (join : ℤ → ℤ → ℤ) (m : Fimath) (t : NumericType) (a b : Element) (r : ℤ) → m.cast_before_sum ≡ false
    → r ≡ taken m t (join (aligned (common a b) a) (aligned (common a b) b)) (common a b) → r ≡ joined join m t a b
unfolding joined
joined_exact join m t a b r c e = e ∙ sym (cond-false m.cast_before_sum _ _ c)
