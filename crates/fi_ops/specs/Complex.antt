-- Complex elements, and what operations on them give.
use Rattle.std.specs.Prelude.{ℤ}
use Rattle.num_type.specs.Types.{NumericType}
use Rattle.fi_math.specs.declared.fimath.Fimath.{Fimath}
use Rattle.fi_ops.specs.Elements.{Element}
use Rattle.fi_ops.specs.Operations.{multiplied, summed, subtracted, negated}

-- Two stored integers of a type: the real and the imaginary part.
pub record ComplexElement : Type 0 where
  pub num : NumericType
  pub re : ℤ
  pub im : ℤ

-- the real part as an element
abbrev pub real_of : ComplexElement → Element
real_of a = record { num = a.num; z = a.re }

-- and the imaginary one
abbrev pub imaginary_of : ComplexElement → Element
imaginary_of a = record { num = a.num; z = a.im }

-- a sum: both parts follow the rule of real sums
unfoldable pub complex_summed : Fimath → NumericType → ComplexElement → ComplexElement → ComplexElement
complex_summed m t a b = record {
  num = t;
  re = summed m t (real_of a) (real_of b);
  im = summed m t (imaginary_of a) (imaginary_of b);
}

-- a difference
unfoldable pub complex_subtracted : Fimath → NumericType → ComplexElement → ComplexElement → ComplexElement
complex_subtracted m t a b = record {
  num = t;
  re = subtracted m t (real_of a) (real_of b);
  im = subtracted m t (imaginary_of a) (imaginary_of b);
}

-- one of the products of a complex product, in the product type p
abbrev pub partial : Fimath → NumericType → Element → Element → Element
partial m p a b = record { num = p; z = multiplied m p a b }

-- a product: four products in the product type p, then one difference and one sum in the type t
unfoldable pub complex_multiplied : Fimath → NumericType → NumericType → ComplexElement → ComplexElement → ComplexElement
complex_multiplied m p t a b = record {
  num = t;
  re = subtracted m t (partial m p (real_of a) (real_of b)) (partial m p (imaginary_of a) (imaginary_of b));
  im = summed m t (partial m p (real_of a) (imaginary_of b)) (partial m p (imaginary_of a) (real_of b));
}

-- the conjugate: the imaginary part is negated by the rule of real negation
unfoldable pub conjugated : Fimath → ComplexElement → ComplexElement
conjugated m a = record { num = a.num; re = a.re; im = negated m (imaginary_of a) }
