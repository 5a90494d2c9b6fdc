-- Complex elements beside real ones.
use Rattle.std.specs.Prelude.{pos}
use Rattle.num_type.specs.Types.{NumericType}
use Rattle.fi_math.specs.declared.fimath.Fimath.{Fimath}
use Rattle.fi_ops.specs.Elements.{Element}
use Rattle.fi_ops.specs.Complex.{ComplexElement, real_of, imaginary_of}
use Rattle.fi_ops.specs.Operations.{multiplied}

-- two real elements of one type as the parts of a complex one
unfoldable pub paired : Element → Element → ComplexElement
paired a b = record { num = a.num; re = a.z; im = b.z }

-- a real element as a complex one: its imaginary part is 0
unfoldable pub widened : Element → ComplexElement
widened a = record { num = a.num; re = a.z; im = pos 0 }

-- a real element times a complex one: two products in the type
unfoldable pub real_times : Fimath → NumericType → Element → ComplexElement → ComplexElement
real_times m t a b = record { num = t; re = multiplied m t a (real_of b); im = multiplied m t a (imaginary_of b) }

-- a complex element times a real one
unfoldable pub times_real : Fimath → NumericType → ComplexElement → Element → ComplexElement
times_real m t a b = record { num = t; re = multiplied m t (real_of a) b; im = multiplied m t (imaginary_of a) b }
