-- What elements of the code stand for.
use Rattle.num_type.specs.View.{type_of}
use Rattle.fi_ops.specs.declared.elem.Elem.{Elem}
use Rattle.fi_ops.specs.declared.pair.Pair.{Pair}
use Rattle.fi_ops.specs.Elements.{Element}
use Rattle.fi_ops.specs.Complex.{ComplexElement}

-- what an element stands for
abbrev pub element_of : Elem → Element
element_of e = record { num = type_of e.num; z = e.z }

-- what a complex element stands for
abbrev pub complex_of : Pair → ComplexElement
complex_of a = record { num = type_of a.num; re = a.re; im = a.im }
