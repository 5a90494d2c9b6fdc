-- Real and imaginary parts, conjugates, and complex values of two real ones: their conditions in the order of the codes, the types of their
-- results, and their values.
use Rattle.std.specs.Prelude.{pos, false, true, map}
use Rattle.fic_base.specs.declared.code.Code.TheVariants as code
use Rattle.fi_rules.specs.Checked.{Itself}
use Rattle.fi_rules.specs.Value.{Val, Fi, ComplexFi}
use Rattle.fi_eval.specs.Operators.{pairwise}
use Rattle.fi_values.specs.Transposes.{conjugate}
use Rattle.node_rules.specs.Parts.{parts_in}
use Rattle.node_rules.specs.Ruled.{Ruled, Fine, Missing, Shows, ◌>>=◌}
use Rattle.node_rules.specs.TypedPairs.{typed_pair_met, typed_pair_worked}
use Rattle.node_rules.specs.Types.{NodeTy, FiNode, known}

-- a part of a fi is real
unfoldable pub part_ruled : NodeTy → Ruled NodeTy
part_ruled (FiNode t m c s) = Fine (FiNode t m false s)
part_ruled t = Missing code.BadArgument (Shows Itself)

unfoldable pub real_value : NodeTy → Val → Val
real_value (FiNode t m c s) v = Fi t m s (parts_in v).re
real_value t v = known t

-- of a real fi zeros
unfoldable pub imaginary_value : NodeTy → Val → Val
imaginary_value (FiNode t m c s) (ComplexFi u n r xs ys) = Fi t m s ys
imaginary_value (FiNode t m c s) v = Fi t m s (map (λ x. pos 0) (parts_in v).re)
imaginary_value t v = known t

unfoldable pub conjugate_ruled : NodeTy → Ruled NodeTy
conjugate_ruled (FiNode t m c s) = Fine (FiNode t m c s)
conjugate_ruled t = Missing code.BadArgument (Shows Itself)

abbrev pub conjugate_value : Val → Val
conjugate_value v = conjugate v

-- two real fis of one type
abbrev pub complex_ruled : NodeTy → NodeTy → Ruled NodeTy
complex_ruled x y = typed_pair_met x y >>= typed_pair_worked true

unfoldable pub complex_value : NodeTy → Val → Val → Val
complex_value (FiNode t m c s) v w =
    ComplexFi t m s (pairwise (λ x y. x) (parts_in v).re (parts_in w).re) (pairwise (λ x y. y) (parts_in v).re (parts_in w).re)
complex_value t v w = known t
