-- Functions that ask for a shape: their conditions. The type is the value.
use Rattle.std.specs.Prelude.{ℕ, pos, max, [], ◌∷◌, Option, Some, None}
use Rattle.fic_base.specs.declared.code.Code.TheVariants as code
use Rattle.fi_rules.specs.Checked.{Itself}
use Rattle.fi_rules.specs.Value.{Shape, scalar, count}
use Rattle.fi_meaning.specs.Functions.{natural}
use Rattle.fi_values.specs.Numbers.{constant}
use Rattle.fi_values.specs.Queries.{extent_along}
use Rattle.node_rules.specs.Ruled.{Ruled, Fine, Shows, ◌>>=◌, needed}
use Rattle.node_rules.specs.Types.{NodeTy, FiNode, LogicalNode, NumberNode, known}

-- of a fi, a logical or a number
unfoldable pub asked_shape : NodeTy → Option Shape
asked_shape (FiNode t m c s) = Some s
asked_shape (LogicalNode s) = Some s
asked_shape (NumberNode s xs ys) = Some s
asked_shape t = None

abbrev pub shape_ruled : NodeTy → Ruled Shape
shape_ruled t = needed code.BadArgument (Shows Itself) (asked_shape t)

abbrev pub whole_node : ℕ → NodeTy
whole_node n = NumberNode scalar (constant (pos n) ∷ []) None

abbrev pub numel_ruled : NodeTy → Ruled NodeTy
numel_ruled t = shape_ruled t >>= (λ s. Fine (whole_node (count s)))

abbrev pub length_ruled : NodeTy → Ruled NodeTy
length_ruled t = shape_ruled t >>= (λ s. Fine (whole_node (max s.rows s.columns)))

-- along dimension 1 or 2, which is a constant
abbrev pub size_ruled : NodeTy → NodeTy → Ruled NodeTy
size_ruled t d =
    needed code.BadArgument (Shows Itself) (natural (known d))
    >>= (λ d. shape_ruled t >>= (λ s. needed code.BadArgument (Shows Itself) (extent_along d s) >>= (λ n. Fine (whole_node n))))
