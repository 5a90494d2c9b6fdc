-- Two real fis of one type: their conditions in the order of the codes, and the type of what is made of them.
use Rattle.std.specs.Prelude.{Bool, false, Option}
use Rattle.fic_base.specs.declared.code.Code.TheVariants as code
use Rattle.num_type.specs.Types.{NumericType}
use Rattle.fi_math.specs.declared.fimath.Fimath.{Fimath}
use Rattle.fi_math.specs.Govern.{governed}
use Rattle.fi_rules.specs.Checked.{Itself}
use Rattle.fi_rules.specs.Types.{same_type}
use Rattle.fi_rules.specs.Value.{Shape}
use Rattle.node_rules.specs.Pairs.{fits}
use Rattle.node_rules.specs.Ruled.{Ruled, Fine, Missing, Shows, ◌>>=◌, tested, governed_ruled}
use Rattle.node_rules.specs.Types.{NodeTy, FiNode}

pub record TypedPair : Type 0 where
  pub num : NumericType
  pub left : Option Fimath
  pub right : Option Fimath
  -- of the result
  pub shape : Shape

-- before the node is counted
unfoldable pub typed_pair_met : NodeTy → NodeTy → Ruled TypedPair
typed_pair_met (FiNode t m false s) (FiNode u n false r) =
    tested code.BadArgument (Shows Itself) (same_type t u) t
    >>= (λ t. fits s r >>= (λ q. Fine (record { num = t; left = m; right = n; shape = q })))
typed_pair_met x y = Missing code.BadArgument (Shows Itself)

-- behind the counts, complex or not
abbrev pub typed_pair_worked : Bool → TypedPair → Ruled NodeTy
typed_pair_worked c p = governed_ruled (governed p.left p.right) >>= (λ g. Fine (FiNode p.num g.attached c p.shape))
