-- Whether two types of nodes are one: of constants and objects also their values.
use Rattle.std.specs.Prelude.{Bool, true, false, ◌&&◌, List, Option, Some, None}
use mathlib.Core.Bool.{beq}
use Rattle.num_type.specs.Constants.{Exact}
use Rattle.fi_math.specs.Same.{same_fimath}
use Rattle.fi_rules.specs.Types.{same_type, same_attached, same_exacts, same_shape}
use Rattle.node_rules.specs.Types.{NodeTy, FiNode, LogicalNode, NumberNode, MathNode, TypeNode}

unfoldable pub same_parts : Option (List Exact) → Option (List Exact) → Bool
same_parts None None = true
same_parts (Some xs) (Some ys) = same_exacts xs ys
same_parts None (Some ys) = false
same_parts (Some xs) None = false

-- an index or a text has the type of no variable
unfoldable pub same_node : NodeTy → NodeTy → Bool
same_node (FiNode t m c s) (FiNode u n d r) = same_type t u && (same_attached m n && (beq c d && same_shape s r))
same_node (LogicalNode s) (LogicalNode t) = same_shape s t
same_node (NumberNode s xs ys) (NumberNode t us vs) = same_shape s t && (same_exacts xs us && same_parts ys vs)
same_node (MathNode m) (MathNode n) = same_fimath m n
same_node (TypeNode t) (TypeNode u) = same_type t u
same_node t u = false
