-- The nodes of a typed tree in the order of the walk: a node behind its parts, a call behind the nodes of its callee.
use Rattle.std.specs.Prelude.{ℕ, List, [], ◌∷◌, ◌++◌, map, codes, Option, Some, None}
use Rattle.fic_base.specs.declared.place.Place.{Place}
use Rattle.shape_rules.specs.TypeText.{type_text, complex_mark}
use Rattle.fi_math.specs.declared.fimath.Fimath.{Fimath}
use Rattle.fi_rules.specs.Decimals.{whole_text, size_text}
use Rattle.fi_rules.specs.Texts.{math_text}
use Rattle.node_rules.specs.Texts.{ty_text, of_shape}
use Rattle.node_rules.specs.Types.{NodeTy, FiNode, IndexNode}
use Rattle.walk_scope.specs.Told.{Told, Passes, Refuses}
use Rattle.source_typing.specs.Setting.{Called}
use Rattle.typed_ir.specs.Tree.{TExp, TNumber, TWords, TRead, TSelect, TBuiltin, TCall, TEnd, TUnary, TBinary, TPost, TRange, TRangeBy, TParen, TMatrix, TArgs, TNoArgs, TAll, TItem, TItems, TNone, TOne, TRows, TNoRows, TRowOn, TSta, TAssign, TStore, TMulti, TIfOnly, TIfElse, TForEach, TWhile, TBreak, TContinue, TArms, TNoArms, TArm, TBlock, TDone, TNext, TFun, Function}

abbrev pub Node : Type 0
Node = Place × NodeTy

abbrev mutual
  pub nodes_of : TExp → List Node
  nodes_of (TNumber at t text imaginary) = (at, t) ∷ []
  nodes_of (TWords at t text) = (at, t) ∷ []
  nodes_of (TRead at t name) = (at, t) ∷ []
  nodes_of (TSelect at t name site args) = nodes_of_args args ++ (at, t) ∷ []
  nodes_of (TBuiltin at t name args) = nodes_of_items args ++ (at, t) ∷ []
  nodes_of (TCall at t callee args outs) = nodes_of_items args ++ (nodes_of_function callee ++ (at, t) ∷ [])
  nodes_of (TEnd at t) = (at, t) ∷ []
  nodes_of (TUnary at t sign e) = nodes_of e ++ (at, t) ∷ []
  nodes_of (TBinary at t o a b) = nodes_of a ++ (nodes_of b ++ (at, t) ∷ [])
  nodes_of (TPost at t mark e) = nodes_of e ++ (at, t) ∷ []
  nodes_of (TRange at t first last) = nodes_of first ++ (nodes_of last ++ (at, t) ∷ [])
  nodes_of (TRangeBy at t first step last) = nodes_of first ++ (nodes_of step ++ (nodes_of last ++ (at, t) ∷ []))
  nodes_of (TParen at t e) = nodes_of e ++ (at, t) ∷ []
  nodes_of (TMatrix at t rows) = nodes_of_rows rows ++ (at, t) ∷ []

  pub nodes_of_args : TArgs → List Node
  nodes_of_args TNoArgs = []
  nodes_of_args (TAll more) = nodes_of_args more
  nodes_of_args (TItem e more) = nodes_of e ++ nodes_of_args more

  pub nodes_of_items : TItems → List Node
  nodes_of_items TNone = []
  nodes_of_items (TOne e more) = nodes_of e ++ nodes_of_items more

  pub nodes_of_rows : TRows → List Node
  nodes_of_rows TNoRows = []
  nodes_of_rows (TRowOn r more) = nodes_of_items r ++ nodes_of_rows more

  pub nodes_of_statement : TSta → List Node
  nodes_of_statement (TAssign to e) = nodes_of e
  nodes_of_statement (TStore to site args e) = nodes_of e ++ nodes_of_args args
  nodes_of_statement (TMulti targets e) = nodes_of e
  nodes_of_statement (TIfOnly at arms) = nodes_of_arms arms
  nodes_of_statement (TIfElse at arms other) = nodes_of_arms arms ++ nodes_of_block other
  nodes_of_statement (TForEach at to bounds first step count body) = nodes_of_items bounds ++ nodes_of_block body
  nodes_of_statement (TWhile at test body) = nodes_of test ++ nodes_of_block body
  nodes_of_statement (TBreak at) = []
  nodes_of_statement (TContinue at) = []

  pub nodes_of_arms : TArms → List Node
  nodes_of_arms TNoArms = []
  nodes_of_arms (TArm test body more) = nodes_of test ++ (nodes_of_block body ++ nodes_of_arms more)

  pub nodes_of_block : TBlock → List Node
  nodes_of_block TDone = []
  nodes_of_block (TNext s more) = nodes_of_statement s ++ nodes_of_block more

  pub nodes_of_function : TFun → List Node
  nodes_of_function (Function name at inputs outputs body) = nodes_of_block body

-- ---- as text

unfoldable pub fimath_behind : Option Fimath → List ℕ
fimath_behind None = []
fimath_behind (Some m) = codes " " ++ math_text m

-- a type as it is shown; of an index also its bounds, and an attached fimath behind a blank
unfoldable pub listed_type : NodeTy → List ℕ
listed_type (FiNode t m c s) = type_text t ++ codes ":" ++ of_shape s ++ complex_mark c ++ fimath_behind m
listed_type (IndexNode lo hi) = codes "index " ++ whole_text lo ++ codes ".." ++ whole_text hi
listed_type t = ty_text t

-- the place of a node, and its type
abbrev pub node_line : Node → List ℕ
node_line n = size_text n.0.line ++ codes ":" ++ size_text n.0.col ++ codes " " ++ listed_type n.1

-- a line for each node of a source that is typed
unfoldable pub node_lines : Told Called → List (List ℕ)
node_lines (Passes r) = map node_line (nodes_of_function r.callee)
node_lines (Refuses code at shown) = []

-- the type of the node that was typed last; there is one where a source has an expression
abbrev pub last_type : List Node → List ℕ
last_type [] = []
last_type (n ∷ []) = listed_type n.1
last_type (n ∷ m ∷ ns) = last_type (m ∷ ns)

unfoldable pub last_line : Told Called → List ℕ
last_line (Passes r) = last_type (nodes_of_function r.callee)
last_line (Refuses code at shown) = []
