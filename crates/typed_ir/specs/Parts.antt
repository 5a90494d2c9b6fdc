-- Parts of typed trees.
use Rattle.std.specs.Prelude.{List, []}
use Rattle.node_rules.specs.Types.{NodeTy}
use Rattle.typed_ir.specs.Tree.{Slot, TExp, TNumber, TWords, TRead, TSelect, TBuiltin, TCall, TEnd, TUnary, TBinary, TPost, TRange, TRangeBy, TParen, TMatrix, TFun, Function}

-- the type of a node
abbrev pub type_of : TExp → NodeTy
type_of (TNumber at t text imaginary) = t
type_of (TWords at t text) = t
type_of (TRead at t name) = t
type_of (TSelect at t name site args) = t
type_of (TBuiltin at t name args) = t
type_of (TCall at t callee args outs) = t
type_of (TEnd at t) = t
type_of (TUnary at t sign e) = t
type_of (TBinary at t o a b) = t
type_of (TPost at t mark e) = t
type_of (TRange at t first last) = t
type_of (TRangeBy at t first step last) = t
type_of (TParen at t e) = t
type_of (TMatrix at t rows) = t

abbrev pub inputs_of : TFun → List Slot
inputs_of (Function name at inputs outputs body) = inputs

abbrev pub outputs_of : TFun → List Slot
outputs_of (Function name at inputs outputs body) = outputs

-- the outputs of the function that is called; none of another node
unfoldable pub outputs_called : TExp → List Slot
outputs_called (TCall at t callee args outs) = outputs_of callee
outputs_called e = []
