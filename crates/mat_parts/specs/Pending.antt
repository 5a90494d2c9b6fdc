-- What the state of the parser stands for.
use Rattle.std.specs.Prelude.{◌≡◌, List, [], ◌∷◌, Option, Some, None}
use Rattle.mat_ast.specs.Tree.{Name}
use Rattle.mat_ast.specs.View.{expr_view, args_view, rows_view, block_view, arms_view, funcs_view}
use Rattle.mat_parts.specs.View.{cells_view}
use Rattle.mat_parts.specs.declared.body.Header.{Header}
use Rattle.mat_parts.specs.declared.pending.Frame.{Frame}
use Rattle.mat_parts.specs.declared.pending.Frame.TheVariants as frame
use Rattle.mat_parts.specs.declared.pending.Body.{Body}
use Rattle.mat_parts.specs.declared.pending.Body.TheVariants as body
use Rattle.mat_parts.specs.declared.pending.Around.{Around}
use Rattle.mat_parts.specs.declared.pending.Use.{Use}
use Rattle.mat_parts.specs.declared.pending.Use.TheVariants as used
use Rattle.mat_parts.specs.declared.pending.Purpose.{Purpose}
use Rattle.mat_parts.specs.declared.pending.Purpose.TheVariants as purpose
use Rattle.mat_parts.specs.declared.pending.Caller.{Caller}
use Rattle.mat_parts.specs.declared.pending.Caller.TheVariants as caller
use Rattle.mat_parts.specs.declared.pending.Lister.{Lister}
use Rattle.mat_parts.specs.declared.pending.Lister.TheVariants as lister
use Rattle.mat_parts.specs.declared.pending.Reading.{Reading}
use Rattle.mat_parts.specs.declared.pending.Reading.TheVariants as reading
use Rattle.mat_grammar.specs.Machine as machine
use Rattle.mat_grammar.specs.Machine.{Sign, ExponentSign, Right, Inside, Call, To, ByTo, Cells, Stack, IfBody, ElseBody, WhileBody, ForBody, FunBody, Target, Callee, AssignTo, StoreTo, ArmTest, WhileTest, ForRange, Argument, InValue, InStatement, Outputs, Targets, State, Need, Begun, Listed, Between, Bare, Gap, Have, Within, After, Named, Subscripted, Targeted, Calling, Called, Looping, Looped, Edge, EdgeComma, Listing, ListComma, ListNext, Tail, TailComma, Top, Heading, HeadOut, HeadEqual, HeadName, Params, Param, ParamComma, Headed, Complete, Stuck, header_of}

unfoldable pub frame_view : Frame → machine.Frame
frame_view (frame.Sign at sign) = Sign at sign
frame_view (frame.ExponentSign at sign) = ExponentSign at sign
frame_view (frame.Right at op a) = Right at op (expr_view a.expr)
frame_view (frame.Inside at) = Inside at
frame_view (frame.Call opened given) = Call opened.place opened.text opened.opens (args_view given.args)
frame_view (frame.To at first) = To at (expr_view first.expr)
frame_view (frame.ByTo at first step) = ByTo at (expr_view first.expr) (expr_view step.expr)
frame_view (frame.Cells at grid line) = Cells at (rows_view grid.rows) (cells_view line.cells)

-- the last frame is the top
abbrev pub onto : List Frame → Stack → Stack
onto [] st = st
onto (f ∷ fs) st = onto fs (frame_view f ∷ st)

unfoldable pub stack_of : List Frame → Stack
stack_of fs = onto fs []

unfoldable pub header_view : Header → machine.Header
header_view h = header_of h.outputs h.name h.inputs

unfoldable pub body_view : Body → machine.Around → machine.Around
body_view (body.If before at cases condition) out = IfBody (block_view before.body) at (arms_view cases.arms) (expr_view condition.expr) out
body_view (body.Else before at cases) out = ElseBody (block_view before.body) at (arms_view cases.arms) out
body_view (body.While before at condition) out = WhileBody (block_view before.body) at (expr_view condition.expr) out
body_view (body.For before at to range) out = ForBody (block_view before.body) at to (expr_view range.expr) out

-- the last body is the innermost
abbrev pub within_bodies : List Body → machine.Around → machine.Around
within_bodies [] out = out
within_bodies (b ∷ bs) out = within_bodies bs (body_view b out)

unfoldable pub around_view : Around → machine.Around
around_view a = within_bodies a.bodies (FunBody a.mode (funcs_view a.done.funcs.items) (header_view a.header))

unfoldable pub use_view : Use → machine.Use
use_view (used.Target before out) = Target (block_view before.body) (around_view out)
use_view (used.Callee before targets out) = Callee (block_view before.body) targets (around_view out)

unfoldable pub purpose_view : Purpose → machine.Purpose
purpose_view (purpose.Assign before to out) = AssignTo (block_view before.body) to (around_view out)
purpose_view (purpose.Store before to opens given out) = StoreTo (block_view before.body) to opens (args_view given.args) (around_view out)
purpose_view (purpose.Arm before at cases out) = ArmTest (block_view before.body) at (arms_view cases.arms) (around_view out)
purpose_view (purpose.While before at out) = WhileTest (block_view before.body) at (around_view out)
purpose_view (purpose.For before at to out) = ForRange (block_view before.body) at to (around_view out)
purpose_view (purpose.Argument u opened given) = Argument (use_view u) opened.place opened.text opened.opens (args_view given.args)

unfoldable pub caller_view : Caller → machine.Caller
caller_view (caller.Value pending) = InValue (stack_of pending.frames) (purpose_view pending.purpose)
caller_view (caller.Statement u) = InStatement (use_view u)

unfoldable pub lister_view : Lister → machine.Lister
lister_view (lister.Outputs mode funcs) = Outputs mode (funcs_view funcs.funcs.items)
lister_view (lister.Targets before out) = Targets (block_view before.body) (around_view out)

unfoldable pub state_view : Reading → State
state_view (reading.Need p) = Need (stack_of p.frames) (purpose_view p.purpose)
state_view (reading.Begun c opened) = Begun (caller_view c) opened.place opened.text opened.opens
state_view (reading.Listed c opened given) = Listed (caller_view c) opened.place opened.text opened.opens (args_view given.args)
state_view (reading.Between at grid p) = Between at (rows_view grid.rows) (stack_of p.frames) (purpose_view p.purpose)
state_view (reading.Bare at grid p) = Bare at (rows_view grid.rows) (stack_of p.frames) (purpose_view p.purpose)
state_view (reading.Gap at grid line p) = Gap at (rows_view grid.rows) (cells_view line.cells) (stack_of p.frames) (purpose_view p.purpose)
state_view (reading.Have whole p) = Have (expr_view whole.part.expr) (stack_of p.frames) (purpose_view p.purpose)
state_view (reading.HaveName at text p) = Have (Name at text) (stack_of p.frames) (purpose_view p.purpose)
state_view (reading.Within steps out) = Within (block_view steps.body) (around_view out)
state_view (reading.After steps out) = After (block_view steps.body) (around_view out)
state_view (reading.Named steps to out) = Named (block_view steps.body) to (around_view out)
state_view (reading.Subscripted steps to opens given out) = Subscripted (block_view steps.body) to opens (args_view given.args) (around_view out)
state_view (reading.Targeted steps targets out) = Targeted (block_view steps.body) targets (around_view out)
state_view (reading.Calling steps targets out) = Calling (block_view steps.body) targets (around_view out)
state_view (reading.Called steps targets at text out) = Called (block_view steps.body) targets at text (around_view out)
state_view (reading.Looping steps at out) = Looping (block_view steps.body) at (around_view out)
state_view (reading.Looped steps at to out) = Looped (block_view steps.body) at to (around_view out)
state_view (reading.Edge l) = Edge (lister_view l)
state_view (reading.EdgeComma l) = EdgeComma (lister_view l)
state_view (reading.Listing l names) = Listing (lister_view l) names
state_view (reading.ListComma l names) = ListComma (lister_view l) names
state_view (reading.ListNext l names) = ListNext (lister_view l) names
state_view (reading.Tail l names) = Tail (lister_view l) names
state_view (reading.TailComma l names) = TailComma (lister_view l) names
state_view (reading.Top mode funcs) = Top mode (funcs_view funcs.funcs.items)
state_view (reading.Heading mode funcs) = Heading mode (funcs_view funcs.funcs.items)
state_view (reading.HeadOut mode funcs outputs) = HeadOut mode (funcs_view funcs.funcs.items) outputs
state_view (reading.HeadEqual mode funcs outputs) = HeadEqual mode (funcs_view funcs.funcs.items) outputs
state_view (reading.HeadName mode funcs outputs name) = HeadName mode (funcs_view funcs.funcs.items) outputs name
state_view (reading.Params mode funcs outputs name) = Params mode (funcs_view funcs.funcs.items) outputs name
state_view (reading.Param mode funcs h) = Param mode (funcs_view funcs.funcs.items) (header_view h)
state_view (reading.ParamComma mode funcs h) = ParamComma mode (funcs_view funcs.funcs.items) (header_view h)
state_view (reading.Headed mode funcs h) = Headed mode (funcs_view funcs.funcs.items) (header_view h)
state_view (reading.Complete funcs) = Complete (funcs_view funcs.funcs.items)

-- what comes next is this state, or it is stuck
abbrev pub Goes : Option Reading → State → Type 0
Goes None q = Stuck ≡ q
Goes (Some r) q = state_view r ≡ q
