-- How deep the least file is that goes on from a state.
use Rattle.std.specs.Prelude.{ℕ, ◌+◌, max, [], ◌∷◌}
use Rattle.mat_ast.specs.Depth.{depth, args_depth, row_depth, rows_depth, arms_depth, block_depth, file_depth}
use Rattle.mat_grammar.specs.Machine.{Frame, Right, Call, To, ByTo, Cells, Stack, Around, IfBody, ElseBody, WhileBody, ForBody, FunBody, Use, Target, Callee, Purpose, AssignTo, StoreTo, ArmTest, WhileTest, ForRange, Argument, Caller, InValue, InStatement, Lister, Outputs, Targets, State, Need, Begun, Listed, Between, Bare, Gap, Have, Within, After, Named, Subscripted, Targeted, Calling, Called, Looping, Looped, Edge, EdgeComma, Listing, ListComma, ListNext, Tail, TailComma, Top, Heading, HeadOut, HeadEqual, HeadName, Params, Param, ParamComma, Headed, Complete, Stuck}

-- a file with a block of this depth inside
abbrev pub around_depth : ℕ → Around → ℕ
around_depth d (IfBody b at arms c out) = around_depth (max (block_depth b) (max (arms_depth arms) (max (depth c) d) + 1)) out
around_depth d (ElseBody b at arms out) = around_depth (max (block_depth b) (max (arms_depth arms) d + 1)) out
around_depth d (WhileBody b at c out) = around_depth (max (block_depth b) (max (depth c) d + 1)) out
around_depth d (ForBody b at to c out) = around_depth (max (block_depth b) (max (depth c) d + 1)) out
around_depth d (FunBody mode fs h) = max (file_depth fs) d

-- a file with arguments of this depth in such parentheses
abbrev pub use_depth : ℕ → Use → ℕ
use_depth d (Target b out) = around_depth (max (block_depth b) (max d 1 + 1)) out
use_depth d (Callee b targets out) = around_depth (max (block_depth b) (d + 1 + 1)) out

-- a file with an expression of this depth for such a purpose
abbrev pub purpose_depth : ℕ → Purpose → ℕ
purpose_depth d (AssignTo b to out) = around_depth (max (block_depth b) (d + 1)) out
purpose_depth d (StoreTo b to opens args out) = around_depth (max (block_depth b) (max (args_depth args) d + 1)) out
purpose_depth d (ArmTest b at arms out) = around_depth (max (block_depth b) (max (arms_depth arms) d + 1)) out
purpose_depth d (WhileTest b at out) = around_depth (max (block_depth b) (d + 1)) out
purpose_depth d (ForRange b at to out) = around_depth (max (block_depth b) (d + 1)) out
purpose_depth d (Argument u at text opens args) = use_depth (max (args_depth args) d) u

-- an expression with a part of this depth below such a frame
abbrev pub frame_depth : Frame → ℕ → ℕ
frame_depth (Right at op a) d = max (depth a) d + 1
frame_depth (Call at text opens args) d = max (args_depth args) d + 1
frame_depth (To at first) d = max (depth first) d + 1
frame_depth (ByTo at first step) d = max (depth first) (max (depth step) d) + 1
frame_depth (Cells at rows row) d = max (rows_depth rows) (max (row_depth row) d) + 1
frame_depth _ d = d + 1

abbrev pub stack_depth : ℕ → Stack → ℕ
stack_depth d [] = d
stack_depth d (f ∷ st) = stack_depth (frame_depth f d) st

-- a file with an operand of this depth
abbrev pub operand_depth : ℕ → Stack → Purpose → ℕ
operand_depth d st k = purpose_depth (stack_depth d st) k

-- an argument may be a colon
abbrev pub whole_depth : Purpose → ℕ
whole_depth (Argument u at text opens args) = use_depth (args_depth args) u
whole_depth k = purpose_depth 1 k

abbrev pub need_depth : Stack → Purpose → ℕ
need_depth [] k = whole_depth k
need_depth (Call at text opens args ∷ st) k = operand_depth (args_depth args + 1) st k
need_depth st k = operand_depth 1 st k

abbrev pub caller_depth : ℕ → Caller → ℕ
caller_depth d (InValue st k) = operand_depth (d + 1) st k
caller_depth d (InStatement u) = use_depth d u

abbrev pub lister_depth : Lister → ℕ
lister_depth (Outputs mode fs) = file_depth fs
lister_depth (Targets b out) = around_depth (max (block_depth b) 2) out

abbrev pub least : State → ℕ
least (Need st k) = need_depth st k
least (Begun c at text opens) = caller_depth 0 c
least (Listed c at text opens args) = caller_depth (args_depth args) c
least (Between at rows st k) = operand_depth (rows_depth rows + 1) st k
least (Bare at rows st k) = operand_depth (rows_depth rows + 1) st k
least (Gap at rows row st k) = operand_depth (max (rows_depth rows) (row_depth row) + 1) st k
least (Have e st k) = operand_depth (depth e) st k
least (Within b out) = around_depth (block_depth b) out
least (After b out) = around_depth (block_depth b) out
least (Named b to out) = around_depth (max (block_depth b) 2) out
least (Subscripted b to opens args out) = around_depth (max (block_depth b) (max (args_depth args) 1 + 1)) out
least (Targeted b targets out) = around_depth (max (block_depth b) 2) out
least (Calling b targets out) = around_depth (max (block_depth b) 2) out
least (Called b targets at text out) = around_depth (max (block_depth b) 2) out
least (Looping b at out) = around_depth (max (block_depth b) 2) out
least (Looped b at to out) = around_depth (max (block_depth b) 2) out
least (Edge l) = lister_depth l
least (EdgeComma l) = lister_depth l
least (Listing l names) = lister_depth l
least (ListComma l names) = lister_depth l
least (ListNext l names) = lister_depth l
least (Tail l names) = lister_depth l
least (TailComma l names) = lister_depth l
least (Top mode fs) = file_depth fs
least (Heading mode fs) = file_depth fs
least (HeadOut mode fs outputs) = file_depth fs
least (HeadEqual mode fs outputs) = file_depth fs
least (HeadName mode fs outputs name) = file_depth fs
least (Params mode fs outputs name) = file_depth fs
least (Param mode fs h) = file_depth fs
least (ParamComma mode fs h) = file_depth fs
least (Headed mode fs h) = file_depth fs
least (Complete fs) = file_depth fs
least Stuck = 0
