-- Which fronts of token lists go on to a file, and how deep the least one is: no token makes the least file shallower.
use Rattle.std.proofs.Common.{◌≡◌, ◌≢◌, ℕ, ◌+◌, ◌<◌, ◌≤◌, max, Bool, true, false, List, [], ◌∷◌, arith, refl, ap, sym, ◌∙◌, subst, ⊎_elim, inl, inr, Some, None, Option}
use Rattle.std.specs.Prelude.{◌⊎◌, nat_lt, nat_le, if◌then◌else◌}
use Rattle.fic_base.specs.declared.place.Place.{Place}
use Rattle.mat_ast.specs.declared.tree.UnOp.{UnOp}
use Rattle.mat_ast.specs.declared.tree.UnOp.TheVariants as un
use Rattle.mat_ast.specs.declared.tree.BinOp.{BinOp}
use Rattle.mat_ast.specs.declared.tree.BinOp.TheVariants as bin
use Rattle.mat_ast.specs.declared.tree.PostOp.{PostOp}
use Rattle.mat_ast.specs.declared.tree.Ident.{Ident}
use Rattle.mat_ast.specs.Tree.{Exp, Number, Name, Apply, End, Post, Args, NoArgs, Row, RowEnd, Rows, Sta, Assign, Store, Multi, IfOnly, IfElse, ForEach, WhileTrue, BreakOff, GoOn, Arms, Block, Done, Fun}
use Rattle.mat_ast.specs.Depth.{depth, args_depth, row_depth, rows_depth, sta_depth, arms_depth, block_depth, file_depth}
use Rattle.mat_token.specs.Lexeme.{Lexeme}
use Rattle.mat_grammar.specs.Grammar.{rank}
use Rattle.mat_grammar.specs.Words.{word_of, sign_of, unquoted}
use Rattle.mat_grammar.specs.declared.word.Word.{Word}
use Rattle.mat_grammar.specs.declared.word.Word.TheVariants as word
use Rattle.mat_grammar.specs.declared.word.Mode.{Mode}
use Rattle.mat_grammar.specs.declared.word.Mode.TheVariants as mode
use Rattle.mat_grammar.specs.Machine.{Frame, Sign, ExponentSign, Right, Inside, Call, To, ByTo, Cells, Stack, Header, Around, IfBody, ElseBody, WhileBody, ForBody, FunBody, Use, Target, Callee, Purpose, AssignTo, StoreTo, ArmTest, WhileTest, ForRange, Argument, Caller, InValue, InStatement, Lister, Outputs, Targets, State, Need, Begun, Listed, Between, Bare, Gap, Have, Within, After, Named, Subscripted, Targeted, Calling, Called, Looping, Looped, Edge, EdgeComma, Listing, ListComma, ListNext, Tail, TailComma, Top, Heading, HeadOut, HeadEqual, HeadName, Params, Param, ParamComma, Headed, Complete, Stuck, level, top, tightness, rank_of, with_item, with_cell, with_row, with_statement, with_arm, fun_of, with_fun, inside, closed, Operand, settle, caller_stack, caller_purpose, used, applied, argued, with_sign, with_infix, with_text, with_end, argument_colon, with_colon_item, need, begun, listed, between, bare, gap, celled, body_end, body_next, body_finish, arm_ended, statement_ended, body_ended, block_ended, within, after, purposed, closing, ended_in, ended, with_operator, with_turn, with_to, with_by, with_colon, with_open, have, named, subscripted, targeted, calling, called, looping, looped, names_closed, edge, edge_comma, listing, list_comma, list_next, tail, tail_comma, between_functions, heading, head_out, head_equal, headed, header_of, head_name, params, param, param_comma, go, step, finish, steps, run}
use Rattle.mat_grammar.specs.Least.{around_depth, use_depth, purpose_depth, frame_depth, stack_depth, operand_depth, whole_depth, need_depth, caller_depth, lister_depth, least}
use Rattle.mat_grammar.proofs.Depths.{args_depth_item, args_depth_whole, row_depth_cell, rows_depth_row, block_depth_statement, arms_depth_arm, file_depth_fun}

around_grows : (out : Around) (c d : ℕ) → c ≤ d → around_depth c out ≤ around_depth d out
unfolding need begun listed between bare gap celled body_end body_next body_finish arm_ended statement_ended body_ended block_ended within after purposed closing ended_in ended with_operator with_turn with_to with_by with_colon with_open have named subscripted targeted calling called looping looped names_closed edge edge_comma listing list_comma list_next tail tail_comma between_functions heading head_out head_equal headed head_name params param param_comma with_sign with_infix with_text with_end argument_colon with_colon_item used applied argued caller_stack caller_purpose
around_grows (IfBody b at arms e out) c d h = around_grows out _ _ (omega arith)
around_grows (ElseBody b at arms out) c d h = around_grows out _ _ (omega arith)
around_grows (WhileBody b at e out) c d h = around_grows out _ _ (omega arith)
around_grows (ForBody b at to e out) c d h = around_grows out _ _ (omega arith)
around_grows (FunBody mode' fs x) c d h = omega arith

use_grows : (u : Use) (c d : ℕ) → c ≤ d → use_depth c u ≤ use_depth d u
unfolding need begun listed between bare gap celled body_end body_next body_finish arm_ended statement_ended body_ended block_ended within after purposed closing ended_in ended with_operator with_turn with_to with_by with_colon with_open have named subscripted targeted calling called looping looped names_closed edge edge_comma listing list_comma list_next tail tail_comma between_functions heading head_out head_equal headed head_name params param param_comma with_sign with_infix with_text with_end argument_colon with_colon_item used applied argued caller_stack caller_purpose
use_grows (Target b out) c d h = around_grows out _ _ (omega arith)
use_grows (Callee b targets out) c d h = around_grows out _ _ (omega arith)

purpose_grows : (k : Purpose) (c d : ℕ) → c ≤ d → purpose_depth c k ≤ purpose_depth d k
unfolding need begun listed between bare gap celled body_end body_next body_finish arm_ended statement_ended body_ended block_ended within after purposed closing ended_in ended with_operator with_turn with_to with_by with_colon with_open have named subscripted targeted calling called looping looped names_closed edge edge_comma listing list_comma list_next tail tail_comma between_functions heading head_out head_equal headed head_name params param param_comma with_sign with_infix with_text with_end argument_colon with_colon_item used applied argued caller_stack caller_purpose
purpose_grows (AssignTo b to out) c d h = around_grows out _ _ (omega arith)
purpose_grows (StoreTo b to opens args out) c d h = around_grows out _ _ (omega arith)
purpose_grows (ArmTest b at arms out) c d h = around_grows out _ _ (omega arith)
purpose_grows (WhileTest b at out) c d h = around_grows out _ _ (omega arith)
purpose_grows (ForRange b at to out) c d h = around_grows out _ _ (omega arith)
purpose_grows (Argument u at text opens args) c d h = use_grows u _ _ (omega arith)

frame_grows : (f : Frame) (c d : ℕ) → c ≤ d → frame_depth f c ≤ frame_depth f d
unfolding need begun listed between bare gap celled body_end body_next body_finish arm_ended statement_ended body_ended block_ended within after purposed closing ended_in ended with_operator with_turn with_to with_by with_colon with_open have named subscripted targeted calling called looping looped names_closed edge edge_comma listing list_comma list_next tail tail_comma between_functions heading head_out head_equal headed head_name params param param_comma with_sign with_infix with_text with_end argument_colon with_colon_item used applied argued caller_stack caller_purpose
frame_grows (Right at o a) c d h = omega arith
frame_grows (Call at text opens args) c d h = omega arith
frame_grows (To at a) c d h = omega arith
frame_grows (ByTo at a b) c d h = omega arith
frame_grows (Cells at rows row) c d h = omega arith
frame_grows _ c d h = omega arith

stack_grows : (st : Stack) (c d : ℕ) → c ≤ d → stack_depth c st ≤ stack_depth d st
unfolding need begun listed between bare gap celled body_end body_next body_finish arm_ended statement_ended body_ended block_ended within after purposed closing ended_in ended with_operator with_turn with_to with_by with_colon with_open have named subscripted targeted calling called looping looped names_closed edge edge_comma listing list_comma list_next tail tail_comma between_functions heading head_out head_equal headed head_name params param param_comma with_sign with_infix with_text with_end argument_colon with_colon_item used applied argued caller_stack caller_purpose
stack_grows [] c d h = h
stack_grows (f ∷ st) c d h = stack_grows st (frame_depth f c) (frame_depth f d) (frame_grows f c d h)

grows : (st : Stack) (k : Purpose) (c d : ℕ) → c ≤ d → operand_depth c st k ≤ operand_depth d st k
unfolding need begun listed between bare gap celled body_end body_next body_finish arm_ended statement_ended body_ended block_ended within after purposed closing ended_in ended with_operator with_turn with_to with_by with_colon with_open have named subscripted targeted calling called looping looped names_closed edge edge_comma listing list_comma list_next tail tail_comma between_functions heading head_out head_equal headed head_name params param param_comma with_sign with_infix with_text with_end argument_colon with_colon_item used applied argued caller_stack caller_purpose
grows st k c d h = purpose_grows k _ _ (stack_grows st c d h)

pub closed_depth : (f : Frame) (e : Exp) → depth (closed f e) ≡ frame_depth f (depth e)
unfolding need begun listed between bare gap celled body_end body_next body_finish arm_ended statement_ended body_ended block_ended within after purposed closing ended_in ended with_operator with_turn with_to with_by with_colon with_open have named subscripted targeted calling called looping looped names_closed edge edge_comma listing list_comma list_next tail tail_comma between_functions heading head_out head_equal headed head_name params param param_comma with_sign with_infix with_text with_end argument_colon with_colon_item used applied argued caller_stack caller_purpose
closed_depth (Call at text opens args) e = omega (arith, args_depth_item args e)
closed_depth (Cells at rows row) e = omega (arith, rows_depth_row rows (with_cell row e), row_depth_cell row e)
closed_depth (Right at o a) e = refl
closed_depth _ e = refl

settle_depth : (r : ℕ) (e : Exp) (st : Stack) → stack_depth (depth (settle r e st).is) (settle r e st).under ≡ stack_depth (depth e) st
unfolding need begun listed between bare gap celled body_end body_next body_finish arm_ended statement_ended body_ended block_ended within after purposed closing ended_in ended with_operator with_turn with_to with_by with_colon with_open have named subscripted targeted calling called looping looped names_closed edge edge_comma listing list_comma list_next tail tail_comma between_functions heading head_out head_equal headed head_name params param param_comma with_sign with_infix with_text with_end argument_colon with_colon_item used applied argued caller_stack caller_purpose
settle_depth r e [] = refl
settle_depth r e (f ∷ st) = split (settle_depth r (closed f e) st) (nat_lt r (level f))
  where
    split : stack_depth (depth (settle r (closed f e) st).is) (settle r (closed f e) st).under ≡ stack_depth (depth (closed f e)) st → (b : Bool)
        → (λ (o : Operand). stack_depth (depth o.is) o.under) (if b then settle r (closed f e) st else record { is = e; under = f ∷ st }) ≡ stack_depth (depth e) (f ∷ st)
    split ih true = ih ∙ ap (λ d. stack_depth d st) (closed_depth f e)
    split ih false = refl

-- what a state asks at least, unless it is stuck
abbrev pub Asks : ℕ → State → Type 0
Asks d q = (q ≡ Stuck) ⊎ (d ≤ least q)

stuck : (d : ℕ) → Asks d Stuck
unfolding need begun listed between bare gap celled body_end body_next body_finish arm_ended statement_ended body_ended block_ended within after purposed closing ended_in ended with_operator with_turn with_to with_by with_colon with_open have named subscripted targeted calling called looping looped names_closed edge edge_comma listing list_comma list_next tail tail_comma between_functions heading head_out head_equal headed head_name params param param_comma with_sign with_infix with_text with_end argument_colon with_colon_item used applied argued caller_stack caller_purpose
stuck d = inl refl

less_asks : (q : State) (c d : ℕ) → c ≤ d → Asks d q → Asks c q
unfolding need begun listed between bare gap celled body_end body_next body_finish arm_ended statement_ended body_ended block_ended within after purposed closing ended_in ended with_operator with_turn with_to with_by with_colon with_open have named subscripted targeted calling called looping looped names_closed edge edge_comma listing list_comma list_next tail tail_comma between_functions heading head_out head_equal headed head_name params param param_comma with_sign with_infix with_text with_end argument_colon with_colon_item used applied argued caller_stack caller_purpose
less_asks q c d le h = ⊎_elim (λ e. inl e) (λ (x : d ≤ least q). inr (omega arith)) h

need_less : (st : Stack) (k : Purpose) → need_depth st k ≤ operand_depth 1 st k
unfolding need begun listed between bare gap celled body_end body_next body_finish arm_ended statement_ended body_ended block_ended within after purposed closing ended_in ended with_operator with_turn with_to with_by with_colon with_open have named subscripted targeted calling called looping looped names_closed edge edge_comma listing list_comma list_next tail tail_comma between_functions heading head_out head_equal headed head_name params param param_comma with_sign with_infix with_text with_end argument_colon with_colon_item used applied argued caller_stack caller_purpose
need_less [] (Argument u at text opens args) = use_grows u _ _ (omega arith)
need_less [] k = omega arith
need_less (Call name text opens args ∷ st) k = grows st k (args_depth args + 1) (max (args_depth args) 1 + 1) (omega arith)
need_less (f ∷ st) k = omega arith

sign_asks : (at : Place) (sign : UnOp) (st : Stack) (k : Purpose) → Asks (operand_depth 1 st k) (with_sign at sign st k)
unfolding need begun listed between bare gap celled body_end body_next body_finish arm_ended statement_ended body_ended block_ended within after purposed closing ended_in ended with_operator with_turn with_to with_by with_colon with_open have named subscripted targeted calling called looping looped names_closed edge edge_comma listing list_comma list_next tail tail_comma between_functions heading head_out head_equal headed head_name params param param_comma with_sign with_infix with_text with_end argument_colon with_colon_item used applied argued caller_stack caller_purpose
sign_asks at sign st k = split (nat_le (top st) 8)
  where
    split : (b : Bool) → Asks (operand_depth 1 st k) (if b then Need (Sign at sign ∷ st) k else Need (ExponentSign at sign ∷ st) k)
    split true = inr (grows st k 1 2 (omega arith))
    split false = inr (grows st k 1 2 (omega arith))

infix_asks : (at : Place) (o : BinOp) (st : Stack) (k : Purpose) → Asks (operand_depth 1 st k) (with_infix at (sign_of o) st k)
unfolding need begun listed between bare gap celled body_end body_next body_finish arm_ended statement_ended body_ended block_ended within after purposed closing ended_in ended with_operator with_turn with_to with_by with_colon with_open have named subscripted targeted calling called looping looped names_closed edge edge_comma listing list_comma list_next tail tail_comma between_functions heading head_out head_equal headed head_name params param param_comma with_sign with_infix with_text with_end argument_colon with_colon_item used applied argued caller_stack caller_purpose
infix_asks at bin.Add st k = sign_asks at un.Plus st k
infix_asks at bin.Sub st k = sign_asks at un.Minus st k
infix_asks at _ st k = inl refl

text_asks : (at : Place) (o : Option (List ℕ)) (st : Stack) (k : Purpose) → Asks (operand_depth 1 st k) (with_text at o st k)
unfolding need begun listed between bare gap celled body_end body_next body_finish arm_ended statement_ended body_ended block_ended within after purposed closing ended_in ended with_operator with_turn with_to with_by with_colon with_open have named subscripted targeted calling called looping looped names_closed edge edge_comma listing list_comma list_next tail tail_comma between_functions heading head_out head_equal headed head_name params param param_comma with_sign with_infix with_text with_end argument_colon with_colon_item used applied argued caller_stack caller_purpose
text_asks at (Some text) st k = inr (omega arith)
text_asks at None st k = inl refl

end_asks : (at : Place) (st : Stack) (k : Purpose) → Asks (operand_depth 1 st k) (with_end at st k)
unfolding need begun listed between bare gap celled body_end body_next body_finish arm_ended statement_ended body_ended block_ended within after purposed closing ended_in ended with_operator with_turn with_to with_by with_colon with_open have named subscripted targeted calling called looping looped names_closed edge edge_comma listing list_comma list_next tail tail_comma between_functions heading head_out head_equal headed head_name params param param_comma with_sign with_infix with_text with_end argument_colon with_colon_item used applied argued caller_stack caller_purpose
end_asks at st k = split (inside st k)
  where
    split : (b : Bool) → Asks (operand_depth 1 st k) (if b then Have (End at) st k else Stuck)
    split true = inr (omega arith)
    split false = inl refl

argument_colon_asks : (k : Purpose) → Asks (whole_depth k) (argument_colon k)
unfolding need begun listed between bare gap celled body_end body_next body_finish arm_ended statement_ended body_ended block_ended within after purposed closing ended_in ended with_operator with_turn with_to with_by with_colon with_open have named subscripted targeted calling called looping looped names_closed edge edge_comma listing list_comma list_next tail tail_comma between_functions heading head_out head_equal headed head_name params param param_comma with_sign with_infix with_text with_end argument_colon with_colon_item used applied argued caller_stack caller_purpose
argument_colon_asks (Argument u at text opens args) = inr (use_grows u _ _ (omega (arith, args_depth_whole args)))
argument_colon_asks _ = inl refl

colon_item_asks : (st : Stack) (k : Purpose) → Asks (need_depth st k) (with_colon_item st k)
unfolding need begun listed between bare gap celled body_end body_next body_finish arm_ended statement_ended body_ended block_ended within after purposed closing ended_in ended with_operator with_turn with_to with_by with_colon with_open have named subscripted targeted calling called looping looped names_closed edge edge_comma listing list_comma list_next tail tail_comma between_functions heading head_out head_equal headed head_name params param param_comma with_sign with_infix with_text with_end argument_colon with_colon_item used applied argued caller_stack caller_purpose
colon_item_asks (Call name text opens args ∷ st) k = inr (grows st k _ _ (omega (arith, args_depth_whole args)))
colon_item_asks [] k = argument_colon_asks k
colon_item_asks (_ ∷ st) k = inl refl

need_asks : (at : Place) (w : Word) (own : List ℕ) (st : Stack) (k : Purpose) → Asks (need_depth st k) (need at w own st k)
unfolding need begun listed between bare gap celled body_end body_next body_finish arm_ended statement_ended body_ended block_ended within after purposed closing ended_in ended with_operator with_turn with_to with_by with_colon with_open have named subscripted targeted calling called looping looped names_closed edge edge_comma listing list_comma list_next tail tail_comma between_functions heading head_out head_equal headed head_name params param param_comma with_sign with_infix with_text with_end argument_colon with_colon_item used applied argued caller_stack caller_purpose
need_asks at word.Number own st k = inr (need_less st k)
need_asks at word.Name own st k = inr (need_less st k)
need_asks at word.Quoted own st k = less_asks (with_text at (unquoted own) st k) _ _ (need_less st k) (text_asks at (unquoted own) st k)
need_asks at (word.Infix o) own st k = less_asks (with_infix at (sign_of o) st k) _ _ (need_less st k) (infix_asks at o st k)
need_asks at word.Tilde own st k = less_asks (with_sign at un.Not st k) _ _ (need_less st k) (sign_asks at un.Not st k)
need_asks at word.Open own st k = inr (omega (arith, need_less st k, grows st k 1 2 (omega arith)))
need_asks at word.OpenSquare own st k = inr (need_less st k)
need_asks at word.End own st k = less_asks (with_end at st k) _ _ (need_less st k) (end_asks at st k)
need_asks at word.Colon own st k = colon_item_asks st k
need_asks at _ own st k = inl refl

used_asks : (u : Use) (at : Place) (text : List ℕ) (opens : Place) (args : Args) → Asks (use_depth (args_depth args) u) (used u at text opens args)
unfolding need begun listed between bare gap celled body_end body_next body_finish arm_ended statement_ended body_ended block_ended within after purposed closing ended_in ended with_operator with_turn with_to with_by with_colon with_open have named subscripted targeted calling called looping looped names_closed edge edge_comma listing list_comma list_next tail tail_comma between_functions heading head_out head_equal headed head_name params param param_comma with_sign with_infix with_text with_end argument_colon with_colon_item used applied argued caller_stack caller_purpose
used_asks (Target b out) at text opens NoArgs = inl refl
used_asks (Target b out) at text opens args = inr (omega arith)
used_asks (Callee b targets out) at text opens args = inr (around_grows out _ _ (omega (arith, block_depth_statement b (Multi targets (Apply at text opens args)))))

applied_asks : (c : Caller) (at : Place) (text : List ℕ) (opens : Place) (args : Args) → Asks (caller_depth (args_depth args) c) (applied c at text opens args)
unfolding need begun listed between bare gap celled body_end body_next body_finish arm_ended statement_ended body_ended block_ended within after purposed closing ended_in ended with_operator with_turn with_to with_by with_colon with_open have named subscripted targeted calling called looping looped names_closed edge edge_comma listing list_comma list_next tail tail_comma between_functions heading head_out head_equal headed head_name params param param_comma with_sign with_infix with_text with_end argument_colon with_colon_item used applied argued caller_stack caller_purpose
applied_asks (InValue st k) at text opens args = inr (omega arith)
applied_asks (InStatement u) at text opens args = used_asks u at text opens args

-- an argument that is owed
in_depth : (c : Caller) (at : Place) (text : List ℕ) (opens : Place) (args : Args) → need_depth (caller_stack c at text opens args) (caller_purpose c at text opens args) ≡ caller_depth (args_depth args) c
unfolding need begun listed between bare gap celled body_end body_next body_finish arm_ended statement_ended body_ended block_ended within after purposed closing ended_in ended with_operator with_turn with_to with_by with_colon with_open have named subscripted targeted calling called looping looped names_closed edge edge_comma listing list_comma list_next tail tail_comma between_functions heading head_out head_equal headed head_name params param param_comma with_sign with_infix with_text with_end argument_colon with_colon_item used applied argued caller_stack caller_purpose
in_depth (InValue st k) at text opens args = refl
in_depth (InStatement u) at text opens args = refl

begun_asks : (c : Caller) (name : Place) (text : List ℕ) (opens at : Place) (w : Word) (own : List ℕ) → Asks (caller_depth 0 c) (begun c name text opens at w own)
unfolding need begun listed between bare gap celled body_end body_next body_finish arm_ended statement_ended body_ended block_ended within after purposed closing ended_in ended with_operator with_turn with_to with_by with_colon with_open have named subscripted targeted calling called looping looped names_closed edge edge_comma listing list_comma list_next tail tail_comma between_functions heading head_out head_equal headed head_name params param param_comma with_sign with_infix with_text with_end argument_colon with_colon_item used applied argued caller_stack caller_purpose
begun_asks c name text opens at word.Close own = applied_asks c name text opens NoArgs
begun_asks c name text opens at w own = subst (λ d. Asks d (need at w own (caller_stack c name text opens NoArgs) (caller_purpose c name text opens NoArgs))) (in_depth c name text opens NoArgs)
    (need_asks at w own (caller_stack c name text opens NoArgs) (caller_purpose c name text opens NoArgs))

listed_asks : (c : Caller) (name : Place) (text : List ℕ) (opens : Place) (args : Args) (w : Word) → Asks (caller_depth (args_depth args) c) (listed c name text opens args w)
unfolding need begun listed between bare gap celled body_end body_next body_finish arm_ended statement_ended body_ended block_ended within after purposed closing ended_in ended with_operator with_turn with_to with_by with_colon with_open have named subscripted targeted calling called looping looped names_closed edge edge_comma listing list_comma list_next tail tail_comma between_functions heading head_out head_equal headed head_name params param param_comma with_sign with_infix with_text with_end argument_colon with_colon_item used applied argued caller_stack caller_purpose
listed_asks c name text opens args word.Close = applied_asks c name text opens args
listed_asks c name text opens args word.Comma = inr (omega (arith, in_depth c name text opens args))
listed_asks c name text opens args _ = inl refl

argued_asks : (w : Word) (e : Exp) (c : Caller) (name : Place) (text : List ℕ) (opens : Place) (args : Args) → Asks (caller_depth (max (args_depth args) (depth e)) c) (argued w e c name text opens args)
unfolding need begun listed between bare gap celled body_end body_next body_finish arm_ended statement_ended body_ended block_ended within after purposed closing ended_in ended with_operator with_turn with_to with_by with_colon with_open have named subscripted targeted calling called looping looped names_closed edge edge_comma listing list_comma list_next tail tail_comma between_functions heading head_out head_equal headed head_name params param param_comma with_sign with_infix with_text with_end argument_colon with_colon_item used applied argued caller_stack caller_purpose
argued_asks word.Close e c name text opens args = subst (λ d. Asks (caller_depth d c) (applied c name text opens (with_item args e))) (args_depth_item args e) (applied_asks c name text opens (with_item args e))
argued_asks word.Comma e c name text opens args = inr (omega (arith, in_depth c name text opens (with_item args e), ap (λ d. caller_depth d c) (args_depth_item args e)))
argued_asks _ e c name text opens args = inl refl

between_asks : (opens : Place) (rows : Rows) (at : Place) (w : Word) (own : List ℕ) (st : Stack) (k : Purpose) → Asks (operand_depth (rows_depth rows + 1) st k) (between opens rows at w own st k)
unfolding need begun listed between bare gap celled body_end body_next body_finish arm_ended statement_ended body_ended block_ended within after purposed closing ended_in ended with_operator with_turn with_to with_by with_colon with_open have named subscripted targeted calling called looping looped names_closed edge edge_comma listing list_comma list_next tail tail_comma between_functions heading head_out head_equal headed head_name params param param_comma with_sign with_infix with_text with_end argument_colon with_colon_item used applied argued caller_stack caller_purpose
between_asks opens rows at word.Semicolon own st k = inr (omega arith)
between_asks opens rows at word.Newline own st k = inr (omega arith)
between_asks opens rows at word.Comma own st k = inr (omega arith)
between_asks opens rows at word.CloseSquare own st k = inr (omega arith)
between_asks opens rows at w own st k = less_asks (need at w own (Cells opens rows RowEnd ∷ st) k) _ _ (grows st k (rows_depth rows + 1) (max (rows_depth rows) (max 0 1) + 1) (omega arith)) (need_asks at w own (Cells opens rows RowEnd ∷ st) k)

bare_asks : (opens : Place) (rows : Rows) (w : Word) (st : Stack) (k : Purpose) → Asks (operand_depth (rows_depth rows + 1) st k) (bare opens rows w st k)
unfolding need begun listed between bare gap celled body_end body_next body_finish arm_ended statement_ended body_ended block_ended within after purposed closing ended_in ended with_operator with_turn with_to with_by with_colon with_open have named subscripted targeted calling called looping looped names_closed edge edge_comma listing list_comma list_next tail tail_comma between_functions heading head_out head_equal headed head_name params param param_comma with_sign with_infix with_text with_end argument_colon with_colon_item used applied argued caller_stack caller_purpose
bare_asks opens rows word.Semicolon st k = inr (omega arith)
bare_asks opens rows word.Newline st k = inr (omega arith)
bare_asks opens rows word.CloseSquare st k = inr (omega arith)
bare_asks opens rows _ st k = inl refl

row_asks : (rows : Rows) (row : Row) (st : Stack) (k : Purpose) → operand_depth (max (rows_depth rows) (row_depth row) + 1) st k ≤ operand_depth (rows_depth (with_row rows row) + 1) st k
unfolding need begun listed between bare gap celled body_end body_next body_finish arm_ended statement_ended body_ended block_ended within after purposed closing ended_in ended with_operator with_turn with_to with_by with_colon with_open have named subscripted targeted calling called looping looped names_closed edge edge_comma listing list_comma list_next tail tail_comma between_functions heading head_out head_equal headed head_name params param param_comma with_sign with_infix with_text with_end argument_colon with_colon_item used applied argued caller_stack caller_purpose
row_asks rows row st k = grows st k _ _ (omega (arith, rows_depth_row rows row))

gap_asks : (opens : Place) (rows : Rows) (row : Row) (at : Place) (w : Word) (own : List ℕ) (st : Stack) (k : Purpose) → Asks (operand_depth (max (rows_depth rows) (row_depth row) + 1) st k) (gap opens rows row at w own st k)
unfolding need begun listed between bare gap celled body_end body_next body_finish arm_ended statement_ended body_ended block_ended within after purposed closing ended_in ended with_operator with_turn with_to with_by with_colon with_open have named subscripted targeted calling called looping looped names_closed edge edge_comma listing list_comma list_next tail tail_comma between_functions heading head_out head_equal headed head_name params param param_comma with_sign with_infix with_text with_end argument_colon with_colon_item used applied argued caller_stack caller_purpose
gap_asks opens rows row at word.Semicolon own st k = inr (row_asks rows row st k)
gap_asks opens rows row at word.Newline own st k = inr (row_asks rows row st k)
gap_asks opens rows row at word.CloseSquare own st k = inr (row_asks rows row st k)
gap_asks opens rows row at w own st k = less_asks (need at w own (Cells opens rows row ∷ st) k) _ _ (grows st k (max (rows_depth rows) (row_depth row) + 1) (max (rows_depth rows) (max (row_depth row) 1) + 1) (omega arith)) (need_asks at w own (Cells opens rows row ∷ st) k)

celled_asks : (w : Word) (opens : Place) (rows : Rows) (row : Row) (st : Stack) (k : Purpose) → 0 < row_depth row → Asks (operand_depth (max (rows_depth rows) (row_depth row) + 1) st k) (celled w opens rows row st k)
unfolding need begun listed between bare gap celled body_end body_next body_finish arm_ended statement_ended body_ended block_ended within after purposed closing ended_in ended with_operator with_turn with_to with_by with_colon with_open have named subscripted targeted calling called looping looped names_closed edge edge_comma listing list_comma list_next tail tail_comma between_functions heading head_out head_equal headed head_name params param param_comma with_sign with_infix with_text with_end argument_colon with_colon_item used applied argued caller_stack caller_purpose
celled_asks word.Comma opens rows row st k h = inr (omega arith)
celled_asks word.Separator opens rows row st k h = inr (grows st k (max (rows_depth rows) (row_depth row) + 1) (max (rows_depth rows) (max (row_depth row) 1) + 1) (omega arith))
celled_asks word.Semicolon opens rows row st k h = inr (row_asks rows row st k)
celled_asks word.Newline opens rows row st k h = inr (row_asks rows row st k)
celled_asks word.CloseSquare opens rows row st k h = inr (row_asks rows row st k)
celled_asks _ opens rows row st k h = inl refl

positive : (e : Exp) → 0 < depth e
unfolding need begun listed between bare gap celled body_end body_next body_finish arm_ended statement_ended body_ended block_ended within after purposed closing ended_in ended with_operator with_turn with_to with_by with_colon with_open have named subscripted targeted calling called looping looped names_closed edge edge_comma listing list_comma list_next tail tail_comma between_functions heading head_out head_equal headed head_name params param param_comma with_sign with_infix with_text with_end argument_colon with_colon_item used applied argued caller_stack caller_purpose
positive (Number at d i) = omega arith
positive _ = omega arith

pub fun_depth : (fs : List Fun) (h : Header) (b : Block) → file_depth (with_fun fs h b) ≡ max (file_depth fs) (block_depth b)
unfolding need begun listed between bare gap celled body_end body_next body_finish arm_ended statement_ended body_ended block_ended within after purposed closing ended_in ended with_operator with_turn with_to with_by with_colon with_open have named subscripted targeted calling called looping looped names_closed edge edge_comma listing list_comma list_next tail tail_comma between_functions heading head_out head_equal headed head_name params param param_comma with_sign with_infix with_text with_end argument_colon with_colon_item used applied argued caller_stack caller_purpose
fun_depth fs h b = file_depth_fun fs (fun_of h b)

body_end_asks : (m : Mode) (fs : List Fun) → Asks (file_depth fs) (body_end m fs)
unfolding need begun listed between bare gap celled body_end body_next body_finish arm_ended statement_ended body_ended block_ended within after purposed closing ended_in ended with_operator with_turn with_to with_by with_colon with_open have named subscripted targeted calling called looping looped names_closed edge edge_comma listing list_comma list_next tail tail_comma between_functions heading head_out head_equal headed head_name params param param_comma with_sign with_infix with_text with_end argument_colon with_colon_item used applied argued caller_stack caller_purpose
body_end_asks mode.Unended fs = inl refl
body_end_asks _ fs = inr (omega arith)

body_next_asks : (m : Mode) (fs : List Fun) → Asks (file_depth fs) (body_next m fs)
unfolding need begun listed between bare gap celled body_end body_next body_finish arm_ended statement_ended body_ended block_ended within after purposed closing ended_in ended with_operator with_turn with_to with_by with_colon with_open have named subscripted targeted calling called looping looped names_closed edge edge_comma listing list_comma list_next tail tail_comma between_functions heading head_out head_equal headed head_name params param param_comma with_sign with_infix with_text with_end argument_colon with_colon_item used applied argued caller_stack caller_purpose
body_next_asks mode.Ended fs = inl refl
body_next_asks _ fs = inr (omega arith)

body_finish_asks : (m : Mode) (fs : List Fun) → Asks (file_depth fs) (body_finish m fs)
unfolding need begun listed between bare gap celled body_end body_next body_finish arm_ended statement_ended body_ended block_ended within after purposed closing ended_in ended with_operator with_turn with_to with_by with_colon with_open have named subscripted targeted calling called looping looped names_closed edge edge_comma listing list_comma list_next tail tail_comma between_functions heading head_out head_equal headed head_name params param param_comma with_sign with_infix with_text with_end argument_colon with_colon_item used applied argued caller_stack caller_purpose
body_finish_asks mode.Ended fs = inl refl
body_finish_asks _ fs = inr (omega arith)

body_asks : (w : Word) (m : Mode) (fs : List Fun) → Asks (file_depth fs) (body_ended w m fs)
unfolding need begun listed between bare gap celled body_end body_next body_finish arm_ended statement_ended body_ended block_ended within after purposed closing ended_in ended with_operator with_turn with_to with_by with_colon with_open have named subscripted targeted calling called looping looped names_closed edge edge_comma listing list_comma list_next tail tail_comma between_functions heading head_out head_equal headed head_name params param param_comma with_sign with_infix with_text with_end argument_colon with_colon_item used applied argued caller_stack caller_purpose
body_asks word.End m fs = body_end_asks m fs
body_asks word.Function m fs = body_next_asks m fs
body_asks word.Finish m fs = body_finish_asks m fs
body_asks _ m fs = inl refl

arm_asks : (w : Word) (before : Block) (at : Place) (arms : Arms) (out : Around) → Asks (around_depth (max (block_depth before) (arms_depth arms + 1)) out) (arm_ended w before at arms out)
unfolding need begun listed between bare gap celled body_end body_next body_finish arm_ended statement_ended body_ended block_ended within after purposed closing ended_in ended with_operator with_turn with_to with_by with_colon with_open have named subscripted targeted calling called looping looped names_closed edge edge_comma listing list_comma list_next tail tail_comma between_functions heading head_out head_equal headed head_name params param param_comma with_sign with_infix with_text with_end argument_colon with_colon_item used applied argued caller_stack caller_purpose
arm_asks word.ElseIf before at arms out = inr (around_grows out _ _ (omega arith))
arm_asks word.Else before at arms out = inr (around_grows out _ _ (omega arith))
arm_asks word.End before at arms out = inr (around_grows out _ _ (omega (arith, block_depth_statement before (IfOnly at arms))))
arm_asks _ before at arms out = inl refl

statement_asks : (w : Word) (before : Block) (s : Sta) (out : Around) → Asks (around_depth (max (block_depth before) (sta_depth s)) out) (statement_ended w before s out)
unfolding need begun listed between bare gap celled body_end body_next body_finish arm_ended statement_ended body_ended block_ended within after purposed closing ended_in ended with_operator with_turn with_to with_by with_colon with_open have named subscripted targeted calling called looping looped names_closed edge edge_comma listing list_comma list_next tail tail_comma between_functions heading head_out head_equal headed head_name params param param_comma with_sign with_infix with_text with_end argument_colon with_colon_item used applied argued caller_stack caller_purpose
statement_asks word.End before s out = inr (around_grows out _ _ (omega (arith, block_depth_statement before s)))
statement_asks _ before s out = inl refl

block_asks : (w : Word) (b : Block) (out : Around) → Asks (around_depth (block_depth b) out) (block_ended w b out)
unfolding need begun listed between bare gap celled body_end body_next body_finish arm_ended statement_ended body_ended block_ended within after purposed closing ended_in ended with_operator with_turn with_to with_by with_colon with_open have named subscripted targeted calling called looping looped names_closed edge edge_comma listing list_comma list_next tail tail_comma between_functions heading head_out head_equal headed head_name params param param_comma with_sign with_infix with_text with_end argument_colon with_colon_item used applied argued caller_stack caller_purpose
block_asks w b (IfBody before at arms c out) = less_asks (arm_ended w before at (with_arm arms c b) out) _ _ (around_grows out _ _ (omega (arith, arms_depth_arm arms c b))) (arm_asks w before at (with_arm arms c b) out)
block_asks w b (ElseBody before at arms out) = statement_asks w before (IfElse at arms b) out
block_asks w b (WhileBody before at c out) = statement_asks w before (WhileTrue at c b) out
block_asks w b (ForBody before at to c out) = statement_asks w before (ForEach at to c b) out
block_asks w b (FunBody m fs h) = less_asks (body_ended w m (with_fun fs h b)) _ _ (omega (arith, fun_depth fs h b)) (body_asks w m (with_fun fs h b))

within_asks : (at : Place) (w : Word) (own : List ℕ) (b : Block) (out : Around) → Asks (around_depth (block_depth b) out) (within at w own b out)
unfolding need begun listed between bare gap celled body_end body_next body_finish arm_ended statement_ended body_ended block_ended within after purposed closing ended_in ended with_operator with_turn with_to with_by with_colon with_open have named subscripted targeted calling called looping looped names_closed edge edge_comma listing list_comma list_next tail tail_comma between_functions heading head_out head_equal headed head_name params param param_comma with_sign with_infix with_text with_end argument_colon with_colon_item used applied argued caller_stack caller_purpose
within_asks at word.Newline own b out = inr (omega arith)
within_asks at word.Semicolon own b out = inr (omega arith)
within_asks at word.Comma own b out = inr (omega arith)
within_asks at word.Name own b out = inr (around_grows out _ _ (omega arith))
within_asks at word.OpenSquare own b out = inr (around_grows out _ _ (omega arith))
within_asks at word.If own b out = inr (around_grows out _ _ (omega arith))
within_asks at word.For own b out = inr (around_grows out _ _ (omega arith))
within_asks at word.While own b out = inr (around_grows out _ _ (omega arith))
within_asks at word.Break own b out = inr (around_grows out _ _ (omega (arith, block_depth_statement b (BreakOff at))))
within_asks at word.Continue own b out = inr (around_grows out _ _ (omega (arith, block_depth_statement b (GoOn at))))
within_asks at w own b out = block_asks w b out

after_asks : (w : Word) (b : Block) (out : Around) → Asks (around_depth (block_depth b) out) (after w b out)
unfolding need begun listed between bare gap celled body_end body_next body_finish arm_ended statement_ended body_ended block_ended within after purposed closing ended_in ended with_operator with_turn with_to with_by with_colon with_open have named subscripted targeted calling called looping looped names_closed edge edge_comma listing list_comma list_next tail tail_comma between_functions heading head_out head_equal headed head_name params param param_comma with_sign with_infix with_text with_end argument_colon with_colon_item used applied argued caller_stack caller_purpose
after_asks word.Newline b out = inr (omega arith)
after_asks word.Semicolon b out = inr (omega arith)
after_asks word.Comma b out = inr (omega arith)
after_asks w b out = block_asks w b out

purposed_asks : (at : Place) (w : Word) (own : List ℕ) (e : Exp) (k : Purpose) → Asks (purpose_depth (depth e) k) (purposed at w own e k)
unfolding need begun listed between bare gap celled body_end body_next body_finish arm_ended statement_ended body_ended block_ended within after purposed closing ended_in ended with_operator with_turn with_to with_by with_colon with_open have named subscripted targeted calling called looping looped names_closed edge edge_comma listing list_comma list_next tail tail_comma between_functions heading head_out head_equal headed head_name params param param_comma with_sign with_infix with_text with_end argument_colon with_colon_item used applied argued caller_stack caller_purpose
purposed_asks at w own e (AssignTo b to out) = less_asks (after w (with_statement b (Assign to e)) out) _ _ (around_grows out _ _ (omega (arith, block_depth_statement b (Assign to e)))) (after_asks w (with_statement b (Assign to e)) out)
purposed_asks at w own e (StoreTo b to opens args out) = less_asks (after w (with_statement b (Store to opens args e)) out) _ _ (around_grows out _ _ (omega (arith, block_depth_statement b (Store to opens args e)))) (after_asks w (with_statement b (Store to opens args e)) out)
purposed_asks at w own e (ArmTest b opens arms out) = less_asks (within at w own Done (IfBody b opens arms e out)) _ _ (around_grows out _ _ (omega arith)) (within_asks at w own Done (IfBody b opens arms e out))
purposed_asks at w own e (WhileTest b opens out) = less_asks (within at w own Done (WhileBody b opens e out)) _ _ (around_grows out _ _ (omega arith)) (within_asks at w own Done (WhileBody b opens e out))
purposed_asks at w own e (ForRange b opens to out) = less_asks (within at w own Done (ForBody b opens to e out)) _ _ (around_grows out _ _ (omega arith)) (within_asks at w own Done (ForBody b opens to e out))
purposed_asks at w own e (Argument u name text opens args) = argued_asks w e (InStatement u) name text opens args

closing_asks : (w : Word) (e : Exp) (opens : Place) (st : Stack) (k : Purpose) → Asks (operand_depth (depth e + 1) st k) (closing w e opens st k)
unfolding need begun listed between bare gap celled body_end body_next body_finish arm_ended statement_ended body_ended block_ended within after purposed closing ended_in ended with_operator with_turn with_to with_by with_colon with_open have named subscripted targeted calling called looping looped names_closed edge edge_comma listing list_comma list_next tail tail_comma between_functions heading head_out head_equal headed head_name params param param_comma with_sign with_infix with_text with_end argument_colon with_colon_item used applied argued caller_stack caller_purpose
closing_asks word.Close e opens st k = inr (omega arith)
closing_asks _ e opens st k = inl refl

in_asks : (w : Word) (e : Exp) (f : Frame) (st : Stack) (k : Purpose) → Asks (operand_depth (depth e) (f ∷ st) k) (ended_in w e f st k)
unfolding need begun listed between bare gap celled body_end body_next body_finish arm_ended statement_ended body_ended block_ended within after purposed closing ended_in ended with_operator with_turn with_to with_by with_colon with_open have named subscripted targeted calling called looping looped names_closed edge edge_comma listing list_comma list_next tail tail_comma between_functions heading head_out head_equal headed head_name params param param_comma with_sign with_infix with_text with_end argument_colon with_colon_item used applied argued caller_stack caller_purpose
in_asks w e (Inside opens) st k = closing_asks w e opens st k
in_asks w e (Call name text opens args) st k = argued_asks w e (InValue st k) name text opens args
in_asks w e (Cells opens rows row) st k = less_asks (celled w opens rows (with_cell row e) st k) _ _ (grows st k _ _ (omega (arith, row_depth_cell row e))) (celled_asks w opens rows (with_cell row e) st k (omega (arith, row_depth_cell row e, positive e)))
in_asks w e _ st k = inl refl

ended_asks : (at : Place) (w : Word) (own : List ℕ) (e : Exp) (st : Stack) (k : Purpose) → Asks (operand_depth (depth e) st k) (ended at w own e st k)
unfolding need begun listed between bare gap celled body_end body_next body_finish arm_ended statement_ended body_ended block_ended within after purposed closing ended_in ended with_operator with_turn with_to with_by with_colon with_open have named subscripted targeted calling called looping looped names_closed edge edge_comma listing list_comma list_next tail tail_comma between_functions heading head_out head_equal headed head_name params param param_comma with_sign with_infix with_text with_end argument_colon with_colon_item used applied argued caller_stack caller_purpose
ended_asks at w own e [] k = purposed_asks at w own e k
ended_asks at w own e (f ∷ st) k = in_asks w e f st k

operator_asks : (at : Place) (o : BinOp) (e : Exp) (st : Stack) (k : Purpose) → Asks (operand_depth (depth e) st k) (with_operator at o e st k)
unfolding need begun listed between bare gap celled body_end body_next body_finish arm_ended statement_ended body_ended block_ended within after purposed closing ended_in ended with_operator with_turn with_to with_by with_colon with_open have named subscripted targeted calling called looping looped names_closed edge edge_comma listing list_comma list_next tail tail_comma between_functions heading head_out head_equal headed head_name params param param_comma with_sign with_infix with_text with_end argument_colon with_colon_item used applied argued caller_stack caller_purpose
operator_asks at o e st k = split (nat_le (rank o) (rank_of e))
  where
    split : (b : Bool) → Asks (operand_depth (depth e) st k) (if b then Need (Right at o e ∷ st) k else Stuck)
    split true = inr (grows st k (depth e) (max (depth e) 1 + 1) (omega arith))
    split false = inl refl

turn_asks : (at : Place) (mark : PostOp) (e : Exp) (st : Stack) (k : Purpose) → Asks (operand_depth (depth e) st k) (with_turn at mark e st k)
unfolding need begun listed between bare gap celled body_end body_next body_finish arm_ended statement_ended body_ended block_ended within after purposed closing ended_in ended with_operator with_turn with_to with_by with_colon with_open have named subscripted targeted calling called looping looped names_closed edge edge_comma listing list_comma list_next tail tail_comma between_functions heading head_out head_equal headed head_name params param param_comma with_sign with_infix with_text with_end argument_colon with_colon_item used applied argued caller_stack caller_purpose
turn_asks at mark e st k = split (nat_le 10 (rank_of e))
  where
    split : (b : Bool) → Asks (operand_depth (depth e) st k) (if b then Have (Post at mark e) st k else Stuck)
    split true = inr (grows st k (depth e) (depth e + 1) (omega arith))
    split false = inl refl

to_asks : (at : Place) (e : Exp) (st : Stack) (k : Purpose) → Asks (operand_depth (depth e) st k) (with_to at e st k)
unfolding need begun listed between bare gap celled body_end body_next body_finish arm_ended statement_ended body_ended block_ended within after purposed closing ended_in ended with_operator with_turn with_to with_by with_colon with_open have named subscripted targeted calling called looping looped names_closed edge edge_comma listing list_comma list_next tail tail_comma between_functions heading head_out head_equal headed head_name params param param_comma with_sign with_infix with_text with_end argument_colon with_colon_item used applied argued caller_stack caller_purpose
to_asks at e st k = split (nat_le 6 (rank_of e))
  where
    split : (b : Bool) → Asks (operand_depth (depth e) st k) (if b then Need (To at e ∷ st) k else Stuck)
    split true = inr (grows st k (depth e) (max (depth e) 1 + 1) (omega arith))
    split false = inl refl

by_asks : (at : Place) (first e : Exp) (st : Stack) (k : Purpose) → Asks (operand_depth (max (depth first) (depth e) + 1) st k) (with_by at first e st k)
unfolding need begun listed between bare gap celled body_end body_next body_finish arm_ended statement_ended body_ended block_ended within after purposed closing ended_in ended with_operator with_turn with_to with_by with_colon with_open have named subscripted targeted calling called looping looped names_closed edge edge_comma listing list_comma list_next tail tail_comma between_functions heading head_out head_equal headed head_name params param param_comma with_sign with_infix with_text with_end argument_colon with_colon_item used applied argued caller_stack caller_purpose
by_asks at first e st k = split (nat_le 6 (rank_of e))
  where
    split : (b : Bool) → Asks (operand_depth (max (depth first) (depth e) + 1) st k) (if b then Need (ByTo at first e ∷ st) k else Stuck)
    split true = inr (grows st k (max (depth first) (depth e) + 1) (max (depth first) (max (depth e) 1) + 1) (omega arith))
    split false = inl refl

right_asks : (at opens : Place) (o : BinOp) (a e : Exp) (st : Stack) (k : Purpose) → Asks (operand_depth (depth e) (Right opens o a ∷ st) k) (with_colon at e (Right opens o a ∷ st) k)
unfolding need begun listed between bare gap celled body_end body_next body_finish arm_ended statement_ended body_ended block_ended within after purposed closing ended_in ended with_operator with_turn with_to with_by with_colon with_open have named subscripted targeted calling called looping looped names_closed edge edge_comma listing list_comma list_next tail tail_comma between_functions heading head_out head_equal headed head_name params param param_comma with_sign with_infix with_text with_end argument_colon with_colon_item used applied argued caller_stack caller_purpose
right_asks at opens o a e st k = split (nat_le (rank o + 1) 5)
  where
    split : (b : Bool) → Asks (operand_depth (depth e) (Right opens o a ∷ st) k) (if b then with_to at e (Right opens o a ∷ st) k else Stuck)
    split true = to_asks at e (Right opens o a ∷ st) k
    split false = inl refl

colon_asks : (at : Place) (e : Exp) (st : Stack) (k : Purpose) → Asks (operand_depth (depth e) st k) (with_colon at e st k)
unfolding need begun listed between bare gap celled body_end body_next body_finish arm_ended statement_ended body_ended block_ended within after purposed closing ended_in ended with_operator with_turn with_to with_by with_colon with_open have named subscripted targeted calling called looping looped names_closed edge edge_comma listing list_comma list_next tail tail_comma between_functions heading head_out head_equal headed head_name params param param_comma with_sign with_infix with_text with_end argument_colon with_colon_item used applied argued caller_stack caller_purpose
colon_asks at e (To opens first ∷ st) k = by_asks opens first e st k
colon_asks at e (ByTo opens first by ∷ st) k = inl refl
colon_asks at e (Right opens o a ∷ st) k = right_asks at opens o a e st k
colon_asks at e (Sign opens sign ∷ st) k = inl refl
colon_asks at e (ExponentSign opens sign ∷ st) k = inl refl
colon_asks at e [] k = to_asks at e [] k
colon_asks at e (f ∷ st) k = to_asks at e (f ∷ st) k

open_asks : (at : Place) (e : Exp) (st : Stack) (k : Purpose) → Asks (operand_depth (depth e) st k) (with_open at e st k)
unfolding need begun listed between bare gap celled body_end body_next body_finish arm_ended statement_ended body_ended block_ended within after purposed closing ended_in ended with_operator with_turn with_to with_by with_colon with_open have named subscripted targeted calling called looping looped names_closed edge edge_comma listing list_comma list_next tail tail_comma between_functions heading head_out head_equal headed head_name params param param_comma with_sign with_infix with_text with_end argument_colon with_colon_item used applied argued caller_stack caller_purpose
open_asks at (Name name text) st k = inr (omega arith)
open_asks at _ st k = inl refl

have_asks : (at : Place) (w : Word) (own : List ℕ) (e : Exp) (st : Stack) (k : Purpose) → Asks (operand_depth (depth e) st k) (have at w own e st k)
unfolding need begun listed between bare gap celled body_end body_next body_finish arm_ended statement_ended body_ended block_ended within after purposed closing ended_in ended with_operator with_turn with_to with_by with_colon with_open have named subscripted targeted calling called looping looped names_closed edge edge_comma listing list_comma list_next tail tail_comma between_functions heading head_out head_equal headed head_name params param param_comma with_sign with_infix with_text with_end argument_colon with_colon_item used applied argued caller_stack caller_purpose
have_asks at (word.Infix o) own e st k = operator_asks at o e st k
have_asks at (word.Turn mark) own e st k = turn_asks at mark e st k
have_asks at word.Open own e st k = open_asks at e st k
have_asks at word.Colon own e st k = colon_asks at e st k
have_asks at w own e st k = ended_asks at w own e st k

named_asks : (w : Word) (at : Place) (b : Block) (to : Ident) (out : Around) → Asks (around_depth (max (block_depth b) 2) out) (named w at b to out)
unfolding need begun listed between bare gap celled body_end body_next body_finish arm_ended statement_ended body_ended block_ended within after purposed closing ended_in ended with_operator with_turn with_to with_by with_colon with_open have named subscripted targeted calling called looping looped names_closed edge edge_comma listing list_comma list_next tail tail_comma between_functions heading head_out head_equal headed head_name params param param_comma with_sign with_infix with_text with_end argument_colon with_colon_item used applied argued caller_stack caller_purpose
named_asks word.Equal at b to out = inr (around_grows out _ _ (omega arith))
named_asks word.Open at b to out = inr (around_grows out _ _ (omega arith))
named_asks _ at b to out = inl refl

subscripted_asks : (w : Word) (b : Block) (to : Ident) (opens : Place) (args : Args) (out : Around) → Asks (around_depth (max (block_depth b) (max (args_depth args) 1 + 1)) out) (subscripted w b to opens args out)
unfolding need begun listed between bare gap celled body_end body_next body_finish arm_ended statement_ended body_ended block_ended within after purposed closing ended_in ended with_operator with_turn with_to with_by with_colon with_open have named subscripted targeted calling called looping looped names_closed edge edge_comma listing list_comma list_next tail tail_comma between_functions heading head_out head_equal headed head_name params param param_comma with_sign with_infix with_text with_end argument_colon with_colon_item used applied argued caller_stack caller_purpose
subscripted_asks word.Equal b to opens args out = inr (around_grows out _ _ (omega arith))
subscripted_asks _ b to opens args out = inl refl

targeted_asks : (w : Word) (b : Block) (targets : List Ident) (out : Around) → Asks (around_depth (max (block_depth b) 2) out) (targeted w b targets out)
unfolding need begun listed between bare gap celled body_end body_next body_finish arm_ended statement_ended body_ended block_ended within after purposed closing ended_in ended with_operator with_turn with_to with_by with_colon with_open have named subscripted targeted calling called looping looped names_closed edge edge_comma listing list_comma list_next tail tail_comma between_functions heading head_out head_equal headed head_name params param param_comma with_sign with_infix with_text with_end argument_colon with_colon_item used applied argued caller_stack caller_purpose
targeted_asks word.Equal b targets out = inr (omega arith)
targeted_asks _ b targets out = inl refl

calling_asks : (at : Place) (w : Word) (own : List ℕ) (b : Block) (targets : List Ident) (out : Around) → Asks (around_depth (max (block_depth b) 2) out) (calling at w own b targets out)
unfolding need begun listed between bare gap celled body_end body_next body_finish arm_ended statement_ended body_ended block_ended within after purposed closing ended_in ended with_operator with_turn with_to with_by with_colon with_open have named subscripted targeted calling called looping looped names_closed edge edge_comma listing list_comma list_next tail tail_comma between_functions heading head_out head_equal headed head_name params param param_comma with_sign with_infix with_text with_end argument_colon with_colon_item used applied argued caller_stack caller_purpose
calling_asks at word.Name own b targets out = inr (omega arith)
calling_asks at _ own b targets out = inl refl

called_asks : (at : Place) (w : Word) (b : Block) (targets : List Ident) (name : Place) (text : List ℕ) (out : Around) → Asks (around_depth (max (block_depth b) 2) out) (called at w b targets name text out)
unfolding need begun listed between bare gap celled body_end body_next body_finish arm_ended statement_ended body_ended block_ended within after purposed closing ended_in ended with_operator with_turn with_to with_by with_colon with_open have named subscripted targeted calling called looping looped names_closed edge edge_comma listing list_comma list_next tail tail_comma between_functions heading head_out head_equal headed head_name params param param_comma with_sign with_infix with_text with_end argument_colon with_colon_item used applied argued caller_stack caller_purpose
called_asks at word.Open b targets name text out = inr (around_grows out _ _ (omega arith))
called_asks at w b targets name text out = less_asks (after w (with_statement b (Multi targets (Name name text))) out) _ _ (around_grows out _ _ (omega (arith, block_depth_statement b (Multi targets (Name name text))))) (after_asks w (with_statement b (Multi targets (Name name text))) out)

looping_asks : (at : Place) (w : Word) (own : List ℕ) (b : Block) (place : Place) (out : Around) → Asks (around_depth (max (block_depth b) 2) out) (looping at w own b place out)
unfolding need begun listed between bare gap celled body_end body_next body_finish arm_ended statement_ended body_ended block_ended within after purposed closing ended_in ended with_operator with_turn with_to with_by with_colon with_open have named subscripted targeted calling called looping looped names_closed edge edge_comma listing list_comma list_next tail tail_comma between_functions heading head_out head_equal headed head_name params param param_comma with_sign with_infix with_text with_end argument_colon with_colon_item used applied argued caller_stack caller_purpose
looping_asks at word.Name own b place out = inr (omega arith)
looping_asks at _ own b place out = inl refl

looped_asks : (w : Word) (b : Block) (place : Place) (to : Ident) (out : Around) → Asks (around_depth (max (block_depth b) 2) out) (looped w b place to out)
unfolding need begun listed between bare gap celled body_end body_next body_finish arm_ended statement_ended body_ended block_ended within after purposed closing ended_in ended with_operator with_turn with_to with_by with_colon with_open have named subscripted targeted calling called looping looped names_closed edge edge_comma listing list_comma list_next tail tail_comma between_functions heading head_out head_equal headed head_name params param param_comma with_sign with_infix with_text with_end argument_colon with_colon_item used applied argued caller_stack caller_purpose
looped_asks word.Equal b place to out = inr (around_grows out _ _ (omega arith))
looped_asks _ b place to out = inl refl

closed_asks : (l : Lister) (names : List Ident) → Asks (lister_depth l) (names_closed l names)
unfolding need begun listed between bare gap celled body_end body_next body_finish arm_ended statement_ended body_ended block_ended within after purposed closing ended_in ended with_operator with_turn with_to with_by with_colon with_open have named subscripted targeted calling called looping looped names_closed edge edge_comma listing list_comma list_next tail tail_comma between_functions heading head_out head_equal headed head_name params param param_comma with_sign with_infix with_text with_end argument_colon with_colon_item used applied argued caller_stack caller_purpose
closed_asks (Outputs m fs) names = inr (omega arith)
closed_asks (Targets b out) names = inr (omega arith)

edge_asks : (at : Place) (w : Word) (own : List ℕ) (l : Lister) → Asks (lister_depth l) (edge at w own l)
unfolding need begun listed between bare gap celled body_end body_next body_finish arm_ended statement_ended body_ended block_ended within after purposed closing ended_in ended with_operator with_turn with_to with_by with_colon with_open have named subscripted targeted calling called looping looped names_closed edge edge_comma listing list_comma list_next tail tail_comma between_functions heading head_out head_equal headed head_name params param param_comma with_sign with_infix with_text with_end argument_colon with_colon_item used applied argued caller_stack caller_purpose
edge_asks at word.Name own l = inr (omega arith)
edge_asks at word.Comma own l = inr (omega arith)
edge_asks at word.Semicolon own l = inr (omega arith)
edge_asks at word.Newline own l = inr (omega arith)
edge_asks at _ own l = inl refl

edge_comma_asks : (w : Word) (l : Lister) → Asks (lister_depth l) (edge_comma w l)
unfolding need begun listed between bare gap celled body_end body_next body_finish arm_ended statement_ended body_ended block_ended within after purposed closing ended_in ended with_operator with_turn with_to with_by with_colon with_open have named subscripted targeted calling called looping looped names_closed edge edge_comma listing list_comma list_next tail tail_comma between_functions heading head_out head_equal headed head_name params param param_comma with_sign with_infix with_text with_end argument_colon with_colon_item used applied argued caller_stack caller_purpose
edge_comma_asks word.Semicolon l = inr (omega arith)
edge_comma_asks word.Newline l = inr (omega arith)
edge_comma_asks _ l = inl refl

listing_asks : (w : Word) (l : Lister) (names : List Ident) → Asks (lister_depth l) (listing w l names)
unfolding need begun listed between bare gap celled body_end body_next body_finish arm_ended statement_ended body_ended block_ended within after purposed closing ended_in ended with_operator with_turn with_to with_by with_colon with_open have named subscripted targeted calling called looping looped names_closed edge edge_comma listing list_comma list_next tail tail_comma between_functions heading head_out head_equal headed head_name params param param_comma with_sign with_infix with_text with_end argument_colon with_colon_item used applied argued caller_stack caller_purpose
listing_asks word.Comma l names = inr (omega arith)
listing_asks word.Separator l names = inr (omega arith)
listing_asks word.Semicolon l names = inr (omega arith)
listing_asks word.Newline l names = inr (omega arith)
listing_asks word.CloseSquare l names = closed_asks l names
listing_asks _ l names = inl refl

list_comma_asks : (at : Place) (w : Word) (own : List ℕ) (l : Lister) (names : List Ident) → Asks (lister_depth l) (list_comma at w own l names)
unfolding need begun listed between bare gap celled body_end body_next body_finish arm_ended statement_ended body_ended block_ended within after purposed closing ended_in ended with_operator with_turn with_to with_by with_colon with_open have named subscripted targeted calling called looping looped names_closed edge edge_comma listing list_comma list_next tail tail_comma between_functions heading head_out head_equal headed head_name params param param_comma with_sign with_infix with_text with_end argument_colon with_colon_item used applied argued caller_stack caller_purpose
list_comma_asks at word.Name own l names = inr (omega arith)
list_comma_asks at word.Semicolon own l names = inr (omega arith)
list_comma_asks at word.Newline own l names = inr (omega arith)
list_comma_asks at word.CloseSquare own l names = closed_asks l names
list_comma_asks at _ own l names = inl refl

list_next_asks : (at : Place) (w : Word) (own : List ℕ) (l : Lister) (names : List Ident) → Asks (lister_depth l) (list_next at w own l names)
unfolding need begun listed between bare gap celled body_end body_next body_finish arm_ended statement_ended body_ended block_ended within after purposed closing ended_in ended with_operator with_turn with_to with_by with_colon with_open have named subscripted targeted calling called looping looped names_closed edge edge_comma listing list_comma list_next tail tail_comma between_functions heading head_out head_equal headed head_name params param param_comma with_sign with_infix with_text with_end argument_colon with_colon_item used applied argued caller_stack caller_purpose
list_next_asks at word.Name own l names = inr (omega arith)
list_next_asks at _ own l names = inl refl

tail_asks : (w : Word) (l : Lister) (names : List Ident) → Asks (lister_depth l) (tail w l names)
unfolding need begun listed between bare gap celled body_end body_next body_finish arm_ended statement_ended body_ended block_ended within after purposed closing ended_in ended with_operator with_turn with_to with_by with_colon with_open have named subscripted targeted calling called looping looped names_closed edge edge_comma listing list_comma list_next tail tail_comma between_functions heading head_out head_equal headed head_name params param param_comma with_sign with_infix with_text with_end argument_colon with_colon_item used applied argued caller_stack caller_purpose
tail_asks word.Comma l names = inr (omega arith)
tail_asks word.Semicolon l names = inr (omega arith)
tail_asks word.Newline l names = inr (omega arith)
tail_asks word.CloseSquare l names = closed_asks l names
tail_asks _ l names = inl refl

tail_comma_asks : (w : Word) (l : Lister) (names : List Ident) → Asks (lister_depth l) (tail_comma w l names)
unfolding need begun listed between bare gap celled body_end body_next body_finish arm_ended statement_ended body_ended block_ended within after purposed closing ended_in ended with_operator with_turn with_to with_by with_colon with_open have named subscripted targeted calling called looping looped names_closed edge edge_comma listing list_comma list_next tail tail_comma between_functions heading head_out head_equal headed head_name params param param_comma with_sign with_infix with_text with_end argument_colon with_colon_item used applied argued caller_stack caller_purpose
tail_comma_asks word.Semicolon l names = inr (omega arith)
tail_comma_asks word.Newline l names = inr (omega arith)
tail_comma_asks word.CloseSquare l names = closed_asks l names
tail_comma_asks _ l names = inl refl

top_asks : (w : Word) (m : Mode) (fs : List Fun) → Asks (file_depth fs) (between_functions w m fs)
unfolding need begun listed between bare gap celled body_end body_next body_finish arm_ended statement_ended body_ended block_ended within after purposed closing ended_in ended with_operator with_turn with_to with_by with_colon with_open have named subscripted targeted calling called looping looped names_closed edge edge_comma listing list_comma list_next tail tail_comma between_functions heading head_out head_equal headed head_name params param param_comma with_sign with_infix with_text with_end argument_colon with_colon_item used applied argued caller_stack caller_purpose
top_asks word.Newline m fs = inr (omega arith)
top_asks word.Semicolon m fs = inr (omega arith)
top_asks word.Comma m fs = inr (omega arith)
top_asks word.Function m fs = inr (omega arith)
top_asks word.Finish m fs = inr (omega arith)
top_asks _ m fs = inl refl

heading_asks : (at : Place) (w : Word) (own : List ℕ) (m : Mode) (fs : List Fun) → Asks (file_depth fs) (heading at w own m fs)
unfolding need begun listed between bare gap celled body_end body_next body_finish arm_ended statement_ended body_ended block_ended within after purposed closing ended_in ended with_operator with_turn with_to with_by with_colon with_open have named subscripted targeted calling called looping looped names_closed edge edge_comma listing list_comma list_next tail tail_comma between_functions heading head_out head_equal headed head_name params param param_comma with_sign with_infix with_text with_end argument_colon with_colon_item used applied argued caller_stack caller_purpose
heading_asks at word.Name own m fs = inr (omega arith)
heading_asks at word.OpenSquare own m fs = inr (omega arith)
heading_asks at _ own m fs = inl refl

head_out_asks : (w : Word) (m : Mode) (fs : List Fun) (outputs : List Ident) → Asks (file_depth fs) (head_out w m fs outputs)
unfolding need begun listed between bare gap celled body_end body_next body_finish arm_ended statement_ended body_ended block_ended within after purposed closing ended_in ended with_operator with_turn with_to with_by with_colon with_open have named subscripted targeted calling called looping looped names_closed edge edge_comma listing list_comma list_next tail tail_comma between_functions heading head_out head_equal headed head_name params param param_comma with_sign with_infix with_text with_end argument_colon with_colon_item used applied argued caller_stack caller_purpose
head_out_asks word.Equal m fs outputs = inr (omega arith)
head_out_asks _ m fs outputs = inl refl

head_equal_asks : (at : Place) (w : Word) (own : List ℕ) (m : Mode) (fs : List Fun) (outputs : List Ident) → Asks (file_depth fs) (head_equal at w own m fs outputs)
unfolding need begun listed between bare gap celled body_end body_next body_finish arm_ended statement_ended body_ended block_ended within after purposed closing ended_in ended with_operator with_turn with_to with_by with_colon with_open have named subscripted targeted calling called looping looped names_closed edge edge_comma listing list_comma list_next tail tail_comma between_functions heading head_out head_equal headed head_name params param param_comma with_sign with_infix with_text with_end argument_colon with_colon_item used applied argued caller_stack caller_purpose
head_equal_asks at word.Name own m fs outputs = inr (omega arith)
head_equal_asks at _ own m fs outputs = inl refl

headed_asks : (w : Word) (m : Mode) (fs : List Fun) (h : Header) → Asks (file_depth fs) (headed w m fs h)
unfolding need begun listed between bare gap celled body_end body_next body_finish arm_ended statement_ended body_ended block_ended within after purposed closing ended_in ended with_operator with_turn with_to with_by with_colon with_open have named subscripted targeted calling called looping looped names_closed edge edge_comma listing list_comma list_next tail tail_comma between_functions heading head_out head_equal headed head_name params param param_comma with_sign with_infix with_text with_end argument_colon with_colon_item used applied argued caller_stack caller_purpose
headed_asks word.Newline m fs h = inr (omega arith)
headed_asks word.Semicolon m fs h = inr (omega arith)
headed_asks word.Comma m fs h = inr (omega arith)
headed_asks _ m fs h = inl refl

head_name_asks : (w : Word) (m : Mode) (fs : List Fun) (outputs : List Ident) (name : Ident) → Asks (file_depth fs) (head_name w m fs outputs name)
unfolding need begun listed between bare gap celled body_end body_next body_finish arm_ended statement_ended body_ended block_ended within after purposed closing ended_in ended with_operator with_turn with_to with_by with_colon with_open have named subscripted targeted calling called looping looped names_closed edge edge_comma listing list_comma list_next tail tail_comma between_functions heading head_out head_equal headed head_name params param param_comma with_sign with_infix with_text with_end argument_colon with_colon_item used applied argued caller_stack caller_purpose
head_name_asks word.Open m fs outputs name = inr (omega arith)
head_name_asks w m fs outputs name = headed_asks w m fs (header_of outputs name [])

params_asks : (at : Place) (w : Word) (own : List ℕ) (m : Mode) (fs : List Fun) (outputs : List Ident) (name : Ident) → Asks (file_depth fs) (params at w own m fs outputs name)
unfolding need begun listed between bare gap celled body_end body_next body_finish arm_ended statement_ended body_ended block_ended within after purposed closing ended_in ended with_operator with_turn with_to with_by with_colon with_open have named subscripted targeted calling called looping looped names_closed edge edge_comma listing list_comma list_next tail tail_comma between_functions heading head_out head_equal headed head_name params param param_comma with_sign with_infix with_text with_end argument_colon with_colon_item used applied argued caller_stack caller_purpose
params_asks at word.Name own m fs outputs name = inr (omega arith)
params_asks at word.Close own m fs outputs name = inr (omega arith)
params_asks at _ own m fs outputs name = inl refl

param_asks : (w : Word) (m : Mode) (fs : List Fun) (h : Header) → Asks (file_depth fs) (param w m fs h)
unfolding need begun listed between bare gap celled body_end body_next body_finish arm_ended statement_ended body_ended block_ended within after purposed closing ended_in ended with_operator with_turn with_to with_by with_colon with_open have named subscripted targeted calling called looping looped names_closed edge edge_comma listing list_comma list_next tail tail_comma between_functions heading head_out head_equal headed head_name params param param_comma with_sign with_infix with_text with_end argument_colon with_colon_item used applied argued caller_stack caller_purpose
param_asks word.Comma m fs h = inr (omega arith)
param_asks word.Close m fs h = inr (omega arith)
param_asks _ m fs h = inl refl

param_comma_asks : (at : Place) (w : Word) (own : List ℕ) (m : Mode) (fs : List Fun) (h : Header) → Asks (file_depth fs) (param_comma at w own m fs h)
unfolding need begun listed between bare gap celled body_end body_next body_finish arm_ended statement_ended body_ended block_ended within after purposed closing ended_in ended with_operator with_turn with_to with_by with_colon with_open have named subscripted targeted calling called looping looped names_closed edge edge_comma listing list_comma list_next tail tail_comma between_functions heading head_out head_equal headed head_name params param param_comma with_sign with_infix with_text with_end argument_colon with_colon_item used applied argued caller_stack caller_purpose
param_comma_asks at word.Name own m fs h = inr (omega arith)
param_comma_asks at _ own m fs h = inl refl

go_asks : (q : State) (at : Place) (w : Word) (own : List ℕ) → Asks (least q) (go q at w own)
unfolding need begun listed between bare gap celled body_end body_next body_finish arm_ended statement_ended body_ended block_ended within after purposed closing ended_in ended with_operator with_turn with_to with_by with_colon with_open have named subscripted targeted calling called looping looped names_closed edge edge_comma listing list_comma list_next tail tail_comma between_functions heading head_out head_equal headed head_name params param param_comma with_sign with_infix with_text with_end argument_colon with_colon_item used applied argued caller_stack caller_purpose
go_asks (Need st k) at w own = need_asks at w own st k
go_asks (Begun c name text opens) at w own = begun_asks c name text opens at w own
go_asks (Listed c name text opens args) at w own = listed_asks c name text opens args w
go_asks (Between opens rows st k) at w own = between_asks opens rows at w own st k
go_asks (Bare opens rows st k) at w own = bare_asks opens rows w st k
go_asks (Gap opens rows row st k) at w own = gap_asks opens rows row at w own st k
go_asks (Have e st k) at w own =
    subst (λ d. Asks (purpose_depth d k) (have at w own (settle (tightness w) e st).is (settle (tightness w) e st).under k)) (settle_depth (tightness w) e st)
    (have_asks at w own (settle (tightness w) e st).is (settle (tightness w) e st).under k)
go_asks (Within b out) at w own = within_asks at w own b out
go_asks (After b out) at w own = after_asks w b out
go_asks (Named b to out) at w own = named_asks w at b to out
go_asks (Subscripted b to opens args out) at w own = subscripted_asks w b to opens args out
go_asks (Targeted b targets out) at w own = targeted_asks w b targets out
go_asks (Calling b targets out) at w own = calling_asks at w own b targets out
go_asks (Called b targets name text out) at w own = called_asks at w b targets name text out
go_asks (Looping b place out) at w own = looping_asks at w own b place out
go_asks (Looped b place to out) at w own = looped_asks w b place to out
go_asks (Edge l) at w own = edge_asks at w own l
go_asks (EdgeComma l) at w own = edge_comma_asks w l
go_asks (Listing l names) at w own = listing_asks w l names
go_asks (ListComma l names) at w own = list_comma_asks at w own l names
go_asks (ListNext l names) at w own = list_next_asks at w own l names
go_asks (Tail l names) at w own = tail_asks w l names
go_asks (TailComma l names) at w own = tail_comma_asks w l names
go_asks (Top m fs) at w own = top_asks w m fs
go_asks (Heading m fs) at w own = heading_asks at w own m fs
go_asks (HeadOut m fs outputs) at w own = head_out_asks w m fs outputs
go_asks (HeadEqual m fs outputs) at w own = head_equal_asks at w own m fs outputs
go_asks (HeadName m fs outputs name) at w own = head_name_asks w m fs outputs name
go_asks (Params m fs outputs name) at w own = params_asks at w own m fs outputs name
go_asks (Param m fs h) at w own = param_asks w m fs h
go_asks (ParamComma m fs h) at w own = param_comma_asks at w own m fs h
go_asks (Headed m fs h) at w own = headed_asks w m fs h
go_asks (Complete fs) at w own = inl refl
go_asks Stuck at w own = inl refl

stuck_stays : (ts : List Lexeme) → steps Stuck ts ≡ Stuck
unfolding need begun listed between bare gap celled body_end body_next body_finish arm_ended statement_ended body_ended block_ended within after purposed closing ended_in ended with_operator with_turn with_to with_by with_colon with_open have named subscripted targeted calling called looping looped names_closed edge edge_comma listing list_comma list_next tail tail_comma between_functions heading head_out head_equal headed head_name params param param_comma with_sign with_infix with_text with_end argument_colon with_colon_item used applied argued caller_stack caller_purpose
stuck_stays [] = refl
stuck_stays (t ∷ ts) = stuck_stays ts

-- a stuck machine gives no file
pub unstuck : (ts : List Lexeme) (q : State) (fs : List Fun) → run q ts ≡ Some fs → q ≢ Stuck
unfolding need begun listed between bare gap celled body_end body_next body_finish arm_ended statement_ended body_ended block_ended within after purposed closing ended_in ended with_operator with_turn with_to with_by with_colon with_open have named subscripted targeted calling called looping looped names_closed edge edge_comma listing list_comma list_next tail tail_comma between_functions heading head_out head_equal headed head_name params param param_comma with_sign with_infix with_text with_end argument_colon with_colon_item used applied argued caller_stack caller_purpose
unstuck ts q fs h e = let n : None ≡ Some fs = sym (ap finish (ap (λ r. steps r ts) e ∙ stuck_stays ts)) ∙ h in absurd (cc)

finish_deep : (q : State) (fs : List Fun) → finish q ≡ Some fs → least q ≤ file_depth fs
unfolding need begun listed between bare gap celled body_end body_next body_finish arm_ended statement_ended body_ended block_ended within after purposed closing ended_in ended with_operator with_turn with_to with_by with_colon with_open have named subscripted targeted calling called looping looped names_closed edge edge_comma listing list_comma list_next tail tail_comma between_functions heading head_out head_equal headed head_name params param param_comma with_sign with_infix with_text with_end argument_colon with_colon_item used applied argued caller_stack caller_purpose
finish_deep (Complete gs) fs h = let e : gs ≡ fs = cc in omega (arith, ap file_depth e)
finish_deep (Need st k) fs h = absurd (cc)
finish_deep _ fs h = absurd (cc)

-- each file that comes is at least so deep
pub deepest : (ts : List Lexeme) (q : State) (fs : List Fun) → run q ts ≡ Some fs → least q ≤ file_depth fs
unfolding need begun listed between bare gap celled body_end body_next body_finish arm_ended statement_ended body_ended block_ended within after purposed closing ended_in ended with_operator with_turn with_to with_by with_colon with_open have named subscripted targeted calling called looping looped names_closed edge edge_comma listing list_comma list_next tail tail_comma between_functions heading head_out head_equal headed head_name params param param_comma with_sign with_infix with_text with_end argument_colon with_colon_item used applied argued caller_stack caller_purpose
deepest [] q fs h = finish_deep q fs h
deepest (t ∷ ts) q fs h = ⊎_elim
    (λ e. absurd (unstuck ts (step q t) fs h e))
    (λ (x : least q ≤ least (step q t)). let d : least (step q t) ≤ file_depth fs = deepest ts (step q t) fs h in omega arith)
    (go_asks q t.place (word_of t.kind t.text) t.text)
