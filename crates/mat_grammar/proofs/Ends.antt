-- Which fronts of token lists go on to a file, and how deep the least one is: each state that isn't stuck goes on to a file of its least depth.
use Rattle.std.proofs.Common.{◌≡◌, ◌≢◌, ℕ, ◌+◌, ◌<◌, ◌≤◌, max, List, [], ◌∷◌, ◌++◌, arith, refl, ap, sym, ◌∙◌, Some}
use Rattle.fic_base.specs.declared.place.Place.{Place}
use Rattle.mat_ast.specs.declared.tree.Ident.{Ident}
use Rattle.mat_ast.specs.Tree.{Exp, Name, Apply, Paren, Matrix, Args, NoArgs, Whole, Item, Rows, Sta, Assign, Store, Multi, IfOnly, IfElse, ForEach, WhileTrue, Block, Done, Fun}
use Rattle.mat_ast.specs.Depth.{depth, args_depth, rows_depth, sta_depth, block_depth, file_depth}
use Rattle.mat_token.specs.Lexeme.{Lexeme}
use Rattle.mat_grammar.specs.Grammar.{file, IsLive, IsShallow}
use Rattle.mat_grammar.specs.Words.{lexeme}
use Rattle.mat_grammar.specs.declared.word.Word.{Word}
use Rattle.mat_grammar.specs.declared.word.Word.TheVariants as word
use Rattle.mat_grammar.specs.declared.word.Mode.{Mode}
use Rattle.mat_grammar.specs.declared.word.Mode.TheVariants as mode
use Rattle.mat_grammar.specs.Machine.{Inside, Call, Cells, Stack, Header, Around, IfBody, ElseBody, WhileBody, ForBody, FunBody, Use, Target, Callee, Purpose, AssignTo, StoreTo, ArmTest, WhileTest, ForRange, Argument, Caller, InValue, InStatement, Lister, Outputs, Targets, State, Need, Begun, Listed, Between, Bare, Gap, Have, Within, After, Named, Subscripted, Targeted, Calling, Called, Looping, Looped, Edge, EdgeComma, Listing, ListComma, ListNext, Tail, TailComma, Top, Heading, HeadOut, HeadEqual, HeadName, Params, Param, ParamComma, Headed, Complete, Stuck, level, with_item, with_whole, with_cell, with_row, with_statement, with_arm, with_fun, ident_at, closed, caller_stack, caller_purpose, used, applied, argued, with_sign, with_infix, with_text, with_end, argument_colon, with_colon_item, need, begun, listed, between, bare, gap, celled, body_end, body_next, body_finish, arm_ended, statement_ended, body_ended, block_ended, within, after, purposed, closing, ended_in, ended, with_operator, with_turn, with_to, with_by, with_colon, with_open, have, named, subscripted, targeted, calling, called, looping, looped, names_closed, edge, edge_comma, listing, list_comma, list_next, tail, tail_comma, between_functions, heading, head_out, head_equal, headed, header_of, head_name, params, param, param_comma, step, finish, steps, run, start, state}
use Rattle.mat_grammar.specs.Least.{around_depth, use_depth, purpose_depth, stack_depth, operand_depth, need_depth, caller_depth, lister_depth, least}
use Rattle.mat_grammar.proofs.Depths.{args_depth_item, args_depth_whole, rows_depth_row, block_depth_statement, arms_depth_arm}
use Rattle.mat_grammar.proofs.Sound.{run_whole}
use Rattle.mat_grammar.proofs.Complete.{Follows, Begins, pop}
use Rattle.mat_grammar.proofs.CompleteFile.{IsEnder, IsAfter, IsBlock, weaker_ender, assigned, stored, armed, tested, ranged, called_after, whole_runs}
use Rattle.mat_grammar.proofs.Deeper.{closed_depth, fun_depth, unstuck, deepest}

-- a place, a token of a word, and a name
abbrev here : Place
here = record { offset = 0; line = 1; col = 1 }

abbrev tok : Word → Lexeme
tok w = lexeme here w []

abbrev someone : Ident
someone = ident_at here []

-- what ends the blocks that are open
abbrev fun_ends : Mode → List Lexeme
fun_ends mode.Ended = tok word.End ∷ tok word.Finish ∷ []
fun_ends _ = tok word.Finish ∷ []

abbrev ends : Around → List Lexeme
ends (IfBody b at arms c out) = tok word.End ∷ ends out
ends (ElseBody b at arms out) = tok word.End ∷ ends out
ends (WhileBody b at c out) = tok word.End ∷ ends out
ends (ForBody b at to c out) = tok word.End ∷ ends out
ends (FunBody m fs h) = fun_ends m

-- the file that then comes
abbrev ended_file : Block → Around → List Fun
ended_file b (IfBody before at arms c out) = ended_file (with_statement before (IfOnly at (with_arm arms c b))) out
ended_file b (ElseBody before at arms out) = ended_file (with_statement before (IfElse at arms b)) out
ended_file b (WhileBody before at c out) = ended_file (with_statement before (WhileTrue at c b)) out
ended_file b (ForBody before at to c out) = ended_file (with_statement before (ForEach at to c b)) out
ended_file b (FunBody m fs h) = with_fun fs h b

fun_after : (m : Mode) (fs : List Fun) (h : Header) (b : Block) → run (After b (FunBody m fs h)) (fun_ends m) ≡ Some (with_fun fs h b)
unfolding need begun listed between bare gap celled body_end body_next body_finish arm_ended statement_ended body_ended block_ended within after purposed closing ended_in ended with_operator with_turn with_to with_by with_colon with_open have named subscripted targeted calling called looping looped names_closed edge edge_comma listing list_comma list_next tail tail_comma between_functions heading head_out head_equal headed head_name params param param_comma with_sign with_infix with_text with_end argument_colon with_colon_item used applied argued caller_stack caller_purpose
fun_after mode.Ended fs h b = refl
fun_after mode.Unended fs h b = refl
fun_after mode.Unknown fs h b = refl

after_runs : (out : Around) (b : Block) → run (After b out) (ends out) ≡ Some (ended_file b out)
unfolding need begun listed between bare gap celled body_end body_next body_finish arm_ended statement_ended body_ended block_ended within after purposed closing ended_in ended with_operator with_turn with_to with_by with_colon with_open have named subscripted targeted calling called looping looped names_closed edge edge_comma listing list_comma list_next tail tail_comma between_functions heading head_out head_equal headed head_name params param param_comma with_sign with_infix with_text with_end argument_colon with_colon_item used applied argued caller_stack caller_purpose
after_runs (IfBody before at arms c out) b = after_runs out (with_statement before (IfOnly at (with_arm arms c b)))
after_runs (ElseBody before at arms out) b = after_runs out (with_statement before (IfElse at arms b))
after_runs (WhileBody before at c out) b = after_runs out (with_statement before (WhileTrue at c b))
after_runs (ForBody before at to c out) b = after_runs out (with_statement before (ForEach at to c b))
after_runs (FunBody m fs h) b = fun_after m fs h b

fun_within : (m : Mode) (fs : List Fun) (h : Header) (b : Block) → run (Within b (FunBody m fs h)) (fun_ends m) ≡ Some (with_fun fs h b)
unfolding need begun listed between bare gap celled body_end body_next body_finish arm_ended statement_ended body_ended block_ended within after purposed closing ended_in ended with_operator with_turn with_to with_by with_colon with_open have named subscripted targeted calling called looping looped names_closed edge edge_comma listing list_comma list_next tail tail_comma between_functions heading head_out head_equal headed head_name params param param_comma with_sign with_infix with_text with_end argument_colon with_colon_item used applied argued caller_stack caller_purpose
fun_within mode.Ended fs h b = refl
fun_within mode.Unended fs h b = refl
fun_within mode.Unknown fs h b = refl

within_runs : (out : Around) (b : Block) → run (Within b out) (ends out) ≡ Some (ended_file b out)
unfolding need begun listed between bare gap celled body_end body_next body_finish arm_ended statement_ended body_ended block_ended within after purposed closing ended_in ended with_operator with_turn with_to with_by with_colon with_open have named subscripted targeted calling called looping looped names_closed edge edge_comma listing list_comma list_next tail tail_comma between_functions heading head_out head_equal headed head_name params param param_comma with_sign with_infix with_text with_end argument_colon with_colon_item used applied argued caller_stack caller_purpose
within_runs (IfBody before at arms c out) b = after_runs out (with_statement before (IfOnly at (with_arm arms c b)))
within_runs (ElseBody before at arms out) b = after_runs out (with_statement before (IfElse at arms b))
within_runs (WhileBody before at c out) b = after_runs out (with_statement before (WhileTrue at c b))
within_runs (ForBody before at to c out) b = after_runs out (with_statement before (ForEach at to c b))
within_runs (FunBody m fs h) b = fun_within m fs h b

fun_begin : (m : Mode) → Begins IsEnder (fun_ends m)
unfolding need begun listed between bare gap celled body_end body_next body_finish arm_ended statement_ended body_ended block_ended within after purposed closing ended_in ended with_operator with_turn with_to with_by with_colon with_open have named subscripted targeted calling called looping looped names_closed edge edge_comma listing list_comma list_next tail tail_comma between_functions heading head_out head_equal headed head_name params param param_comma with_sign with_infix with_text with_end argument_colon with_colon_item used applied argued caller_stack caller_purpose
fun_begin mode.Ended = (here, _, _, tok word.Finish ∷ [], tt, refl)
fun_begin mode.Unended = (here, _, _, [], tt, refl)
fun_begin mode.Unknown = (here, _, _, [], tt, refl)

ends_begin : (out : Around) → Begins IsEnder (ends out)
unfolding need begun listed between bare gap celled body_end body_next body_finish arm_ended statement_ended body_ended block_ended within after purposed closing ended_in ended with_operator with_turn with_to with_by with_colon with_open have named subscripted targeted calling called looping looped names_closed edge edge_comma listing list_comma list_next tail tail_comma between_functions heading head_out head_equal headed head_name params param param_comma with_sign with_infix with_text with_end argument_colon with_colon_item used applied argued caller_stack caller_purpose
ends_begin (IfBody b at arms c out) = (here, _, _, ends out, tt, refl)
ends_begin (ElseBody b at arms out) = (here, _, _, ends out, tt, refl)
ends_begin (WhileBody b at c out) = (here, _, _, ends out, tt, refl)
ends_begin (ForBody b at to c out) = (here, _, _, ends out, tt, refl)
ends_begin (FunBody m fs h) = fun_begin m

ends_after : (out : Around) → Begins IsAfter (ends out)
unfolding need begun listed between bare gap celled body_end body_next body_finish arm_ended statement_ended body_ended block_ended within after purposed closing ended_in ended with_operator with_turn with_to with_by with_colon with_open have named subscripted targeted calling called looping looped names_closed edge edge_comma listing list_comma list_next tail tail_comma between_functions heading head_out head_equal headed head_name params param param_comma with_sign with_infix with_text with_end argument_colon with_colon_item used applied argued caller_stack caller_purpose
ends_after out = weaker_ender (ends out) (ends_begin out)

end_block : (ts : List Lexeme) → Begins IsBlock (tok word.End ∷ ts)
unfolding need begun listed between bare gap celled body_end body_next body_finish arm_ended statement_ended body_ended block_ended within after purposed closing ended_in ended with_operator with_turn with_to with_by with_colon with_open have named subscripted targeted calling called looping looped names_closed edge edge_comma listing list_comma list_next tail tail_comma between_functions heading head_out head_equal headed head_name params param param_comma with_sign with_infix with_text with_end argument_colon with_colon_item used applied argued caller_stack caller_purpose
end_block ts = (here, _, _, ts, tt, refl)

around_same : (out : Around) (c d : ℕ) → c ≡ d → around_depth c out ≡ around_depth d out
unfolding need begun listed between bare gap celled body_end body_next body_finish arm_ended statement_ended body_ended block_ended within after purposed closing ended_in ended with_operator with_turn with_to with_by with_colon with_open have named subscripted targeted calling called looping looped names_closed edge edge_comma listing list_comma list_next tail tail_comma between_functions heading head_out head_equal headed head_name params param param_comma with_sign with_infix with_text with_end argument_colon with_colon_item used applied argued caller_stack caller_purpose
around_same out c d e = ap (λ x. around_depth x out) e

ended_depth : (out : Around) (b : Block) → file_depth (ended_file b out) ≡ around_depth (block_depth b) out
unfolding need begun listed between bare gap celled body_end body_next body_finish arm_ended statement_ended body_ended block_ended within after purposed closing ended_in ended with_operator with_turn with_to with_by with_colon with_open have named subscripted targeted calling called looping looped names_closed edge edge_comma listing list_comma list_next tail tail_comma between_functions heading head_out head_equal headed head_name params param param_comma with_sign with_infix with_text with_end argument_colon with_colon_item used applied argued caller_stack caller_purpose
ended_depth (IfBody before at arms c out) b = ended_depth out (with_statement before (IfOnly at (with_arm arms c b))) ∙ around_same out _ _ (omega (arith, block_depth_statement before (IfOnly at (with_arm arms c b)), arms_depth_arm arms c b))
ended_depth (ElseBody before at arms out) b = ended_depth out (with_statement before (IfElse at arms b)) ∙ around_same out _ _ (omega (arith, block_depth_statement before (IfElse at arms b)))
ended_depth (WhileBody before at c out) b = ended_depth out (with_statement before (WhileTrue at c b)) ∙ around_same out _ _ (omega (arith, block_depth_statement before (WhileTrue at c b)))
ended_depth (ForBody before at to c out) b = ended_depth out (with_statement before (ForEach at to c b)) ∙ around_same out _ _ (omega (arith, block_depth_statement before (ForEach at to c b)))
ended_depth (FunBody m fs h) b = fun_depth fs h b

-- with one more statement
more_depth : (out : Around) (b : Block) (s : Sta) → file_depth (ended_file (with_statement b s) out) ≡ around_depth (max (block_depth b) (sta_depth s)) out
unfolding need begun listed between bare gap celled body_end body_next body_finish arm_ended statement_ended body_ended block_ended within after purposed closing ended_in ended with_operator with_turn with_to with_by with_colon with_open have named subscripted targeted calling called looping looped names_closed edge edge_comma listing list_comma list_next tail tail_comma between_functions heading head_out head_equal headed head_name params param param_comma with_sign with_infix with_text with_end argument_colon with_colon_item used applied argued caller_stack caller_purpose
more_depth out b s = ended_depth out (with_statement b s) ∙ around_same out _ _ (block_depth_statement b s)

-- what ends the parentheses of a statement, behind them
abbrev use_ends : Use → List Lexeme
use_ends (Target b out) = tok word.Equal ∷ tok word.Name ∷ ends out
use_ends (Callee b targets out) = ends out

abbrev use_file : Use → Place → List ℕ → Place → Args → List Fun
use_file (Target b out) at text opens args = ended_file (with_statement b (Store (ident_at at text) opens args (Name here []))) out
use_file (Callee b targets out) at text opens args = ended_file (with_statement b (Multi targets (Apply at text opens args))) out

stored_runs : (b : Block) (out : Around) (to : Ident) (opens : Place) (args : Args) → run (Subscripted b to opens args out) (tok word.Equal ∷ tok word.Name ∷ ends out) ≡ Some (ended_file (with_statement b (Store to opens args (Name here []))) out)
unfolding need begun listed between bare gap celled body_end body_next body_finish arm_ended statement_ended body_ended block_ended within after purposed closing ended_in ended with_operator with_turn with_to with_by with_colon with_open have named subscripted targeted calling called looping looped names_closed edge edge_comma listing list_comma list_next tail tail_comma between_functions heading head_out head_equal headed head_name params param param_comma with_sign with_infix with_text with_end argument_colon with_colon_item used applied argued caller_stack caller_purpose
stored_runs b out to opens args = stored b to opens args (Name here []) out (ends out) (ends_after out) ∙ after_runs out (with_statement b (Store to opens args (Name here [])))

use_runs : (u : Use) (at : Place) (text : List ℕ) (opens : Place) (args : Args) → args ≢ NoArgs → run (used u at text opens args) (use_ends u) ≡ Some (use_file u at text opens args)
unfolding need begun listed between bare gap celled body_end body_next body_finish arm_ended statement_ended body_ended block_ended within after purposed closing ended_in ended with_operator with_turn with_to with_by with_colon with_open have named subscripted targeted calling called looping looped names_closed edge edge_comma listing list_comma list_next tail tail_comma between_functions heading head_out head_equal headed head_name params param param_comma with_sign with_infix with_text with_end argument_colon with_colon_item used applied argued caller_stack caller_purpose
use_runs (Target b out) at text opens NoArgs h = absurd (h refl)
use_runs (Target b out) at text opens (Whole more) h = stored_runs b out (ident_at at text) opens (Whole more)
use_runs (Target b out) at text opens (Item e more) h = stored_runs b out (ident_at at text) opens (Item e more)
use_runs (Callee b targets out) at text opens args h = after_runs out (with_statement b (Multi targets (Apply at text opens args)))

use_file_depth : (u : Use) (at : Place) (text : List ℕ) (opens : Place) (args : Args) → file_depth (use_file u at text opens args) ≡ use_depth (args_depth args) u
unfolding need begun listed between bare gap celled body_end body_next body_finish arm_ended statement_ended body_ended block_ended within after purposed closing ended_in ended with_operator with_turn with_to with_by with_colon with_open have named subscripted targeted calling called looping looped names_closed edge edge_comma listing list_comma list_next tail tail_comma between_functions heading head_out head_equal headed head_name params param param_comma with_sign with_infix with_text with_end argument_colon with_colon_item used applied argued caller_stack caller_purpose
use_file_depth (Target b out) at text opens args = more_depth out b (Store (ident_at at text) opens args (Name here []))
use_file_depth (Callee b targets out) at text opens args = more_depth out b (Multi targets (Apply at text opens args))

item_some : (args : Args) (e : Exp) → with_item args e ≢ NoArgs
unfolding need begun listed between bare gap celled body_end body_next body_finish arm_ended statement_ended body_ended block_ended within after purposed closing ended_in ended with_operator with_turn with_to with_by with_colon with_open have named subscripted targeted calling called looping looped names_closed edge edge_comma listing list_comma list_next tail tail_comma between_functions heading head_out head_equal headed head_name params param param_comma with_sign with_infix with_text with_end argument_colon with_colon_item used applied argued caller_stack caller_purpose
item_some NoArgs e h = absurd (cc)
item_some (Whole more) e h = absurd (cc)
item_some (Item a more) e h = absurd (cc)

whole_some : (args : Args) → with_whole args ≢ NoArgs
unfolding need begun listed between bare gap celled body_end body_next body_finish arm_ended statement_ended body_ended block_ended within after purposed closing ended_in ended with_operator with_turn with_to with_by with_colon with_open have named subscripted targeted calling called looping looped names_closed edge edge_comma listing list_comma list_next tail tail_comma between_functions heading head_out head_equal headed head_name params param param_comma with_sign with_infix with_text with_end argument_colon with_colon_item used applied argued caller_stack caller_purpose
whole_some NoArgs h = absurd (cc)
whole_some (Whole more) h = absurd (cc)
whole_some (Item a more) h = absurd (cc)

-- what ends a purpose behind its expression
abbrev purpose_ends : Purpose → List Lexeme
purpose_ends (AssignTo b to out) = ends out
purpose_ends (StoreTo b to opens args out) = ends out
purpose_ends (ArmTest b at arms out) = tok word.End ∷ ends out
purpose_ends (WhileTest b at out) = tok word.End ∷ ends out
purpose_ends (ForRange b at to out) = tok word.End ∷ ends out
purpose_ends (Argument u at text opens args) = tok word.Close ∷ use_ends u

abbrev purpose_file : Exp → Purpose → List Fun
purpose_file e (AssignTo b to out) = ended_file (with_statement b (Assign to e)) out
purpose_file e (StoreTo b to opens args out) = ended_file (with_statement b (Store to opens args e)) out
purpose_file e (ArmTest b at arms out) = ended_file Done (IfBody b at arms e out)
purpose_file e (WhileTest b at out) = ended_file Done (WhileBody b at e out)
purpose_file e (ForRange b at to out) = ended_file Done (ForBody b at to e out)
purpose_file e (Argument u at text opens args) = use_file u at text opens (with_item args e)

purpose_runs : (k : Purpose) (e : Exp) → run (Have e [] k) (purpose_ends k) ≡ Some (purpose_file e k)
unfolding need begun listed between bare gap celled body_end body_next body_finish arm_ended statement_ended body_ended block_ended within after purposed closing ended_in ended with_operator with_turn with_to with_by with_colon with_open have named subscripted targeted calling called looping looped names_closed edge edge_comma listing list_comma list_next tail tail_comma between_functions heading head_out head_equal headed head_name params param param_comma with_sign with_infix with_text with_end argument_colon with_colon_item used applied argued caller_stack caller_purpose
purpose_runs (AssignTo b to out) e = assigned b to e out (ends out) (ends_after out) ∙ after_runs out (with_statement b (Assign to e))
purpose_runs (StoreTo b to opens args out) e = stored b to opens args e out (ends out) (ends_after out) ∙ after_runs out (with_statement b (Store to opens args e))
purpose_runs (ArmTest b at arms out) e = armed b at arms e out (tok word.End ∷ ends out) (end_block (ends out)) ∙ within_runs (IfBody b at arms e out) Done
purpose_runs (WhileTest b at out) e = tested b at e out (tok word.End ∷ ends out) (end_block (ends out)) ∙ within_runs (WhileBody b at e out) Done
purpose_runs (ForRange b at to out) e = ranged b at to e out (tok word.End ∷ ends out) (end_block (ends out)) ∙ within_runs (ForBody b at to e out) Done
purpose_runs (Argument u at text opens args) e = use_runs u at text opens (with_item args e) (item_some args e)

purpose_file_depth : (k : Purpose) (e : Exp) → file_depth (purpose_file e k) ≡ purpose_depth (depth e) k
unfolding need begun listed between bare gap celled body_end body_next body_finish arm_ended statement_ended body_ended block_ended within after purposed closing ended_in ended with_operator with_turn with_to with_by with_colon with_open have named subscripted targeted calling called looping looped names_closed edge edge_comma listing list_comma list_next tail tail_comma between_functions heading head_out head_equal headed head_name params param param_comma with_sign with_infix with_text with_end argument_colon with_colon_item used applied argued caller_stack caller_purpose
purpose_file_depth (AssignTo b to out) e = more_depth out b (Assign to e)
purpose_file_depth (StoreTo b to opens args out) e = more_depth out b (Store to opens args e)
purpose_file_depth (ArmTest b at arms out) e = ended_depth (IfBody b at arms e out) Done ∙ around_same out _ _ (omega arith)
purpose_file_depth (WhileTest b at out) e = ended_depth (WhileBody b at e out) Done ∙ around_same out _ _ (omega arith)
purpose_file_depth (ForRange b at to out) e = ended_depth (ForBody b at to e out) Done ∙ around_same out _ _ (omega arith)
purpose_file_depth (Argument u at text opens args) e = use_file_depth u at text opens (with_item args e) ∙ ap (λ d. use_depth d u) (args_depth_item args e)

-- what ends the frames
abbrev stack_ends : Stack → Purpose → List Lexeme
stack_ends [] k = purpose_ends k
stack_ends (Inside at ∷ st) k = tok word.Close ∷ stack_ends st k
stack_ends (Call at text opens args ∷ st) k = tok word.Close ∷ stack_ends st k
stack_ends (Cells at rows row ∷ st) k = tok word.CloseSquare ∷ stack_ends st k
stack_ends (f ∷ st) k = stack_ends st k

abbrev closed_exp : Exp → Stack → Exp
closed_exp e [] = e
closed_exp e (f ∷ st) = closed_exp (closed f e) st

fun_follows : (m : Mode) (n : ℕ) → 0 < n → Follows n (fun_ends m)
unfolding need begun listed between bare gap celled body_end body_next body_finish arm_ended statement_ended body_ended block_ended within after purposed closing ended_in ended with_operator with_turn with_to with_by with_colon with_open have named subscripted targeted calling called looping looped names_closed edge edge_comma listing list_comma list_next tail tail_comma between_functions heading head_out head_equal headed head_name params param param_comma with_sign with_infix with_text with_end argument_colon with_colon_item used applied argued caller_stack caller_purpose
fun_follows mode.Ended n h = h
fun_follows mode.Unended n h = h
fun_follows mode.Unknown n h = h

out_follows : (out : Around) (n : ℕ) → 0 < n → Follows n (ends out)
unfolding need begun listed between bare gap celled body_end body_next body_finish arm_ended statement_ended body_ended block_ended within after purposed closing ended_in ended with_operator with_turn with_to with_by with_colon with_open have named subscripted targeted calling called looping looped names_closed edge edge_comma listing list_comma list_next tail tail_comma between_functions heading head_out head_equal headed head_name params param param_comma with_sign with_infix with_text with_end argument_colon with_colon_item used applied argued caller_stack caller_purpose
out_follows (IfBody b at arms c out) n h = h
out_follows (ElseBody b at arms out) n h = h
out_follows (WhileBody b at c out) n h = h
out_follows (ForBody b at to c out) n h = h
out_follows (FunBody m fs x) n h = fun_follows m n h

purpose_follows : (k : Purpose) (n : ℕ) → 0 < n → Follows n (purpose_ends k)
unfolding need begun listed between bare gap celled body_end body_next body_finish arm_ended statement_ended body_ended block_ended within after purposed closing ended_in ended with_operator with_turn with_to with_by with_colon with_open have named subscripted targeted calling called looping looped names_closed edge edge_comma listing list_comma list_next tail tail_comma between_functions heading head_out head_equal headed head_name params param param_comma with_sign with_infix with_text with_end argument_colon with_colon_item used applied argued caller_stack caller_purpose
purpose_follows (AssignTo b to out) n h = out_follows out n h
purpose_follows (StoreTo b to opens args out) n h = out_follows out n h
purpose_follows (ArmTest b at arms out) n h = h
purpose_follows (WhileTest b at out) n h = h
purpose_follows (ForRange b at to out) n h = h
purpose_follows (Argument u at text opens args) n h = h

stack_follows : (st : Stack) (k : Purpose) (n : ℕ) → 0 < n → Follows n (stack_ends st k)
unfolding need begun listed between bare gap celled body_end body_next body_finish arm_ended statement_ended body_ended block_ended within after purposed closing ended_in ended with_operator with_turn with_to with_by with_colon with_open have named subscripted targeted calling called looping looped names_closed edge edge_comma listing list_comma list_next tail tail_comma between_functions heading head_out head_equal headed head_name params param param_comma with_sign with_infix with_text with_end argument_colon with_colon_item used applied argued caller_stack caller_purpose
stack_follows [] k n h = purpose_follows k n h
stack_follows (Inside at ∷ st) k n h = h
stack_follows (Call at text opens args ∷ st) k n h = h
stack_follows (Cells at rows row ∷ st) k n h = h
stack_follows (f ∷ st) k n h = stack_follows st k n h

stack_runs : (st : Stack) (k : Purpose) (e : Exp) → run (Have e st k) (stack_ends st k) ≡ Some (purpose_file (closed_exp e st) k)
unfolding need begun listed between bare gap celled body_end body_next body_finish arm_ended statement_ended body_ended block_ended within after purposed closing ended_in ended with_operator with_turn with_to with_by with_colon with_open have named subscripted targeted calling called looping looped names_closed edge edge_comma listing list_comma list_next tail tail_comma between_functions heading head_out head_equal headed head_name params param param_comma with_sign with_infix with_text with_end argument_colon with_colon_item used applied argued caller_stack caller_purpose
stack_runs [] k e = purpose_runs k e
stack_runs (Inside at ∷ st) k e = stack_runs st k (Paren at e)
stack_runs (Call at text opens args ∷ st) k e = stack_runs st k (Apply at text opens (with_item args e))
stack_runs (Cells at rows row ∷ st) k e = stack_runs st k (Matrix at (with_row rows (with_cell row e)))
stack_runs (f ∷ st) k e = pop f e st k (stack_ends st k) (stack_follows st k (level f) (omega arith)) ∙ stack_runs st k (closed f e)

closed_exp_depth : (st : Stack) (e : Exp) → depth (closed_exp e st) ≡ stack_depth (depth e) st
unfolding need begun listed between bare gap celled body_end body_next body_finish arm_ended statement_ended body_ended block_ended within after purposed closing ended_in ended with_operator with_turn with_to with_by with_colon with_open have named subscripted targeted calling called looping looped names_closed edge edge_comma listing list_comma list_next tail tail_comma between_functions heading head_out head_equal headed head_name params param param_comma with_sign with_infix with_text with_end argument_colon with_colon_item used applied argued caller_stack caller_purpose
closed_exp_depth [] e = refl
closed_exp_depth (f ∷ st) e = closed_exp_depth st (closed f e) ∙ ap (λ d. stack_depth d st) (closed_depth f e)

stack_file_depth : (st : Stack) (k : Purpose) (e : Exp) → file_depth (purpose_file (closed_exp e st) k) ≡ operand_depth (depth e) st k
unfolding need begun listed between bare gap celled body_end body_next body_finish arm_ended statement_ended body_ended block_ended within after purposed closing ended_in ended with_operator with_turn with_to with_by with_colon with_open have named subscripted targeted calling called looping looped names_closed edge edge_comma listing list_comma list_next tail tail_comma between_functions heading head_out head_equal headed head_name params param param_comma with_sign with_infix with_text with_end argument_colon with_colon_item used applied argued caller_stack caller_purpose
stack_file_depth st k e = purpose_file_depth k (closed_exp e st) ∙ ap (λ d. purpose_depth d k) (closed_exp_depth st e)

-- what ends the parentheses of a name, behind them
abbrev caller_ends : Caller → List Lexeme
caller_ends (InValue st k) = stack_ends st k
caller_ends (InStatement u) = use_ends u

abbrev caller_file : Caller → Place → List ℕ → Place → Args → List Fun
caller_file (InValue st k) at text opens args = purpose_file (closed_exp (Apply at text opens args) st) k
caller_file (InStatement u) at text opens args = use_file u at text opens args

caller_runs : (c : Caller) (at : Place) (text : List ℕ) (opens : Place) (args : Args) → args ≢ NoArgs → run (applied c at text opens args) (caller_ends c) ≡ Some (caller_file c at text opens args)
unfolding need begun listed between bare gap celled body_end body_next body_finish arm_ended statement_ended body_ended block_ended within after purposed closing ended_in ended with_operator with_turn with_to with_by with_colon with_open have named subscripted targeted calling called looping looped names_closed edge edge_comma listing list_comma list_next tail tail_comma between_functions heading head_out head_equal headed head_name params param param_comma with_sign with_infix with_text with_end argument_colon with_colon_item used applied argued caller_stack caller_purpose
caller_runs (InValue st k) at text opens args h = stack_runs st k (Apply at text opens args)
caller_runs (InStatement u) at text opens args h = use_runs u at text opens args h

caller_file_depth : (c : Caller) (at : Place) (text : List ℕ) (opens : Place) (args : Args) → file_depth (caller_file c at text opens args) ≡ caller_depth (args_depth args) c
unfolding need begun listed between bare gap celled body_end body_next body_finish arm_ended statement_ended body_ended block_ended within after purposed closing ended_in ended with_operator with_turn with_to with_by with_colon with_open have named subscripted targeted calling called looping looped names_closed edge edge_comma listing list_comma list_next tail tail_comma between_functions heading head_out head_equal headed head_name params param param_comma with_sign with_infix with_text with_end argument_colon with_colon_item used applied argued caller_stack caller_purpose
caller_file_depth (InValue st k) at text opens args = stack_file_depth st k (Apply at text opens args)
caller_file_depth (InStatement u) at text opens args = use_file_depth u at text opens args

-- a shortest file of a state
pub record Shortest (q : State) : Type 0 where
  pub more : List Lexeme
  pub fs : List Fun
  pub runs : run q more ≡ Some fs
  pub deep : file_depth fs ≡ least q

begun_shortest : (c : Caller) (at : Place) (text : List ℕ) (opens : Place) → Shortest (Begun c at text opens)
unfolding need begun listed between bare gap celled body_end body_next body_finish arm_ended statement_ended body_ended block_ended within after purposed closing ended_in ended with_operator with_turn with_to with_by with_colon with_open have named subscripted targeted calling called looping looped names_closed edge edge_comma listing list_comma list_next tail tail_comma between_functions heading head_out head_equal headed head_name params param param_comma with_sign with_infix with_text with_end argument_colon with_colon_item used applied argued caller_stack caller_purpose
begun_shortest (InValue st k) at text opens = record { more = tok word.Colon ∷ tok word.Close ∷ stack_ends st k; fs = caller_file (InValue st k) at text opens (Whole NoArgs); runs = caller_runs (InValue st k) at text opens (Whole NoArgs) (whole_some NoArgs); deep = caller_file_depth (InValue st k) at text opens (Whole NoArgs) }
begun_shortest (InStatement u) at text opens = record { more = tok word.Colon ∷ tok word.Close ∷ use_ends u; fs = caller_file (InStatement u) at text opens (Whole NoArgs); runs = caller_runs (InStatement u) at text opens (Whole NoArgs) (whole_some NoArgs); deep = caller_file_depth (InStatement u) at text opens (Whole NoArgs) }

listed_shortest : (c : Caller) (at : Place) (text : List ℕ) (opens : Place) (args : Args) → Shortest (Listed c at text opens args)
unfolding need begun listed between bare gap celled body_end body_next body_finish arm_ended statement_ended body_ended block_ended within after purposed closing ended_in ended with_operator with_turn with_to with_by with_colon with_open have named subscripted targeted calling called looping looped names_closed edge edge_comma listing list_comma list_next tail tail_comma between_functions heading head_out head_equal headed head_name params param param_comma with_sign with_infix with_text with_end argument_colon with_colon_item used applied argued caller_stack caller_purpose
listed_shortest (InValue st k) at text opens args = record { more = tok word.Comma ∷ tok word.Colon ∷ tok word.Close ∷ stack_ends st k; fs = caller_file (InValue st k) at text opens (with_whole args); runs = caller_runs (InValue st k) at text opens (with_whole args) (whole_some args); deep = caller_file_depth (InValue st k) at text opens (with_whole args) ∙ ap (λ d. caller_depth d (InValue st k)) (args_depth_whole args) }
listed_shortest (InStatement u) at text opens args = record { more = tok word.Comma ∷ tok word.Colon ∷ tok word.Close ∷ use_ends u; fs = caller_file (InStatement u) at text opens (with_whole args); runs = caller_runs (InStatement u) at text opens (with_whole args) (whole_some args); deep = caller_file_depth (InStatement u) at text opens (with_whole args) ∙ ap (λ d. caller_depth d (InStatement u)) (args_depth_whole args) }

have_shortest : (e : Exp) (st : Stack) (k : Purpose) → Shortest (Have e st k)
unfolding need begun listed between bare gap celled body_end body_next body_finish arm_ended statement_ended body_ended block_ended within after purposed closing ended_in ended with_operator with_turn with_to with_by with_colon with_open have named subscripted targeted calling called looping looped names_closed edge edge_comma listing list_comma list_next tail tail_comma between_functions heading head_out head_equal headed head_name params param param_comma with_sign with_infix with_text with_end argument_colon with_colon_item used applied argued caller_stack caller_purpose
have_shortest e st k = record { more = stack_ends st k; fs = purpose_file (closed_exp e st) k; runs = stack_runs st k e; deep = stack_file_depth st k e }

-- an operand that is a name
named_shortest : (st : Stack) (k : Purpose) → need_depth st k ≡ operand_depth 1 st k → Shortest (Need st k)
unfolding need begun listed between bare gap celled body_end body_next body_finish arm_ended statement_ended body_ended block_ended within after purposed closing ended_in ended with_operator with_turn with_to with_by with_colon with_open have named subscripted targeted calling called looping looped names_closed edge edge_comma listing list_comma list_next tail tail_comma between_functions heading head_out head_equal headed head_name params param param_comma with_sign with_infix with_text with_end argument_colon with_colon_item used applied argued caller_stack caller_purpose
named_shortest st k e = record { more = tok word.Name ∷ stack_ends st k; fs = purpose_file (closed_exp (Name here []) st) k; runs = stack_runs st k (Name here []); deep = stack_file_depth st k (Name here []) ∙ sym e }

need_shortest : (st : Stack) (k : Purpose) → Shortest (Need st k)
unfolding need begun listed between bare gap celled body_end body_next body_finish arm_ended statement_ended body_ended block_ended within after purposed closing ended_in ended with_operator with_turn with_to with_by with_colon with_open have named subscripted targeted calling called looping looped names_closed edge edge_comma listing list_comma list_next tail tail_comma between_functions heading head_out head_equal headed head_name params param param_comma with_sign with_infix with_text with_end argument_colon with_colon_item used applied argued caller_stack caller_purpose
need_shortest (Call at text opens args ∷ st) k = record { more = tok word.Colon ∷ tok word.Close ∷ stack_ends st k; fs = caller_file (InValue st k) at text opens (with_whole args); runs = caller_runs (InValue st k) at text opens (with_whole args) (whole_some args); deep = caller_file_depth (InValue st k) at text opens (with_whole args) ∙ ap (λ d. caller_depth d (InValue st k)) (args_depth_whole args) }
need_shortest [] (Argument u at text opens args) = record { more = tok word.Colon ∷ tok word.Close ∷ use_ends u; fs = use_file u at text opens (with_whole args); runs = use_runs u at text opens (with_whole args) (whole_some args); deep = use_file_depth u at text opens (with_whole args) ∙ ap (λ d. use_depth d u) (args_depth_whole args) }
need_shortest [] k = named_shortest [] k refl
need_shortest (f ∷ st) k = named_shortest (f ∷ st) k refl

matrix_shortest : (q : State) (at : Place) (rows : Rows) (st : Stack) (k : Purpose) → run q (tok word.CloseSquare ∷ stack_ends st k) ≡ run (Have (Matrix at rows) st k) (stack_ends st k) → operand_depth (rows_depth rows + 1) st k ≡ least q → Shortest q
unfolding need begun listed between bare gap celled body_end body_next body_finish arm_ended statement_ended body_ended block_ended within after purposed closing ended_in ended with_operator with_turn with_to with_by with_colon with_open have named subscripted targeted calling called looping looped names_closed edge edge_comma listing list_comma list_next tail tail_comma between_functions heading head_out head_equal headed head_name params param param_comma with_sign with_infix with_text with_end argument_colon with_colon_item used applied argued caller_stack caller_purpose
matrix_shortest q at rows st k r d = record { more = tok word.CloseSquare ∷ stack_ends st k; fs = purpose_file (closed_exp (Matrix at rows) st) k; runs = r ∙ stack_runs st k (Matrix at rows); deep = stack_file_depth st k (Matrix at rows) ∙ d }

-- a statement of depth 2 with a name as its value
assign_shortest : (q : State) (ts : List Lexeme) (b : Block) (to : Ident) (out : Around) → run q (ts ++ ends out) ≡ run (Have (Name here []) [] (AssignTo b to out)) (ends out) → around_depth (max (block_depth b) 2) out ≡ least q → Shortest q
unfolding need begun listed between bare gap celled body_end body_next body_finish arm_ended statement_ended body_ended block_ended within after purposed closing ended_in ended with_operator with_turn with_to with_by with_colon with_open have named subscripted targeted calling called looping looped names_closed edge edge_comma listing list_comma list_next tail tail_comma between_functions heading head_out head_equal headed head_name params param param_comma with_sign with_infix with_text with_end argument_colon with_colon_item used applied argued caller_stack caller_purpose
assign_shortest q ts b to out r d = record { more = ts ++ ends out; fs = ended_file (with_statement b (Assign to (Name here []))) out; runs = r ∙ purpose_runs (AssignTo b to out) (Name here []); deep = more_depth out b (Assign to (Name here [])) ∙ d }

multi_shortest : (q : State) (ts : List Lexeme) (b : Block) (targets : List Ident) (at : Place) (text : List ℕ) (out : Around) → run q (ts ++ ends out) ≡ run (Called b targets at text out) (ends out) → around_depth (max (block_depth b) 2) out ≡ least q → Shortest q
unfolding need begun listed between bare gap celled body_end body_next body_finish arm_ended statement_ended body_ended block_ended within after purposed closing ended_in ended with_operator with_turn with_to with_by with_colon with_open have named subscripted targeted calling called looping looped names_closed edge edge_comma listing list_comma list_next tail tail_comma between_functions heading head_out head_equal headed head_name params param param_comma with_sign with_infix with_text with_end argument_colon with_colon_item used applied argued caller_stack caller_purpose
multi_shortest q ts b targets at text out r d = record { more = ts ++ ends out; fs = ended_file (with_statement b (Multi targets (Name at text))) out; runs = r ∙ called_after b targets at text out (ends out) (ends_after out) ∙ after_runs out (with_statement b (Multi targets (Name at text))); deep = more_depth out b (Multi targets (Name at text)) ∙ d }

loop_shortest : (q : State) (ts : List Lexeme) (b : Block) (at : Place) (to : Ident) (out : Around) → run q (ts ++ tok word.End ∷ ends out) ≡ run (Have (Name here []) [] (ForRange b at to out)) (tok word.End ∷ ends out) → around_depth (max (block_depth b) 2) out ≡ least q → Shortest q
unfolding need begun listed between bare gap celled body_end body_next body_finish arm_ended statement_ended body_ended block_ended within after purposed closing ended_in ended with_operator with_turn with_to with_by with_colon with_open have named subscripted targeted calling called looping looped names_closed edge edge_comma listing list_comma list_next tail tail_comma between_functions heading head_out head_equal headed head_name params param param_comma with_sign with_infix with_text with_end argument_colon with_colon_item used applied argued caller_stack caller_purpose
loop_shortest q ts b at to out r d = record { more = ts ++ tok word.End ∷ ends out; fs = purpose_file (Name here []) (ForRange b at to out); runs = r ∙ purpose_runs (ForRange b at to out) (Name here []); deep = purpose_file_depth (ForRange b at to out) (Name here []) ∙ d }

-- a function with an empty body
fun_shortest : (q : State) (ts : List Lexeme) (m : Mode) (fs : List Fun) (h : Header) → run q (ts ++ fun_ends m) ≡ run (Within Done (FunBody m fs h)) (fun_ends m) → file_depth fs ≡ least q → Shortest q
unfolding need begun listed between bare gap celled body_end body_next body_finish arm_ended statement_ended body_ended block_ended within after purposed closing ended_in ended with_operator with_turn with_to with_by with_colon with_open have named subscripted targeted calling called looping looped names_closed edge edge_comma listing list_comma list_next tail tail_comma between_functions heading head_out head_equal headed head_name params param param_comma with_sign with_infix with_text with_end argument_colon with_colon_item used applied argued caller_stack caller_purpose
fun_shortest q ts m fs h r d = record { more = ts ++ fun_ends m; fs = with_fun fs h Done; runs = r ∙ fun_within m fs h Done; deep = fun_depth fs h Done ∙ (let e : max (file_depth fs) 0 ≡ file_depth fs = omega arith in e) ∙ d }

lister_shortest : (q : State) (ts : List Lexeme) (l : Lister) (names : List Ident) → ((more : List Lexeme) → run q (ts ++ more) ≡ run (names_closed l names) more) → lister_depth l ≡ least q → Shortest q
unfolding need begun listed between bare gap celled body_end body_next body_finish arm_ended statement_ended body_ended block_ended within after purposed closing ended_in ended with_operator with_turn with_to with_by with_colon with_open have named subscripted targeted calling called looping looped names_closed edge edge_comma listing list_comma list_next tail tail_comma between_functions heading head_out head_equal headed head_name params param param_comma with_sign with_infix with_text with_end argument_colon with_colon_item used applied argued caller_stack caller_purpose
lister_shortest q ts (Outputs m fs) names r d = record {
  more = ts ++ (tok word.Equal ∷ tok word.Name ∷ tok word.Newline ∷ fun_ends m);
  fs = with_fun fs (header_of names someone []) Done;
  runs = r (tok word.Equal ∷ tok word.Name ∷ tok word.Newline ∷ fun_ends m) ∙ fun_within m fs (header_of names someone []) Done;
  deep = fun_depth fs (header_of names someone []) Done ∙ (let e : max (file_depth fs) 0 ≡ file_depth fs = omega arith in e) ∙ d;
}
lister_shortest q ts (Targets b out) names r d = record {
  more = ts ++ (tok word.Equal ∷ tok word.Name ∷ ends out);
  fs = ended_file (with_statement b (Multi names (Name here []))) out;
  runs = r (tok word.Equal ∷ tok word.Name ∷ ends out) ∙ called_after b names here [] out (ends out) (ends_after out) ∙ after_runs out (with_statement b (Multi names (Name here [])));
  deep = more_depth out b (Multi names (Name here [])) ∙ d;
}

-- each state that is not stuck goes on to a file of the least depth
pub shortest : (q : State) → q ≢ Stuck → Shortest q
unfolding need begun listed between bare gap celled body_end body_next body_finish arm_ended statement_ended body_ended block_ended within after purposed closing ended_in ended with_operator with_turn with_to with_by with_colon with_open have named subscripted targeted calling called looping looped names_closed edge edge_comma listing list_comma list_next tail tail_comma between_functions heading head_out head_equal headed head_name params param param_comma with_sign with_infix with_text with_end argument_colon with_colon_item used applied argued caller_stack caller_purpose
shortest (Need st k) h = need_shortest st k
shortest (Begun c at text opens) h = begun_shortest c at text opens
shortest (Listed c at text opens args) h = listed_shortest c at text opens args
shortest (Between at rows st k) h = matrix_shortest (Between at rows st k) at rows st k refl refl
shortest (Bare at rows st k) h = matrix_shortest (Bare at rows st k) at rows st k refl refl
shortest (Gap at rows row st k) h = matrix_shortest (Gap at rows row st k) at (with_row rows row) st k refl (ap (λ d. operand_depth (d + 1) st k) (rows_depth_row rows row))
shortest (Have e st k) h = have_shortest e st k
shortest (Within b out) h = record { more = ends out; fs = ended_file b out; runs = within_runs out b; deep = ended_depth out b }
shortest (After b out) h = record { more = ends out; fs = ended_file b out; runs = after_runs out b; deep = ended_depth out b }
shortest (Named b to out) h = assign_shortest (Named b to out) (tok word.Equal ∷ tok word.Name ∷ []) b to out refl refl
shortest (Subscripted b to opens args out) h = record { more = tok word.Equal ∷ tok word.Name ∷ ends out; fs = ended_file (with_statement b (Store to opens args (Name here []))) out; runs = stored_runs b out to opens args; deep = more_depth out b (Store to opens args (Name here [])) }
shortest (Targeted b targets out) h = multi_shortest (Targeted b targets out) (tok word.Equal ∷ tok word.Name ∷ []) b targets here [] out refl refl
shortest (Calling b targets out) h = multi_shortest (Calling b targets out) (tok word.Name ∷ []) b targets here [] out refl refl
shortest (Called b targets at text out) h = multi_shortest (Called b targets at text out) [] b targets at text out refl refl
shortest (Looping b at out) h = loop_shortest (Looping b at out) (tok word.Name ∷ tok word.Equal ∷ tok word.Name ∷ []) b at someone out refl refl
shortest (Looped b at to out) h = loop_shortest (Looped b at to out) (tok word.Equal ∷ tok word.Name ∷ []) b at to out refl refl
shortest (Edge l) h = lister_shortest (Edge l) (tok word.Name ∷ tok word.CloseSquare ∷ []) l (someone ∷ []) (λ more. refl) refl
shortest (EdgeComma l) h = lister_shortest (EdgeComma l) (tok word.Semicolon ∷ tok word.Name ∷ tok word.CloseSquare ∷ []) l (someone ∷ []) (λ more. refl) refl
shortest (Listing l names) h = lister_shortest (Listing l names) (tok word.CloseSquare ∷ []) l names (λ more. refl) refl
shortest (ListComma l names) h = lister_shortest (ListComma l names) (tok word.CloseSquare ∷ []) l names (λ more. refl) refl
shortest (ListNext l names) h = lister_shortest (ListNext l names) (tok word.Name ∷ tok word.CloseSquare ∷ []) l (names ++ someone ∷ []) (λ more. refl) refl
shortest (Tail l names) h = lister_shortest (Tail l names) (tok word.CloseSquare ∷ []) l names (λ more. refl) refl
shortest (TailComma l names) h = lister_shortest (TailComma l names) (tok word.CloseSquare ∷ []) l names (λ more. refl) refl
shortest (Top m fs) h = record { more = tok word.Finish ∷ []; fs = fs; runs = refl; deep = refl }
shortest (Heading m fs) h = fun_shortest (Heading m fs) (tok word.Name ∷ tok word.Equal ∷ tok word.Name ∷ tok word.Newline ∷ []) m fs (header_of (someone ∷ []) someone []) refl refl
shortest (HeadOut m fs outputs) h = fun_shortest (HeadOut m fs outputs) (tok word.Equal ∷ tok word.Name ∷ tok word.Newline ∷ []) m fs (header_of outputs someone []) refl refl
shortest (HeadEqual m fs outputs) h = fun_shortest (HeadEqual m fs outputs) (tok word.Name ∷ tok word.Newline ∷ []) m fs (header_of outputs someone []) refl refl
shortest (HeadName m fs outputs name) h = fun_shortest (HeadName m fs outputs name) (tok word.Newline ∷ []) m fs (header_of outputs name []) refl refl
shortest (Params m fs outputs name) h = fun_shortest (Params m fs outputs name) (tok word.Close ∷ tok word.Newline ∷ []) m fs (header_of outputs name []) refl refl
shortest (Param m fs x) h = fun_shortest (Param m fs x) (tok word.Close ∷ tok word.Newline ∷ []) m fs x refl refl
shortest (ParamComma m fs x) h = fun_shortest (ParamComma m fs x) (tok word.Name ∷ tok word.Close ∷ tok word.Newline ∷ []) m fs (header_of x.outputs x.name (x.inputs ++ someone ∷ [])) refl refl
shortest (Headed m fs x) h = fun_shortest (Headed m fs x) (tok word.Newline ∷ []) m fs x refl refl
shortest (Complete fs) h = record { more = []; fs = fs; runs = refl; deep = refl }
shortest Stuck h = absurd (h refl)

pub steps_append : (ts us : List Lexeme) (q : State) → steps q (ts ++ us) ≡ steps (steps q ts) us
unfolding need begun listed between bare gap celled body_end body_next body_finish arm_ended statement_ended body_ended block_ended within after purposed closing ended_in ended with_operator with_turn with_to with_by with_colon with_open have named subscripted targeted calling called looping looped names_closed edge edge_comma listing list_comma list_next tail tail_comma between_functions heading head_out head_equal headed head_name params param param_comma with_sign with_infix with_text with_end argument_colon with_colon_item used applied argued caller_stack caller_purpose
steps_append [] us q = refl
steps_append (t ∷ ts) us q = steps_append ts us (step q t)

run_on : (ts more : List Lexeme) (fs : List Fun) → file fs (ts ++ more) [] → run (state ts) more ≡ Some fs
unfolding need begun listed between bare gap celled body_end body_next body_finish arm_ended statement_ended body_ended block_ended within after purposed closing ended_in ended with_operator with_turn with_to with_by with_colon with_open have named subscripted targeted calling called looping looped names_closed edge edge_comma listing list_comma list_next tail tail_comma between_functions heading head_out head_equal headed head_name params param param_comma with_sign with_infix with_text with_end argument_colon with_colon_item used applied argued caller_stack caller_purpose
run_on ts more fs h = ap finish (sym (steps_append ts more start)) ∙ whole_runs fs (ts ++ more) h

whole_from : (ts more : List Lexeme) (fs : List Fun) → run (state ts) more ≡ Some fs → file fs (ts ++ more) []
unfolding need begun listed between bare gap celled body_end body_next body_finish arm_ended statement_ended body_ended block_ended within after purposed closing ended_in ended with_operator with_turn with_to with_by with_colon with_open have named subscripted targeted calling called looping looped names_closed edge edge_comma listing list_comma list_next tail tail_comma between_functions heading head_out head_equal headed head_name params param param_comma with_sign with_infix with_text with_end argument_colon with_colon_item used applied argued caller_stack caller_purpose
whole_from ts more fs h = run_whole (ts ++ more) fs (ap finish (steps_append ts more start) ∙ h)

pub live : (ts : List Lexeme) → state ts ≢ Stuck → IsLive ts
unfolding need begun listed between bare gap celled body_end body_next body_finish arm_ended statement_ended body_ended block_ended within after purposed closing ended_in ended with_operator with_turn with_to with_by with_colon with_open have named subscripted targeted calling called looping looped names_closed edge edge_comma listing list_comma list_next tail tail_comma between_functions heading head_out head_equal headed head_name params param param_comma with_sign with_infix with_text with_end argument_colon with_colon_item used applied argued caller_stack caller_purpose
live ts h = let s = shortest (state ts) h in (s.more, s.fs, whole_from ts s.more s.fs s.runs)

pub unlive : (ts : List Lexeme) → IsLive ts → state ts ≢ Stuck
unfolding need begun listed between bare gap celled body_end body_next body_finish arm_ended statement_ended body_ended block_ended within after purposed closing ended_in ended with_operator with_turn with_to with_by with_colon with_open have named subscripted targeted calling called looping looped names_closed edge edge_comma listing list_comma list_next tail tail_comma between_functions heading head_out head_equal headed head_name params param param_comma with_sign with_infix with_text with_end argument_colon with_colon_item used applied argued caller_stack caller_purpose
unlive ts h = unstuck h.0 (state ts) h.1 (run_on ts h.0 h.1 h.2)

pub shallow : (ts : List Lexeme) → state ts ≢ Stuck → least (state ts) ≤ 100 → IsShallow ts
unfolding need begun listed between bare gap celled body_end body_next body_finish arm_ended statement_ended body_ended block_ended within after purposed closing ended_in ended with_operator with_turn with_to with_by with_colon with_open have named subscripted targeted calling called looping looped names_closed edge edge_comma listing list_comma list_next tail tail_comma between_functions heading head_out head_equal headed head_name params param param_comma with_sign with_infix with_text with_end argument_colon with_colon_item used applied argued caller_stack caller_purpose
shallow ts h le = let s = shortest (state ts) h in (s.more, s.fs, omega (arith, s.deep), whole_from ts s.more s.fs s.runs)

pub unshallow : (ts : List Lexeme) → IsShallow ts → least (state ts) ≤ 100
unfolding need begun listed between bare gap celled body_end body_next body_finish arm_ended statement_ended body_ended block_ended within after purposed closing ended_in ended with_operator with_turn with_to with_by with_colon with_open have named subscripted targeted calling called looping looped names_closed edge edge_comma listing list_comma list_next tail tail_comma between_functions heading head_out head_equal headed head_name params param param_comma with_sign with_infix with_text with_end argument_colon with_colon_item used applied argued caller_stack caller_purpose
unshallow ts h = omega (arith, h.2, deepest h.0 (state ts) h.1 (run_on ts h.0 h.1 h.3))

pub shallow_live : (ts : List Lexeme) → IsShallow ts → IsLive ts
unfolding need begun listed between bare gap celled body_end body_next body_finish arm_ended statement_ended body_ended block_ended within after purposed closing ended_in ended with_operator with_turn with_to with_by with_colon with_open have named subscripted targeted calling called looping looped names_closed edge edge_comma listing list_comma list_next tail tail_comma between_functions heading head_out head_equal headed head_name params param param_comma with_sign with_infix with_text with_end argument_colon with_colon_item used applied argued caller_stack caller_purpose
shallow_live ts h = (h.0, h.1, h.3)
