-- What runs to a file is a token list of it.
use Rattle.std.proofs.Common.{◌≡◌, ◌≢◌, ℕ, ◌+◌, ◌<◌, ◌≤◌, Bool, true, false, List, [], ◌∷◌, ◌++◌, arith, refl, sym, subst, ⊎_elim, inl, inr, Some, None, Option}
use Rattle.std.specs.Prelude.{◌⊎◌, codes, nat_lt, nat_le, if◌then◌else◌}
use Rattle.std.proofs.lemmas.Bool.{ltb-true, ltb-false, leb-true, leb-false}
use Rattle.fic_base.specs.declared.place.Place.{Place}
use Rattle.mat_ast.specs.declared.tree.UnOp.{UnOp}
use Rattle.mat_ast.specs.declared.tree.UnOp.TheVariants as un
use Rattle.mat_ast.specs.declared.tree.BinOp.{BinOp}
use Rattle.mat_ast.specs.declared.tree.BinOp.TheVariants as bin
use Rattle.mat_ast.specs.declared.tree.PostOp.{PostOp}
use Rattle.mat_ast.specs.declared.tree.Ident.{Ident}
use Rattle.mat_ast.specs.Tree.{Exp, Name, End, Unary, Binary, Post, Range, RangeBy, Matrix, Args, NoArgs, Whole, Item, Row, RowEnd, Rows, Sta, Assign, Store, Multi, IfOnly, IfElse, ForEach, WhileTrue, BreakOff, GoOn, Arms, Block, Done, Fun}
use Rattle.mat_token.specs.declared.token.Kind.TheVariants as kind
use Rattle.mat_token.specs.Lexeme.{Lexeme}
use Rattle.mat_grammar.specs.Lang.{Lang, ◌▸◌, ◌or◌, given, many, one_at, any_of, op, op_at, keyword}
use Rattle.mat_grammar.specs.Spelling.{unary_text}
use Rattle.mat_grammar.specs.Grammar.{rank, rank_with, right_of, expression, exponent, arguments, comma, row_break, bracket_end, cells, separator, idents, name_list, statement, block, header_inputs, header_outputs, functions, file}
use Rattle.mat_grammar.specs.Words.{lexeme, word_of, sign_of, unquoted}
use Rattle.mat_grammar.specs.declared.word.Word.{Word}
use Rattle.mat_grammar.specs.declared.word.Word.TheVariants as word
use Rattle.mat_grammar.specs.declared.word.Mode.{Mode}
use Rattle.mat_grammar.specs.declared.word.Mode.TheVariants as mode
use Rattle.mat_grammar.specs.Machine.{Frame, Sign, ExponentSign, Right, Inside, Call, To, ByTo, Cells, Stack, Header, Around, IfBody, ElseBody, WhileBody, ForBody, FunBody, Use, Target, Callee, Purpose, AssignTo, StoreTo, ArmTest, WhileTest, ForRange, Argument, Caller, InValue, InStatement, Lister, Outputs, Targets, State, Need, Begun, Listed, Between, Bare, Gap, Have, Within, After, Named, Subscripted, Targeted, Calling, Called, Looping, Looped, Edge, EdgeComma, Listing, ListComma, ListNext, Tail, TailComma, Top, Heading, HeadOut, HeadEqual, HeadName, Params, Param, ParamComma, Headed, Complete, Stuck, level, top, tightness, rank_of, with_item, with_cell, with_row, with_statement, with_arm, fun_of, with_fun, ident_at, inside, closed, Operand, settle, caller_stack, caller_purpose, used, applied, argued, with_sign, with_infix, with_text, with_end, argument_colon, with_colon_item, need, begun, listed, between, bare, gap, celled, body_end, body_next, body_finish, arm_ended, statement_ended, body_ended, block_ended, within, after, purposed, closing, ended_in, ended, with_operator, with_turn, with_to, with_by, with_colon, with_open, have, named, subscripted, targeted, calling, called, looping, looped, names_closed, edge, edge_comma, listing, list_comma, list_next, tail, tail_comma, between_functions, heading, head_out, head_equal, headed, header_of, head_name, params, param, param_comma, go, step, finish, run, start}
use Rattle.mat_grammar.proofs.Join.{join, push, push2, push3, push4, push5, many_none, many_first, many_last}
use Rattle.mat_grammar.proofs.Words.{same_lexeme}
use Rattle.mat_grammar.proofs.Texts.{number_holds, text_holds}
use Rattle.mat_grammar.proofs.ReadUp.{read_args, read_rows, read_top, read_heading, header_read, Blocks, Before, Uses, Purposes, Frames, operand, Reads, Callers, Lists, Holds, last_item, item_read, last_whole, last_cell, cell_read, shut, break_read, row_read, rows_end, last_row, last_ident, more_block, block_end, after_holds, last_arm, test_read, last_function, top_break}

level_kind : (f : Frame) → (level f ≤ 8) ⊎ (level f ≡ 11)
unfolding need begun listed between bare gap celled body_end body_next body_finish arm_ended statement_ended body_ended block_ended within after purposed closing ended_in ended with_operator with_turn with_to with_by with_colon with_open have named subscripted targeted calling called looping looped names_closed edge edge_comma listing list_comma list_next tail tail_comma between_functions heading head_out head_equal headed head_name params param param_comma with_sign with_infix with_text with_end argument_colon with_colon_item used applied argued caller_stack caller_purpose
level_kind (ExponentSign at sign) = inr refl
level_kind (Right at bin.Pow a) = inr refl
level_kind (Right at bin.ElemPow a) = inr refl
level_kind (Right at _ a) = inl (omega arith)
level_kind _ = inl (omega arith)

top_kind : (st : Stack) → (top st ≤ 8) ⊎ (top st ≡ 11)
unfolding need begun listed between bare gap celled body_end body_next body_finish arm_ended statement_ended body_ended block_ended within after purposed closing ended_in ended with_operator with_turn with_to with_by with_colon with_open have named subscripted targeted calling called looping looped names_closed edge edge_comma listing list_comma list_next tail tail_comma between_functions heading head_out head_equal headed head_name params param param_comma with_sign with_infix with_text with_end argument_colon with_colon_item used applied argued caller_stack caller_purpose
top_kind [] = inl (omega arith)
top_kind (f ∷ st) = level_kind f

top_high : (st : Stack) → 8 < top st → top st ≡ 11
unfolding need begun listed between bare gap celled body_end body_next body_finish arm_ended statement_ended body_ended block_ended within after purposed closing ended_in ended with_operator with_turn with_to with_by with_colon with_open have named subscripted targeted calling called looping looped names_closed edge edge_comma listing list_comma list_next tail tail_comma between_functions heading head_out head_equal headed head_name params param param_comma with_sign with_infix with_text with_end argument_colon with_colon_item used applied argued caller_stack caller_purpose
top_high st h = ⊎_elim (λ l. omega arith) (λ e. e) (top_kind st)

top_low : (st : Stack) → top st ≤ 10 → top st ≤ 8
unfolding need begun listed between bare gap celled body_end body_next body_finish arm_ended statement_ended body_ended block_ended within after purposed closing ended_in ended with_operator with_turn with_to with_by with_colon with_open have named subscripted targeted calling called looping looped names_closed edge edge_comma listing list_comma list_next tail tail_comma between_functions heading head_out head_equal headed head_name params param param_comma with_sign with_infix with_text with_end argument_colon with_colon_item used applied argued caller_stack caller_purpose
top_low st h = ⊎_elim (λ l. l) (λ e. omega arith) (top_kind st)

rank_with_least : (o : BinOp) (e : Exp) (n : ℕ) → n ≤ rank o → (n ≤ 10 → n ≤ 8) → n ≤ rank_with o e
unfolding need begun listed between bare gap celled body_end body_next body_finish arm_ended statement_ended body_ended block_ended within after purposed closing ended_in ended with_operator with_turn with_to with_by with_colon with_open have named subscripted targeted calling called looping looped names_closed edge edge_comma listing list_comma list_next tail tail_comma between_functions heading head_out head_equal headed head_name params param param_comma with_sign with_infix with_text with_end argument_colon with_colon_item used applied argued caller_stack caller_purpose
rank_with_least bin.Pow (Unary at sign e) n h k = omega (arith, k h)
rank_with_least bin.Pow _ n h k = h
rank_with_least bin.ElemPow (Unary at sign e) n h k = omega (arith, k h)
rank_with_least bin.ElemPow _ n h k = h
rank_with_least _ e n h k = h

relevel : (e : Exp) (b : Bool) (l k : ℕ) (ts rest : List Lexeme) → expression b l e ts rest → k ≤ rank_of e → expression b k e ts rest
unfolding need begun listed between bare gap celled body_end body_next body_finish arm_ended statement_ended body_ended block_ended within after purposed closing ended_in ended with_operator with_turn with_to with_by with_colon with_open have named subscripted targeted calling called looping looped names_closed edge edge_comma listing list_comma list_next tail tail_comma between_functions heading head_out head_equal headed head_name params param param_comma with_sign with_infix with_text with_end argument_colon with_colon_item used applied argued caller_stack caller_purpose
relevel (Unary at sign e) b l k ts rest h le = (le, h.1)
relevel (Binary at o a c) b l k ts rest h le = (le, h.1)
relevel (Post at mark a) b l k ts rest h le = (le, h.1)
relevel (Range at a c) b l k ts rest h le = (le, h.1)
relevel (RangeBy at a c d) b l k ts rest h le = (le, h.1)
relevel _ b l k ts rest h le = h

right_form : (o : BinOp) (c : Bool) (e : Exp) (ts rest : List Lexeme) → (expression c (rank o + 1) e or given (rank o + 1 ≡ 11) (exponent c e)) ts rest → right_of o (λ l. expression c l e) (exponent c e) ts rest
unfolding need begun listed between bare gap celled body_end body_next body_finish arm_ended statement_ended body_ended block_ended within after purposed closing ended_in ended with_operator with_turn with_to with_by with_colon with_open have named subscripted targeted calling called looping looped names_closed edge edge_comma listing list_comma list_next tail tail_comma between_functions heading head_out head_equal headed head_name params param param_comma with_sign with_infix with_text with_end argument_colon with_colon_item used applied argued caller_stack caller_purpose
right_form bin.Pow c e ts rest h = ⊎_elim (λ x. inl x) (λ x. inr x.1) h
right_form bin.ElemPow c e ts rest h = ⊎_elim (λ x. inl x) (λ x. inr x.1) h
right_form o c e ts rest h = ⊎_elim (λ x. x) (λ x. let f : rank o + 1 ≡ 11 = x.0 in absurd (omega arith)) h

plain_operand : (st : Stack) (k : Purpose) (e : Exp) (ts rest : List Lexeme) → top st ≤ 10 → operand st k e ts rest → expression (inside st k) (top st) e ts rest
unfolding need begun listed between bare gap celled body_end body_next body_finish arm_ended statement_ended body_ended block_ended within after purposed closing ended_in ended with_operator with_turn with_to with_by with_colon with_open have named subscripted targeted calling called looping looped names_closed edge edge_comma listing list_comma list_next tail tail_comma between_functions heading head_out head_equal headed head_name params param param_comma with_sign with_infix with_text with_end argument_colon with_colon_item used applied argued caller_stack caller_purpose
plain_operand st k e ts rest le h = ⊎_elim (λ x. x) (λ x. let f : top st ≡ 11 = x.0 in absurd (omega arith)) h

close_holds : (f : Frame) (e : Exp) (st : Stack) (k : Purpose) (all rest : List Lexeme) → 0 < level f → Reads e (f ∷ st) k all rest → Reads (closed f e) st k all rest
unfolding need begun listed between bare gap celled body_end body_next body_finish arm_ended statement_ended body_ended block_ended within after purposed closing ended_in ended with_operator with_turn with_to with_by with_colon with_open have named subscripted targeted calling called looping looped names_closed edge edge_comma listing list_comma list_next tail tail_comma between_functions heading head_out head_equal headed head_name params param param_comma with_sign with_infix with_text with_end argument_colon with_colon_item used applied argued caller_stack caller_purpose
close_holds (Sign at sign) e st k all rest pos h = join _ h.before.1.before (inl (h.before.0, join h.middle h.before.1.after (plain_operand (Sign at sign ∷ st) k e _ rest (omega arith) h.after)))
close_holds (ExponentSign at sign) e st k all rest pos h = join _ h.before.1.before (inr (h.before.0, join h.middle h.before.1.after (⊎_elim (λ x. inl x) (λ x. inr x.1) h.after)))
close_holds (Right at o a) e st k all rest pos h = join _ h.before.1.before (inl (
  rank_with_least o e (top st) h.before.0 (top_low st),
  join _ h.before.1.after.before (join h.middle h.before.1.after.after (right_form o (inside st k) e _ rest h.after)),
))
close_holds (To at first) e st k all rest pos h = join _ h.before.1.before (inl (
  h.before.0,
  join _ h.before.1.after.before (join h.middle h.before.1.after.after (plain_operand (To at first ∷ st) k e _ rest (omega arith) h.after)),
))
close_holds (ByTo at first by) e st k all rest pos h = join _ h.before.1.before (inl (
  h.before.0,
  join _ h.before.1.after.before (join _ h.before.1.after.after.before (join _ h.before.1.after.after.after.before (join h.middle h.before.1.after.after.after.after (plain_operand (ByTo at first by ∷ st) k e _ rest (omega arith) h.after)))),
))
close_holds (Cells at rows row) e st k all rest pos h = absurd (omega arith)
close_holds (Inside at) e st k all rest pos h = absurd (omega arith)
close_holds (Call at text opens args) e st k all rest pos h = absurd (omega arith)

-- an operand that was settled
abbrev Settled : ℕ → Purpose → List Lexeme → List Lexeme → Operand → Type 0
Settled r k all rest o = Reads o.is o.under k all rest × (top o.under ≤ r)

settle_holds : (r : ℕ) (e : Exp) (st : Stack) (k : Purpose) (all rest : List Lexeme) → Reads e st k all rest → Settled r k all rest (settle r e st)
unfolding need begun listed between bare gap celled body_end body_next body_finish arm_ended statement_ended body_ended block_ended within after purposed closing ended_in ended with_operator with_turn with_to with_by with_colon with_open have named subscripted targeted calling called looping looped names_closed edge edge_comma listing list_comma list_next tail tail_comma between_functions heading head_out head_equal headed head_name params param param_comma with_sign with_infix with_text with_end argument_colon with_colon_item used applied argued caller_stack caller_purpose
settle_holds r e [] k all rest h = (h, omega arith)
settle_holds r e (f ∷ st) k all rest h = split (λ x. settle_holds r (closed f e) st k all rest x) (nat_lt r (level f)) refl
  where
    split : (Reads (closed f e) st k all rest → Settled r k all rest (settle r (closed f e) st)) → (b : Bool) → nat_lt r (level f) ≡ b
        → Settled r k all rest (if b then settle r (closed f e) st else record { is = e; under = f ∷ st })
    split ih true t = let lt : r < level f = ltb-true r (level f) t in ih (close_holds f e st k all rest (omega arith) h)
    split ih false t = (h, ltb-false r (level f) t)

-- the token list that goes on with a token
abbrev go_on : Place → Word → List ℕ → List Lexeme → List Lexeme
go_on at w own ts = lexeme at w own ∷ ts

-- Where an operand has to come

sign_holds : (at : Place) (sign : UnOp) (st : Stack) (k : Purpose) (all m ts : List Lexeme) → Frames st k all m → op_at at (unary_text sign) m ts → Holds (with_sign at sign st k) all ts
unfolding need begun listed between bare gap celled body_end body_next body_finish arm_ended statement_ended body_ended block_ended within after purposed closing ended_in ended with_operator with_turn with_to with_by with_colon with_open have named subscripted targeted calling called looping looped names_closed edge edge_comma listing list_comma list_next tail tail_comma between_functions heading head_out head_equal headed head_name params param param_comma with_sign with_infix with_text with_end argument_colon with_colon_item used applied argued caller_stack caller_purpose
sign_holds at sign st k all m ts h e = split (nat_le (top st) 8) refl
  where
    split : (b : Bool) → nat_le (top st) 8 ≡ b → Holds (if b then Need (Sign at sign ∷ st) k else Need (ExponentSign at sign ∷ st) k) all ts
    split true t = (leb-true (top st) 8 t, join m h e)
    split false t = (top_high st (leb-false (top st) 8 t), join m h e)

infix_holds : (at : Place) (o : BinOp) (own : List ℕ) (st : Stack) (k : Purpose) (all ts : List Lexeme) → Frames st k all (go_on at (word.Infix o) own ts) → Holds (with_infix at (sign_of o) st k) all ts
unfolding need begun listed between bare gap celled body_end body_next body_finish arm_ended statement_ended body_ended block_ended within after purposed closing ended_in ended with_operator with_turn with_to with_by with_colon with_open have named subscripted targeted calling called looping looped names_closed edge edge_comma listing list_comma list_next tail tail_comma between_functions heading head_out head_equal headed head_name params param param_comma with_sign with_infix with_text with_end argument_colon with_colon_item used applied argued caller_stack caller_purpose
infix_holds at bin.Add own st k all ts h = sign_holds at un.Plus st k all _ ts h refl
infix_holds at bin.Sub own st k all ts h = sign_holds at un.Minus st k all _ ts h refl
infix_holds at _ own st k all ts h = tt

words_hold : (at : Place) (own : List ℕ) (text : Option (List ℕ)) (st : Stack) (k : Purpose) (all ts : List Lexeme) → unquoted own ≡ text → Frames st k all (go_on at word.Quoted own ts) → Holds (with_text at text st k) all ts
unfolding need begun listed between bare gap celled body_end body_next body_finish arm_ended statement_ended body_ended block_ended within after purposed closing ended_in ended with_operator with_turn with_to with_by with_colon with_open have named subscripted targeted calling called looping looped names_closed edge edge_comma listing list_comma list_next tail tail_comma between_functions heading head_out head_equal headed head_name params param param_comma with_sign with_infix with_text with_end argument_colon with_colon_item used applied argued caller_stack caller_purpose
words_hold at own (Some text) st k all ts e h = join _ h (inl (text_holds at own text ts e))
words_hold at own None st k all ts e h = tt

end_holds : (at : Place) (own : List ℕ) (st : Stack) (k : Purpose) (all ts : List Lexeme) → Frames st k all (go_on at word.End own ts) → Holds (with_end at st k) all ts
unfolding need begun listed between bare gap celled body_end body_next body_finish arm_ended statement_ended body_ended block_ended within after purposed closing ended_in ended with_operator with_turn with_to with_by with_colon with_open have named subscripted targeted calling called looping looped names_closed edge edge_comma listing list_comma list_next tail tail_comma between_functions heading head_out head_equal headed head_name params param param_comma with_sign with_infix with_text with_end argument_colon with_colon_item used applied argued caller_stack caller_purpose
end_holds at own st k all ts h = split (inside st k) refl
  where
    split : (b : Bool) → inside st k ≡ b → Holds (if b then Have (End at) st k else Stuck) all ts
    split true t = join _ h (inl (t, refl))
    split false t = tt

argument_colon_holds : (at : Place) (own : List ℕ) (k : Purpose) (all ts : List Lexeme) → Purposes k all (go_on at word.Colon own ts) → Holds (argument_colon k) all ts
unfolding need begun listed between bare gap celled body_end body_next body_finish arm_ended statement_ended body_ended block_ended within after purposed closing ended_in ended with_operator with_turn with_to with_by with_colon with_open have named subscripted targeted calling called looping looped names_closed edge edge_comma listing list_comma list_next tail tail_comma between_functions heading head_out head_equal headed head_name params param param_comma with_sign with_infix with_text with_end argument_colon with_colon_item used applied argued caller_stack caller_purpose
argument_colon_holds at own (Argument u name text opens args) all ts h = join _ h.before (join _ h.after.before (join _ h.after.after.before (last_whole args _ _ ts h.after.after.after (at, refl))))
argument_colon_holds at own _ all ts h = tt

colon_item_holds : (at : Place) (own : List ℕ) (st : Stack) (k : Purpose) (all ts : List Lexeme) → Frames st k all (go_on at word.Colon own ts) → Holds (with_colon_item st k) all ts
unfolding need begun listed between bare gap celled body_end body_next body_finish arm_ended statement_ended body_ended block_ended within after purposed closing ended_in ended with_operator with_turn with_to with_by with_colon with_open have named subscripted targeted calling called looping looped names_closed edge edge_comma listing list_comma list_next tail tail_comma between_functions heading head_out head_equal headed head_name params param param_comma with_sign with_infix with_text with_end argument_colon with_colon_item used applied argued caller_stack caller_purpose
colon_item_holds at own (Call name text opens args ∷ st) k all ts h = join _ h.before (join _ h.after.before (join _ h.after.after.before (last_whole args _ _ ts h.after.after.after (at, refl))))
colon_item_holds at own [] k all ts h = argument_colon_holds at own k all ts h
colon_item_holds at own (_ ∷ st) k all ts h = tt

need_holds : (at : Place) (w : Word) (own : List ℕ) (st : Stack) (k : Purpose) (all ts : List Lexeme) → Frames st k all (go_on at w own ts) → Holds (need at w own st k) all ts
unfolding need begun listed between bare gap celled body_end body_next body_finish arm_ended statement_ended body_ended block_ended within after purposed closing ended_in ended with_operator with_turn with_to with_by with_colon with_open have named subscripted targeted calling called looping looped names_closed edge edge_comma listing list_comma list_next tail tail_comma between_functions heading head_out head_equal headed head_name params param param_comma with_sign with_infix with_text with_end argument_colon with_colon_item used applied argued caller_stack caller_purpose
need_holds at word.Number own st k all ts h = join _ h (inl (number_holds at own ts))
need_holds at word.Quoted own st k all ts h = words_hold at own (unquoted own) st k all ts refl h
need_holds at word.Name own st k all ts h = join _ h (inl refl)
need_holds at (word.Infix o) own st k all ts h = infix_holds at o own st k all ts h
need_holds at word.Tilde own st k all ts h = sign_holds at un.Not st k all _ ts h refl
need_holds at word.Open own st k all ts h = join _ h refl
need_holds at word.OpenSquare own st k all ts h = join _ h (join ts refl (many_none row_break ts))
need_holds at word.End own st k all ts h = end_holds at own st k all ts h
need_holds at word.Colon own st k all ts h = colon_item_holds at own st k all ts h
need_holds at _ own st k all ts h = tt

-- Parentheses of names

caller_frames : (c : Caller) (at : Place) (text : List ℕ) (opens : Place) (args : Args) (all ts : List Lexeme) → (Callers c ▸ one_at at kind.Name text ▸ op_at opens (codes "(") ▸ read_args args) all ts
    → Frames (caller_stack c at text opens args) (caller_purpose c at text opens args) all ts
unfolding need begun listed between bare gap celled body_end body_next body_finish arm_ended statement_ended body_ended block_ended within after purposed closing ended_in ended with_operator with_turn with_to with_by with_colon with_open have named subscripted targeted calling called looping looped names_closed edge edge_comma listing list_comma list_next tail tail_comma between_functions heading head_out head_equal headed head_name params param param_comma with_sign with_infix with_text with_end argument_colon with_colon_item used applied argued caller_stack caller_purpose
caller_frames (InValue st k) at text opens args all ts h = h
caller_frames (InStatement u) at text opens args all ts h = h

-- arguments that are no empty list
stored_holds : (b : Block) (out : Around) (at : Place) (text : List ℕ) (opens : Place) (args : Args) (all ts : List Lexeme) → args ≢ NoArgs → (Before b out ▸ one_at at kind.Name text ▸ op_at opens (codes "(") ▸ arguments args ▸ op (codes ")")) all ts
    → Holds (Subscripted b (ident_at at text) opens args out) all ts
unfolding need begun listed between bare gap celled body_end body_next body_finish arm_ended statement_ended body_ended block_ended within after purposed closing ended_in ended with_operator with_turn with_to with_by with_colon with_open have named subscripted targeted calling called looping looped names_closed edge edge_comma listing list_comma list_next tail tail_comma between_functions heading head_out head_equal headed head_name params param param_comma with_sign with_infix with_text with_end argument_colon with_colon_item used applied argued caller_stack caller_purpose
stored_holds b out at text opens args all ts ne h = join _ h.before (join _ h.after.before (join _ h.after.after.before (join _ (ne, h.after.after.after.before) h.after.after.after.after)))

used_holds : (u : Use) (at : Place) (text : List ℕ) (opens : Place) (args : Args) (all ts : List Lexeme) → (Uses u ▸ one_at at kind.Name text ▸ op_at opens (codes "(") ▸ arguments args ▸ op (codes ")")) all ts
    → Holds (used u at text opens args) all ts
unfolding used
used_holds (Target b out) at text opens NoArgs all ts h = tt
used_holds (Target b out) at text opens (Whole more) all ts h = stored_holds b out at text opens (Whole more) all ts (λ e. absurd (cc)) h
used_holds (Target b out) at text opens (Item e more) all ts h = stored_holds b out at text opens (Item e more) all ts (λ e. absurd (cc)) h
used_holds (Callee b targets out) at text opens args all ts h = after_holds b _ out all ts (push2 h)

applied_holds : (c : Caller) (at : Place) (text : List ℕ) (opens : Place) (args : Args) (all ts : List Lexeme) → (Callers c ▸ one_at at kind.Name text ▸ op_at opens (codes "(") ▸ arguments args ▸ op (codes ")")) all ts
    → Holds (applied c at text opens args) all ts
unfolding need begun listed between bare gap celled body_end body_next body_finish arm_ended statement_ended body_ended block_ended within after purposed closing ended_in ended with_operator with_turn with_to with_by with_colon with_open have named subscripted targeted calling called looping looped names_closed edge edge_comma listing list_comma list_next tail tail_comma between_functions heading head_out head_equal headed head_name params param param_comma with_sign with_infix with_text with_end argument_colon with_colon_item used applied argued caller_stack caller_purpose
applied_holds (InValue st k) at text opens args all ts h = join _ h.before (inl h.after)
applied_holds (InStatement u) at text opens args all ts h = used_holds u at text opens args all ts h

begun_holds : (c : Caller) (name : Place) (text : List ℕ) (opens at : Place) (w : Word) (own : List ℕ) (all ts : List Lexeme) → Holds (Begun c name text opens) all (go_on at w own ts) → Holds (begun c name text opens at w own) all ts
unfolding need begun listed between bare gap celled body_end body_next body_finish arm_ended statement_ended body_ended block_ended within after purposed closing ended_in ended with_operator with_turn with_to with_by with_colon with_open have named subscripted targeted calling called looping looped names_closed edge edge_comma listing list_comma list_next tail tail_comma between_functions heading head_out head_equal headed head_name params param param_comma with_sign with_infix with_text with_end argument_colon with_colon_item used applied argued caller_stack caller_purpose
begun_holds c name text opens at word.Close own all ts h = applied_holds c name text opens NoArgs all ts (join _ h.before (join _ h.after.before (join _ h.after.after (join _ refl (at, refl)))))
begun_holds c name text opens at w own all ts h = need_holds at w own (caller_stack c name text opens NoArgs) (caller_purpose c name text opens NoArgs) all ts
    (caller_frames c name text opens NoArgs all _ (join _ h.before (join _ h.after.before (join _ h.after.after refl))))

listed_holds : (c : Caller) (name : Place) (text : List ℕ) (opens : Place) (args : Args) (at : Place) (w : Word) (own : List ℕ) (all ts : List Lexeme) → Holds (Listed c name text opens args) all (go_on at w own ts) → Holds (listed c name text opens args w) all ts
unfolding need begun listed between bare gap celled body_end body_next body_finish arm_ended statement_ended body_ended block_ended within after purposed closing ended_in ended with_operator with_turn with_to with_by with_colon with_open have named subscripted targeted calling called looping looped names_closed edge edge_comma listing list_comma list_next tail tail_comma between_functions heading head_out head_equal headed head_name params param param_comma with_sign with_infix with_text with_end argument_colon with_colon_item used applied argued caller_stack caller_purpose
listed_holds c name text opens args at word.Close own all ts h = applied_holds c name text opens args all ts (join _ h.before (join _ h.after.before (join _ h.after.after.before (join _ h.after.after.after.0 (at, refl)))))
listed_holds c name text opens args at word.Comma own all ts h = caller_frames c name text opens args all ts (join _ h.before (join _ h.after.before (join _ h.after.after.before (h.after.after.after.1 ts (at, refl)))))
listed_holds c name text opens args at _ own all ts h = tt

argued_holds : (at : Place) (w : Word) (own : List ℕ) (e : Exp) (c : Caller) (name : Place) (text : List ℕ) (opens : Place) (args : Args) (all m ts : List Lexeme)
    → (Callers c ▸ one_at name kind.Name text ▸ op_at opens (codes "(") ▸ read_args args) all m → expression true 0 e m (go_on at w own ts) → Holds (argued w e c name text opens args) all ts
unfolding need begun listed between bare gap celled body_end body_next body_finish arm_ended statement_ended body_ended block_ended within after purposed closing ended_in ended with_operator with_turn with_to with_by with_colon with_open have named subscripted targeted calling called looping looped names_closed edge edge_comma listing list_comma list_next tail tail_comma between_functions heading head_out head_equal headed head_name params param param_comma with_sign with_infix with_text with_end argument_colon with_colon_item used applied argued caller_stack caller_purpose
argued_holds at word.Close own e c name text opens args all m ts h x = applied_holds c name text opens (with_item args e) all ts
    (join _ h.before (join _ h.after.before (join _ h.after.after.before (join _ (last_item args e _ m _ h.after.after.after x) (at, refl)))))
argued_holds at word.Comma own e c name text opens args all m ts h x = caller_frames c name text opens (with_item args e) all ts
    (join _ h.before (join _ h.after.before (join _ h.after.after.before (item_read args e _ m _ ts h.after.after.after x (at, refl)))))
argued_holds at _ own e c name text opens args all m ts h x = tt

-- Brackets

-- a row end with no comma before it
break_at : (ts m : List Lexeme) → (op (codes ";") or any_of kind.Newline) ts m → row_break ts m
unfolding need begun listed between bare gap celled body_end body_next body_finish arm_ended statement_ended body_ended block_ended within after purposed closing ended_in ended with_operator with_turn with_to with_by with_colon with_open have named subscripted targeted calling called looping looped names_closed edge edge_comma listing list_comma list_next tail tail_comma between_functions heading head_out head_equal headed head_name params param param_comma with_sign with_infix with_text with_end argument_colon with_colon_item used applied argued caller_stack caller_purpose
break_at ts m h = join ts (inl refl) h

semicolon : (at : Place) (own : List ℕ) (ts : List Lexeme) → (op (codes ";") or any_of kind.Newline) (go_on at word.Semicolon own ts) ts
unfolding need begun listed between bare gap celled body_end body_next body_finish arm_ended statement_ended body_ended block_ended within after purposed closing ended_in ended with_operator with_turn with_to with_by with_colon with_open have named subscripted targeted calling called looping looped names_closed edge edge_comma listing list_comma list_next tail tail_comma between_functions heading head_out head_equal headed head_name params param param_comma with_sign with_infix with_text with_end argument_colon with_colon_item used applied argued caller_stack caller_purpose
semicolon at own ts = inl (at, refl)

newline : (at : Place) (own : List ℕ) (ts : List Lexeme) → (op (codes ";") or any_of kind.Newline) (go_on at word.Newline own ts) ts
unfolding need begun listed between bare gap celled body_end body_next body_finish arm_ended statement_ended body_ended block_ended within after purposed closing ended_in ended with_operator with_turn with_to with_by with_colon with_open have named subscripted targeted calling called looping looped names_closed edge edge_comma listing list_comma list_next tail tail_comma between_functions heading head_out head_equal headed head_name params param param_comma with_sign with_infix with_text with_end argument_colon with_colon_item used applied argued caller_stack caller_purpose
newline at own ts = inr (own, (at, refl))

rows_closed : (opens : Place) (rows : Rows) (st : Stack) (k : Purpose) (all m ts : List Lexeme) → (Frames st k ▸ op_at opens (codes "[") ▸ read_rows (inside st k) rows) all m → shut m ts → Holds (Have (Matrix opens rows) st k) all ts
unfolding need begun listed between bare gap celled body_end body_next body_finish arm_ended statement_ended body_ended block_ended within after purposed closing ended_in ended with_operator with_turn with_to with_by with_colon with_open have named subscripted targeted calling called looping looped names_closed edge edge_comma listing list_comma list_next tail tail_comma between_functions heading head_out head_equal headed head_name params param param_comma with_sign with_infix with_text with_end argument_colon with_colon_item used applied argued caller_stack caller_purpose
rows_closed opens rows st k all m ts h s = join _ h.before (inl (join _ h.after.before (rows_end rows (inside st k) _ m ts h.after.after s)))

between_break : (opens : Place) (rows : Rows) (st : Stack) (k : Purpose) (all m ts : List Lexeme) → (Frames st k ▸ op_at opens (codes "[") ▸ read_rows (inside st k) rows) all m → row_break m ts → Holds (Between opens rows st k) all ts
unfolding need begun listed between bare gap celled body_end body_next body_finish arm_ended statement_ended body_ended block_ended within after purposed closing ended_in ended with_operator with_turn with_to with_by with_colon with_open have named subscripted targeted calling called looping looped names_closed edge edge_comma listing list_comma list_next tail tail_comma between_functions heading head_out head_equal headed head_name params param param_comma with_sign with_infix with_text with_end argument_colon with_colon_item used applied argued caller_stack caller_purpose
between_break opens rows st k all m ts h s = join _ h.before (join _ h.after.before (break_read rows (inside st k) _ m ts h.after.after s))

between_holds : (opens : Place) (rows : Rows) (at : Place) (w : Word) (own : List ℕ) (st : Stack) (k : Purpose) (all ts : List Lexeme) → Holds (Between opens rows st k) all (go_on at w own ts) → Holds (between opens rows at w own st k) all ts
unfolding need begun listed between bare gap celled body_end body_next body_finish arm_ended statement_ended body_ended block_ended within after purposed closing ended_in ended with_operator with_turn with_to with_by with_colon with_open have named subscripted targeted calling called looping looped names_closed edge edge_comma listing list_comma list_next tail tail_comma between_functions heading head_out head_equal headed head_name params param param_comma with_sign with_infix with_text with_end argument_colon with_colon_item used applied argued caller_stack caller_purpose
between_holds opens rows at word.Semicolon own st k all ts h = between_break opens rows st k all _ ts h (break_at _ ts (semicolon at own ts))
between_holds opens rows at word.Newline own st k all ts h = between_break opens rows st k all _ ts h (break_at _ ts (newline at own ts))
between_holds opens rows at word.Comma own st k all ts h = join _ h.before (join _ h.after.before (join _ h.after.after (at, refl)))
between_holds opens rows at word.CloseSquare own st k all ts h = rows_closed opens rows st k all _ ts h (join _ (inl refl) (at, refl))
between_holds opens rows at w own st k all ts h = need_holds at w own (Cells opens rows RowEnd ∷ st) k all ts (join _ h.before (join _ h.after.before (join _ h.after.after refl)))

-- without the comma
bared : (opens : Place) (rows : Rows) (st : Stack) (k : Purpose) (all ts : List Lexeme) (h : Holds (Bare opens rows st k) all ts) → (Frames st k ▸ op_at opens (codes "[") ▸ read_rows (inside st k) rows) all h.after.after.middle
unfolding need begun listed between bare gap celled body_end body_next body_finish arm_ended statement_ended body_ended block_ended within after purposed closing ended_in ended with_operator with_turn with_to with_by with_colon with_open have named subscripted targeted calling called looping looped names_closed edge edge_comma listing list_comma list_next tail tail_comma between_functions heading head_out head_equal headed head_name params param param_comma with_sign with_infix with_text with_end argument_colon with_colon_item used applied argued caller_stack caller_purpose
bared opens rows st k all ts h = join _ h.before (join _ h.after.before h.after.after.before)

bare_holds : (opens : Place) (rows : Rows) (at : Place) (w : Word) (own : List ℕ) (st : Stack) (k : Purpose) (all ts : List Lexeme) → Holds (Bare opens rows st k) all (go_on at w own ts) → Holds (bare opens rows w st k) all ts
unfolding need begun listed between bare gap celled body_end body_next body_finish arm_ended statement_ended body_ended block_ended within after purposed closing ended_in ended with_operator with_turn with_to with_by with_colon with_open have named subscripted targeted calling called looping looped names_closed edge edge_comma listing list_comma list_next tail tail_comma between_functions heading head_out head_equal headed head_name params param param_comma with_sign with_infix with_text with_end argument_colon with_colon_item used applied argued caller_stack caller_purpose
bare_holds opens rows at word.Semicolon own st k all ts h = between_break opens rows st k all _ ts (bared opens rows st k all _ h) (join _ (inr h.after.after.after) (semicolon at own ts))
bare_holds opens rows at word.Newline own st k all ts h = between_break opens rows st k all _ ts (bared opens rows st k all _ h) (join _ (inr h.after.after.after) (newline at own ts))
bare_holds opens rows at word.CloseSquare own st k all ts h = rows_closed opens rows st k all _ ts (bared opens rows st k all _ h) (join _ (inr h.after.after.after) (at, refl))
bare_holds opens rows at _ own st k all ts h = tt

-- a whole row, and what ends it
row_broken : (opens : Place) (rows : Rows) (row : Row) (st : Stack) (k : Purpose) (all m ts : List Lexeme) → (Frames st k ▸ op_at opens (codes "[") ▸ read_rows (inside st k) rows ▸ cells (inside st k) row) all m → row_break m ts
    → Holds (Between opens (with_row rows row) st k) all ts
unfolding need begun listed between bare gap celled body_end body_next body_finish arm_ended statement_ended body_ended block_ended within after purposed closing ended_in ended with_operator with_turn with_to with_by with_colon with_open have named subscripted targeted calling called looping looped names_closed edge edge_comma listing list_comma list_next tail tail_comma between_functions heading head_out head_equal headed head_name params param param_comma with_sign with_infix with_text with_end argument_colon with_colon_item used applied argued caller_stack caller_purpose
row_broken opens rows row st k all m ts h s = join _ h.before (join _ h.after.before (row_read rows (inside st k) row _ _ m ts h.after.after.before h.after.after.after s))

row_closed : (opens : Place) (rows : Rows) (row : Row) (st : Stack) (k : Purpose) (all m ts : List Lexeme) → (Frames st k ▸ op_at opens (codes "[") ▸ read_rows (inside st k) rows ▸ cells (inside st k) row) all m → shut m ts
    → Holds (Have (Matrix opens (with_row rows row)) st k) all ts
unfolding need begun listed between bare gap celled body_end body_next body_finish arm_ended statement_ended body_ended block_ended within after purposed closing ended_in ended with_operator with_turn with_to with_by with_colon with_open have named subscripted targeted calling called looping looped names_closed edge edge_comma listing list_comma list_next tail tail_comma between_functions heading head_out head_equal headed head_name params param param_comma with_sign with_infix with_text with_end argument_colon with_colon_item used applied argued caller_stack caller_purpose
row_closed opens rows row st k all m ts h s = join _ h.before (inl (join _ h.after.before (last_row rows (inside st k) row _ _ m ts h.after.after.before h.after.after.after s)))

-- the row of a gap, without the comma
gapped : (opens : Place) (rows : Rows) (row : Row) (st : Stack) (k : Purpose) (all ts : List Lexeme) (h : Holds (Gap opens rows row st k) all ts)
    → (Frames st k ▸ op_at opens (codes "[") ▸ read_rows (inside st k) rows ▸ cells (inside st k) row) all h.after.after.after.0.middle
unfolding need begun listed between bare gap celled body_end body_next body_finish arm_ended statement_ended body_ended block_ended within after purposed closing ended_in ended with_operator with_turn with_to with_by with_colon with_open have named subscripted targeted calling called looping looped names_closed edge edge_comma listing list_comma list_next tail tail_comma between_functions heading head_out head_equal headed head_name params param param_comma with_sign with_infix with_text with_end argument_colon with_colon_item used applied argued caller_stack caller_purpose
gapped opens rows row st k all ts h = join _ h.before (join _ h.after.before (join _ h.after.after.before h.after.after.after.0.before))

gap_holds : (opens : Place) (rows : Rows) (row : Row) (at : Place) (w : Word) (own : List ℕ) (st : Stack) (k : Purpose) (all ts : List Lexeme) → Holds (Gap opens rows row st k) all (go_on at w own ts) → Holds (gap opens rows row at w own st k) all ts
unfolding need begun listed between bare gap celled body_end body_next body_finish arm_ended statement_ended body_ended block_ended within after purposed closing ended_in ended with_operator with_turn with_to with_by with_colon with_open have named subscripted targeted calling called looping looped names_closed edge edge_comma listing list_comma list_next tail tail_comma between_functions heading head_out head_equal headed head_name params param param_comma with_sign with_infix with_text with_end argument_colon with_colon_item used applied argued caller_stack caller_purpose
gap_holds opens rows row at word.Semicolon own st k all ts h = row_broken opens rows row st k all _ ts (gapped opens rows row st k all _ h) (join _ (inr h.after.after.after.0.after) (semicolon at own ts))
gap_holds opens rows row at word.Newline own st k all ts h = row_broken opens rows row st k all _ ts (gapped opens rows row st k all _ h) (join _ (inr h.after.after.after.0.after) (newline at own ts))
gap_holds opens rows row at word.CloseSquare own st k all ts h = row_closed opens rows row st k all _ ts (gapped opens rows row st k all _ h) (join _ (inr h.after.after.after.0.after) (at, refl))
gap_holds opens rows row at w own st k all ts h = need_holds at w own (Cells opens rows row ∷ st) k all ts (join _ h.before (join _ h.after.before (join _ h.after.after.before h.after.after.after.1)))

-- the row with its last element
row_whole : (opens : Place) (rows : Rows) (row : Row) (e : Exp) (st : Stack) (k : Purpose) (all m ts : List Lexeme) → Frames (Cells opens rows row ∷ st) k all m → expression (inside st k) 0 e m ts
    → (Frames st k ▸ op_at opens (codes "[") ▸ read_rows (inside st k) rows ▸ cells (inside st k) (with_cell row e)) all ts
unfolding need begun listed between bare gap celled body_end body_next body_finish arm_ended statement_ended body_ended block_ended within after purposed closing ended_in ended with_operator with_turn with_to with_by with_colon with_open have named subscripted targeted calling called looping looped names_closed edge edge_comma listing list_comma list_next tail tail_comma between_functions heading head_out head_equal headed head_name params param param_comma with_sign with_infix with_text with_end argument_colon with_colon_item used applied argued caller_stack caller_purpose
row_whole opens rows row e st k all m ts h x = join _ h.before (join _ h.after.before (join _ h.after.after.before (last_cell row (inside st k) e _ m ts h.after.after.after x)))

celled_holds : (at : Place) (w : Word) (own : List ℕ) (opens : Place) (rows : Rows) (row : Row) (e : Exp) (st : Stack) (k : Purpose) (all m ts : List Lexeme)
    → Frames (Cells opens rows row ∷ st) k all m → expression (inside st k) 0 e m (go_on at w own ts) → Holds (celled w opens rows (with_cell row e) st k) all ts
unfolding need begun listed between bare gap celled body_end body_next body_finish arm_ended statement_ended body_ended block_ended within after purposed closing ended_in ended with_operator with_turn with_to with_by with_colon with_open have named subscripted targeted calling called looping looped names_closed edge edge_comma listing list_comma list_next tail tail_comma between_functions heading head_out head_equal headed head_name params param param_comma with_sign with_infix with_text with_end argument_colon with_colon_item used applied argued caller_stack caller_purpose
celled_holds at word.Comma own opens rows row e st k all m ts h x = join _ h.before (join _ h.after.before (join _ h.after.after.before (
  join _ (last_cell row (inside st k) e _ m _ h.after.after.after x) (at, refl),
  cell_read row (inside st k) e _ m _ ts h.after.after.after x (inl (at, refl)),
)))
celled_holds at word.Separator own opens rows row e st k all m ts h x = join _ h.before (join _ h.after.before (join _ h.after.after.before (cell_read row (inside st k) e _ m _ ts h.after.after.after x (inr (own, (at, refl))))))
celled_holds at word.Semicolon own opens rows row e st k all m ts h x = row_broken opens rows (with_cell row e) st k all _ ts (row_whole opens rows row e st k all m _ h x) (break_at _ ts (semicolon at own ts))
celled_holds at word.Newline own opens rows row e st k all m ts h x = row_broken opens rows (with_cell row e) st k all _ ts (row_whole opens rows row e st k all m _ h x) (break_at _ ts (newline at own ts))
celled_holds at word.CloseSquare own opens rows row e st k all m ts h x = row_closed opens rows (with_cell row e) st k all _ ts (row_whole opens rows row e st k all m _ h x) (join _ (inl refl) (at, refl))
celled_holds at _ own opens rows row e st k all m ts h x = tt

-- Ends of blocks

-- functions with one more, whose parts were read
ended_function : (fs : List Fun) (h : Header) (b : Block) (all m m' m'' ts : List Lexeme) → (many separator ▸ functions true fs ▸ keyword (codes "function")) all m → (header_read h ▸ separator) m m' → block b m' m'' → keyword (codes "end") m'' ts
    → (many separator ▸ functions true (with_fun fs h b)) all ts
unfolding need begun listed between bare gap celled body_end body_next body_finish arm_ended statement_ended body_ended block_ended within after purposed closing ended_in ended with_operator with_turn with_to with_by with_colon with_open have named subscripted targeted calling called looping looped names_closed edge edge_comma listing list_comma list_next tail tail_comma between_functions heading head_out head_equal headed head_name params param param_comma with_sign with_infix with_text with_end argument_colon with_colon_item used applied argued caller_stack caller_purpose
ended_function fs h b all m m' m'' ts x y z e = join _ x.before (last_function true fs (fun_of h b) _ _ ts x.after.before (join _ x.after.after (join _ y.before (join _ y.after (join _ z (join _ e (many_none separator ts)))))))

free_function : (fs : List Fun) (h : Header) (b : Block) (all m m' ts : List Lexeme) → (many separator ▸ functions false fs ▸ keyword (codes "function")) all m → (header_read h ▸ separator) m m' → block b m' ts
    → (many separator ▸ functions false (with_fun fs h b)) all ts
unfolding need begun listed between bare gap celled body_end body_next body_finish arm_ended statement_ended body_ended block_ended within after purposed closing ended_in ended with_operator with_turn with_to with_by with_colon with_open have named subscripted targeted calling called looping looped names_closed edge edge_comma listing list_comma list_next tail tail_comma between_functions heading head_out head_equal headed head_name params param param_comma with_sign with_infix with_text with_end argument_colon with_colon_item used applied argued caller_stack caller_purpose
free_function fs h b all m m' ts x y z = join _ x.before (last_function false fs (fun_of h b) _ _ ts x.after.before (join _ x.after.after (join _ y.before (join _ y.after (join ts z refl)))))

-- no function before
first_heading : (b : Bool) (fs : List Fun) (all m : List Lexeme) → read_heading mode.Unknown fs all m → (many separator ▸ functions b fs ▸ keyword (codes "function")) all m
unfolding need begun listed between bare gap celled body_end body_next body_finish arm_ended statement_ended body_ended block_ended within after purposed closing ended_in ended with_operator with_turn with_to with_by with_colon with_open have named subscripted targeted calling called looping looped names_closed edge edge_comma listing list_comma list_next tail tail_comma between_functions heading head_out head_equal headed head_name params param param_comma with_sign with_infix with_text with_end argument_colon with_colon_item used applied argued caller_stack caller_purpose
first_heading b fs all m h = join _ h.1.before (join _ (subst (λ x. functions b x h.1.middle h.1.middle) (sym h.0) refl) h.1.after)

body_end_holds : (mode' : Mode) (fs : List Fun) (h : Header) (b : Block) (all m m' ts : List Lexeme) → Blocks (FunBody mode' fs h) all m → block b m m' → keyword (codes "end") m' ts → Holds (body_end mode' (with_fun fs h b)) all ts
unfolding need begun listed between bare gap celled body_end body_next body_finish arm_ended statement_ended body_ended block_ended within after purposed closing ended_in ended with_operator with_turn with_to with_by with_colon with_open have named subscripted targeted calling called looping looped names_closed edge edge_comma listing list_comma list_next tail tail_comma between_functions heading head_out head_equal headed head_name params param param_comma with_sign with_infix with_text with_end argument_colon with_colon_item used applied argued caller_stack caller_purpose
body_end_holds mode.Unknown fs h b all m m' ts x y e = ended_function fs h b all _ m m' ts (first_heading true fs all _ x.before) x.after y e
body_end_holds mode.Ended fs h b all m m' ts x y e = ended_function fs h b all _ m m' ts x.before x.after y e
body_end_holds mode.Unended fs h b all m m' ts x y e = tt

body_next_holds : (mode' : Mode) (fs : List Fun) (h : Header) (b : Block) (all m m' ts : List Lexeme) → Blocks (FunBody mode' fs h) all m → block b m m' → keyword (codes "function") m' ts → Holds (body_next mode' (with_fun fs h b)) all ts
unfolding need begun listed between bare gap celled body_end body_next body_finish arm_ended statement_ended body_ended block_ended within after purposed closing ended_in ended with_operator with_turn with_to with_by with_colon with_open have named subscripted targeted calling called looping looped names_closed edge edge_comma listing list_comma list_next tail tail_comma between_functions heading head_out head_equal headed head_name params param param_comma with_sign with_infix with_text with_end argument_colon with_colon_item used applied argued caller_stack caller_purpose
body_next_holds mode.Unknown fs h b all m m' ts x y e = let k = free_function fs h b all _ m m' (first_heading false fs all _ x.before) x.after y in join _ k.before (join _ k.after e)
body_next_holds mode.Unended fs h b all m m' ts x y e = let k = free_function fs h b all _ m m' x.before x.after y in join _ k.before (join _ k.after e)
body_next_holds mode.Ended fs h b all m m' ts x y e = tt

body_finish_holds : (mode' : Mode) (fs : List Fun) (h : Header) (b : Block) (all m m' ts : List Lexeme) → Blocks (FunBody mode' fs h) all m → block b m m' → any_of kind.Finish m' ts → Holds (body_finish mode' (with_fun fs h b)) all ts
unfolding need begun listed between bare gap celled body_end body_next body_finish arm_ended statement_ended body_ended block_ended within after purposed closing ended_in ended with_operator with_turn with_to with_by with_colon with_open have named subscripted targeted calling called looping looped names_closed edge edge_comma listing list_comma list_next tail tail_comma between_functions heading head_out head_equal headed head_name params param param_comma with_sign with_infix with_text with_end argument_colon with_colon_item used applied argued caller_stack caller_purpose
body_finish_holds mode.Unknown fs h b all m m' ts x y e = let k = free_function fs h b all _ m m' (first_heading false fs all _ x.before) x.after y in join _ k.before (join _ (inr k.after) e)
body_finish_holds mode.Unended fs h b all m m' ts x y e = let k = free_function fs h b all _ m m' x.before x.after y in join _ k.before (join _ (inr k.after) e)
body_finish_holds mode.Ended fs h b all m m' ts x y e = tt

body_ended_holds : (at : Place) (w : Word) (own : List ℕ) (mode' : Mode) (fs : List Fun) (h : Header) (b : Block) (all m ts : List Lexeme) → Blocks (FunBody mode' fs h) all m → block b m (go_on at w own ts) → Holds (body_ended w mode' (with_fun fs h b)) all ts
unfolding need begun listed between bare gap celled body_end body_next body_finish arm_ended statement_ended body_ended block_ended within after purposed closing ended_in ended with_operator with_turn with_to with_by with_colon with_open have named subscripted targeted calling called looping looped names_closed edge edge_comma listing list_comma list_next tail tail_comma between_functions heading head_out head_equal headed head_name params param param_comma with_sign with_infix with_text with_end argument_colon with_colon_item used applied argued caller_stack caller_purpose
body_ended_holds at word.End own mode' fs h b all m ts x y = body_end_holds mode' fs h b all m _ ts x y (at, refl)
body_ended_holds at word.Function own mode' fs h b all m ts x y = body_next_holds mode' fs h b all m _ ts x y (at, refl)
body_ended_holds at word.Finish own mode' fs h b all m ts x y = body_finish_holds mode' fs h b all m _ ts x y (own, (at, refl))
body_ended_holds at _ own mode' fs h b all m ts x y = tt

arm_ended_holds : (at : Place) (w : Word) (own : List ℕ) (before b : Block) (opens : Place) (arms : Arms) (condition : Exp) (out : Around) (all m ts : List Lexeme)
    → Blocks (IfBody before opens arms condition out) all m → block b m (go_on at w own ts) → Holds (arm_ended w before opens (with_arm arms condition b) out) all ts
unfolding need begun listed between bare gap celled body_end body_next body_finish arm_ended statement_ended body_ended block_ended within after purposed closing ended_in ended with_operator with_turn with_to with_by with_colon with_open have named subscripted targeted calling called looping looped names_closed edge edge_comma listing list_comma list_next tail tail_comma between_functions heading head_out head_equal headed head_name params param param_comma with_sign with_infix with_text with_end argument_colon with_colon_item used applied argued caller_stack caller_purpose
arm_ended_holds at word.ElseIf own before b opens arms condition out all m ts x y = join _ x.before (test_read opens arms condition b _ _ _ _ ts x.after.before x.after.after y (at, refl))
arm_ended_holds at word.Else own before b opens arms condition out all m ts x y = join ts (join _ x.before (join _ (last_arm opens arms condition b _ _ _ _ x.after.before x.after.after y) (at, refl))) (many_none separator ts)
arm_ended_holds at word.End own before b opens arms condition out all m ts x y = after_holds before (IfOnly opens (with_arm arms condition b)) out all ts (join _ x.before (join _ (last_arm opens arms condition b _ _ _ _ x.after.before x.after.after y) (at, refl)))
arm_ended_holds at _ own before b opens arms condition out all m ts x y = tt

statement_ended_holds : (at : Place) (w : Word) (own : List ℕ) (before : Block) (s : Sta) (out : Around) (all ts : List Lexeme) → ((m : List Lexeme) → keyword (codes "end") (go_on at w own ts) m → (Before before out ▸ statement s) all m)
    → Holds (statement_ended w before s out) all ts
unfolding need begun listed between bare gap celled body_end body_next body_finish arm_ended statement_ended body_ended block_ended within after purposed closing ended_in ended with_operator with_turn with_to with_by with_colon with_open have named subscripted targeted calling called looping looped names_closed edge edge_comma listing list_comma list_next tail tail_comma between_functions heading head_out head_equal headed head_name params param param_comma with_sign with_infix with_text with_end argument_colon with_colon_item used applied argued caller_stack caller_purpose
statement_ended_holds at word.End own before s out all ts f = after_holds before s out all ts (f ts (at, refl))
statement_ended_holds at _ own before s out all ts f = tt

block_ended_holds : (at : Place) (w : Word) (own : List ℕ) (b : Block) (out : Around) (all m ts : List Lexeme) → Blocks out all m → block b m (go_on at w own ts) → Holds (block_ended w b out) all ts
unfolding need begun listed between bare gap celled body_end body_next body_finish arm_ended statement_ended body_ended block_ended within after purposed closing ended_in ended with_operator with_turn with_to with_by with_colon with_open have named subscripted targeted calling called looping looped names_closed edge edge_comma listing list_comma list_next tail tail_comma between_functions heading head_out head_equal headed head_name params param param_comma with_sign with_infix with_text with_end argument_colon with_colon_item used applied argued caller_stack caller_purpose
block_ended_holds at w own b (IfBody before opens arms condition out) all m ts x y = arm_ended_holds at w own before b opens arms condition out all m ts x y
block_ended_holds at w own b (ElseBody before opens arms out) all m ts x y =
    statement_ended_holds at w own before (IfElse opens arms b) out all ts (λ r e. join _ x.before (join _ x.after.before (join _ x.after.after (join _ y e))))
block_ended_holds at w own b (WhileBody before opens condition out) all m ts x y =
    statement_ended_holds at w own before (WhileTrue opens condition b) out all ts (λ r e. join _ x.before (join _ x.after.before (join _ x.after.after (join _ y e))))
block_ended_holds at w own b (ForBody before opens to range out) all m ts x y =
    statement_ended_holds at w own before (ForEach opens to range b) out all ts
    (λ r e. join _ x.before (join _ x.after.before (join _ x.after.after.before (join _ x.after.after.after.before (join _ x.after.after.after.after (join _ y e))))))
block_ended_holds at w own b (FunBody mode' fs h) all m ts x y = body_ended_holds at w own mode' fs h b all m ts x y

-- Statements

-- each kind of separator
comma_between : (at : Place) (own : List ℕ) (ts : List Lexeme) → separator (go_on at word.Comma own ts) ts
unfolding need begun listed between bare gap celled body_end body_next body_finish arm_ended statement_ended body_ended block_ended within after purposed closing ended_in ended with_operator with_turn with_to with_by with_colon with_open have named subscripted targeted calling called looping looped names_closed edge edge_comma listing list_comma list_next tail tail_comma between_functions heading head_out head_equal headed head_name params param param_comma with_sign with_infix with_text with_end argument_colon with_colon_item used applied argued caller_stack caller_purpose
comma_between at own ts = inr (inr (at, refl))

semicolon_between : (at : Place) (own : List ℕ) (ts : List Lexeme) → separator (go_on at word.Semicolon own ts) ts
unfolding need begun listed between bare gap celled body_end body_next body_finish arm_ended statement_ended body_ended block_ended within after purposed closing ended_in ended with_operator with_turn with_to with_by with_colon with_open have named subscripted targeted calling called looping looped names_closed edge edge_comma listing list_comma list_next tail tail_comma between_functions heading head_out head_equal headed head_name params param param_comma with_sign with_infix with_text with_end argument_colon with_colon_item used applied argued caller_stack caller_purpose
semicolon_between at own ts = inr (inl (at, refl))

newline_between : (at : Place) (own : List ℕ) (ts : List Lexeme) → separator (go_on at word.Newline own ts) ts
unfolding need begun listed between bare gap celled body_end body_next body_finish arm_ended statement_ended body_ended block_ended within after purposed closing ended_in ended with_operator with_turn with_to with_by with_colon with_open have named subscripted targeted calling called looping looped names_closed edge edge_comma listing list_comma list_next tail tail_comma between_functions heading head_out head_equal headed head_name params param param_comma with_sign with_infix with_text with_end argument_colon with_colon_item used applied argued caller_stack caller_purpose
newline_between at own ts = inl (own, (at, refl))

separated : (b : Block) (out : Around) (all m ts : List Lexeme) → Before b out all m → separator m ts → Holds (Within b out) all ts
unfolding need begun listed between bare gap celled body_end body_next body_finish arm_ended statement_ended body_ended block_ended within after purposed closing ended_in ended with_operator with_turn with_to with_by with_colon with_open have named subscripted targeted calling called looping looped names_closed edge edge_comma listing list_comma list_next tail tail_comma between_functions heading head_out head_equal headed head_name params param param_comma with_sign with_infix with_text with_end argument_colon with_colon_item used applied argued caller_stack caller_purpose
separated b out all m ts h e = join _ h.before (more_block b _ m ts h.after e)

within_holds : (at : Place) (w : Word) (own : List ℕ) (b : Block) (out : Around) (all ts : List Lexeme) → Holds (Within b out) all (go_on at w own ts) → Holds (within at w own b out) all ts
unfolding need begun listed between bare gap celled body_end body_next body_finish arm_ended statement_ended body_ended block_ended within after purposed closing ended_in ended with_operator with_turn with_to with_by with_colon with_open have named subscripted targeted calling called looping looped names_closed edge edge_comma listing list_comma list_next tail tail_comma between_functions heading head_out head_equal headed head_name params param param_comma with_sign with_infix with_text with_end argument_colon with_colon_item used applied argued caller_stack caller_purpose
within_holds at word.Newline own b out all ts h = separated b out all _ ts h (newline_between at own ts)
within_holds at word.Semicolon own b out all ts h = separated b out all _ ts h (semicolon_between at own ts)
within_holds at word.Comma own b out all ts h = separated b out all _ ts h (comma_between at own ts)
within_holds at word.Name own b out all ts h = join _ h refl
within_holds at word.OpenSquare own b out all ts h = join _ h (join ts (at, refl) (many_none row_break ts))
within_holds at word.If own b out all ts h = join _ h refl
within_holds at word.For own b out all ts h = join _ h refl
within_holds at word.While own b out all ts h = join _ h refl
within_holds at word.Break own b out all ts h = after_holds b (BreakOff at) out all ts (join _ h refl)
within_holds at word.Continue own b out all ts h = after_holds b (GoOn at) out all ts (join _ h refl)
within_holds at w own b out all ts h = block_ended_holds at w own b out all _ ts h.before (block_end b _ _ h.after)

afterwards_holds : (at : Place) (w : Word) (own : List ℕ) (b : Block) (out : Around) (all ts : List Lexeme) → Holds (After b out) all (go_on at w own ts) → Holds (after w b out) all ts
unfolding need begun listed between bare gap celled body_end body_next body_finish arm_ended statement_ended body_ended block_ended within after purposed closing ended_in ended with_operator with_turn with_to with_by with_colon with_open have named subscripted targeted calling called looping looped names_closed edge edge_comma listing list_comma list_next tail tail_comma between_functions heading head_out head_equal headed head_name params param param_comma with_sign with_infix with_text with_end argument_colon with_colon_item used applied argued caller_stack caller_purpose
afterwards_holds at word.Newline own b out all ts h = join _ h.before (h.after.1 ts (newline_between at own ts))
afterwards_holds at word.Semicolon own b out all ts h = join _ h.before (h.after.1 ts (semicolon_between at own ts))
afterwards_holds at word.Comma own b out all ts h = join _ h.before (h.after.1 ts (comma_between at own ts))
afterwards_holds at w own b out all ts h = block_ended_holds at w own b out all _ ts h.before h.after.0

-- a block begins
opened : (out : Around) (all ts : List Lexeme) → Blocks out all ts → Holds (Within Done out) all ts
unfolding need begun listed between bare gap celled body_end body_next body_finish arm_ended statement_ended body_ended block_ended within after purposed closing ended_in ended with_operator with_turn with_to with_by with_colon with_open have named subscripted targeted calling called looping looped names_closed edge edge_comma listing list_comma list_next tail tail_comma between_functions heading head_out head_equal headed head_name params param param_comma with_sign with_infix with_text with_end argument_colon with_colon_item used applied argued caller_stack caller_purpose
opened out all ts h = join ts h (many_none separator ts)

purposed_holds : (at : Place) (w : Word) (own : List ℕ) (e : Exp) (k : Purpose) (all ts : List Lexeme) → Reads e [] k all (go_on at w own ts) → Holds (purposed at w own e k) all ts
unfolding need begun listed between bare gap celled body_end body_next body_finish arm_ended statement_ended body_ended block_ended within after purposed closing ended_in ended with_operator with_turn with_to with_by with_colon with_open have named subscripted targeted calling called looping looped names_closed edge edge_comma listing list_comma list_next tail tail_comma between_functions heading head_out head_equal headed head_name params param param_comma with_sign with_infix with_text with_end argument_colon with_colon_item used applied argued caller_stack caller_purpose
purposed_holds at w own e (AssignTo b to out) all ts h = afterwards_holds at w own (with_statement b (Assign to e)) out all ts (after_holds b (Assign to e) out all _ (push2 (join _ h.before (plain_operand [] (AssignTo b to out) e _ _ (omega arith) h.after))))
purposed_holds at w own e (StoreTo b to opens args out) all ts h = afterwards_holds at w own (with_statement b (Store to opens args e)) out all ts (after_holds b (Store to opens args e) out all _ (push5 (join _ h.before (plain_operand [] (StoreTo b to opens args out) e _ _ (omega arith) h.after))))
purposed_holds at w own e (ArmTest b opens arms out) all ts h = within_holds at w own Done (IfBody b opens arms e out) all ts (opened (IfBody b opens arms e out) all _ (push (join _ h.before (plain_operand [] (ArmTest b opens arms out) e _ _ (omega arith) h.after))))
purposed_holds at w own e (WhileTest b opens out) all ts h = within_holds at w own Done (WhileBody b opens e out) all ts (opened (WhileBody b opens e out) all _ (push (join _ h.before (plain_operand [] (WhileTest b opens out) e _ _ (omega arith) h.after))))
purposed_holds at w own e (ForRange b opens to out) all ts h = within_holds at w own Done (ForBody b opens to e out) all ts (opened (ForBody b opens to e out) all _ (push3 (join _ h.before (plain_operand [] (ForRange b opens to out) e _ _ (omega arith) h.after))))
purposed_holds at w own e (Argument u name text opens args) all ts h = argued_holds at w own e (InStatement u) name text opens args all _ ts h.before (plain_operand [] (Argument u name text opens args) e _ _ (omega arith) h.after)

closing_holds : (at : Place) (w : Word) (own : List ℕ) (e : Exp) (opens : Place) (st : Stack) (k : Purpose) (all ts : List Lexeme) → Reads e (Inside opens ∷ st) k all (go_on at w own ts) → Holds (closing w e opens st k) all ts
unfolding need begun listed between bare gap celled body_end body_next body_finish arm_ended statement_ended body_ended block_ended within after purposed closing ended_in ended with_operator with_turn with_to with_by with_colon with_open have named subscripted targeted calling called looping looped names_closed edge edge_comma listing list_comma list_next tail tail_comma between_functions heading head_out head_equal headed head_name params param param_comma with_sign with_infix with_text with_end argument_colon with_colon_item used applied argued caller_stack caller_purpose
closing_holds at word.Close own e opens st k all ts h = join _ h.before.before (inl (join _ h.before.after (join _ (plain_operand (Inside opens ∷ st) k e _ _ (omega arith) h.after) (at, refl))))
closing_holds at _ own e opens st k all ts h = tt

ended_holds : (at : Place) (w : Word) (own : List ℕ) (e : Exp) (st : Stack) (k : Purpose) (all ts : List Lexeme) → Reads e st k all (go_on at w own ts) → Holds (ended at w own e st k) all ts
unfolding need begun listed between bare gap celled body_end body_next body_finish arm_ended statement_ended body_ended block_ended within after purposed closing ended_in ended with_operator with_turn with_to with_by with_colon with_open have named subscripted targeted calling called looping looped names_closed edge edge_comma listing list_comma list_next tail tail_comma between_functions heading head_out head_equal headed head_name params param param_comma with_sign with_infix with_text with_end argument_colon with_colon_item used applied argued caller_stack caller_purpose
ended_holds at w own e [] k all ts h = purposed_holds at w own e k all ts h
ended_holds at w own e (Inside opens ∷ st) k all ts h = closing_holds at w own e opens st k all ts h
ended_holds at w own e (Call name text opens args ∷ st) k all ts h = argued_holds at w own e (InValue st k) name text opens args all _ ts h.before (plain_operand (Call name text opens args ∷ st) k e _ _ (omega arith) h.after)
ended_holds at w own e (Cells opens rows row ∷ st) k all ts h = celled_holds at w own opens rows row e st k all _ ts h.before (plain_operand (Cells opens rows row ∷ st) k e _ _ (omega arith) h.after)
ended_holds at w own e (_ ∷ st) k all ts h = tt

-- Behind an operand

operator_holds : (at : Place) (o : BinOp) (own : List ℕ) (e : Exp) (st : Stack) (k : Purpose) (all ts : List Lexeme) → rank o ≤ 10 → Reads e st k all (go_on at (word.Infix o) own ts) → top st ≤ rank o → Holds (with_operator at o e st k) all ts
unfolding need begun listed between bare gap celled body_end body_next body_finish arm_ended statement_ended body_ended block_ended within after purposed closing ended_in ended with_operator with_turn with_to with_by with_colon with_open have named subscripted targeted calling called looping looped names_closed edge edge_comma listing list_comma list_next tail tail_comma between_functions heading head_out head_equal headed head_name params param param_comma with_sign with_infix with_text with_end argument_colon with_colon_item used applied argued caller_stack caller_purpose
operator_holds at o own e st k all ts small h le = split (nat_le (rank o) (rank_of e)) refl
  where
    split : (b : Bool) → nat_le (rank o) (rank_of e) ≡ b → Holds (if b then Need (Right at o e ∷ st) k else Stuck) all ts
    split true t = (le, join _ h.before (join _ (relevel e (inside st k) (top st) (rank o) _ _ (plain_operand st k e _ _ (omega arith) h.after) (leb-true (rank o) (rank_of e) t)) refl))
    split false t = tt

rank_small : (o : BinOp) → rank o ≤ 10
unfolding need begun listed between bare gap celled body_end body_next body_finish arm_ended statement_ended body_ended block_ended within after purposed closing ended_in ended with_operator with_turn with_to with_by with_colon with_open have named subscripted targeted calling called looping looped names_closed edge edge_comma listing list_comma list_next tail tail_comma between_functions heading head_out head_equal headed head_name params param param_comma with_sign with_infix with_text with_end argument_colon with_colon_item used applied argued caller_stack caller_purpose
rank_small bin.OrOr = omega arith
rank_small _ = omega arith

turn_holds : (at : Place) (mark : PostOp) (own : List ℕ) (e : Exp) (st : Stack) (k : Purpose) (all ts : List Lexeme) → Reads e st k all (go_on at (word.Turn mark) own ts) → top st ≤ 10 → Holds (with_turn at mark e st k) all ts
unfolding need begun listed between bare gap celled body_end body_next body_finish arm_ended statement_ended body_ended block_ended within after purposed closing ended_in ended with_operator with_turn with_to with_by with_colon with_open have named subscripted targeted calling called looping looped names_closed edge edge_comma listing list_comma list_next tail tail_comma between_functions heading head_out head_equal headed head_name params param param_comma with_sign with_infix with_text with_end argument_colon with_colon_item used applied argued caller_stack caller_purpose
turn_holds at mark own e st k all ts h le = split (nat_le 10 (rank_of e)) refl
  where
    split : (b : Bool) → nat_le 10 (rank_of e) ≡ b → Holds (if b then Have (Post at mark e) st k else Stuck) all ts
    split true t = join _ h.before (inl (le, join _ (relevel e (inside st k) (top st) 10 _ _ (plain_operand st k e _ _ (omega arith) h.after) (leb-true 10 (rank_of e) t)) refl))
    split false t = tt

to_holds : (at : Place) (own : List ℕ) (e : Exp) (st : Stack) (k : Purpose) (all ts : List Lexeme) → top st ≤ 5 → Reads e st k all (go_on at word.Colon own ts) → Holds (with_to at e st k) all ts
unfolding need begun listed between bare gap celled body_end body_next body_finish arm_ended statement_ended body_ended block_ended within after purposed closing ended_in ended with_operator with_turn with_to with_by with_colon with_open have named subscripted targeted calling called looping looped names_closed edge edge_comma listing list_comma list_next tail tail_comma between_functions heading head_out head_equal headed head_name params param param_comma with_sign with_infix with_text with_end argument_colon with_colon_item used applied argued caller_stack caller_purpose
to_holds at own e st k all ts le h = split (nat_le 6 (rank_of e)) refl
  where
    split : (b : Bool) → nat_le 6 (rank_of e) ≡ b → Holds (if b then Need (To at e ∷ st) k else Stuck) all ts
    split true t = (le, join _ h.before (join _ (relevel e (inside st k) (top st) 6 _ _ (plain_operand st k e _ _ (omega arith) h.after) (leb-true 6 (rank_of e) t)) refl))
    split false t = tt

by_holds : (at : Place) (own : List ℕ) (opens : Place) (first e : Exp) (st : Stack) (k : Purpose) (all ts : List Lexeme) → Reads e (To opens first ∷ st) k all (go_on at word.Colon own ts) → Holds (with_by opens first e st k) all ts
unfolding need begun listed between bare gap celled body_end body_next body_finish arm_ended statement_ended body_ended block_ended within after purposed closing ended_in ended with_operator with_turn with_to with_by with_colon with_open have named subscripted targeted calling called looping looped names_closed edge edge_comma listing list_comma list_next tail tail_comma between_functions heading head_out head_equal headed head_name params param param_comma with_sign with_infix with_text with_end argument_colon with_colon_item used applied argued caller_stack caller_purpose
by_holds at own opens first e st k all ts h = split (nat_le 6 (rank_of e))
  where
    split : (b : Bool) → Holds (if b then Need (ByTo opens first e ∷ st) k else Stuck) all ts
    split true = (h.before.0, join _ h.before.1.before (join _ h.before.1.after.before (join _ h.before.1.after.after (join _ (plain_operand (To opens first ∷ st) k e _ _ (omega arith) h.after) (at, refl)))))
    split false = tt

right_colon : (at : Place) (own : List ℕ) (opens : Place) (o : BinOp) (a e : Exp) (st : Stack) (k : Purpose) (all ts : List Lexeme) → Reads e (Right opens o a ∷ st) k all (go_on at word.Colon own ts) → Holds (with_colon at e (Right opens o a ∷ st) k) all ts
unfolding need begun listed between bare gap celled body_end body_next body_finish arm_ended statement_ended body_ended block_ended within after purposed closing ended_in ended with_operator with_turn with_to with_by with_colon with_open have named subscripted targeted calling called looping looped names_closed edge edge_comma listing list_comma list_next tail tail_comma between_functions heading head_out head_equal headed head_name params param param_comma with_sign with_infix with_text with_end argument_colon with_colon_item used applied argued caller_stack caller_purpose
right_colon at own opens o a e st k all ts h = split (nat_le (rank o + 1) 5) refl
  where
    split : (b : Bool) → nat_le (rank o + 1) 5 ≡ b → Holds (if b then with_to at e (Right opens o a ∷ st) k else Stuck) all ts
    split true t = to_holds at own e (Right opens o a ∷ st) k all ts (leb-true (rank o + 1) 5 t) h
    split false t = tt

colon_holds : (at : Place) (own : List ℕ) (e : Exp) (st : Stack) (k : Purpose) (all ts : List Lexeme) → Reads e st k all (go_on at word.Colon own ts) → Holds (with_colon at e st k) all ts
unfolding need begun listed between bare gap celled body_end body_next body_finish arm_ended statement_ended body_ended block_ended within after purposed closing ended_in ended with_operator with_turn with_to with_by with_colon with_open have named subscripted targeted calling called looping looped names_closed edge edge_comma listing list_comma list_next tail tail_comma between_functions heading head_out head_equal headed head_name params param param_comma with_sign with_infix with_text with_end argument_colon with_colon_item used applied argued caller_stack caller_purpose
colon_holds at own e (To opens first ∷ st) k all ts h = by_holds at own opens first e st k all ts h
colon_holds at own e (ByTo opens first by ∷ st) k all ts h = tt
colon_holds at own e (Right opens o a ∷ st) k all ts h = right_colon at own opens o a e st k all ts h
colon_holds at own e (Sign opens sign ∷ st) k all ts h = tt
colon_holds at own e (ExponentSign opens sign ∷ st) k all ts h = tt
colon_holds at own e [] k all ts h = to_holds at own e [] k all ts (omega arith) h
colon_holds at own e (f ∷ st) k all ts h = to_holds at own e (f ∷ st) k all ts (omega arith) h

open_holds : (at : Place) (own : List ℕ) (e : Exp) (st : Stack) (k : Purpose) (all ts : List Lexeme) → Reads e st k all (go_on at word.Open own ts) → Holds (with_open at e st k) all ts
unfolding need begun listed between bare gap celled body_end body_next body_finish arm_ended statement_ended body_ended block_ended within after purposed closing ended_in ended with_operator with_turn with_to with_by with_colon with_open have named subscripted targeted calling called looping looped names_closed edge edge_comma listing list_comma list_next tail tail_comma between_functions heading head_out head_equal headed head_name params param param_comma with_sign with_infix with_text with_end argument_colon with_colon_item used applied argued caller_stack caller_purpose
open_holds at own (Name name text) st k all ts h = join _ h.before (join _ (⊎_elim (λ x. x) (λ x. absurd x.1) h.after) refl)
open_holds at own _ st k all ts h = tt

have_holds : (at : Place) (w : Word) (own : List ℕ) (o : Operand) (k : Purpose) (all ts : List Lexeme) → Settled (tightness w) k all (go_on at w own ts) o → Holds (have at w own o.is o.under k) all ts
unfolding need begun listed between bare gap celled body_end body_next body_finish arm_ended statement_ended body_ended block_ended within after purposed closing ended_in ended with_operator with_turn with_to with_by with_colon with_open have named subscripted targeted calling called looping looped names_closed edge edge_comma listing list_comma list_next tail tail_comma between_functions heading head_out head_equal headed head_name params param param_comma with_sign with_infix with_text with_end argument_colon with_colon_item used applied argued caller_stack caller_purpose
have_holds at (word.Infix p) own o k all ts h = operator_holds at p own o.is o.under k all ts (rank_small p) h.0 h.1
have_holds at (word.Turn mark) own o k all ts h = turn_holds at mark own o.is o.under k all ts h.0 h.1
have_holds at word.Open own o k all ts h = open_holds at own o.is o.under k all ts h.0
have_holds at word.Colon own o k all ts h = colon_holds at own o.is o.under k all ts h.0
have_holds at w own o k all ts h = ended_holds at w own o.is o.under k all ts h.0

-- Statements, token by token

named_holds : (at : Place) (w : Word) (own : List ℕ) (b : Block) (to : Ident) (out : Around) (all ts : List Lexeme) → Holds (Named b to out) all (go_on at w own ts) → Holds (named w at b to out) all ts
unfolding need begun listed between bare gap celled body_end body_next body_finish arm_ended statement_ended body_ended block_ended within after purposed closing ended_in ended with_operator with_turn with_to with_by with_colon with_open have named subscripted targeted calling called looping looped names_closed edge edge_comma listing list_comma list_next tail tail_comma between_functions heading head_out head_equal headed head_name params param param_comma with_sign with_infix with_text with_end argument_colon with_colon_item used applied argued caller_stack caller_purpose
named_holds at word.Equal own b to out all ts h = push (join _ h (at, refl))
named_holds at word.Open own b to out all ts h = join _ h.before (join _ h.after (join ts refl refl))
named_holds at _ own b to out all ts h = tt

subscripted_holds : (at : Place) (w : Word) (own : List ℕ) (b : Block) (to : Ident) (opens : Place) (args : Args) (out : Around) (all ts : List Lexeme) → Holds (Subscripted b to opens args out) all (go_on at w own ts) → Holds (subscripted w b to opens args out) all ts
unfolding need begun listed between bare gap celled body_end body_next body_finish arm_ended statement_ended body_ended block_ended within after purposed closing ended_in ended with_operator with_turn with_to with_by with_colon with_open have named subscripted targeted calling called looping looped names_closed edge edge_comma listing list_comma list_next tail tail_comma between_functions heading head_out head_equal headed head_name params param param_comma with_sign with_infix with_text with_end argument_colon with_colon_item used applied argued caller_stack caller_purpose
subscripted_holds at word.Equal own b to opens args out all ts h = push4 (join _ h (at, refl))
subscripted_holds at _ own b to opens args out all ts h = tt

targeted_holds : (at : Place) (w : Word) (own : List ℕ) (b : Block) (targets : List Ident) (out : Around) (all ts : List Lexeme) → Holds (Targeted b targets out) all (go_on at w own ts) → Holds (targeted w b targets out) all ts
unfolding need begun listed between bare gap celled body_end body_next body_finish arm_ended statement_ended body_ended block_ended within after purposed closing ended_in ended with_operator with_turn with_to with_by with_colon with_open have named subscripted targeted calling called looping looped names_closed edge edge_comma listing list_comma list_next tail tail_comma between_functions heading head_out head_equal headed head_name params param param_comma with_sign with_infix with_text with_end argument_colon with_colon_item used applied argued caller_stack caller_purpose
targeted_holds at word.Equal own b targets out all ts h = push (join _ h (at, refl))
targeted_holds at _ own b targets out all ts h = tt

calling_holds : (at : Place) (w : Word) (own : List ℕ) (b : Block) (targets : List Ident) (out : Around) (all ts : List Lexeme) → Holds (Calling b targets out) all (go_on at w own ts) → Holds (calling at w own b targets out) all ts
unfolding need begun listed between bare gap celled body_end body_next body_finish arm_ended statement_ended body_ended block_ended within after purposed closing ended_in ended with_operator with_turn with_to with_by with_colon with_open have named subscripted targeted calling called looping looped names_closed edge edge_comma listing list_comma list_next tail tail_comma between_functions heading head_out head_equal headed head_name params param param_comma with_sign with_infix with_text with_end argument_colon with_colon_item used applied argued caller_stack caller_purpose
calling_holds at word.Name own b targets out all ts h = push2 (join _ h refl)
calling_holds at _ own b targets out all ts h = tt

called_holds : (at : Place) (w : Word) (own : List ℕ) (b : Block) (targets : List Ident) (name : Place) (text : List ℕ) (out : Around) (all ts : List Lexeme) → Holds (Called b targets name text out) all (go_on at w own ts) → Holds (called at w b targets name text out) all ts
unfolding need begun listed between bare gap celled body_end body_next body_finish arm_ended statement_ended body_ended block_ended within after purposed closing ended_in ended with_operator with_turn with_to with_by with_colon with_open have named subscripted targeted calling called looping looped names_closed edge edge_comma listing list_comma list_next tail tail_comma between_functions heading head_out head_equal headed head_name params param param_comma with_sign with_infix with_text with_end argument_colon with_colon_item used applied argued caller_stack caller_purpose
called_holds at word.Open own b targets name text out all ts h = join _ (join _ h.before (join _ h.after.before h.after.after.before)) (join _ h.after.after.after refl)
called_holds at w own b targets name text out all ts h = afterwards_holds at w own (with_statement b (Multi targets (Name name text))) out all ts (after_holds b (Multi targets (Name name text)) out all _ h)

looping_holds : (at : Place) (w : Word) (own : List ℕ) (b : Block) (place : Place) (out : Around) (all ts : List Lexeme) → Holds (Looping b place out) all (go_on at w own ts) → Holds (looping at w own b place out) all ts
unfolding need begun listed between bare gap celled body_end body_next body_finish arm_ended statement_ended body_ended block_ended within after purposed closing ended_in ended with_operator with_turn with_to with_by with_colon with_open have named subscripted targeted calling called looping looped names_closed edge edge_comma listing list_comma list_next tail tail_comma between_functions heading head_out head_equal headed head_name params param param_comma with_sign with_infix with_text with_end argument_colon with_colon_item used applied argued caller_stack caller_purpose
looping_holds at word.Name own b place out all ts h = push (join _ h refl)
looping_holds at _ own b place out all ts h = tt

looped_holds : (at : Place) (w : Word) (own : List ℕ) (b : Block) (place : Place) (to : Ident) (out : Around) (all ts : List Lexeme) → Holds (Looped b place to out) all (go_on at w own ts) → Holds (looped w b place to out) all ts
unfolding need begun listed between bare gap celled body_end body_next body_finish arm_ended statement_ended body_ended block_ended within after purposed closing ended_in ended with_operator with_turn with_to with_by with_colon with_open have named subscripted targeted calling called looping looped names_closed edge edge_comma listing list_comma list_next tail tail_comma between_functions heading head_out head_equal headed head_name params param param_comma with_sign with_infix with_text with_end argument_colon with_colon_item used applied argued caller_stack caller_purpose
looped_holds at word.Equal own b place to out all ts h = push2 (join _ h (at, refl))
looped_holds at _ own b place to out all ts h = tt

-- Brackets of names

outputs_read : (names : List Ident) (ts rest : List Lexeme) → name_list names ts rest → header_outputs names ts rest
unfolding need begun listed between bare gap celled body_end body_next body_finish arm_ended statement_ended body_ended block_ended within after purposed closing ended_in ended with_operator with_turn with_to with_by with_colon with_open have named subscripted targeted calling called looping looped names_closed edge edge_comma listing list_comma list_next tail tail_comma between_functions heading head_out head_equal headed head_name params param param_comma with_sign with_infix with_text with_end argument_colon with_colon_item used applied argued caller_stack caller_purpose
outputs_read [] ts rest h = h
outputs_read (n ∷ []) ts rest h = inr h
outputs_read (n ∷ m ∷ names) ts rest h = h

list_closed : (l : Lister) (names : List Ident) (all ts : List Lexeme) → (Lists l ▸ name_list names) all ts → Holds (names_closed l names) all ts
unfolding need begun listed between bare gap celled body_end body_next body_finish arm_ended statement_ended body_ended block_ended within after purposed closing ended_in ended with_operator with_turn with_to with_by with_colon with_open have named subscripted targeted calling called looping looped names_closed edge edge_comma listing list_comma list_next tail tail_comma between_functions heading head_out head_equal headed head_name params param param_comma with_sign with_infix with_text with_end argument_colon with_colon_item used applied argued caller_stack caller_purpose
list_closed (Outputs mode' fs) names all ts h = join _ h.before (outputs_read names _ ts h.after)
list_closed (Targets b out) names all ts h = h

abbrev edge_read : Lister → Lang
edge_read l = Lists l ▸ op (codes "[") ▸ many row_break

abbrev names_read : Lister → List Ident → Lang
names_read l names = Lists l ▸ op (codes "[") ▸ many row_break ▸ idents comma names

edge_break : (l : Lister) (all m ts : List Lexeme) → edge_read l all m → row_break m ts → Holds (Edge l) all ts
unfolding need begun listed between bare gap celled body_end body_next body_finish arm_ended statement_ended body_ended block_ended within after purposed closing ended_in ended with_operator with_turn with_to with_by with_colon with_open have named subscripted targeted calling called looping looped names_closed edge edge_comma listing list_comma list_next tail tail_comma between_functions heading head_out head_equal headed head_name params param param_comma with_sign with_infix with_text with_end argument_colon with_colon_item used applied argued caller_stack caller_purpose
edge_break l all m ts h e = join _ h.before (join _ h.after.before (many_last row_break _ m ts h.after.after e))

edge_holds : (at : Place) (w : Word) (own : List ℕ) (l : Lister) (all ts : List Lexeme) → Holds (Edge l) all (go_on at w own ts) → Holds (edge at w own l) all ts
unfolding need begun listed between bare gap celled body_end body_next body_finish arm_ended statement_ended body_ended block_ended within after purposed closing ended_in ended with_operator with_turn with_to with_by with_colon with_open have named subscripted targeted calling called looping looped names_closed edge edge_comma listing list_comma list_next tail tail_comma between_functions heading head_out head_equal headed head_name params param param_comma with_sign with_infix with_text with_end argument_colon with_colon_item used applied argued caller_stack caller_purpose
edge_holds at word.Name own l all ts h = join _ h.before (join _ h.after.before (join _ h.after.after (join ts refl refl)))
edge_holds at word.Comma own l all ts h = push2 (join _ h (at, refl))
edge_holds at word.Semicolon own l all ts h = edge_break l all _ ts h (break_at _ ts (semicolon at own ts))
edge_holds at word.Newline own l all ts h = edge_break l all _ ts h (break_at _ ts (newline at own ts))
edge_holds at _ own l all ts h = tt

edge_comma_holds : (at : Place) (w : Word) (own : List ℕ) (l : Lister) (all ts : List Lexeme) → Holds (EdgeComma l) all (go_on at w own ts) → Holds (edge_comma w l) all ts
unfolding need begun listed between bare gap celled body_end body_next body_finish arm_ended statement_ended body_ended block_ended within after purposed closing ended_in ended with_operator with_turn with_to with_by with_colon with_open have named subscripted targeted calling called looping looped names_closed edge edge_comma listing list_comma list_next tail tail_comma between_functions heading head_out head_equal headed head_name params param param_comma with_sign with_infix with_text with_end argument_colon with_colon_item used applied argued caller_stack caller_purpose
edge_comma_holds at word.Semicolon own l all ts h = edge_break l all _ ts (join _ h.before (join _ h.after.before h.after.after.before)) (join _ (inr h.after.after.after) (semicolon at own ts))
edge_comma_holds at word.Newline own l all ts h = edge_break l all _ ts (join _ h.before (join _ h.after.before h.after.after.before)) (join _ (inr h.after.after.after) (newline at own ts))
edge_comma_holds at _ own l all ts h = tt

-- the first row end behind the names, and more
tail_first : (l : Lister) (names : List Ident) (all m ts : List Lexeme) → names_read l names all m → row_break m ts → Holds (Tail l names) all ts
unfolding need begun listed between bare gap celled body_end body_next body_finish arm_ended statement_ended body_ended block_ended within after purposed closing ended_in ended with_operator with_turn with_to with_by with_colon with_open have named subscripted targeted calling called looping looped names_closed edge edge_comma listing list_comma list_next tail tail_comma between_functions heading head_out head_equal headed head_name params param param_comma with_sign with_infix with_text with_end argument_colon with_colon_item used applied argued caller_stack caller_purpose
tail_first l names all m ts h e = push3 (join m h (many_first row_break m ts ts e (many_none row_break ts)))

tail_more : (l : Lister) (names : List Ident) (all m ts : List Lexeme) → Holds (Tail l names) all m → row_break m ts → Holds (Tail l names) all ts
unfolding need begun listed between bare gap celled body_end body_next body_finish arm_ended statement_ended body_ended block_ended within after purposed closing ended_in ended with_operator with_turn with_to with_by with_colon with_open have named subscripted targeted calling called looping looped names_closed edge edge_comma listing list_comma list_next tail tail_comma between_functions heading head_out head_equal headed head_name params param param_comma with_sign with_infix with_text with_end argument_colon with_colon_item used applied argued caller_stack caller_purpose
tail_more l names all m ts h e = join _ h.before (join _ h.after.before (join _ h.after.after.before (join _ h.after.after.after.before (many_last row_break _ m ts h.after.after.after.after e))))

names_shut : (l : Lister) (names : List Ident) (all m ts : List Lexeme) → names_read l names all m → bracket_end m ts → Holds (names_closed l names) all ts
unfolding need begun listed between bare gap celled body_end body_next body_finish arm_ended statement_ended body_ended block_ended within after purposed closing ended_in ended with_operator with_turn with_to with_by with_colon with_open have named subscripted targeted calling called looping looped names_closed edge edge_comma listing list_comma list_next tail tail_comma between_functions heading head_out head_equal headed head_name params param param_comma with_sign with_infix with_text with_end argument_colon with_colon_item used applied argued caller_stack caller_purpose
names_shut l names all m ts h e = list_closed l names all ts (push3 (join m h e))

tail_shut : (l : Lister) (names : List Ident) (all m ts : List Lexeme) → Holds (Tail l names) all m → shut m ts → Holds (names_closed l names) all ts
unfolding need begun listed between bare gap celled body_end body_next body_finish arm_ended statement_ended body_ended block_ended within after purposed closing ended_in ended with_operator with_turn with_to with_by with_colon with_open have named subscripted targeted calling called looping looped names_closed edge edge_comma listing list_comma list_next tail tail_comma between_functions heading head_out head_equal headed head_name params param param_comma with_sign with_infix with_text with_end argument_colon with_colon_item used applied argued caller_stack caller_purpose
tail_shut l names all m ts h e = list_closed l names all ts (push4 (join m h e))

name_more : (l : Lister) (names : List Ident) (at : Place) (own : List ℕ) (all m m' ts : List Lexeme) → names_read l names all m → comma m m' → one_at at kind.Name own m' ts → Holds (Listing l (names ++ ident_at at own ∷ [])) all ts
unfolding need begun listed between bare gap celled body_end body_next body_finish arm_ended statement_ended body_ended block_ended within after purposed closing ended_in ended with_operator with_turn with_to with_by with_colon with_open have named subscripted targeted calling called looping looped names_closed edge edge_comma listing list_comma list_next tail tail_comma between_functions heading head_out head_equal headed head_name params param param_comma with_sign with_infix with_text with_end argument_colon with_colon_item used applied argued caller_stack caller_purpose
name_more l names at own all m m' ts h c e = join _ h.before (join _ h.after.before (join _ h.after.after.before (last_ident comma names (ident_at at own) _ m m' ts h.after.after.after c e)))

listing_holds : (at : Place) (w : Word) (own : List ℕ) (l : Lister) (names : List Ident) (all ts : List Lexeme) → Holds (Listing l names) all (go_on at w own ts) → Holds (listing w l names) all ts
unfolding need begun listed between bare gap celled body_end body_next body_finish arm_ended statement_ended body_ended block_ended within after purposed closing ended_in ended with_operator with_turn with_to with_by with_colon with_open have named subscripted targeted calling called looping looped names_closed edge edge_comma listing list_comma list_next tail tail_comma between_functions heading head_out head_equal headed head_name params param param_comma with_sign with_infix with_text with_end argument_colon with_colon_item used applied argued caller_stack caller_purpose
listing_holds at word.Comma own l names all ts h = push3 (join _ h (at, refl))
listing_holds at word.Separator own l names all ts h = push3 (join _ h (own, (at, refl)))
listing_holds at word.Semicolon own l names all ts h = tail_first l names all _ ts h (break_at _ ts (semicolon at own ts))
listing_holds at word.Newline own l names all ts h = tail_first l names all _ ts h (break_at _ ts (newline at own ts))
listing_holds at word.CloseSquare own l names all ts h = names_shut l names all _ ts h (join _ (many_none row_break _) (join _ (inl refl) (at, refl)))
listing_holds at _ own l names all ts h = tt

-- the names before a comma
names_before : (l : Lister) (names : List Ident) (X : Lang) (all ts : List Lexeme) (h : (Lists l ▸ op (codes "[") ▸ many row_break ▸ idents comma names ▸ X) all ts) → names_read l names all h.after.after.after.middle
unfolding need begun listed between bare gap celled body_end body_next body_finish arm_ended statement_ended body_ended block_ended within after purposed closing ended_in ended with_operator with_turn with_to with_by with_colon with_open have named subscripted targeted calling called looping looped names_closed edge edge_comma listing list_comma list_next tail tail_comma between_functions heading head_out head_equal headed head_name params param param_comma with_sign with_infix with_text with_end argument_colon with_colon_item used applied argued caller_stack caller_purpose
names_before l names X all ts h = join _ h.before (join _ h.after.before (join _ h.after.after.before h.after.after.after.before))

list_comma_holds : (at : Place) (w : Word) (own : List ℕ) (l : Lister) (names : List Ident) (all ts : List Lexeme) → Holds (ListComma l names) all (go_on at w own ts) → Holds (list_comma at w own l names) all ts
unfolding need begun listed between bare gap celled body_end body_next body_finish arm_ended statement_ended body_ended block_ended within after purposed closing ended_in ended with_operator with_turn with_to with_by with_colon with_open have named subscripted targeted calling called looping looped names_closed edge edge_comma listing list_comma list_next tail tail_comma between_functions heading head_out head_equal headed head_name params param param_comma with_sign with_infix with_text with_end argument_colon with_colon_item used applied argued caller_stack caller_purpose
list_comma_holds at word.Name own l names all ts h = name_more l names at own all _ _ ts (names_before l names _ all _ h) (inl h.after.after.after.after) refl
list_comma_holds at word.Semicolon own l names all ts h = tail_first l names all _ ts (names_before l names _ all _ h) (join _ (inr h.after.after.after.after) (semicolon at own ts))
list_comma_holds at word.Newline own l names all ts h = tail_first l names all _ ts (names_before l names _ all _ h) (join _ (inr h.after.after.after.after) (newline at own ts))
list_comma_holds at word.CloseSquare own l names all ts h = names_shut l names all _ ts (names_before l names _ all _ h) (join _ (many_none row_break _) (join _ (inr h.after.after.after.after) (at, refl)))
list_comma_holds at _ own l names all ts h = tt

list_next_holds : (at : Place) (w : Word) (own : List ℕ) (l : Lister) (names : List Ident) (all ts : List Lexeme) → Holds (ListNext l names) all (go_on at w own ts) → Holds (list_next at w own l names) all ts
unfolding need begun listed between bare gap celled body_end body_next body_finish arm_ended statement_ended body_ended block_ended within after purposed closing ended_in ended with_operator with_turn with_to with_by with_colon with_open have named subscripted targeted calling called looping looped names_closed edge edge_comma listing list_comma list_next tail tail_comma between_functions heading head_out head_equal headed head_name params param param_comma with_sign with_infix with_text with_end argument_colon with_colon_item used applied argued caller_stack caller_purpose
list_next_holds at word.Name own l names all ts h = name_more l names at own all _ _ ts (names_before l names _ all _ h) (inr h.after.after.after.after) refl
list_next_holds at _ own l names all ts h = tt

tail_holds : (at : Place) (w : Word) (own : List ℕ) (l : Lister) (names : List Ident) (all ts : List Lexeme) → Holds (Tail l names) all (go_on at w own ts) → Holds (tail w l names) all ts
unfolding need begun listed between bare gap celled body_end body_next body_finish arm_ended statement_ended body_ended block_ended within after purposed closing ended_in ended with_operator with_turn with_to with_by with_colon with_open have named subscripted targeted calling called looping looped names_closed edge edge_comma listing list_comma list_next tail tail_comma between_functions heading head_out head_equal headed head_name params param param_comma with_sign with_infix with_text with_end argument_colon with_colon_item used applied argued caller_stack caller_purpose
tail_holds at word.Comma own l names all ts h = push4 (join _ h (at, refl))
tail_holds at word.Semicolon own l names all ts h = tail_more l names all _ ts h (break_at _ ts (semicolon at own ts))
tail_holds at word.Newline own l names all ts h = tail_more l names all _ ts h (break_at _ ts (newline at own ts))
tail_holds at word.CloseSquare own l names all ts h = tail_shut l names all _ ts h (join _ (inl refl) (at, refl))
tail_holds at _ own l names all ts h = tt

-- without the comma
tail_before : (l : Lister) (names : List Ident) (all ts : List Lexeme) (h : Holds (TailComma l names) all ts) → Holds (Tail l names) all h.after.after.after.after.middle
unfolding need begun listed between bare gap celled body_end body_next body_finish arm_ended statement_ended body_ended block_ended within after purposed closing ended_in ended with_operator with_turn with_to with_by with_colon with_open have named subscripted targeted calling called looping looped names_closed edge edge_comma listing list_comma list_next tail tail_comma between_functions heading head_out head_equal headed head_name params param param_comma with_sign with_infix with_text with_end argument_colon with_colon_item used applied argued caller_stack caller_purpose
tail_before l names all ts h = join _ h.before (join _ h.after.before (join _ h.after.after.before (join _ h.after.after.after.before h.after.after.after.after.before)))

tail_comma_holds : (at : Place) (w : Word) (own : List ℕ) (l : Lister) (names : List Ident) (all ts : List Lexeme) → Holds (TailComma l names) all (go_on at w own ts) → Holds (tail_comma w l names) all ts
unfolding need begun listed between bare gap celled body_end body_next body_finish arm_ended statement_ended body_ended block_ended within after purposed closing ended_in ended with_operator with_turn with_to with_by with_colon with_open have named subscripted targeted calling called looping looped names_closed edge edge_comma listing list_comma list_next tail tail_comma between_functions heading head_out head_equal headed head_name params param param_comma with_sign with_infix with_text with_end argument_colon with_colon_item used applied argued caller_stack caller_purpose
tail_comma_holds at word.Semicolon own l names all ts h = tail_more l names all _ ts (tail_before l names all _ h) (join _ (inr h.after.after.after.after.after) (semicolon at own ts))
tail_comma_holds at word.Newline own l names all ts h = tail_more l names all _ ts (tail_before l names all _ h) (join _ (inr h.after.after.after.after.after) (newline at own ts))
tail_comma_holds at word.CloseSquare own l names all ts h = tail_shut l names all _ ts (tail_before l names all _ h) (join _ (inr h.after.after.after.after.after) (at, refl))
tail_comma_holds at _ own l names all ts h = tt

-- Functions

top_break_holds : (mode' : Mode) (fs : List Fun) (all m ts : List Lexeme) → read_top mode' fs all m → separator m ts → Holds (Top mode' fs) all ts
unfolding need begun listed between bare gap celled body_end body_next body_finish arm_ended statement_ended body_ended block_ended within after purposed closing ended_in ended with_operator with_turn with_to with_by with_colon with_open have named subscripted targeted calling called looping looped names_closed edge edge_comma listing list_comma list_next tail tail_comma between_functions heading head_out head_equal headed head_name params param param_comma with_sign with_infix with_text with_end argument_colon with_colon_item used applied argued caller_stack caller_purpose
top_break_holds mode.Unknown fs all m ts h e = (h.0, many_last separator all m ts h.1 e)
top_break_holds mode.Ended fs all m ts h e = top_break fs all m ts h e
top_break_holds mode.Unended fs all m ts h e = absurd h

top_function_holds : (mode' : Mode) (fs : List Fun) (all m ts : List Lexeme) → read_top mode' fs all m → keyword (codes "function") m ts → Holds (Heading mode' fs) all ts
unfolding need begun listed between bare gap celled body_end body_next body_finish arm_ended statement_ended body_ended block_ended within after purposed closing ended_in ended with_operator with_turn with_to with_by with_colon with_open have named subscripted targeted calling called looping looped names_closed edge edge_comma listing list_comma list_next tail tail_comma between_functions heading head_out head_equal headed head_name params param param_comma with_sign with_infix with_text with_end argument_colon with_colon_item used applied argued caller_stack caller_purpose
top_function_holds mode.Unknown fs all m ts h e = (h.0, join m h.1 e)
top_function_holds mode.Ended fs all m ts h e = push (join m h e)
top_function_holds mode.Unended fs all m ts h e = absurd h

top_finish_holds : (mode' : Mode) (fs : List Fun) (all m ts : List Lexeme) → read_top mode' fs all m → any_of kind.Finish m ts → Holds (Complete fs) all ts
unfolding need begun listed between bare gap celled body_end body_next body_finish arm_ended statement_ended body_ended block_ended within after purposed closing ended_in ended with_operator with_turn with_to with_by with_colon with_open have named subscripted targeted calling called looping looped names_closed edge edge_comma listing list_comma list_next tail tail_comma between_functions heading head_out head_equal headed head_name params param param_comma with_sign with_infix with_text with_end argument_colon with_colon_item used applied argued caller_stack caller_purpose
top_finish_holds mode.Unknown fs all m ts h e = join m h.1 (join m (inl (subst (λ x. functions true x m m) (sym h.0) refl)) e)
top_finish_holds mode.Ended fs all m ts h e = join _ h.before (join m (inl h.after) e)
top_finish_holds mode.Unended fs all m ts h e = absurd h

between_functions_holds : (at : Place) (w : Word) (own : List ℕ) (mode' : Mode) (fs : List Fun) (all ts : List Lexeme) → Holds (Top mode' fs) all (go_on at w own ts) → Holds (between_functions w mode' fs) all ts
unfolding need begun listed between bare gap celled body_end body_next body_finish arm_ended statement_ended body_ended block_ended within after purposed closing ended_in ended with_operator with_turn with_to with_by with_colon with_open have named subscripted targeted calling called looping looped names_closed edge edge_comma listing list_comma list_next tail tail_comma between_functions heading head_out head_equal headed head_name params param param_comma with_sign with_infix with_text with_end argument_colon with_colon_item used applied argued caller_stack caller_purpose
between_functions_holds at word.Newline own mode' fs all ts h = top_break_holds mode' fs all _ ts h (newline_between at own ts)
between_functions_holds at word.Semicolon own mode' fs all ts h = top_break_holds mode' fs all _ ts h (semicolon_between at own ts)
between_functions_holds at word.Comma own mode' fs all ts h = top_break_holds mode' fs all _ ts h (comma_between at own ts)
between_functions_holds at word.Function own mode' fs all ts h = top_function_holds mode' fs all _ ts h (at, refl)
between_functions_holds at word.Finish own mode' fs all ts h = top_finish_holds mode' fs all _ ts h (own, (at, refl))
between_functions_holds at _ own mode' fs all ts h = tt

heading_holds : (at : Place) (w : Word) (own : List ℕ) (mode' : Mode) (fs : List Fun) (all ts : List Lexeme) → Holds (Heading mode' fs) all (go_on at w own ts) → Holds (heading at w own mode' fs) all ts
unfolding need begun listed between bare gap celled body_end body_next body_finish arm_ended statement_ended body_ended block_ended within after purposed closing ended_in ended with_operator with_turn with_to with_by with_colon with_open have named subscripted targeted calling called looping looped names_closed edge edge_comma listing list_comma list_next tail tail_comma between_functions heading head_out head_equal headed head_name params param param_comma with_sign with_infix with_text with_end argument_colon with_colon_item used applied argued caller_stack caller_purpose
heading_holds at word.Name own mode' fs all ts h = join _ h (inl refl)
heading_holds at word.OpenSquare own mode' fs all ts h = join _ h (join ts (at, refl) (many_none row_break ts))
heading_holds at _ own mode' fs all ts h = tt

head_out_holds : (at : Place) (w : Word) (own : List ℕ) (mode' : Mode) (fs : List Fun) (outputs : List Ident) (all ts : List Lexeme) → Holds (HeadOut mode' fs outputs) all (go_on at w own ts) → Holds (head_out w mode' fs outputs) all ts
unfolding need begun listed between bare gap celled body_end body_next body_finish arm_ended statement_ended body_ended block_ended within after purposed closing ended_in ended with_operator with_turn with_to with_by with_colon with_open have named subscripted targeted calling called looping looped names_closed edge edge_comma listing list_comma list_next tail tail_comma between_functions heading head_out head_equal headed head_name params param param_comma with_sign with_infix with_text with_end argument_colon with_colon_item used applied argued caller_stack caller_purpose
head_out_holds at word.Equal own mode' fs outputs all ts h = push (join _ h (at, refl))
head_out_holds at _ own mode' fs outputs all ts h = tt

head_equal_holds : (at : Place) (w : Word) (own : List ℕ) (mode' : Mode) (fs : List Fun) (outputs : List Ident) (all ts : List Lexeme) → Holds (HeadEqual mode' fs outputs) all (go_on at w own ts) → Holds (head_equal at w own mode' fs outputs) all ts
unfolding need begun listed between bare gap celled body_end body_next body_finish arm_ended statement_ended body_ended block_ended within after purposed closing ended_in ended with_operator with_turn with_to with_by with_colon with_open have named subscripted targeted calling called looping looped names_closed edge edge_comma listing list_comma list_next tail tail_comma between_functions heading head_out head_equal headed head_name params param param_comma with_sign with_infix with_text with_end argument_colon with_colon_item used applied argued caller_stack caller_purpose
head_equal_holds at word.Name own mode' fs outputs all ts h = push2 (join _ h refl)
head_equal_holds at _ own mode' fs outputs all ts h = tt

-- a header and its separator
begins_body : (mode' : Mode) (fs : List Fun) (h : Header) (all m ts : List Lexeme) → (read_heading mode' fs ▸ header_read h) all m → separator m ts → Holds (Within Done (FunBody mode' fs h)) all ts
unfolding need begun listed between bare gap celled body_end body_next body_finish arm_ended statement_ended body_ended block_ended within after purposed closing ended_in ended with_operator with_turn with_to with_by with_colon with_open have named subscripted targeted calling called looping looped names_closed edge edge_comma listing list_comma list_next tail tail_comma between_functions heading head_out head_equal headed head_name params param param_comma with_sign with_infix with_text with_end argument_colon with_colon_item used applied argued caller_stack caller_purpose
begins_body mode' fs h all m ts x e = opened (FunBody mode' fs h) all ts (push (join m x e))

headed_holds : (at : Place) (w : Word) (own : List ℕ) (mode' : Mode) (fs : List Fun) (h : Header) (all ts : List Lexeme) → Holds (Headed mode' fs h) all (go_on at w own ts) → Holds (headed w mode' fs h) all ts
unfolding need begun listed between bare gap celled body_end body_next body_finish arm_ended statement_ended body_ended block_ended within after purposed closing ended_in ended with_operator with_turn with_to with_by with_colon with_open have named subscripted targeted calling called looping looped names_closed edge edge_comma listing list_comma list_next tail tail_comma between_functions heading head_out head_equal headed head_name params param param_comma with_sign with_infix with_text with_end argument_colon with_colon_item used applied argued caller_stack caller_purpose
headed_holds at word.Newline own mode' fs h all ts x = begins_body mode' fs h all _ ts x (newline_between at own ts)
headed_holds at word.Semicolon own mode' fs h all ts x = begins_body mode' fs h all _ ts x (semicolon_between at own ts)
headed_holds at word.Comma own mode' fs h all ts x = begins_body mode' fs h all _ ts x (comma_between at own ts)
headed_holds at _ own mode' fs h all ts x = tt

head_name_holds : (at : Place) (w : Word) (own : List ℕ) (mode' : Mode) (fs : List Fun) (outputs : List Ident) (name : Ident) (all ts : List Lexeme) → Holds (HeadName mode' fs outputs name) all (go_on at w own ts) → Holds (head_name w mode' fs outputs name) all ts
unfolding need begun listed between bare gap celled body_end body_next body_finish arm_ended statement_ended body_ended block_ended within after purposed closing ended_in ended with_operator with_turn with_to with_by with_colon with_open have named subscripted targeted calling called looping looped names_closed edge edge_comma listing list_comma list_next tail tail_comma between_functions heading head_out head_equal headed head_name params param param_comma with_sign with_infix with_text with_end argument_colon with_colon_item used applied argued caller_stack caller_purpose
head_name_holds at word.Open own mode' fs outputs name all ts h = push3 (join _ h (at, refl))
head_name_holds at w own mode' fs outputs name all ts h = headed_holds at w own mode' fs (header_of outputs name []) all ts (push3 (join _ h (inl refl)))

params_holds : (at : Place) (w : Word) (own : List ℕ) (mode' : Mode) (fs : List Fun) (outputs : List Ident) (name : Ident) (all ts : List Lexeme) → Holds (Params mode' fs outputs name) all (go_on at w own ts) → Holds (params at w own mode' fs outputs name) all ts
unfolding need begun listed between bare gap celled body_end body_next body_finish arm_ended statement_ended body_ended block_ended within after purposed closing ended_in ended with_operator with_turn with_to with_by with_colon with_open have named subscripted targeted calling called looping looped names_closed edge edge_comma listing list_comma list_next tail tail_comma between_functions heading head_out head_equal headed head_name params param param_comma with_sign with_infix with_text with_end argument_colon with_colon_item used applied argued caller_stack caller_purpose
params_holds at word.Name own mode' fs outputs name all ts h = push4 (join _ h (join ts refl refl))
params_holds at word.Close own mode' fs outputs name all ts h = join _ h.before (join _ h.after.before (join _ h.after.after.before (join _ h.after.after.after.before (inr (join _ h.after.after.after.after (at, refl))))))
params_holds at _ own mode' fs outputs name all ts h = tt

inputs_read : (names : List Ident) (ts m m' rest : List Lexeme) → op (codes "(") ts m → idents (op (codes ",")) names m m' → op (codes ")") m' rest → header_inputs names ts rest
unfolding need begun listed between bare gap celled body_end body_next body_finish arm_ended statement_ended body_ended block_ended within after purposed closing ended_in ended with_operator with_turn with_to with_by with_colon with_open have named subscripted targeted calling called looping looped names_closed edge edge_comma listing list_comma list_next tail tail_comma between_functions heading head_out head_equal headed head_name params param param_comma with_sign with_infix with_text with_end argument_colon with_colon_item used applied argued caller_stack caller_purpose
inputs_read [] ts m m' rest h k e = absurd k
inputs_read (n ∷ names) ts m m' rest h k e = join m h (join m' k e)

param_holds : (at : Place) (w : Word) (own : List ℕ) (mode' : Mode) (fs : List Fun) (h : Header) (all ts : List Lexeme) → Holds (Param mode' fs h) all (go_on at w own ts) → Holds (param w mode' fs h) all ts
unfolding need begun listed between bare gap celled body_end body_next body_finish arm_ended statement_ended body_ended block_ended within after purposed closing ended_in ended with_operator with_turn with_to with_by with_colon with_open have named subscripted targeted calling called looping looped names_closed edge edge_comma listing list_comma list_next tail tail_comma between_functions heading head_out head_equal headed head_name params param param_comma with_sign with_infix with_text with_end argument_colon with_colon_item used applied argued caller_stack caller_purpose
param_holds at word.Comma own mode' fs h all ts x = push5 (join _ x (at, refl))
param_holds at word.Close own mode' fs h all ts x = join _ x.before (join _ x.after.before (join _ x.after.after.before (join _ x.after.after.after.before (inputs_read h.inputs _ _ _ ts x.after.after.after.after.before x.after.after.after.after.after (at, refl)))))
param_holds at _ own mode' fs h all ts x = tt

param_comma_holds : (at : Place) (w : Word) (own : List ℕ) (mode' : Mode) (fs : List Fun) (h : Header) (all ts : List Lexeme) → Holds (ParamComma mode' fs h) all (go_on at w own ts) → Holds (param_comma at w own mode' fs h) all ts
unfolding need begun listed between bare gap celled body_end body_next body_finish arm_ended statement_ended body_ended block_ended within after purposed closing ended_in ended with_operator with_turn with_to with_by with_colon with_open have named subscripted targeted calling called looping looped names_closed edge edge_comma listing list_comma list_next tail tail_comma between_functions heading head_out head_equal headed head_name params param param_comma with_sign with_infix with_text with_end argument_colon with_colon_item used applied argued caller_stack caller_purpose
param_comma_holds at word.Name own mode' fs h all ts x = join _ x.before (join _ x.after.before (join _ x.after.after.before (join _ x.after.after.after.before (join _ x.after.after.after.after.before
    (last_ident (op (codes ",")) h.inputs (ident_at at own) _ _ _ ts x.after.after.after.after.after.before x.after.after.after.after.after.after refl)))))
param_comma_holds at _ own mode' fs h all ts x = tt

go_holds : (q : State) (at : Place) (w : Word) (own : List ℕ) (all ts : List Lexeme) → Holds q all (go_on at w own ts) → Holds (go q at w own) all ts
unfolding need begun listed between bare gap celled body_end body_next body_finish arm_ended statement_ended body_ended block_ended within after purposed closing ended_in ended with_operator with_turn with_to with_by with_colon with_open have named subscripted targeted calling called looping looped names_closed edge edge_comma listing list_comma list_next tail tail_comma between_functions heading head_out head_equal headed head_name params param param_comma with_sign with_infix with_text with_end argument_colon with_colon_item used applied argued caller_stack caller_purpose
go_holds (Need st k) at w own all ts h = need_holds at w own st k all ts h
go_holds (Begun c name text opens) at w own all ts h = begun_holds c name text opens at w own all ts h
go_holds (Listed c name text opens args) at w own all ts h = listed_holds c name text opens args at w own all ts h
go_holds (Between opens rows st k) at w own all ts h = between_holds opens rows at w own st k all ts h
go_holds (Bare opens rows st k) at w own all ts h = bare_holds opens rows at w own st k all ts h
go_holds (Gap opens rows row st k) at w own all ts h = gap_holds opens rows row at w own st k all ts h
go_holds (Have e st k) at w own all ts h = have_holds at w own (settle (tightness w) e st) k all ts (settle_holds (tightness w) e st k all _ h)
go_holds (Within b out) at w own all ts h = within_holds at w own b out all ts h
go_holds (After b out) at w own all ts h = afterwards_holds at w own b out all ts h
go_holds (Named b to out) at w own all ts h = named_holds at w own b to out all ts h
go_holds (Subscripted b to opens args out) at w own all ts h = subscripted_holds at w own b to opens args out all ts h
go_holds (Targeted b targets out) at w own all ts h = targeted_holds at w own b targets out all ts h
go_holds (Calling b targets out) at w own all ts h = calling_holds at w own b targets out all ts h
go_holds (Called b targets name text out) at w own all ts h = called_holds at w own b targets name text out all ts h
go_holds (Looping b place out) at w own all ts h = looping_holds at w own b place out all ts h
go_holds (Looped b place to out) at w own all ts h = looped_holds at w own b place to out all ts h
go_holds (Edge l) at w own all ts h = edge_holds at w own l all ts h
go_holds (EdgeComma l) at w own all ts h = edge_comma_holds at w own l all ts h
go_holds (Listing l names) at w own all ts h = listing_holds at w own l names all ts h
go_holds (ListComma l names) at w own all ts h = list_comma_holds at w own l names all ts h
go_holds (ListNext l names) at w own all ts h = list_next_holds at w own l names all ts h
go_holds (Tail l names) at w own all ts h = tail_holds at w own l names all ts h
go_holds (TailComma l names) at w own all ts h = tail_comma_holds at w own l names all ts h
go_holds (Top mode' fs) at w own all ts h = between_functions_holds at w own mode' fs all ts h
go_holds (Heading mode' fs) at w own all ts h = heading_holds at w own mode' fs all ts h
go_holds (HeadOut mode' fs outputs) at w own all ts h = head_out_holds at w own mode' fs outputs all ts h
go_holds (HeadEqual mode' fs outputs) at w own all ts h = head_equal_holds at w own mode' fs outputs all ts h
go_holds (HeadName mode' fs outputs name) at w own all ts h = head_name_holds at w own mode' fs outputs name all ts h
go_holds (Params mode' fs outputs name) at w own all ts h = params_holds at w own mode' fs outputs name all ts h
go_holds (Param mode' fs x) at w own all ts h = param_holds at w own mode' fs x all ts h
go_holds (ParamComma mode' fs x) at w own all ts h = param_comma_holds at w own mode' fs x all ts h
go_holds (Headed mode' fs x) at w own all ts h = headed_holds at w own mode' fs x all ts h
go_holds (Complete fs) at w own all ts h = tt
go_holds Stuck at w own all ts h = tt

step_holds : (q : State) (t : Lexeme) (all ts : List Lexeme) → Holds q all (t ∷ ts) → Holds (step q t) all ts
unfolding need begun listed between bare gap celled body_end body_next body_finish arm_ended statement_ended body_ended block_ended within after purposed closing ended_in ended with_operator with_turn with_to with_by with_colon with_open have named subscripted targeted calling called looping looped names_closed edge edge_comma listing list_comma list_next tail tail_comma between_functions heading head_out head_equal headed head_name params param param_comma with_sign with_infix with_text with_end argument_colon with_colon_item used applied argued caller_stack caller_purpose
step_holds q t all ts h = go_holds q t.place (word_of t.kind t.text) t.text all ts (subst (λ x. Holds q all (x ∷ ts)) (same_lexeme t) h)

finish_holds : (q : State) (all : List Lexeme) (fs : List Fun) → Holds q all [] → finish q ≡ Some fs → file fs all []
unfolding need begun listed between bare gap celled body_end body_next body_finish arm_ended statement_ended body_ended block_ended within after purposed closing ended_in ended with_operator with_turn with_to with_by with_colon with_open have named subscripted targeted calling called looping looped names_closed edge edge_comma listing list_comma list_next tail tail_comma between_functions heading head_out head_equal headed head_name params param param_comma with_sign with_infix with_text with_end argument_colon with_colon_item used applied argued caller_stack caller_purpose
finish_holds (Complete gs) all fs h k = let e : gs ≡ fs = cc in subst (λ x. file x all []) e h
finish_holds (Need st k) all fs h e = absurd (cc)
finish_holds _ all fs h e = absurd (cc)

sound : (ts all : List Lexeme) (q : State) (fs : List Fun) → Holds q all ts → run q ts ≡ Some fs → file fs all []
unfolding need begun listed between bare gap celled body_end body_next body_finish arm_ended statement_ended body_ended block_ended within after purposed closing ended_in ended with_operator with_turn with_to with_by with_colon with_open have named subscripted targeted calling called looping looped names_closed edge edge_comma listing list_comma list_next tail tail_comma between_functions heading head_out head_equal headed head_name params param param_comma with_sign with_infix with_text with_end argument_colon with_colon_item used applied argued caller_stack caller_purpose
sound [] all q fs h k = finish_holds q all fs h k
sound (t ∷ ts) all q fs h k = sound ts all (step q t) fs (step_holds q t all ts h) k

pub run_whole : (ts : List Lexeme) (fs : List Fun) → run start ts ≡ Some fs → file fs ts []
unfolding need begun listed between bare gap celled body_end body_next body_finish arm_ended statement_ended body_ended block_ended within after purposed closing ended_in ended with_operator with_turn with_to with_by with_colon with_open have named subscripted targeted calling called looping looped names_closed edge edge_comma listing list_comma list_next tail tail_comma between_functions heading head_out head_equal headed head_name params param param_comma with_sign with_infix with_text with_end argument_colon with_colon_item used applied argued caller_stack caller_purpose
run_whole ts fs k = sound ts ts start fs (refl, many_none separator ts) k
