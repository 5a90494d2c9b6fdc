-- Each token list of a file runs to that file: statements and functions.
use Rattle.std.proofs.Common.{◌≡◌, ◌≢◌, ℕ, zero, suc, Bool, true, false, List, [], ◌∷◌, ◌++◌, arith, refl, ap, sym, ◌∙◌, subst, ⊎_elim, Some, append_assoc}
use Rattle.std.specs.Prelude.{codes}
use Rattle.fic_base.specs.declared.place.Place.{Place}
use Rattle.mat_ast.specs.declared.tree.Ident.{Ident}
use Rattle.mat_ast.specs.Tree.{Exp, Name, Apply, Args, NoArgs, Whole, Item, Sta, Assign, Store, Multi, IfOnly, IfElse, ForEach, WhileTrue, BreakOff, GoOn, Arms, NoArms, Arm, Block, Done, Next, Fun}
use Rattle.mat_token.specs.declared.token.Kind.TheVariants as kind
use Rattle.mat_token.specs.Lexeme.{Lexeme}
use Rattle.mat_grammar.specs.Lang.{◌▸◌, times, many, one_at, any_of, op, op_at, keyword, keyword_at}
use Rattle.mat_grammar.specs.Grammar.{expression, arguments, comma, row_break, bracket_end, separator, ident, more_idents, idents, name_list, call, statement, first_arm, more_arms, block, more_statements, header_inputs, header_outputs, header, functions, file}
use Rattle.mat_grammar.specs.declared.word.Word.{Word}
use Rattle.mat_grammar.specs.declared.word.Word.TheVariants as word
use Rattle.mat_grammar.specs.declared.word.Mode.{Mode}
use Rattle.mat_grammar.specs.declared.word.Mode.TheVariants as mode
use Rattle.mat_grammar.specs.Machine.{Header, Around, IfBody, ElseBody, WhileBody, ForBody, FunBody, Target, Callee, Purpose, AssignTo, StoreTo, ArmTest, WhileTest, ForRange, InStatement, Lister, Outputs, Targets, State, Need, Begun, Have, Within, After, Named, Subscripted, Targeted, Calling, Called, Looping, Looped, Edge, EdgeComma, Listing, ListComma, ListNext, Tail, TailComma, Top, Heading, HeadOut, HeadEqual, HeadName, Params, Param, ParamComma, Headed, Complete, tightness, and_block, and_arms, with_statement, with_arm, with_fun, inside, caller_stack, caller_purpose, need_in, used, applied, body_end, body_next, body_finish, arm_ended, statement_ended, body_ended, block_ended, within, after, purposed, ended, have, named, subscripted, targeted, calling, called, looping, looped, names_closed, edge, edge_comma, listing, list_comma, list_next, tail, tail_comma, between_functions, heading, head_out, head_equal, headed, header_of, head_name, params, param, param_comma, go, run, start}
use Rattle.mat_grammar.proofs.ReadUp.{shut}
use Rattle.mat_grammar.proofs.Complete.{Follows, Begins, same_at, begins_again, weaker, loose_follows, stop, positive_stop, complete, complete_args, complete_more, complete_listed, after_argument, within_caller, caller_low, colon_argument}

-- Words that follow

-- what ends a block
abbrev pub IsEnder : Word → Type 0
IsEnder word.ElseIf = Unit {0}
IsEnder word.Else = Unit {0}
IsEnder word.End = Unit {0}
IsEnder word.Function = Unit {0}
IsEnder word.Finish = Unit {0}
IsEnder _ = ⊥

-- what stands behind a statement
abbrev pub IsAfter : Word → Type 0
IsAfter word.Newline = Unit {0}
IsAfter word.Semicolon = Unit {0}
IsAfter word.Comma = Unit {0}
IsAfter word.ElseIf = Unit {0}
IsAfter word.Else = Unit {0}
IsAfter word.End = Unit {0}
IsAfter word.Function = Unit {0}
IsAfter word.Finish = Unit {0}
IsAfter _ = ⊥

-- what begins or ends a block
abbrev pub IsBlock : Word → Type 0
IsBlock word.Newline = Unit {0}
IsBlock word.Semicolon = Unit {0}
IsBlock word.Comma = Unit {0}
IsBlock word.ElseIf = Unit {0}
IsBlock word.Else = Unit {0}
IsBlock word.End = Unit {0}
IsBlock word.Function = Unit {0}
IsBlock word.Finish = Unit {0}
IsBlock word.Name = Unit {0}
IsBlock word.OpenSquare = Unit {0}
IsBlock word.If = Unit {0}
IsBlock word.For = Unit {0}
IsBlock word.While = Unit {0}
IsBlock word.Break = Unit {0}
IsBlock word.Continue = Unit {0}
IsBlock _ = ⊥

-- what ends the arms of an `if`
abbrev IsArmsEnd : Word → Type 0
IsArmsEnd word.Else = Unit {0}
IsArmsEnd word.End = Unit {0}
IsArmsEnd _ = ⊥

ender_after : (w : Word) → IsEnder w → IsAfter w
ender_after word.ElseIf h = tt
ender_after word.Else h = tt
ender_after word.End h = tt
ender_after word.Function h = tt
ender_after word.Finish h = tt
ender_after _ h = absurd h

after_block : (w : Word) → IsAfter w → IsBlock w
after_block word.Newline h = tt
after_block word.Semicolon h = tt
after_block word.Comma h = tt
after_block word.ElseIf h = tt
after_block word.Else h = tt
after_block word.End h = tt
after_block word.Function h = tt
after_block word.Finish h = tt
after_block _ h = absurd h

arms_ender : (w : Word) → IsArmsEnd w → IsEnder w
arms_ender word.Else h = tt
arms_ender word.End h = tt
arms_ender _ h = absurd h

block_loose : (w : Word) → IsBlock w → tightness w ≡ 0
block_loose word.Newline h = refl
block_loose word.Semicolon h = refl
block_loose word.Comma h = refl
block_loose word.ElseIf h = refl
block_loose word.Else h = refl
block_loose word.End h = refl
block_loose word.Function h = refl
block_loose word.Finish h = refl
block_loose word.Name h = refl
block_loose word.OpenSquare h = refl
block_loose word.If h = refl
block_loose word.For h = refl
block_loose word.While h = refl
block_loose word.Break h = refl
block_loose word.Continue h = refl
block_loose _ h = absurd h

separator_begins : (ts m : List Lexeme) → separator ts m → Begins IsAfter ts
separator_begins ts m h = ⊎_elim (λ x. (x.1.0, kind.Newline, x.0, m, tt, x.1.1)) (λ y. ⊎_elim (λ x. (x.0, kind.Op, codes ";", m, tt, x.1)) (λ x. (x.0, kind.Op, codes ",", m, tt, x.1)) y) h

seps_begin : (P : Word → Type 0) (n : ℕ) (ts m : List Lexeme) → ((w : Word) → IsAfter w → P w) → times n separator ts m → Begins P m → Begins P ts
seps_begin P zero ts m f h b = begins_again P ts m h b
seps_begin P (suc n) ts m f h b = weaker IsAfter P ts f (separator_begins ts h.middle h.before)

first_begins : (at : Place) (arms : Arms) (ts m : List Lexeme) → first_arm at arms ts m → Begins IsBlock ts
first_begins at NoArms ts m h = absurd h
first_begins at (Arm c body more) ts m h = (at, kind.Keyword, codes "if", h.middle, tt, h.before)

statement_begins : (s : Sta) (ts m : List Lexeme) → statement s ts m → Begins IsBlock ts
statement_begins (Assign to value) ts m h = (to.place, kind.Name, to.text, h.middle, tt, h.before)
statement_begins (Store to opens args value) ts m h = (to.place, kind.Name, to.text, h.middle, tt, h.before)
statement_begins (Multi targets value) ts m h = (h.before.before.0, kind.Op, codes "[", h.before.middle, tt, h.before.before.1)
statement_begins (IfOnly at arms) ts m h = first_begins at arms ts h.middle h.before
statement_begins (IfElse at arms other) ts m h = first_begins at arms ts h.middle h.before
statement_begins (ForEach at to range body) ts m h = (at, kind.Keyword, codes "for", h.middle, tt, h.before)
statement_begins (WhileTrue at condition body) ts m h = (at, kind.Keyword, codes "while", h.middle, tt, h.before)
statement_begins (BreakOff at) ts m h = (at, kind.Keyword, codes "break", m, tt, h)
statement_begins (GoOn at) ts m h = (at, kind.Keyword, codes "continue", m, tt, h)

ender_block : (w : Word) → IsEnder w → IsBlock w
ender_block w h = after_block w (ender_after w h)

block_begins : (b : Block) (ts m : List Lexeme) → block b ts m → Begins IsEnder m → Begins IsBlock ts
block_begins Done ts m h e = seps_begin IsBlock h.0 ts m after_block h.1 (weaker IsEnder IsBlock m ender_block e)
block_begins (Next s more) ts m h e = seps_begin IsBlock h.before.0 ts h.middle after_block h.before.1 (statement_begins s h.middle h.after.middle h.after.before)

more_begins : (b : Block) (ts m : List Lexeme) → more_statements b ts m → Begins IsEnder m → Begins IsAfter ts
more_begins Done ts m h e = seps_begin IsAfter h.0 ts m (λ w x. x) h.1 (weaker IsEnder IsAfter m ender_after e)
more_begins (Next s more) ts m h e = separator_begins ts h.middle h.before

arms_begin : (more : Arms) (ts m : List Lexeme) → more_arms more ts m → Begins IsArmsEnd m → Begins IsEnder ts
arms_begin NoArms ts m h e = begins_again IsEnder ts m h (weaker IsArmsEnd IsEnder m arms_ender e)
arms_begin (Arm c b more) ts m h e = (h.before.0, kind.Keyword, codes "elseif", h.middle, tt, h.before.1)

-- an expression that such a word ends
value_follows : (e : Exp) (ts : List Lexeme) → Begins IsBlock ts → Follows (stop e) ts
value_follows e ts b = loose_follows IsBlock (stop e) ts block_loose (positive_stop e) b

-- The machine at separators

sep_within : (b : Block) (out : Around) (ts m : List Lexeme) → separator ts m → run (Within b out) ts ≡ run (Within b out) m
unfolding within
sep_within b out ts m h = ⊎_elim (λ x. ap (run (Within b out)) x.1.1) (λ y. ⊎_elim (λ x. ap (run (Within b out)) x.1) (λ x. ap (run (Within b out)) x.1) y) h

sep_after : (b : Block) (out : Around) (ts m : List Lexeme) → separator ts m → run (After b out) ts ≡ run (Within b out) m
unfolding after
sep_after b out ts m h = ⊎_elim (λ x. ap (run (After b out)) x.1.1) (λ y. ⊎_elim (λ x. ap (run (After b out)) x.1) (λ x. ap (run (After b out)) x.1) y) h

sep_top : (mode' : Mode) (fs : List Fun) (ts m : List Lexeme) → separator ts m → run (Top mode' fs) ts ≡ run (Top mode' fs) m
unfolding between_functions
sep_top mode' fs ts m h = ⊎_elim (λ x. ap (run (Top mode' fs)) x.1.1) (λ y. ⊎_elim (λ x. ap (run (Top mode' fs)) x.1) (λ x. ap (run (Top mode' fs)) x.1) y) h

sep_headed : (mode' : Mode) (fs : List Fun) (h : Header) (ts m : List Lexeme) → separator ts m → run (Headed mode' fs h) ts ≡ run (Within Done (FunBody mode' fs h)) m
unfolding headed
sep_headed mode' fs h ts m k = ⊎_elim (λ x. ap (run (Headed mode' fs h)) x.1.1) (λ y. ⊎_elim (λ x. ap (run (Headed mode' fs h)) x.1) (λ x. ap (run (Headed mode' fs h)) x.1) y) k

sep_name : (mode' : Mode) (fs : List Fun) (outputs : List Ident) (name : Ident) (ts m : List Lexeme) → separator ts m → run (HeadName mode' fs outputs name) ts ≡ run (Within Done (FunBody mode' fs (header_of outputs name []))) m
unfolding headed head_name
sep_name mode' fs outputs name ts m k = ⊎_elim (λ x. ap (run (HeadName mode' fs outputs name)) x.1.1) (λ y. ⊎_elim (λ x. ap (run (HeadName mode' fs outputs name)) x.1) (λ x. ap (run (HeadName mode' fs outputs name)) x.1) y) k

seps_within : (n : ℕ) (b : Block) (out : Around) (ts m : List Lexeme) → times n separator ts m → run (Within b out) ts ≡ run (Within b out) m
seps_within zero b out ts m h = ap (run (Within b out)) h
seps_within (suc n) b out ts m h = sep_within b out ts _ h.before ∙ seps_within n b out _ m h.after

seps_top : (n : ℕ) (mode' : Mode) (fs : List Fun) (ts m : List Lexeme) → times n separator ts m → run (Top mode' fs) ts ≡ run (Top mode' fs) m
seps_top zero mode' fs ts m h = ap (run (Top mode' fs)) h
seps_top (suc n) mode' fs ts m h = sep_top mode' fs ts _ h.before ∙ seps_top n mode' fs _ m h.after

after_ender : (at : Place) (w : Word) (own : List ℕ) (b : Block) (out : Around) → IsEnder w → after w b out ≡ within at w own b out
unfolding after within
after_ender at word.ElseIf own b out h = refl
after_ender at word.Else own b out h = refl
after_ender at word.End own b out h = refl
after_ender at word.Function own b out h = refl
after_ender at word.Finish own b out h = refl
after_ender at _ own b out h = absurd h

after_ends : (b : Block) (out : Around) (ts : List Lexeme) → Begins IsEnder ts → run (After b out) ts ≡ run (Within b out) ts
after_ends b out = same_at IsEnder (After b out) (Within b out) (λ at w own h. after_ender at w own b out h)

seps_after : (n : ℕ) (b : Block) (out : Around) (ts m : List Lexeme) → times n separator ts m → Begins IsEnder m → run (After b out) ts ≡ run (Within b out) m
seps_after zero b out ts m h e = ap (run (After b out)) h ∙ after_ends b out m e
seps_after (suc n) b out ts m h e = sep_after b out ts _ h.before ∙ seps_within n b out _ m h.after

-- behind whole expressions
value_after : (at : Place) (w : Word) (own : List ℕ) (e : Exp) (k : Purpose) → IsAfter w → go (Have e [] k) at w own ≡ purposed at w own e k
unfolding have ended
value_after at word.Newline own e k h = refl
value_after at word.Semicolon own e k h = refl
value_after at word.Comma own e k h = refl
value_after at word.ElseIf own e k h = refl
value_after at word.Else own e k h = refl
value_after at word.End own e k h = refl
value_after at word.Function own e k h = refl
value_after at word.Finish own e k h = refl
value_after at _ own e k h = absurd h

value_block : (at : Place) (w : Word) (own : List ℕ) (e : Exp) (k : Purpose) → IsBlock w → go (Have e [] k) at w own ≡ purposed at w own e k
unfolding have ended
value_block at word.Newline own e k h = refl
value_block at word.Semicolon own e k h = refl
value_block at word.Comma own e k h = refl
value_block at word.ElseIf own e k h = refl
value_block at word.Else own e k h = refl
value_block at word.End own e k h = refl
value_block at word.Function own e k h = refl
value_block at word.Finish own e k h = refl
value_block at word.Name own e k h = refl
value_block at word.OpenSquare own e k h = refl
value_block at word.If own e k h = refl
value_block at word.For own e k h = refl
value_block at word.While own e k h = refl
value_block at word.Break own e k h = refl
value_block at word.Continue own e k h = refl
value_block at _ own e k h = absurd h

pub assigned : (b : Block) (to : Ident) (e : Exp) (out : Around) (ts : List Lexeme) → Begins IsAfter ts → run (Have e [] (AssignTo b to out)) ts ≡ run (After (with_statement b (Assign to e)) out) ts
unfolding purposed
assigned b to e out = same_at IsAfter (Have e [] (AssignTo b to out)) (After (with_statement b (Assign to e)) out) (λ at w own h. value_after at w own e (AssignTo b to out) h)

pub stored : (b : Block) (to : Ident) (opens : Place) (args : Args) (e : Exp) (out : Around) (ts : List Lexeme) → Begins IsAfter ts → run (Have e [] (StoreTo b to opens args out)) ts ≡ run (After (with_statement b (Store to opens args e)) out) ts
unfolding purposed
stored b to opens args e out = same_at IsAfter (Have e [] (StoreTo b to opens args out)) (After (with_statement b (Store to opens args e)) out) (λ at w own h. value_after at w own e (StoreTo b to opens args out) h)

pub armed : (b : Block) (opens : Place) (arms : Arms) (e : Exp) (out : Around) (ts : List Lexeme) → Begins IsBlock ts → run (Have e [] (ArmTest b opens arms out)) ts ≡ run (Within Done (IfBody b opens arms e out)) ts
unfolding purposed
armed b opens arms e out = same_at IsBlock (Have e [] (ArmTest b opens arms out)) (Within Done (IfBody b opens arms e out)) (λ at w own h. value_block at w own e (ArmTest b opens arms out) h)

pub tested : (b : Block) (opens : Place) (e : Exp) (out : Around) (ts : List Lexeme) → Begins IsBlock ts → run (Have e [] (WhileTest b opens out)) ts ≡ run (Within Done (WhileBody b opens e out)) ts
unfolding purposed
tested b opens e out = same_at IsBlock (Have e [] (WhileTest b opens out)) (Within Done (WhileBody b opens e out)) (λ at w own h. value_block at w own e (WhileTest b opens out) h)

pub ranged : (b : Block) (opens : Place) (to : Ident) (e : Exp) (out : Around) (ts : List Lexeme) → Begins IsBlock ts → run (Have e [] (ForRange b opens to out)) ts ≡ run (Within Done (ForBody b opens to e out)) ts
unfolding purposed
ranged b opens to e out = same_at IsBlock (Have e [] (ForRange b opens to out)) (Within Done (ForBody b opens to e out)) (λ at w own h. value_block at w own e (ForRange b opens to out) h)

called_word : (at : Place) (w : Word) (b : Block) (targets : List Ident) (name : Place) (text : List ℕ) (out : Around) → IsAfter w → called at w b targets name text out ≡ after w (with_statement b (Multi targets (Name name text))) out
unfolding called
called_word at word.Open b targets name text out h = absurd h
called_word at _ b targets name text out h = refl

pub called_after : (b : Block) (targets : List Ident) (name : Place) (text : List ℕ) (out : Around) (ts : List Lexeme) → Begins IsAfter ts → run (Called b targets name text out) ts ≡ run (After (with_statement b (Multi targets (Name name text))) out) ts
called_after b targets name text out = same_at IsAfter (Called b targets name text out) (After (with_statement b (Multi targets (Name name text))) out) (λ at w own h. called_word at w b targets name text out h)

-- Lists of the tree

append_none : {A : Type 0} (xs : List A) → xs ++ [] ≡ xs
append_none [] = refl
append_none (x ∷ xs) = ap (λ more. x ∷ more) (append_none xs)

and_block_none : (b : Block) → and_block b Done ≡ b
and_block_none Done = refl
and_block_none (Next s b) = ap (Next s) (and_block_none b)

and_block_step : (b : Block) (s : Sta) (more : Block) → and_block (with_statement b s) more ≡ and_block b (Next s more)
and_block_step Done s more = refl
and_block_step (Next a b) s more = ap (Next a) (and_block_step b s more)

and_arms_step : (arms : Arms) (c : Exp) (b : Block) (more : Arms) → and_arms (with_arm arms c b) more ≡ and_arms arms (Arm c b more)
and_arms_step NoArms c b more = refl
and_arms_step (Arm d e arms) c b more = ap (Arm d e) (and_arms_step arms c b more)

-- Brackets of names

edge_break : (l : Lister) (ts m : List Lexeme) → row_break ts m → run (Edge l) ts ≡ run (Edge l) m
unfolding edge edge_comma
edge_break l ts m h = ⊎_elim
    (λ e. ap (run (Edge l)) e ∙ ⊎_elim (λ x. ap (run (Edge l)) x.1) (λ x. ap (run (Edge l)) x.1.1) h.after)
    (λ e. ap (run (Edge l)) e.1 ∙ ⊎_elim (λ x. ap (run (EdgeComma l)) x.1) (λ x. ap (run (EdgeComma l)) x.1.1) h.after)
    h.before

edge_breaks : (n : ℕ) (l : Lister) (ts m : List Lexeme) → times n row_break ts m → run (Edge l) ts ≡ run (Edge l) m
edge_breaks zero l ts m h = ap (run (Edge l)) h
edge_breaks (suc n) l ts m h = edge_break l ts _ h.before ∙ edge_breaks n l _ m h.after

listing_break : (l : Lister) (names : List Ident) (ts m : List Lexeme) → row_break ts m → run (Listing l names) ts ≡ run (Tail l names) m
unfolding listing list_comma
listing_break l names ts m h = ⊎_elim
    (λ e. ap (run (Listing l names)) e ∙ ⊎_elim (λ x. ap (run (Listing l names)) x.1) (λ x. ap (run (Listing l names)) x.1.1) h.after)
    (λ e. ap (run (Listing l names)) e.1 ∙ ⊎_elim (λ x. ap (run (ListComma l names)) x.1) (λ x. ap (run (ListComma l names)) x.1.1) h.after)
    h.before

tail_break : (l : Lister) (names : List Ident) (ts m : List Lexeme) → row_break ts m → run (Tail l names) ts ≡ run (Tail l names) m
unfolding tail tail_comma
tail_break l names ts m h = ⊎_elim
    (λ e. ap (run (Tail l names)) e ∙ ⊎_elim (λ x. ap (run (Tail l names)) x.1) (λ x. ap (run (Tail l names)) x.1.1) h.after)
    (λ e. ap (run (Tail l names)) e.1 ∙ ⊎_elim (λ x. ap (run (TailComma l names)) x.1) (λ x. ap (run (TailComma l names)) x.1.1) h.after)
    h.before

tail_breaks : (n : ℕ) (l : Lister) (names : List Ident) (ts m : List Lexeme) → times n row_break ts m → run (Tail l names) ts ≡ run (Tail l names) m
tail_breaks zero l names ts m h = ap (run (Tail l names)) h
tail_breaks (suc n) l names ts m h = tail_break l names ts _ h.before ∙ tail_breaks n l names _ m h.after

listing_shut : (l : Lister) (names : List Ident) (ts m : List Lexeme) → shut ts m → run (Listing l names) ts ≡ run (names_closed l names) m
unfolding listing list_comma
listing_shut l names ts m h = ⊎_elim
    (λ e. ap (run (Listing l names)) e ∙ ap (run (Listing l names)) h.after.1)
    (λ e. ap (run (Listing l names)) e.1 ∙ ap (run (ListComma l names)) h.after.1)
    h.before

tail_shut : (l : Lister) (names : List Ident) (ts m : List Lexeme) → shut ts m → run (Tail l names) ts ≡ run (names_closed l names) m
unfolding tail tail_comma
tail_shut l names ts m h = ⊎_elim
    (λ e. ap (run (Tail l names)) e ∙ ap (run (Tail l names)) h.after.1)
    (λ e. ap (run (Tail l names)) e.1 ∙ ap (run (TailComma l names)) h.after.1)
    h.before

listing_end : (n : ℕ) (l : Lister) (names : List Ident) (ts m rest : List Lexeme) → times n row_break ts m → shut m rest → run (Listing l names) ts ≡ run (names_closed l names) rest
listing_end zero l names ts m rest h s = ap (run (Listing l names)) h ∙ listing_shut l names m rest s
listing_end (suc n) l names ts m rest h s = listing_break l names ts _ h.before ∙ tail_breaks n l names _ m h.after ∙ tail_shut l names m rest s

more_names : (names done : List Ident) (l : Lister) (ts m : List Lexeme) → more_idents comma names ts m → run (Listing l done) ts ≡ run (Listing l (done ++ names)) m
unfolding listing list_comma list_next
more_names [] done l ts m h = ap (run (Listing l done)) h ∙ ap (λ x. run (Listing l x) m) (sym (append_none done))
more_names (n ∷ names) done l ts m h =
    ⊎_elim (λ x. ap (run (Listing l done)) x.1 ∙ ap (run (ListComma l done)) h.after.before) (λ x. ap (run (Listing l done)) x.1.1 ∙ ap (run (ListNext l done)) h.after.before) h.before
    ∙ more_names names (done ++ n ∷ []) l _ m h.after.after
    ∙ ap (λ x. run (Listing l x) m) (append_assoc done (n ∷ []) names)

all_names : (names : List Ident) (l : Lister) (ts m : List Lexeme) → (many row_break ▸ idents comma names ▸ bracket_end) ts m → run (Edge l) ts ≡ run (names_closed l names) m
unfolding edge
all_names [] l ts m h = absurd h.after.before
all_names (n ∷ names) l ts m h =
    edge_breaks h.before.0 l ts _ h.before.1 ∙ ap (run (Edge l)) h.after.before.before ∙ more_names names (n ∷ []) l _ _ h.after.before.after
    ∙ listing_end h.after.after.before.0 l (n ∷ names) _ _ m h.after.after.before.1 h.after.after.after

-- Statements, step by step

name_within : (b : Block) (to : Ident) (out : Around) (ts m : List Lexeme) → ident to ts m → run (Within b out) ts ≡ run (Named b to out) m
unfolding within
name_within b to out ts m h = ap (run (Within b out)) h

named_equal : (b : Block) (to : Ident) (out : Around) (ts m : List Lexeme) → op (codes "=") ts m → run (Named b to out) ts ≡ run (Need [] (AssignTo b to out)) m
unfolding named
named_equal b to out ts m h = ap (run (Named b to out)) h.1

named_open : (b : Block) (to : Ident) (opens : Place) (out : Around) (ts m : List Lexeme) → op_at opens (codes "(") ts m → run (Named b to out) ts ≡ run (need_in (InStatement (Target b out)) to.place to.text opens NoArgs) m
unfolding named caller_stack caller_purpose
named_open b to opens out ts m h = ap (run (Named b to out)) h

subscripted_equal : (b : Block) (to : Ident) (opens : Place) (args : Args) (out : Around) (ts m : List Lexeme) → op (codes "=") ts m → run (Subscripted b to opens args out) ts ≡ run (Need [] (StoreTo b to opens args out)) m
unfolding subscripted
subscripted_equal b to opens args out ts m h = ap (run (Subscripted b to opens args out)) h.1

used_target : (b : Block) (to : Ident) (opens : Place) (args : Args) (out : Around) → args ≢ NoArgs → applied (InStatement (Target b out)) to.place to.text opens args ≡ Subscripted b to opens args out
unfolding applied used
used_target b to opens NoArgs out h = absurd (h refl)
used_target b to opens _ out h = refl

used_callee : (b : Block) (targets : List Ident) (at : Place) (text : List ℕ) (opens : Place) (args : Args) (out : Around) → applied (InStatement (Callee b targets out)) at text opens args ≡ After (with_statement b (Multi targets (Apply at text opens args))) out
unfolding applied used
used_callee b targets at text opens args out = refl

square_within : (b : Block) (out : Around) (ts m : List Lexeme) → op (codes "[") ts m → run (Within b out) ts ≡ run (Edge (Targets b out)) m
unfolding within
square_within b out ts m h = ap (run (Within b out)) h.1

targets_closed : (b : Block) (targets : List Ident) (out : Around) (ts m : List Lexeme) → op (codes "=") ts m → run (names_closed (Targets b out) targets) ts ≡ run (Calling b targets out) m
unfolding names_closed targeted
targets_closed b targets out ts m h = ap (run (Targeted b targets out)) h.1

calling_name : (b : Block) (targets : List Ident) (at : Place) (text : List ℕ) (out : Around) (ts m : List Lexeme) → one_at at kind.Name text ts m → run (Calling b targets out) ts ≡ run (Called b targets at text out) m
unfolding calling
calling_name b targets at text out ts m h = ap (run (Calling b targets out)) h

called_open : (b : Block) (targets : List Ident) (at : Place) (text : List ℕ) (opens : Place) (out : Around) (ts m : List Lexeme) → op_at opens (codes "(") ts m → run (Called b targets at text out) ts ≡ run (Begun (InStatement (Callee b targets out)) at text opens) m
unfolding called
called_open b targets at text opens out ts m h = ap (run (Called b targets at text out)) h

if_within : (b : Block) (at : Place) (out : Around) (ts m : List Lexeme) → keyword_at at (codes "if") ts m → run (Within b out) ts ≡ run (Need [] (ArmTest b at NoArms out)) m
unfolding within
if_within b at out ts m h = ap (run (Within b out)) h

while_within : (b : Block) (at : Place) (out : Around) (ts m : List Lexeme) → keyword_at at (codes "while") ts m → run (Within b out) ts ≡ run (Need [] (WhileTest b at out)) m
unfolding within
while_within b at out ts m h = ap (run (Within b out)) h

for_within : (b : Block) (at : Place) (to : Ident) (out : Around) (ts m : List Lexeme) → (keyword_at at (codes "for") ▸ ident to ▸ op (codes "=")) ts m → run (Within b out) ts ≡ run (Need [] (ForRange b at to out)) m
unfolding within looping looped
for_within b at to out ts m h = ap (run (Within b out)) h.before ∙ ap (run (Looping b at out)) h.after.before ∙ ap (run (Looped b at to out)) h.after.after.1

break_within : (b : Block) (at : Place) (out : Around) (ts m : List Lexeme) → keyword_at at (codes "break") ts m → run (Within b out) ts ≡ run (After (with_statement b (BreakOff at)) out) m
unfolding within
break_within b at out ts m h = ap (run (Within b out)) h

continue_within : (b : Block) (at : Place) (out : Around) (ts m : List Lexeme) → keyword_at at (codes "continue") ts m → run (Within b out) ts ≡ run (After (with_statement b (GoOn at)) out) m
unfolding within
continue_within b at out ts m h = ap (run (Within b out)) h

end_if : (before body : Block) (at : Place) (arms : Arms) (c : Exp) (out : Around) (ts m : List Lexeme) → keyword (codes "end") ts m → run (Within body (IfBody before at arms c out)) ts ≡ run (After (with_statement before (IfOnly at (with_arm arms c body))) out) m
unfolding within block_ended arm_ended
end_if before body at arms c out ts m h = ap (run (Within body (IfBody before at arms c out))) h.1

else_if : (before body : Block) (at : Place) (arms : Arms) (c : Exp) (out : Around) (ts m : List Lexeme) → keyword (codes "else") ts m → run (Within body (IfBody before at arms c out)) ts ≡ run (Within Done (ElseBody before at (with_arm arms c body) out)) m
unfolding within block_ended arm_ended
else_if before body at arms c out ts m h = ap (run (Within body (IfBody before at arms c out))) h.1

elseif_if : (before body : Block) (at : Place) (arms : Arms) (c : Exp) (out : Around) (ts m : List Lexeme) → keyword (codes "elseif") ts m → run (Within body (IfBody before at arms c out)) ts ≡ run (Need [] (ArmTest before at (with_arm arms c body) out)) m
unfolding within block_ended arm_ended
elseif_if before body at arms c out ts m h = ap (run (Within body (IfBody before at arms c out))) h.1

end_else : (before body : Block) (at : Place) (arms : Arms) (out : Around) (ts m : List Lexeme) → keyword (codes "end") ts m → run (Within body (ElseBody before at arms out)) ts ≡ run (After (with_statement before (IfElse at arms body)) out) m
unfolding within block_ended statement_ended
end_else before body at arms out ts m h = ap (run (Within body (ElseBody before at arms out))) h.1

end_while : (before body : Block) (at : Place) (c : Exp) (out : Around) (ts m : List Lexeme) → keyword (codes "end") ts m → run (Within body (WhileBody before at c out)) ts ≡ run (After (with_statement before (WhileTrue at c body)) out) m
unfolding within block_ended statement_ended
end_while before body at c out ts m h = ap (run (Within body (WhileBody before at c out))) h.1

end_for : (before body : Block) (at : Place) (to : Ident) (c : Exp) (out : Around) (ts m : List Lexeme) → keyword (codes "end") ts m → run (Within body (ForBody before at to c out)) ts ≡ run (After (with_statement before (ForEach at to c body)) out) m
unfolding within block_ended statement_ended
end_for before body at to c out ts m h = ap (run (Within body (ForBody before at to c out))) h.1

-- the subscripts of a target, which are no empty list
complete_target : (args : Args) (b : Block) (out : Around) (to : Ident) (opens : Place) (ts m mid : List Lexeme) → args ≢ NoArgs → arguments args ts m → op (codes ")") m mid
    → run (need_in (InStatement (Target b out)) to.place to.text opens NoArgs) ts ≡ run (Subscripted b to opens args out) mid
complete_target NoArgs b out to opens ts m mid ne h e = absurd (ne refl)
complete_target (Whole more) b out to opens ts m mid ne h e =
    colon_argument (InStatement (Target b out)) to.place to.text opens NoArgs ts _ h.before
    ∙ complete_listed more (Whole NoArgs) (InStatement (Target b out)) to.place to.text opens _ m mid h.after e
    ∙ ap (λ q. run q mid) (used_target b to opens (Whole more) out ne)
complete_target (Item a more) b out to opens ts m mid ne h e =
    complete a (caller_stack (InStatement (Target b out)) to.place to.text opens NoArgs) (caller_purpose (InStatement (Target b out)) to.place to.text opens NoArgs) ts _ 0 (omega arith) (caller_low (InStatement (Target b out)) to.place to.text opens NoArgs)
    (after_argument more (stop a) _ m mid (positive_stop a) h.after e) (within_caller a (InStatement (Target b out)) to.place to.text opens NoArgs ts _ h.before)
    ∙ complete_more more a NoArgs (InStatement (Target b out)) to.place to.text opens _ m mid h.after e
    ∙ ap (λ q. run q mid) (used_target b to opens (Item a more) out ne)

complete_call : (value : Exp) (b : Block) (targets : List Ident) (out : Around) (ts m : List Lexeme) → call value ts m → Begins IsAfter m → run (Calling b targets out) ts ≡ run (After (with_statement b (Multi targets value)) out) m
complete_call (Name at text) b targets out ts m h e = calling_name b targets at text out ts m h ∙ called_after b targets at text out m e
complete_call (Apply at text opens args) b targets out ts m h e =
    calling_name b targets at text out ts _ h.before ∙ called_open b targets at text opens out _ _ h.after.before
    ∙ complete_args args (InStatement (Callee b targets out)) at text opens _ _ m h.after.after.before h.after.after.after
    ∙ ap (λ q. run q m) (used_callee b targets at text opens args out)
complete_call _ b targets out ts m h e = absurd h

-- a value for a purpose
complete_value : (e : Exp) (k : Purpose) (ts mid : List Lexeme) → inside [] k ≡ false → Begins IsBlock mid → expression false 0 e ts mid → run (Need [] k) ts ≡ run (Have e [] k) mid
complete_value e k ts mid i b h = complete e [] k ts mid 0 (omega arith) (omega arith) (value_follows e mid b) (subst (λ (x : Bool). expression x 0 e ts mid) (sym i) h)

-- arms that were read up to the end of the last
pub record ArmsRead (arms : Arms) (q : State) (b : Block) (at : Place) (out : Around) (ts m : List Lexeme) : Type 0 where
  pub done : Arms
  pub condition : Exp
  pub body : Block
  pub is : with_arm done condition body ≡ arms
  pub runs : run q ts ≡ run (Within body (IfBody b at done condition out)) m

mutual
  complete_sta : (s : Sta) (b : Block) (out : Around) (ts m : List Lexeme) → statement s ts m → Begins IsAfter m → run (Within b out) ts ≡ run (After (with_statement b s) out) m
  complete_sta (Assign to value) b out ts m h e =
      name_within b to out ts _ h.before ∙ named_equal b to out _ _ h.after.before
      ∙ complete_value value (AssignTo b to out) _ m refl (weaker IsAfter IsBlock m after_block e) h.after.after ∙ assigned b to value out m e
  complete_sta (Store to opens args value) b out ts m h e =
      name_within b to out ts _ h.before ∙ named_open b to opens out _ _ h.after.before
      ∙ complete_target args b out to opens _ _ _ h.after.after.before.0 h.after.after.before.1 h.after.after.after.before
      ∙ subscripted_equal b to opens args out _ _ h.after.after.after.after.before
      ∙ complete_value value (StoreTo b to opens args out) _ m refl (weaker IsAfter IsBlock m after_block e) h.after.after.after.after.after ∙ stored b to opens args value out m e
  complete_sta (Multi targets value) b out ts m h e =
      square_within b out ts _ h.before.before ∙ all_names targets (Targets b out) _ _ h.before.after ∙ targets_closed b targets out _ _ h.after.before
      ∙ complete_call value b targets out _ m h.after.after e
  complete_sta (IfOnly at arms) b out ts m h e =
      let r : ArmsRead arms (Within b out) b at out ts h.middle = complete_first arms at b out ts _ h.before (h.after.0, kind.Keyword, codes "end", m, tt, h.after.1) in
      r.runs ∙ end_if b r.body at r.done r.condition out _ m h.after ∙ ap (λ x. run (After (with_statement b (IfOnly at x)) out) m) r.is
  complete_sta (IfElse at arms other) b out ts m h e =
      let r : ArmsRead arms (Within b out) b at out ts h.middle = complete_first arms at b out ts _ h.before (h.after.before.0, kind.Keyword, codes "else", h.after.middle, tt, h.after.before.1) in
      r.runs ∙ else_if b r.body at r.done r.condition out _ _ h.after.before ∙ ap (λ x. run (Within Done (ElseBody b at x out)) h.after.middle) r.is
      ∙ complete_block other Done (ElseBody b at arms out) _ _ h.after.after.before (h.after.after.after.0, kind.Keyword, codes "end", m, tt, h.after.after.after.1)
      ∙ end_else b other at arms out _ m h.after.after.after
  complete_sta (ForEach at to range body) b out ts m h e =
      let x : Begins IsEnder h.after.after.after.after.middle = (h.after.after.after.after.after.0, kind.Keyword, codes "end", m, tt, h.after.after.after.after.after.1) in
      for_within b at to out ts h.after.after.middle (record { middle = h.middle; before = h.before; after = record { middle = h.after.middle; before = h.after.before; after = h.after.after.before } })
      ∙ complete_value range (ForRange b at to out) _ _ refl (block_begins body _ _ h.after.after.after.after.before x) h.after.after.after.before
      ∙ ranged b at to range out _ (block_begins body _ _ h.after.after.after.after.before x)
      ∙ complete_block body Done (ForBody b at to range out) _ _ h.after.after.after.after.before x
      ∙ end_for b body at to range out _ m h.after.after.after.after.after
  complete_sta (WhileTrue at condition body) b out ts m h e =
      let x : Begins IsEnder h.after.after.middle = (h.after.after.after.0, kind.Keyword, codes "end", m, tt, h.after.after.after.1) in
      while_within b at out ts _ h.before
      ∙ complete_value condition (WhileTest b at out) _ _ refl (block_begins body _ _ h.after.after.before x) h.after.before
      ∙ tested b at condition out _ (block_begins body _ _ h.after.after.before x)
      ∙ complete_block body Done (WhileBody b at condition out) _ _ h.after.after.before x
      ∙ end_while b body at condition out _ m h.after.after.after
  complete_sta (BreakOff at) b out ts m h e = break_within b at out ts m h
  complete_sta (GoOn at) b out ts m h e = continue_within b at out ts m h

  complete_first : (arms : Arms) (at : Place) (b : Block) (out : Around) (ts m : List Lexeme) → first_arm at arms ts m → Begins IsArmsEnd m → ArmsRead arms (Within b out) b at out ts m
  complete_first NoArms at b out ts m h e = absurd h
  complete_first (Arm c body more) at b out ts m h e =
      let x : Begins IsEnder h.after.after.middle = arms_begin more _ m h.after.after.after e in
      let r : ArmsRead (Arm c body more) (Within body (IfBody b at NoArms c out)) b at out h.after.after.middle m = complete_arms more at b NoArms c body out _ m h.after.after.after e in
      record {
        done = r.done;
        condition = r.condition;
        body = r.body;
        is = r.is;
        runs = if_within b at out ts _ h.before
            ∙ complete_value c (ArmTest b at NoArms out) _ _ refl (block_begins body _ _ h.after.after.before x) h.after.before
            ∙ armed b at NoArms c out _ (block_begins body _ _ h.after.after.before x)
            ∙ complete_block body Done (IfBody b at NoArms c out) _ _ h.after.after.before x
            ∙ r.runs;
      }

  complete_arms : (more : Arms) (at : Place) (b : Block) (done : Arms) (c : Exp) (body : Block) (out : Around) (ts m : List Lexeme) → more_arms more ts m → Begins IsArmsEnd m
      → ArmsRead (and_arms done (Arm c body more)) (Within body (IfBody b at done c out)) b at out ts m
  complete_arms NoArms at b done c body out ts m h e = record { done = done; condition = c; body = body; is = refl; runs = ap (run (Within body (IfBody b at done c out))) h }
  complete_arms (Arm d other more) at b done c body out ts m h e =
      let x : Begins IsEnder h.after.after.middle = arms_begin more _ m h.after.after.after e in
      let r : ArmsRead (and_arms (with_arm done c body) (Arm d other more)) (Within other (IfBody b at (with_arm done c body) d out)) b at out h.after.after.middle m = complete_arms more at b (with_arm done c body) d other out _ m h.after.after.after e in
      record {
        done = r.done;
        condition = r.condition;
        body = r.body;
        is = r.is ∙ and_arms_step done c body (Arm d other more);
        runs = elseif_if b body at done c out ts _ h.before
            ∙ complete_value d (ArmTest b at (with_arm done c body) out) _ _ refl (block_begins other _ _ h.after.after.before x) h.after.before
            ∙ armed b at (with_arm done c body) d out _ (block_begins other _ _ h.after.after.before x)
            ∙ complete_block other Done (IfBody b at (with_arm done c body) d out) _ _ h.after.after.before x
            ∙ r.runs;
      }

  complete_block : (blk : Block) (b : Block) (out : Around) (ts m : List Lexeme) → block blk ts m → Begins IsEnder m → run (Within b out) ts ≡ run (Within (and_block b blk) out) m
  complete_block Done b out ts m h e = seps_within h.0 b out ts m h.1 ∙ ap (λ x. run (Within x out) m) (sym (and_block_none b))
  complete_block (Next s more) b out ts m h e =
      seps_within h.before.0 b out ts _ h.before.1 ∙ complete_sta s b out _ _ h.after.before (more_begins more _ m h.after.after e) ∙ complete_rest more (with_statement b s) out _ m h.after.after e
      ∙ ap (λ x. run (Within x out) m) (and_block_step b s more)

  complete_rest : (more : Block) (b : Block) (out : Around) (ts m : List Lexeme) → more_statements more ts m → Begins IsEnder m → run (After b out) ts ≡ run (Within (and_block b more) out) m
  complete_rest Done b out ts m h e = seps_after h.0 b out ts m h.1 e ∙ ap (λ x. run (Within x out) m) (sym (and_block_none b))
  complete_rest (Next s more) b out ts m h e =
      sep_after b out ts _ h.before ∙ seps_within h.after.before.0 b out _ _ h.after.before.1 ∙ complete_sta s b out _ _ h.after.after.before (more_begins more _ m h.after.after.after e)
      ∙ complete_rest more (with_statement b s) out _ m h.after.after.after e
      ∙ ap (λ x. run (Within x out) m) (and_block_step b s more)

-- Headers

heading_name : (mode' : Mode) (fs : List Fun) (name : Ident) (ts m : List Lexeme) → ident name ts m → run (Heading mode' fs) ts ≡ run (HeadOut mode' fs (name ∷ [])) m
unfolding heading
heading_name mode' fs name ts m h = ap (run (Heading mode' fs)) h

heading_list : (mode' : Mode) (fs : List Fun) (names : List Ident) (ts m : List Lexeme) → name_list names ts m → run (Heading mode' fs) ts ≡ run (HeadOut mode' fs names) m
unfolding heading names_closed
heading_list mode' fs names ts m h = ap (run (Heading mode' fs)) h.before.1 ∙ all_names names (Outputs mode' fs) _ m h.after

complete_outputs : (names : List Ident) (mode' : Mode) (fs : List Fun) (ts m : List Lexeme) → header_outputs names ts m → run (Heading mode' fs) ts ≡ run (HeadOut mode' fs names) m
complete_outputs [] mode' fs ts m h = heading_list mode' fs [] ts m h
complete_outputs (n ∷ []) mode' fs ts m h = ⊎_elim (λ x. heading_name mode' fs n ts m x) (λ x. heading_list mode' fs (n ∷ []) ts m x) h
complete_outputs (n ∷ p ∷ names) mode' fs ts m h = heading_list mode' fs (n ∷ p ∷ names) ts m h

more_params : (names done : List Ident) (mode' : Mode) (fs : List Fun) (outputs : List Ident) (name : Ident) (ts m : List Lexeme) → more_idents (op (codes ",")) names ts m
    → run (Param mode' fs (header_of outputs name done)) ts ≡ run (Param mode' fs (header_of outputs name (done ++ names))) m
unfolding param param_comma
more_params [] done mode' fs outputs name ts m h = ap (run (Param mode' fs (header_of outputs name done))) h ∙ ap (λ x. run (Param mode' fs (header_of outputs name x)) m) (sym (append_none done))
more_params (n ∷ names) done mode' fs outputs name ts m h =
    ap (run (Param mode' fs (header_of outputs name done))) h.before.1 ∙ ap (run (ParamComma mode' fs (header_of outputs name done))) h.after.before
    ∙ more_params names (done ++ n ∷ []) mode' fs outputs name _ m h.after.after
    ∙ ap (λ x. run (Param mode' fs (header_of outputs name x)) m) (append_assoc done (n ∷ []) names)

complete_inputs : (names : List Ident) (mode' : Mode) (fs : List Fun) (outputs : List Ident) (name : Ident) (ts m rest : List Lexeme) → header_inputs names ts m → separator m rest
    → run (HeadName mode' fs outputs name) ts ≡ run (Within Done (FunBody mode' fs (header_of outputs name names))) rest
unfolding head_name params param
complete_inputs [] mode' fs outputs name ts m rest h s = ⊎_elim
    (λ e. ap (run (HeadName mode' fs outputs name)) e ∙ sep_name mode' fs outputs name m rest s)
    (λ x. ap (run (HeadName mode' fs outputs name)) x.before.1 ∙ ap (run (Params mode' fs outputs name)) x.after.1 ∙ sep_headed mode' fs (header_of outputs name []) m rest s)
    h
complete_inputs (n ∷ names) mode' fs outputs name ts m rest h s =
    ap (run (HeadName mode' fs outputs name)) h.before.1 ∙ ap (run (Params mode' fs outputs name)) h.after.before.before
    ∙ more_params names (n ∷ []) mode' fs outputs name _ _ h.after.before.after
    ∙ ap (run (Param mode' fs (header_of outputs name (n ∷ names)))) h.after.after.1 ∙ sep_headed mode' fs (header_of outputs name (n ∷ names)) m rest s

-- from behind `function` into the body
complete_header : (f : Fun) (mode' : Mode) (fs : List Fun) (ts m rest : List Lexeme) → header f.outputs f.name f.inputs ts m → separator m rest
    → run (Heading mode' fs) ts ≡ run (Within Done (FunBody mode' fs (header_of f.outputs f.name f.inputs))) rest
unfolding head_out head_equal
complete_header f mode' fs ts m rest h s =
    complete_outputs f.outputs mode' fs ts _ h.before ∙ ap (run (HeadOut mode' fs f.outputs)) h.after.before.1 ∙ ap (run (HeadEqual mode' fs f.outputs)) h.after.after.before
    ∙ complete_inputs f.inputs mode' fs f.outputs f.name _ m rest h.after.after.after s

-- Functions

top_function : (mode' : Mode) (fs : List Fun) (ts m : List Lexeme) → keyword (codes "function") ts m → run (Top mode' fs) ts ≡ run (Heading mode' fs) m
unfolding between_functions
top_function mode' fs ts m h = ap (run (Top mode' fs)) h.1

top_finish : (mode' : Mode) (fs : List Fun) (ts m : List Lexeme) → any_of kind.Finish ts m → run (Top mode' fs) ts ≡ run (Complete fs) m
unfolding between_functions
top_finish mode' fs ts m h = ap (run (Top mode' fs)) h.1.1

body_end_on : (mode' : Mode) (fs : List Fun) → mode' ≢ mode.Unended → body_end mode' fs ≡ Top mode.Ended fs
unfolding body_end
body_end_on mode.Unended fs h = absurd (h refl)
body_end_on _ fs h = refl

body_next_on : (mode' : Mode) (fs : List Fun) → mode' ≢ mode.Ended → body_next mode' fs ≡ Heading mode.Unended fs
unfolding body_next
body_next_on mode.Ended fs h = absurd (h refl)
body_next_on _ fs h = refl

body_finish_on : (mode' : Mode) (fs : List Fun) → mode' ≢ mode.Ended → body_finish mode' fs ≡ Complete fs
unfolding body_finish
body_finish_on mode.Ended fs h = absurd (h refl)
body_finish_on _ fs h = refl

end_function : (mode' : Mode) (fs : List Fun) (h : Header) (b : Block) (ts m : List Lexeme) → mode' ≢ mode.Unended → keyword (codes "end") ts m → run (Within b (FunBody mode' fs h)) ts ≡ run (Top mode.Ended (with_fun fs h b)) m
unfolding within block_ended body_ended
end_function mode' fs h b ts m ne k = ap (run (Within b (FunBody mode' fs h))) k.1 ∙ ap (λ q. run q m) (body_end_on mode' (with_fun fs h b) ne)

next_function : (mode' : Mode) (fs : List Fun) (h : Header) (b : Block) (ts m : List Lexeme) → mode' ≢ mode.Ended → keyword (codes "function") ts m → run (Within b (FunBody mode' fs h)) ts ≡ run (Heading mode.Unended (with_fun fs h b)) m
unfolding within block_ended body_ended
next_function mode' fs h b ts m ne k = ap (run (Within b (FunBody mode' fs h))) k.1 ∙ ap (λ q. run q m) (body_next_on mode' (with_fun fs h b) ne)

finish_function : (mode' : Mode) (fs : List Fun) (h : Header) (b : Block) (ts m : List Lexeme) → mode' ≢ mode.Ended → any_of kind.Finish ts m → run (Within b (FunBody mode' fs h)) ts ≡ run (Complete (with_fun fs h b)) m
unfolding within block_ended body_ended
finish_function mode' fs h b ts m ne k = ap (run (Within b (FunBody mode' fs h))) k.1.1 ∙ ap (λ q. run q m) (body_finish_on mode' (with_fun fs h b) ne)

-- the functions with one more
more_funs : (done : List Fun) (f : Fun) (fs : List Fun) → with_fun done (header_of f.outputs f.name f.inputs) f.body ++ fs ≡ done ++ f ∷ fs
more_funs done f fs = append_assoc done (f ∷ []) fs

-- functions with their ends
complete_ended : (fs : List Fun) (mode' : Mode) (done : List Fun) (ts m rest : List Lexeme) → mode' ≢ mode.Unended → functions true fs ts m → any_of kind.Finish m rest → run (Top mode' done) ts ≡ run (Complete (done ++ fs)) rest
complete_ended [] mode' done ts m rest ne h e = ap (run (Top mode' done)) h ∙ top_finish mode' done m rest e ∙ ap (λ x. run (Complete x) rest) (sym (append_none done))
complete_ended (f ∷ fs) mode' done ts m rest ne h e =
    let g = h.before in
    top_function mode' done ts _ g.before
    ∙ complete_header f mode' done _ _ _ g.after.before g.after.after.before
    ∙ complete_block f.body Done (FunBody mode' done (header_of f.outputs f.name f.inputs)) _ _ g.after.after.after.before (g.after.after.after.after.before.0, kind.Keyword, codes "end", g.after.after.after.after.middle, tt, g.after.after.after.after.before.1)
    ∙ end_function mode' done (header_of f.outputs f.name f.inputs) f.body _ _ ne g.after.after.after.after.before
    ∙ seps_top g.after.after.after.after.after.0 mode.Ended (with_fun done (header_of f.outputs f.name f.inputs) f.body) _ _ g.after.after.after.after.after.1
    ∙ complete_ended fs mode.Ended (with_fun done (header_of f.outputs f.name f.inputs) f.body) _ m rest (λ x. absurd (cc)) h.after e
    ∙ ap (λ x. run (Complete x) rest) (more_funs done f fs)

functions_begin : (fs : List Fun) (ts m rest : List Lexeme) → functions false fs ts m → any_of kind.Finish m rest → Begins IsEnder ts
functions_begin [] ts m rest h e = begins_again IsEnder ts m h (e.1.0, kind.Finish, e.0, rest, tt, e.1.1)
functions_begin (f ∷ fs) ts m rest h e = (h.before.before.0, kind.Keyword, codes "function", h.before.middle, tt, h.before.before.1)

-- functions without their ends, from behind a body
complete_unended : (fs : List Fun) (mode' : Mode) (done : List Fun) (f : Fun) (ts m rest : List Lexeme) → mode' ≢ mode.Ended → functions false fs ts m → any_of kind.Finish m rest
    → run (Within f.body (FunBody mode' done (header_of f.outputs f.name f.inputs))) ts ≡ run (Complete (done ++ f ∷ fs)) rest
complete_unended [] mode' done f ts m rest ne h e = ap (run (Within f.body (FunBody mode' done (header_of f.outputs f.name f.inputs)))) h ∙ finish_function mode' done (header_of f.outputs f.name f.inputs) f.body m rest ne e
complete_unended (g ∷ fs) mode' done f ts m rest ne h e =
    let x = h.before in
    let done' : List Fun = with_fun done (header_of f.outputs f.name f.inputs) f.body in
    next_function mode' done (header_of f.outputs f.name f.inputs) f.body ts _ ne x.before
    ∙ complete_header g mode.Unended done' _ _ _ x.after.before x.after.after.before
    ∙ complete_block g.body Done (FunBody mode.Unended done' (header_of g.outputs g.name g.inputs)) _ _ x.after.after.after.before
    (begins_again IsEnder _ _ x.after.after.after.after (functions_begin fs _ m rest h.after e))
    ∙ ap (run (Within g.body (FunBody mode.Unended done' (header_of g.outputs g.name g.inputs)))) x.after.after.after.after
    ∙ complete_unended fs mode.Unended done' g _ m rest (λ y. absurd (cc)) h.after e
    ∙ ap (λ y. run (Complete y) rest) (more_funs done f (g ∷ fs))

complete_free : (fs : List Fun) (ts m rest : List Lexeme) → functions false fs ts m → any_of kind.Finish m rest → run start ts ≡ run (Complete fs) rest
complete_free [] ts m rest h e = ap (run start) h ∙ top_finish mode.Unknown [] m rest e
complete_free (f ∷ fs) ts m rest h e =
    let x = h.before in
    top_function mode.Unknown [] ts _ x.before
    ∙ complete_header f mode.Unknown [] _ _ _ x.after.before x.after.after.before
    ∙ complete_block f.body Done (FunBody mode.Unknown [] (header_of f.outputs f.name f.inputs)) _ _ x.after.after.after.before
    (begins_again IsEnder _ _ x.after.after.after.after (functions_begin fs _ m rest h.after e))
    ∙ ap (run (Within f.body (FunBody mode.Unknown [] (header_of f.outputs f.name f.inputs)))) x.after.after.after.after
    ∙ complete_unended fs mode.Unknown [] f _ m rest (λ y. absurd (cc)) h.after e

pub whole_runs : (fs : List Fun) (ts : List Lexeme) → file fs ts [] → run start ts ≡ Some fs
whole_runs fs ts h =
    seps_top h.before.0 mode.Unknown [] ts _ h.before.1
    ∙ ⊎_elim (λ x. complete_ended fs mode.Unknown [] _ _ [] (λ y. absurd (cc)) x h.after.after) (λ x. complete_free fs _ _ [] x h.after.after) h.after.before

pub one_tree : (a b : List Fun) (ts : List Lexeme) → file a ts [] → file b ts [] → a ≡ b
one_tree a b ts h k = let e : Some a ≡ Some b = sym (whole_runs a ts h) ∙ whole_runs b ts k in cc

pub weaker_ender : (ts : List Lexeme) → Begins IsEnder ts → Begins IsAfter ts
weaker_ender ts b = weaker IsEnder IsAfter ts ender_after b
