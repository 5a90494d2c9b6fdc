-- Each token list of a file runs to that file.
use Rattle.std.proofs.Common.{◌≡◌, ◌≢◌, ℕ, ◌+◌, ◌<◌, ◌≤◌, zero, suc, Bool, true, List, [], ◌∷◌, arith, refl, ap, sym, ◌∙◌, subst, ⊎_elim}
use Rattle.std.specs.Prelude.{codes, if◌then◌else◌}
use Rattle.std.proofs.lemmas.Bool.{le-leb, lt-leb}
use Rattle.fic_base.specs.declared.place.Place.{Place}
use Rattle.mat_ast.specs.declared.tree.UnOp.{UnOp}
use Rattle.mat_ast.specs.declared.tree.UnOp.TheVariants as un
use Rattle.mat_ast.specs.declared.tree.BinOp.{BinOp}
use Rattle.mat_ast.specs.declared.tree.BinOp.TheVariants as bin
use Rattle.mat_ast.specs.declared.tree.PostOp.{PostOp}
use Rattle.mat_ast.specs.declared.tree.PostOp.TheVariants as post
use Rattle.mat_ast.specs.Tree.{Exp, Number, Words, Name, Apply, End, Unary, Binary, Post, Range, RangeBy, Paren, Matrix, Args, NoArgs, Whole, Item, Row, RowEnd, Cell, Rows, NoRows, RowOn}
use Rattle.mat_token.specs.declared.token.Kind.{Kind}
use Rattle.mat_token.specs.declared.token.Kind.TheVariants as kind
use Rattle.mat_token.specs.Lexeme.{Lexeme}
use Rattle.mat_grammar.specs.Lang.{times, one_at, any_of, op, op_at, keyword_at}
use Rattle.mat_grammar.specs.Spelling.{unary_text, post_text, binary_text, has_unit}
use Rattle.mat_grammar.specs.Grammar.{rank, rank_with, right_of, expression, exponent, arguments, more_arguments, row_break, cells, more_cells, matrix, more_rows}
use Rattle.mat_grammar.specs.Words.{word_of}
use Rattle.mat_grammar.specs.declared.word.Word.{Word}
use Rattle.mat_grammar.specs.declared.word.Word.TheVariants as word
use Rattle.mat_grammar.specs.Machine.{Frame, Sign, ExponentSign, Right, Inside, Call, To, ByTo, Cells, Stack, Purpose, Argument, Caller, InValue, InStatement, State, Need, Begun, Listed, Between, Bare, Gap, Have, Stuck, level, top, tightness, rank_of, and_then, and_cells, and_rows, with_item, with_whole, with_cell, with_row, inside, closed, Operand, caller_stack, caller_purpose, need_in, applied, argued, with_sign, with_infix, with_text, with_end, argument_colon, with_colon_item, need, begun, listed, between, bare, gap, celled, purposed, closing, ended_in, ended, with_operator, with_turn, with_to, with_by, with_colon, with_open, have, go, run}
use Rattle.mat_grammar.proofs.Settle.{settle_on, stay}
use Rattle.mat_grammar.proofs.Texts.{NumberToken, number_token, WordsToken, words_token}
use Rattle.mat_grammar.proofs.ReadUp.{shut}

-- Words

binary_word : (o : BinOp) → word_of kind.Op (binary_text o) ≡ word.Infix o
binary_word bin.OrOr = refl
binary_word _ = refl

unary_word : (at : Place) (sign : UnOp) (own : List ℕ) (st : Stack) (k : Purpose) → need at (word_of kind.Op (unary_text sign)) own st k ≡ with_sign at sign st k
unfolding need with_infix
unary_word at un.Plus own st k = refl
unary_word at un.Minus own st k = refl
unary_word at un.Not own st k = refl

post_word : (mark : PostOp) → word_of kind.Op (post_text mark) ≡ word.Turn mark
post_word post.CTranspose = refl
post_word post.Transpose = refl

-- the next token ends an operand that takes what binds from n on
abbrev pub Follows : ℕ → List Lexeme → Type 0
Follows n [] = 0 < n
Follows n (t ∷ ts) = tightness (word_of t.kind t.text) < n

looser : (m n : ℕ) (ts : List Lexeme) → m ≤ n → Follows m ts → Follows n ts
looser m n [] le h = omega arith
looser m n (t ∷ ts) le h = omega arith

follows_at : (n : ℕ) (at : Place) (k : Kind) (text : List ℕ) (ts rest : List Lexeme) → one_at at k text ts rest → tightness (word_of k text) < n → Follows n ts
follows_at n at k text ts rest e h = subst (Follows n) (sym e) h

-- the list begins with a word of this set
abbrev pub Begins : (Word → Type 0) → List Lexeme → Type 0
Begins P ts = (at : Place) × (k : Kind) × (text : List ℕ) × (rest : List Lexeme) × P (word_of k text) × one_at at k text ts rest

-- two states that go the same way at each such word
pub same_at : (P : Word → Type 0) (q r : State) → ((at : Place) (w : Word) (own : List ℕ) → P w → go q at w own ≡ go r at w own) → (ts : List Lexeme) → Begins P ts → run q ts ≡ run r ts
same_at P q r f ts b = ap (run q) b.5 ∙ ap (λ x. run x b.3) (f b.0 (word_of b.1 b.2) b.2 b.4) ∙ sym (ap (run r) b.5)

pub begins_again : (P : Word → Type 0) (ts m : List Lexeme) → ts ≡ m → Begins P m → Begins P ts
begins_again P ts m e b = subst (Begins P) (sym e) b

pub weaker : (P Q : Word → Type 0) (ts : List Lexeme) → ((w : Word) → P w → Q w) → Begins P ts → Begins Q ts
weaker P Q ts f b = (b.0, b.1, b.2, b.3, f (word_of b.1 b.2) b.4, b.5)

pub loose_follows : (P : Word → Type 0) (n : ℕ) (ts : List Lexeme) → ((w : Word) → P w → tightness w ≡ 0) → 0 < n → Begins P ts → Follows n ts
loose_follows P n ts f h b = follows_at n b.0 b.1 b.2 ts b.3 b.5 (omega (arith, f (word_of b.1 b.2) b.4))

-- Levels

-- what binds less ends the expression
abbrev pub stop : Exp → ℕ
stop (Unary at sign e) = 8
stop (Binary at o a b) = rank o + 1
stop (Range at a b) = 6
stop (RangeBy at a b c) = 6
stop _ = 13

rank_with_le : (o : BinOp) (e : Exp) → rank_with o e ≤ rank o
rank_with_le bin.Pow (Unary at sign e) = omega arith
rank_with_le bin.Pow _ = omega arith
rank_with_le bin.ElemPow (Unary at sign e) = omega arith
rank_with_le bin.ElemPow _ = omega arith
rank_with_le _ e = omega arith

rank_stop : (e : Exp) → rank_of e ≤ stop e
rank_stop (Binary at o a b) = omega (arith, rank_with_le o b)
rank_stop _ = omega arith

not_eight : (o : BinOp) → rank o ≢ 8
not_eight bin.OrOr = λ e. omega arith
not_eight _ = λ e. omega arith

below_stop : (e : Exp) (r : ℕ) → r ≢ 8 → r ≤ rank_of e → r < stop e
below_stop (Binary at o a b) r ne h = omega (arith, rank_with_le o b)
below_stop _ r ne h = omega arith

pub positive_stop : (e : Exp) → 0 < stop e
positive_stop (Binary at o a b) = omega arith
positive_stop _ = omega arith

level_small : (f : Frame) → level f ≤ 11
level_small (Right at bin.OrOr a) = omega arith
level_small (Right at _ a) = omega arith
level_small _ = omega arith

top_small : (st : Stack) → top st ≤ 11
top_small [] = omega arith
top_small (f ∷ st) = level_small f

-- an expression binds as tightly as its level says
ranked : (e : Exp) (b : Bool) (l : ℕ) (ts rest : List Lexeme) → l ≤ 11 → expression b l e ts rest → l ≤ rank_of e
ranked (Unary at sign e) b l ts rest le h = h.0
ranked (Binary at o a c) b l ts rest le h = h.0
ranked (Post at mark a) b l ts rest le h = h.0
ranked (Range at a c) b l ts rest le h = h.0
ranked (RangeBy at a c d) b l ts rest le h = h.0
ranked _ b l ts rest le h = le

-- The machine at one more token

pub pop : (f : Frame) (e : Exp) (st : Stack) (k : Purpose) (mid : List Lexeme) → Follows (level f) mid → run (Have e (f ∷ st) k) mid ≡ run (Have (closed f e) st k) mid
pop f e st k [] h = refl
pop f e st k (t ∷ ts) h = ap (λ (o : Operand). run (have t.place (word_of t.kind t.text) t.text o.is o.under k) ts) (settle_on (tightness (word_of t.kind t.text)) e f st h)

plain_sign : (at : Place) (sign : UnOp) (st : Stack) (k : Purpose) → top st ≤ 8 → with_sign at sign st k ≡ Need (Sign at sign ∷ st) k
unfolding with_sign
plain_sign at sign st k h = ap (λ b. if b then Need (Sign at sign ∷ st) k else Need (ExponentSign at sign ∷ st) k) (le-leb (top st) 8 h)

deep_sign : (at : Place) (sign : UnOp) (st : Stack) (k : Purpose) → 8 < top st → with_sign at sign st k ≡ Need (ExponentSign at sign ∷ st) k
unfolding with_sign
deep_sign at sign st k h = ap (λ b. if b then Need (Sign at sign ∷ st) k else Need (ExponentSign at sign ∷ st) k) (lt-leb (top st) 8 h)

sign_step : (at : Place) (sign : UnOp) (st : Stack) (k : Purpose) (ts mid : List Lexeme) → top st ≤ 8 → op_at at (unary_text sign) ts mid → run (Need st k) ts ≡ run (Need (Sign at sign ∷ st) k) mid
sign_step at sign st k ts mid h e = ap (run (Need st k)) e ∙ ap (λ q. run q mid) (unary_word at sign (unary_text sign) st k ∙ plain_sign at sign st k h)

exponent_sign_step : (at : Place) (sign : UnOp) (st : Stack) (k : Purpose) (ts mid : List Lexeme) → 8 < top st → op_at at (unary_text sign) ts mid → run (Need st k) ts ≡ run (Need (ExponentSign at sign ∷ st) k) mid
exponent_sign_step at sign st k ts mid h e = ap (run (Need st k)) e ∙ ap (λ q. run q mid) (unary_word at sign (unary_text sign) st k ∙ deep_sign at sign st k h)

taken : (at : Place) (o : BinOp) (e : Exp) (st : Stack) (k : Purpose) → rank o ≤ rank_of e → with_operator at o e st k ≡ Need (Right at o e ∷ st) k
unfolding with_operator
taken at o e st k h = ap (λ b. if b then Need (Right at o e ∷ st) k else Stuck) (le-leb (rank o) (rank_of e) h)

-- a word behind an operand, where it closes no frame
have_stay : (at : Place) (w : Word) (own : List ℕ) (e : Exp) (st : Stack) (k : Purpose) → top st ≤ tightness w → go (Have e st k) at w own ≡ have at w own e st k
have_stay at w own e st k h = ap (λ (o : Operand). have at w own o.is o.under k) (stay (tightness w) e st h)

operator_step : (at : Place) (o : BinOp) (e : Exp) (st : Stack) (k : Purpose) (ts mid : List Lexeme) → top st ≤ rank o → rank o ≤ rank_of e → op_at at (binary_text o) ts mid
    → run (Have e st k) ts ≡ run (Need (Right at o e ∷ st) k) mid
unfolding have
operator_step at o e st k ts mid h l eq =
    ap (run (Have e st k)) eq
    ∙ ap (λ w. run (go (Have e st k) at w (binary_text o)) mid) (binary_word o)
    ∙ ap (λ q. run q mid) (have_stay at (word.Infix o) (binary_text o) e st k h ∙ taken at o e st k l)

turn_step : (at : Place) (mark : PostOp) (e : Exp) (st : Stack) (k : Purpose) (ts mid : List Lexeme) → top st ≤ 10 → 10 ≤ rank_of e → op_at at (post_text mark) ts mid
    → run (Have e st k) ts ≡ run (Have (Post at mark e) st k) mid
unfolding have with_turn
turn_step at mark e st k ts mid h l eq =
    ap (run (Have e st k)) eq
    ∙ ap (λ w. run (go (Have e st k) at w (post_text mark)) mid) (post_word mark)
    ∙ ap (λ q. run q mid) (have_stay at (word.Turn mark) (post_text mark) e st k h ∙ ap (λ b. if b then Have (Post at mark e) st k else Stuck) (le-leb 10 (rank_of e) l))

open_step : (at opens : Place) (text : List ℕ) (st : Stack) (k : Purpose) (ts mid : List Lexeme) → op_at opens (codes "(") ts mid → run (Have (Name at text) st k) ts ≡ run (Begun (InValue st k) at text opens) mid
unfolding have with_open
open_step at opens text st k ts mid eq = ap (run (Have (Name at text) st k)) eq ∙ ap (λ q. run q mid) (have_stay opens word.Open (codes "(") (Name at text) st k (omega (arith, top_small st)))

with_to_takes : (at : Place) (e : Exp) (st : Stack) (k : Purpose) → 6 ≤ rank_of e → with_to at e st k ≡ Need (To at e ∷ st) k
unfolding with_to
with_to_takes at e st k h = ap (λ b. if b then Need (To at e ∷ st) k else Stuck) (le-leb 6 (rank_of e) h)

colon_takes : (at : Place) (e : Exp) (st : Stack) (k : Purpose) → top st ≤ 5 → 6 ≤ rank_of e → with_colon at e st k ≡ Need (To at e ∷ st) k
unfolding with_colon
colon_takes at e (To opens first ∷ st) k h l = absurd (omega arith)
colon_takes at e (ByTo opens first by ∷ st) k h l = absurd (omega arith)
colon_takes at e (Right opens o a ∷ st) k h l = ap (λ b. if b then with_to at e (Right opens o a ∷ st) k else Stuck) (le-leb (rank o + 1) 5 h) ∙ with_to_takes at e (Right opens o a ∷ st) k l
colon_takes at e (Sign opens sign ∷ st) k h l = absurd (omega arith)
colon_takes at e (ExponentSign opens sign ∷ st) k h l = absurd (omega arith)
colon_takes at e st k h l = with_to_takes at e st k l

colon_step : (at : Place) (e : Exp) (st : Stack) (k : Purpose) (ts mid : List Lexeme) → top st ≤ 5 → 6 ≤ rank_of e → op_at at (codes ":") ts mid → run (Have e st k) ts ≡ run (Need (To at e ∷ st) k) mid
unfolding have
colon_step at e st k ts mid h l eq = ap (run (Have e st k)) eq ∙ ap (λ q. run q mid) (have_stay at word.Colon (codes ":") e st k (omega arith) ∙ colon_takes at e st k h l)

by_step : (at : Place) (first e : Exp) (st : Stack) (k : Purpose) (ts mid : List Lexeme) → 6 ≤ rank_of e → op (codes ":") ts mid → run (Have e (To at first ∷ st) k) ts ≡ run (Need (ByTo at first e ∷ st) k) mid
unfolding have with_colon with_by
by_step at first e st k ts mid l eq = ap (run (Have e (To at first ∷ st) k)) eq.1 ∙ ap (λ q. run q mid)
    (have_stay eq.0 word.Colon (codes ":") e (To at first ∷ st) k (omega arith) ∙ ap (λ b. if b then Need (ByTo at first e ∷ st) k else Stuck) (le-leb 6 (rank_of e) l))

end_step : (at : Place) (st : Stack) (k : Purpose) (ts mid : List Lexeme) → inside st k ≡ true → keyword_at at (codes "end") ts mid → run (Need st k) ts ≡ run (Have (End at) st k) mid
unfolding need with_end
end_step at st k ts mid h eq = ap (run (Need st k)) eq ∙ ap (λ b. run (if b then Have (End at) st k else Stuck) mid) h

number_step : (at : Place) (digits : List ℕ) (imaginary : Bool) (st : Stack) (k : Purpose) (ts mid : List Lexeme) → NumberToken at digits imaginary ts mid → run (Need st k) ts ≡ run (Have (Number at digits imaginary) st k) mid
unfolding need
number_step at digits imaginary st k ts mid h = ap (run (Need st k)) h.is ∙ ap (λ d. run (Have (Number at d (has_unit h.own)) st k) mid) h.digits_are ∙ ap (λ u. run (Have (Number at digits u) st k) mid) h.unit_is

words_step : (at : Place) (text : List ℕ) (st : Stack) (k : Purpose) (ts mid : List Lexeme) → WordsToken at text ts mid → run (Need st k) ts ≡ run (Have (Words at text) st k) mid
unfolding need with_text
words_step at text st k ts mid h = ap (run (Need st k)) h.is ∙ ap (λ o. run (with_text at o st k) mid) h.text_is

-- Where an operand begins

abbrev pub IsStart : Word → Type 0
IsStart word.Name = Unit {0}
IsStart word.Number = Unit {0}
IsStart word.Quoted = Unit {0}
IsStart (word.Infix bin.Add) = Unit {0}
IsStart (word.Infix bin.Sub) = Unit {0}
IsStart word.Tilde = Unit {0}
IsStart word.Open = Unit {0}
IsStart word.OpenSquare = Unit {0}
IsStart word.End = Unit {0}
IsStart _ = ⊥

pub starts : (e : Exp) (b : Bool) (l : ℕ) (ts mid : List Lexeme) → expression b l e ts mid → Begins IsStart ts
starts (Number at digits imaginary) b l ts mid h = let t = number_token at digits imaginary ts mid h in (at, kind.Number, t.own, mid, tt, t.is)
starts (Words at text) b l ts mid h = let t = words_token at text ts mid h in (at, kind.Words, t.own, mid, tt, t.is)
starts (Name at text) b l ts mid h = (at, kind.Name, text, mid, tt, h)
starts (Apply at text opens args) b l ts mid h = (at, kind.Name, text, h.middle, tt, h.before)
starts (End at) b l ts mid h = (at, kind.Keyword, codes "end", mid, tt, h.1)
starts (Unary at un.Plus e) b l ts mid h = (at, kind.Op, codes "+", h.1.middle, tt, h.1.before)
starts (Unary at un.Minus e) b l ts mid h = (at, kind.Op, codes "-", h.1.middle, tt, h.1.before)
starts (Unary at un.Not e) b l ts mid h = (at, kind.Op, codes "~", h.1.middle, tt, h.1.before)
starts (Binary at o a c) b l ts mid h = starts a b (rank o) ts h.1.middle h.1.before
starts (Post at mark a) b l ts mid h = starts a b 10 ts h.1.middle h.1.before
starts (Range at a c) b l ts mid h = starts a b 6 ts h.1.middle h.1.before
starts (RangeBy at a c d) b l ts mid h = starts a b 6 ts h.1.middle h.1.before
starts (Paren at a) b l ts mid h = (at, kind.Op, codes "(", h.middle, tt, h.before)
starts (Matrix at rows) b l ts mid h = (at, kind.Op, codes "[", h.middle, tt, h.before)

begun_start : (c : Caller) (name : Place) (text : List ℕ) (opens at : Place) (w : Word) (own : List ℕ) → IsStart w → begun c name text opens at w own ≡ need at w own (caller_stack c name text opens NoArgs) (caller_purpose c name text opens NoArgs)
unfolding begun
begun_start c name text opens at word.Close own h = absurd h
begun_start c name text opens at _ own h = refl

begins : (c : Caller) (name : Place) (text : List ℕ) (opens : Place) (ts : List Lexeme) → Begins IsStart ts → run (Begun c name text opens) ts ≡ run (need_in c name text opens NoArgs) ts
begins c name text opens = same_at IsStart (Begun c name text opens) (need_in c name text opens NoArgs) (λ at w own h. begun_start c name text opens at w own h)

between_start : (opens : Place) (rows : Rows) (at : Place) (w : Word) (own : List ℕ) (st : Stack) (k : Purpose) → IsStart w → between opens rows at w own st k ≡ need at w own (Cells opens rows RowEnd ∷ st) k
unfolding between
between_start opens rows at word.Semicolon own st k h = absurd h
between_start opens rows at word.Newline own st k h = absurd h
between_start opens rows at word.Comma own st k h = absurd h
between_start opens rows at word.CloseSquare own st k h = absurd h
between_start opens rows at _ own st k h = refl

between_begins : (opens : Place) (rows : Rows) (st : Stack) (k : Purpose) (ts : List Lexeme) → Begins IsStart ts → run (Between opens rows st k) ts ≡ run (Need (Cells opens rows RowEnd ∷ st) k) ts
between_begins opens rows st k = same_at IsStart (Between opens rows st k) (Need (Cells opens rows RowEnd ∷ st) k) (λ at w own h. between_start opens rows at w own st k h)

gap_start : (opens : Place) (rows : Rows) (row : Row) (at : Place) (w : Word) (own : List ℕ) (st : Stack) (k : Purpose) → IsStart w → gap opens rows row at w own st k ≡ need at w own (Cells opens rows row ∷ st) k
unfolding gap
gap_start opens rows row at word.Semicolon own st k h = absurd h
gap_start opens rows row at word.Newline own st k h = absurd h
gap_start opens rows row at word.CloseSquare own st k h = absurd h
gap_start opens rows row at _ own st k h = refl

gap_begins : (opens : Place) (rows : Rows) (row : Row) (st : Stack) (k : Purpose) (ts : List Lexeme) → Begins IsStart ts → run (Gap opens rows row st k) ts ≡ run (Need (Cells opens rows row ∷ st) k) ts
gap_begins opens rows row st k = same_at IsStart (Gap opens rows row st k) (Need (Cells opens rows row ∷ st) k) (λ at w own h. gap_start opens rows row at w own st k h)

-- Lists of the tree

and_rows_step : (done : Rows) (r : Row) (more : Rows) → and_rows (with_row done r) more ≡ and_rows done (RowOn r more)
and_rows_step NoRows r more = refl
and_rows_step (RowOn a done) r more = ap (RowOn a) (and_rows_step done r more)

and_cells_step : (row : Row) (e : Exp) (more : Row) → and_cells (with_cell row e) more ≡ and_cells row (Cell e more)
and_cells_step RowEnd e more = refl
and_cells_step (Cell a row) e more = ap (Cell a) (and_cells_step row e more)

pub and_then_step : (args more : Args) (e : Exp) → and_then (with_item args e) more ≡ and_then args (Item e more)
and_then_step NoArgs more e = refl
and_then_step (Whole args) more e = ap Whole (and_then_step args more e)
and_then_step (Item a args) more e = ap (Item a) (and_then_step args more e)

pub and_then_whole : (args more : Args) → and_then (with_whole args) more ≡ and_then args (Whole more)
and_then_whole NoArgs more = refl
and_then_whole (Whole args) more = ap Whole (and_then_whole args more)
and_then_whole (Item a args) more = ap (Item a) (and_then_whole args more)

and_then_none : (args : Args) → and_then args NoArgs ≡ args
and_then_none NoArgs = refl
and_then_none (Whole args) = ap Whole (and_then_none args)
and_then_none (Item a args) = ap (Item a) (and_then_none args)

-- Brackets

-- a row end, and a closing bracket, between the rows
break_between : (opens : Place) (rows : Rows) (st : Stack) (k : Purpose) (ts m : List Lexeme) → row_break ts m → run (Between opens rows st k) ts ≡ run (Between opens rows st k) m
unfolding between bare
break_between opens rows st k ts m h = ⊎_elim
    (λ e. ap (run (Between opens rows st k)) e ∙ ⊎_elim (λ x. ap (run (Between opens rows st k)) x.1) (λ x. ap (run (Between opens rows st k)) x.1.1) h.after)
    (λ e. ap (run (Between opens rows st k)) e.1 ∙ ⊎_elim (λ x. ap (run (Bare opens rows st k)) x.1) (λ x. ap (run (Bare opens rows st k)) x.1.1) h.after)
    h.before

skip : (n : ℕ) (opens : Place) (rows : Rows) (st : Stack) (k : Purpose) (ts m : List Lexeme) → times n row_break ts m → run (Between opens rows st k) ts ≡ run (Between opens rows st k) m
skip zero opens rows st k ts m h = ap (run (Between opens rows st k)) h
skip (suc n) opens rows st k ts m h = break_between opens rows st k ts _ h.before ∙ skip n opens rows st k _ m h.after

shut_between : (opens : Place) (rows : Rows) (st : Stack) (k : Purpose) (ts m : List Lexeme) → shut ts m → run (Between opens rows st k) ts ≡ run (Have (Matrix opens rows) st k) m
unfolding between bare
shut_between opens rows st k ts m h = ⊎_elim
    (λ e. ap (run (Between opens rows st k)) e ∙ ap (run (Between opens rows st k)) h.after.1)
    (λ e. ap (run (Between opens rows st k)) e.1 ∙ ap (run (Bare opens rows st k)) h.after.1)
    h.before

-- the same behind an element
break_cell : (opens : Place) (rows : Rows) (row : Row) (e : Exp) (st : Stack) (k : Purpose) (ts m : List Lexeme) → row_break ts m → run (Have e (Cells opens rows row ∷ st) k) ts ≡ run (Between opens (with_row rows (with_cell row e)) st k) m
unfolding have ended ended_in celled gap
break_cell opens rows row e st k ts m h = ⊎_elim
    (λ x. ap (run (Have e (Cells opens rows row ∷ st) k)) x ∙ ⊎_elim (λ y. ap (run (Have e (Cells opens rows row ∷ st) k)) y.1) (λ y. ap (run (Have e (Cells opens rows row ∷ st) k)) y.1.1) h.after)
    (λ x. ap (run (Have e (Cells opens rows row ∷ st) k)) x.1 ∙ ⊎_elim (λ y. ap (run (Gap opens rows (with_cell row e) st k)) y.1) (λ y. ap (run (Gap opens rows (with_cell row e) st k)) y.1.1) h.after)
    h.before

shut_cell : (opens : Place) (rows : Rows) (row : Row) (e : Exp) (st : Stack) (k : Purpose) (ts m : List Lexeme) → shut ts m → run (Have e (Cells opens rows row ∷ st) k) ts ≡ run (Have (Matrix opens (with_row rows (with_cell row e))) st k) m
unfolding have ended ended_in celled gap
shut_cell opens rows row e st k ts m h = ⊎_elim
    (λ x. ap (run (Have e (Cells opens rows row ∷ st) k)) x ∙ ap (run (Have e (Cells opens rows row ∷ st) k)) h.after.1)
    (λ x. ap (run (Have e (Cells opens rows row ∷ st) k)) x.1 ∙ ap (run (Gap opens rows (with_cell row e) st k)) h.after.1)
    h.before

-- the end of a bracket behind an element
end_cell : (n : ℕ) (opens : Place) (rows : Rows) (row : Row) (e : Exp) (st : Stack) (k : Purpose) (ts m mid : List Lexeme) → times n row_break ts m → shut m mid
    → run (Have e (Cells opens rows row ∷ st) k) ts ≡ run (Have (Matrix opens (with_row rows (with_cell row e))) st k) mid
end_cell zero opens rows row e st k ts m mid h s = ap (run (Have e (Cells opens rows row ∷ st) k)) h ∙ shut_cell opens rows row e st k m mid s
end_cell (suc n) opens rows row e st k ts m mid h s = break_cell opens rows row e st k ts _ h.before ∙ skip n opens (with_row rows (with_cell row e)) st k _ m h.after ∙ shut_between opens (with_row rows (with_cell row e)) st k m mid s

-- what may stand behind a row
abbrev IsRowEnd : Word → Type 0
IsRowEnd word.Comma = Unit {0}
IsRowEnd word.Semicolon = Unit {0}
IsRowEnd word.Newline = Unit {0}
IsRowEnd word.CloseSquare = Unit {0}
IsRowEnd _ = ⊥

row_end_loose : (w : Word) → IsRowEnd w → tightness w ≡ 0
row_end_loose word.Comma h = refl
row_end_loose word.Semicolon h = refl
row_end_loose word.Newline h = refl
row_end_loose word.CloseSquare h = refl
row_end_loose _ h = absurd h

break_begins : (ts m : List Lexeme) → row_break ts m → Begins IsRowEnd ts
break_begins ts m h = ⊎_elim
    (λ e. begins_again IsRowEnd ts _ e (⊎_elim (λ x. (x.0, kind.Op, codes ";", m, tt, x.1)) (λ x. (x.1.0, kind.Newline, x.0, m, tt, x.1.1)) h.after))
    (λ e. (e.0, kind.Op, codes ",", h.middle, tt, e.1))
    h.before

shut_begins : (ts m : List Lexeme) → shut ts m → Begins IsRowEnd ts
shut_begins ts m h = ⊎_elim (λ e. begins_again IsRowEnd ts _ e (h.after.0, kind.Op, codes "]", m, tt, h.after.1)) (λ e. (e.0, kind.Op, codes ",", h.middle, tt, e.1)) h.before

end_begins : (n : ℕ) (ts m mid : List Lexeme) → times n row_break ts m → shut m mid → Begins IsRowEnd ts
end_begins zero ts m mid h s = begins_again IsRowEnd ts m h (shut_begins m mid s)
end_begins (suc n) ts m mid h s = break_begins ts h.middle h.before

rows_begin : (rows : Rows) (b : Bool) (ts mid : List Lexeme) → more_rows b rows ts mid → Begins IsRowEnd ts
rows_begin NoRows b ts mid h = end_begins h.before.0 ts _ mid h.before.1 h.after
rows_begin (RowOn r more) b ts mid h = break_begins ts h.middle h.before

more_cells_follow : (row : Row) (b : Bool) (n : ℕ) (ts m : List Lexeme) → 0 < n → more_cells b row ts m → Begins IsRowEnd m → Follows n ts
more_cells_follow RowEnd b n ts m lt h e = subst (Follows n) (sym h) (loose_follows IsRowEnd n m row_end_loose lt e)
more_cells_follow (Cell a more) b n ts m lt h e = ⊎_elim (λ x. follows_at n x.0 kind.Op (codes ",") ts _ x.1 lt) (λ x. follows_at n x.1.0 kind.Separator x.0 ts _ x.1.1 lt) h.before

-- Parentheses of names

in_caller : (c : Caller) (name : Place) (text : List ℕ) (opens : Place) (args : Args) → inside (caller_stack c name text opens args) (caller_purpose c name text opens args) ≡ true
unfolding caller_stack caller_purpose
in_caller (InValue st k) name text opens args = refl
in_caller (InStatement u) name text opens args = refl

caller_top : (c : Caller) (name : Place) (text : List ℕ) (opens : Place) (args : Args) → top (caller_stack c name text opens args) ≡ 0
unfolding caller_stack
caller_top (InValue st k) name text opens args = refl
caller_top (InStatement u) name text opens args = refl

pub caller_low : (c : Caller) (name : Place) (text : List ℕ) (opens : Place) (args : Args) → top (caller_stack c name text opens args) ≤ 0
caller_low c name text opens args = omega (arith, caller_top c name text opens args)

pub within_caller : (e : Exp) (c : Caller) (name : Place) (text : List ℕ) (opens : Place) (args : Args) (ts mid : List Lexeme) → expression true 0 e ts mid
    → expression (inside (caller_stack c name text opens args) (caller_purpose c name text opens args)) 0 e ts mid
within_caller e c name text opens args ts mid h = subst (λ (b : Bool). expression b 0 e ts mid) (sym (in_caller c name text opens args)) h

-- an argument's expression, and the word behind it
abbrev pub argument_read : Exp → Caller → Place → List ℕ → Place → Args → State
argument_read e c name text opens args = Have e (caller_stack c name text opens args) (caller_purpose c name text opens args)

argument_close : (e : Exp) (c : Caller) (name : Place) (text : List ℕ) (opens : Place) (args : Args) (ts mid : List Lexeme) → op (codes ")") ts mid
    → run (argument_read e c name text opens args) ts ≡ run (applied c name text opens (with_item args e)) mid
unfolding have ended ended_in purposed argued caller_stack caller_purpose
argument_close e (InValue st k) name text opens args ts mid h = ap (run (Have e (Call name text opens args ∷ st) k)) h.1
argument_close e (InStatement u) name text opens args ts mid h = ap (run (Have e [] (Argument u name text opens args))) h.1

argument_comma : (e : Exp) (c : Caller) (name : Place) (text : List ℕ) (opens : Place) (args : Args) (ts mid : List Lexeme) → op (codes ",") ts mid
    → run (argument_read e c name text opens args) ts ≡ run (need_in c name text opens (with_item args e)) mid
unfolding have ended ended_in purposed argued caller_stack caller_purpose
argument_comma e (InValue st k) name text opens args ts mid h = ap (run (Have e (Call name text opens args ∷ st) k)) h.1
argument_comma e (InStatement u) name text opens args ts mid h = ap (run (Have e [] (Argument u name text opens args))) h.1

pub colon_argument : (c : Caller) (name : Place) (text : List ℕ) (opens : Place) (args : Args) (ts mid : List Lexeme) → op (codes ":") ts mid
    → run (need_in c name text opens args) ts ≡ run (Listed c name text opens (with_whole args)) mid
unfolding need with_colon_item argument_colon caller_stack caller_purpose
colon_argument (InValue st k) name text opens args ts mid h = ap (run (Need (Call name text opens args ∷ st) k)) h.1
colon_argument (InStatement u) name text opens args ts mid h = ap (run (Need [] (Argument u name text opens args))) h.1

begun_colon : (c : Caller) (name : Place) (text : List ℕ) (opens : Place) (ts mid : List Lexeme) → op (codes ":") ts mid
    → run (Begun c name text opens) ts ≡ run (Listed c name text opens (Whole NoArgs)) mid
unfolding begun need with_colon_item argument_colon caller_stack caller_purpose
begun_colon (InValue st k) name text opens ts mid h = ap (run (Begun (InValue st k) name text opens)) h.1
begun_colon (InStatement u) name text opens ts mid h = ap (run (Begun (InStatement u) name text opens)) h.1

begun_close : (c : Caller) (name : Place) (text : List ℕ) (opens : Place) (ts mid : List Lexeme) → op (codes ")") ts mid → run (Begun c name text opens) ts ≡ run (applied c name text opens NoArgs) mid
unfolding begun
begun_close c name text opens ts mid h = ap (run (Begun c name text opens)) h.1

listed_close : (c : Caller) (name : Place) (text : List ℕ) (opens : Place) (args : Args) (ts mid : List Lexeme) → op (codes ")") ts mid → run (Listed c name text opens args) ts ≡ run (applied c name text opens args) mid
unfolding listed
listed_close c name text opens args ts mid h = ap (run (Listed c name text opens args)) h.1

listed_comma : (c : Caller) (name : Place) (text : List ℕ) (opens : Place) (args : Args) (ts mid : List Lexeme) → op (codes ",") ts mid → run (Listed c name text opens args) ts ≡ run (need_in c name text opens args) mid
unfolding listed
listed_comma c name text opens args ts mid h = ap (run (Listed c name text opens args)) h.1

-- what stands behind an argument
pub after_argument : (more : Args) (n : ℕ) (ts m rest : List Lexeme) → 0 < n → more_arguments more ts m → op (codes ")") m rest → Follows n ts
after_argument NoArgs n ts m rest h l e = follows_at n e.0 kind.Op (codes ")") ts rest (l ∙ e.1) h
after_argument (Whole more) n ts m rest h l e = follows_at n l.before.0 kind.Op (codes ",") ts _ l.before.1 h
after_argument (Item a more) n ts m rest h l e = follows_at n l.before.0 kind.Op (codes ",") ts _ l.before.1 h

-- a right operand, where each of its two forms runs
right_operand : (o : BinOp) (e : Exp) (c : Bool) (ts mid : List Lexeme) (P : Type 0) → ((l : ℕ) → rank o + 1 ≤ l → l ≤ 11 → expression c l e ts mid → P) → (rank o ≡ 10 → exponent c e ts mid → P)
    → right_of o (λ l. expression c l e) (exponent c e) ts mid → P
right_operand bin.Pow e c ts mid P f g h = ⊎_elim (f 11 (omega arith) (omega arith)) (g refl) h
right_operand bin.ElemPow e c ts mid P f g h = ⊎_elim (f 11 (omega arith) (omega arith)) (g refl) h
right_operand o e c ts mid P f g h = f (rank o + 1) (omega arith) (omega arith) h

paren_step : (at : Place) (st : Stack) (k : Purpose) (ts mid : List Lexeme) → op_at at (codes "(") ts mid → run (Need st k) ts ≡ run (Need (Inside at ∷ st) k) mid
unfolding need
paren_step at st k ts mid h = ap (run (Need st k)) h

paren_close : (at : Place) (e : Exp) (st : Stack) (k : Purpose) (ts mid : List Lexeme) → op (codes ")") ts mid → run (Have e (Inside at ∷ st) k) ts ≡ run (Have (Paren at e) st k) mid
unfolding have ended ended_in closing
paren_close at e st k ts mid h = ap (run (Have e (Inside at ∷ st) k)) h.1

square_step : (at : Place) (st : Stack) (k : Purpose) (ts mid : List Lexeme) → op_at at (codes "[") ts mid → run (Need st k) ts ≡ run (Between at NoRows st k) mid
unfolding need
square_step at st k ts mid h = ap (run (Need st k)) h

pub name_step : (at : Place) (text : List ℕ) (st : Stack) (k : Purpose) (ts mid : List Lexeme) → one_at at kind.Name text ts mid → run (Need st k) ts ≡ run (Have (Name at text) st k) mid
unfolding need
name_step at text st k ts mid h = ap (run (Need st k)) h

applied_value : (st : Stack) (k : Purpose) (at : Place) (text : List ℕ) (opens : Place) (args : Args) → applied (InValue st k) at text opens args ≡ Have (Apply at text opens args) st k
unfolding applied
applied_value st k at text opens args = refl

cell_comma : (opens : Place) (rows : Rows) (row : Row) (e : Exp) (st : Stack) (k : Purpose) (ts mid : List Lexeme) → op (codes ",") ts mid → run (Have e (Cells opens rows row ∷ st) k) ts ≡ run (Gap opens rows (with_cell row e) st k) mid
unfolding have ended ended_in celled
cell_comma opens rows row e st k ts mid h = ap (run (Have e (Cells opens rows row ∷ st) k)) h.1

cell_separator : (opens : Place) (rows : Rows) (row : Row) (e : Exp) (st : Stack) (k : Purpose) (ts mid : List Lexeme) → any_of kind.Separator ts mid → run (Have e (Cells opens rows row ∷ st) k) ts ≡ run (Need (Cells opens rows (with_cell row e) ∷ st) k) mid
unfolding have ended ended_in celled
cell_separator opens rows row e st k ts mid h = ap (run (Have e (Cells opens rows row ∷ st) k)) h.1.1

-- a row that was read up to its last element
pub record RowRead (row : Row) (q : State) (at : Place) (done : Rows) (st : Stack) (k : Purpose) (ts m : List Lexeme) : Type 0 where
  pub before : Row
  pub last : Exp
  pub is : with_cell before last ≡ row
  pub runs : run q ts ≡ run (Have last (Cells at done before ∷ st) k) m

mutual
  pub complete : (e : Exp) (st : Stack) (k : Purpose) (ts mid : List Lexeme) (l : ℕ) → l ≤ 11 → top st ≤ l → Follows (stop e) mid → expression (inside st k) l e ts mid → run (Need st k) ts ≡ run (Have e st k) mid
  complete (Number at digits imaginary) st k ts mid l s b f h = number_step at digits imaginary st k ts mid (number_token at digits imaginary ts mid h)
  complete (Words at text) st k ts mid l s b f h = words_step at text st k ts mid (words_token at text ts mid h)
  complete (Name at text) st k ts mid l s b f h = name_step at text st k ts mid h
  complete (Apply at text opens args) st k ts mid l s b f h =
      name_step at text st k ts _ h.before ∙ open_step at opens text st k _ _ h.after.before
      ∙ complete_args args (InValue st k) at text opens _ _ mid h.after.after.before h.after.after.after
      ∙ ap (λ q. run q mid) (applied_value st k at text opens args)
  complete (End at) st k ts mid l s b f h = end_step at st k ts mid h.0 h.1
  complete (Unary at sign e) st k ts mid l s b f h =
      let le : l ≤ 8 = h.0 in
      let r : 8 ≤ rank_of e = ranked e (inside st k) 8 _ mid (omega arith) h.1.after in
      sign_step at sign st k ts _ (omega arith) h.1.before
      ∙ complete e (Sign at sign ∷ st) k _ mid 8 (omega arith) (omega arith) (looser 8 (stop e) mid (omega (arith, rank_stop e)) f) h.1.after
      ∙ pop (Sign at sign) e st k mid f
  complete (Binary at o a b) st k ts mid l s t f h =
      let le : l ≤ rank o = omega (arith, h.0, rank_with_le o b) in
      let small : rank o ≤ 11 = omega (arith, level_small (Right at o a)) in
      let r : rank o ≤ rank_of a = ranked a (inside st k) (rank o) ts _ small h.1.before in
      complete a st k ts _ (rank o) small (omega arith)
      (follows_at (stop a) at kind.Op (binary_text o) _ _ h.1.after.before (subst (λ (w : Word). tightness w < stop a) (sym (binary_word o)) (below_stop a (rank o) (not_eight o) r))) h.1.before
      ∙ operator_step at o a st k _ _ (omega arith) r h.1.after.before
      ∙ right_operand o b (inside st k) _ mid (run (Need (Right at o a ∷ st) k) h.1.after.middle ≡ run (Have b (Right at o a ∷ st) k) mid)
      (λ n low high x. complete b (Right at o a ∷ st) k _ mid n high low
      (looser (rank o + 1) (stop b) mid (omega (arith, rank_stop b, ranked b (inside st k) n _ mid high x)) f) x)
      (λ e x. complete_exponent b (Right at o a ∷ st) k _ mid (omega arith) (looser (rank o + 1) 11 mid (omega arith) f) x)
      h.1.after.after
      ∙ pop (Right at o a) b st k mid f
  complete (Post at mark e) st k ts mid l s b f h =
      let le : l ≤ 10 = h.0 in
      let r : 10 ≤ rank_of e = ranked e (inside st k) 10 ts _ (omega arith) h.1.before in
      complete e st k ts _ 10 (omega arith) (omega arith)
      (follows_at (stop e) at kind.Op (post_text mark) _ _ h.1.after (subst (λ (w : Word). tightness w < stop e) (sym (post_word mark)) (below_stop e 10 (λ x. omega arith) r))) h.1.before
      ∙ turn_step at mark e st k _ mid (omega arith) r h.1.after
  complete (Range at first last) st k ts mid l s b f h =
      let le : l ≤ 5 = h.0 in
      let r : 6 ≤ rank_of first = ranked first (inside st k) 6 ts _ (omega arith) h.1.before in
      complete first st k ts _ 6 (omega arith) (omega arith) (follows_at (stop first) at kind.Op (codes ":") _ _ h.1.after.before (below_stop first 6 (λ x. omega arith) r)) h.1.before
      ∙ colon_step at first st k _ _ (omega arith) r h.1.after.before
      ∙ complete last (To at first ∷ st) k _ mid 6 (omega arith) (omega arith)
      (looser 6 (stop last) mid (omega (arith, rank_stop last, ranked last (inside st k) 6 _ mid (omega arith) h.1.after.after)) f) h.1.after.after
      ∙ pop (To at first) last st k mid f
  complete (RangeBy at first by last) st k ts mid l s b f h =
      let le : l ≤ 5 = h.0 in
      let r : 6 ≤ rank_of first = ranked first (inside st k) 6 ts _ (omega arith) h.1.before in
      let r' : 6 ≤ rank_of by = ranked by (inside st k) 6 _ _ (omega arith) h.1.after.after.before in
      complete first st k ts _ 6 (omega arith) (omega arith) (follows_at (stop first) at kind.Op (codes ":") _ _ h.1.after.before (below_stop first 6 (λ x. omega arith) r)) h.1.before
      ∙ colon_step at first st k _ _ (omega arith) r h.1.after.before
      ∙ complete by (To at first ∷ st) k _ _ 6 (omega arith) (omega arith)
      (follows_at (stop by) h.1.after.after.after.before.0 kind.Op (codes ":") _ _ h.1.after.after.after.before.1 (below_stop by 6 (λ x. omega arith) r')) h.1.after.after.before
      ∙ by_step at first by st k _ _ r' h.1.after.after.after.before
      ∙ complete last (ByTo at first by ∷ st) k _ mid 6 (omega arith) (omega arith)
      (looser 6 (stop last) mid (omega (arith, rank_stop last, ranked last (inside st k) 6 _ mid (omega arith) h.1.after.after.after.after)) f) h.1.after.after.after.after
      ∙ pop (ByTo at first by) last st k mid f
  complete (Paren at e) st k ts mid l s b f h =
      paren_step at st k ts _ h.before
      ∙ complete e (Inside at ∷ st) k _ _ 0 (omega arith) (omega arith) (follows_at (stop e) h.after.after.0 kind.Op (codes ")") _ mid h.after.after.1 (positive_stop e)) h.after.before
      ∙ paren_close at e st k _ mid h.after.after
  complete (Matrix at rows) st k ts mid l s b f h = square_step at st k ts _ h.before ∙ skip h.after.before.0 at NoRows st k _ _ h.after.before.1 ∙ complete_matrix rows at st k _ mid h.after.after

  complete_exponent : (e : Exp) (st : Stack) (k : Purpose) (ts mid : List Lexeme) → 8 < top st → Follows 11 mid → exponent (inside st k) e ts mid → run (Need st k) ts ≡ run (Have e st k) mid
  complete_exponent (Unary at sign e) st k ts mid b f h =
      exponent_sign_step at sign st k ts _ b h.before
      ∙ ⊎_elim
      (λ x. complete e (ExponentSign at sign ∷ st) k _ mid 11 (omega arith) (omega arith) (looser 11 (stop e) mid (omega (arith, rank_stop e, ranked e (inside st k) 11 _ mid (omega arith) x)) f) x)
      (λ x. complete_exponent e (ExponentSign at sign ∷ st) k _ mid (omega arith) f x)
      h.after
      ∙ pop (ExponentSign at sign) e st k mid f
  complete_exponent (Name at text) st k ts mid b f h = absurd h
  complete_exponent _ st k ts mid b f h = absurd h

  pub complete_args : (args : Args) (c : Caller) (at : Place) (text : List ℕ) (opens : Place) (ts m mid : List Lexeme) → arguments args ts m → op (codes ")") m mid
      → run (Begun c at text opens) ts ≡ run (applied c at text opens args) mid
  complete_args NoArgs c at text opens ts m mid h e = ap (run (Begun c at text opens)) h ∙ begun_close c at text opens m mid e
  complete_args (Whole more) c at text opens ts m mid h e = begun_colon c at text opens ts _ h.before ∙ complete_listed more (Whole NoArgs) c at text opens _ m mid h.after e
  complete_args (Item a more) c at text opens ts m mid h e =
      begins c at text opens ts (starts a true 0 ts _ h.before)
      ∙ complete a (caller_stack c at text opens NoArgs) (caller_purpose c at text opens NoArgs) ts _ 0 (omega arith) (caller_low c at text opens NoArgs) (after_argument more (stop a) _ m mid (positive_stop a) h.after e) (within_caller a c at text opens NoArgs ts _ h.before)
      ∙ complete_more more a NoArgs c at text opens _ m mid h.after e

  pub complete_more : (more : Args) (a : Exp) (args : Args) (c : Caller) (at : Place) (text : List ℕ) (opens : Place) (ts m mid : List Lexeme) → more_arguments more ts m → op (codes ")") m mid
      → run (argument_read a c at text opens args) ts ≡ run (applied c at text opens (and_then args (Item a more))) mid
  complete_more NoArgs a args c at text opens ts m mid h e = ap (run (argument_read a c at text opens args)) h ∙ argument_close a c at text opens args m mid e
  complete_more (Whole more) a args c at text opens ts m mid h e =
      argument_comma a c at text opens args ts _ h.before
      ∙ colon_argument c at text opens (with_item args a) _ _ h.after.before
      ∙ complete_listed more (with_whole (with_item args a)) c at text opens _ m mid h.after.after e
      ∙ ap (λ x. run (applied c at text opens x) mid) (and_then_whole (with_item args a) more ∙ and_then_step args (Whole more) a)
  complete_more (Item b more) a args c at text opens ts m mid h e =
      argument_comma a c at text opens args ts _ h.before
      ∙ complete b (caller_stack c at text opens (with_item args a)) (caller_purpose c at text opens (with_item args a)) _ _ 0 (omega arith) (caller_low c at text opens (with_item args a)) (after_argument more (stop b) _ m mid (positive_stop b) h.after.after e) (within_caller b c at text opens (with_item args a) _ _ h.after.before)
      ∙ complete_more more b (with_item args a) c at text opens _ m mid h.after.after e
      ∙ ap (λ x. run (applied c at text opens x) mid) (and_then_step args (Item b more) a)

  pub complete_listed : (more args : Args) (c : Caller) (at : Place) (text : List ℕ) (opens : Place) (ts m mid : List Lexeme) → more_arguments more ts m → op (codes ")") m mid
      → run (Listed c at text opens args) ts ≡ run (applied c at text opens (and_then args more)) mid
  complete_listed NoArgs args c at text opens ts m mid h e = ap (run (Listed c at text opens args)) h ∙ listed_close c at text opens args m mid e ∙ ap (λ x. run (applied c at text opens x) mid) (sym (and_then_none args))
  complete_listed (Whole more) args c at text opens ts m mid h e =
      listed_comma c at text opens args ts _ h.before
      ∙ colon_argument c at text opens args _ _ h.after.before
      ∙ complete_listed more (with_whole args) c at text opens _ m mid h.after.after e
      ∙ ap (λ x. run (applied c at text opens x) mid) (and_then_whole args more)
  complete_listed (Item b more) args c at text opens ts m mid h e =
      listed_comma c at text opens args ts _ h.before
      ∙ complete b (caller_stack c at text opens args) (caller_purpose c at text opens args) _ _ 0 (omega arith) (caller_low c at text opens args) (after_argument more (stop b) _ m mid (positive_stop b) h.after.after e) (within_caller b c at text opens args _ _ h.after.before)
      ∙ complete_more more b args c at text opens _ m mid h.after.after e

  pub complete_matrix : (rows : Rows) (at : Place) (st : Stack) (k : Purpose) (ts mid : List Lexeme) → matrix (inside st k) rows ts mid → run (Between at NoRows st k) ts ≡ run (Have (Matrix at rows) st k) mid
  complete_matrix NoRows at st k ts mid h = shut_between at NoRows st k ts mid h
  complete_matrix (RowOn r more) at st k ts mid h =
      let r' : RowRead r (Between at NoRows st k) at NoRows st k ts h.middle = complete_cells r at NoRows st k ts _ h.before (rows_begin more (inside st k) _ mid h.after) in
      r'.runs ∙ complete_rows more at NoRows r'.before r'.last st k _ mid h.after ∙ ap (λ x. run (Have (Matrix at (RowOn x more)) st k) mid) r'.is

  complete_rows : (rows : Rows) (at : Place) (done : Rows) (before : Row) (last : Exp) (st : Stack) (k : Purpose) (ts mid : List Lexeme) → more_rows (inside st k) rows ts mid
      → run (Have last (Cells at done before ∷ st) k) ts ≡ run (Have (Matrix at (and_rows done (RowOn (with_cell before last) rows))) st k) mid
  complete_rows NoRows at done before last st k ts mid h = end_cell h.before.0 at done before last st k ts _ mid h.before.1 h.after
  complete_rows (RowOn r more) at done before last st k ts mid h =
      let done' : Rows = with_row done (with_cell before last) in
      let r' : RowRead r (Between at done' st k) at done' st k h.after.middle h.after.after.middle = complete_cells r at done' st k _ _ h.after.after.before (rows_begin more (inside st k) _ mid h.after.after.after) in
      break_cell at done before last st k ts _ h.before ∙ skip h.after.before.0 at done' st k _ _ h.after.before.1
      ∙ r'.runs ∙ complete_rows more at done' r'.before r'.last st k _ mid h.after.after.after
      ∙ ap (λ x. run (Have (Matrix at (and_rows done' (RowOn x more))) st k) mid) r'.is
      ∙ ap (λ x. run (Have (Matrix at x) st k) mid) (and_rows_step done (with_cell before last) (RowOn r more))

  complete_cells : (row : Row) (at : Place) (done : Rows) (st : Stack) (k : Purpose) (ts m : List Lexeme) → cells (inside st k) row ts m → Begins IsRowEnd m → RowRead row (Between at done st k) at done st k ts m
  complete_cells RowEnd at done st k ts m h e = absurd h
  complete_cells (Cell a more) at done st k ts m h e =
      let r : RowRead (Cell a more) (Have a (Cells at done RowEnd ∷ st) k) at done st k h.middle m = complete_more_cells more a at done RowEnd st k _ m h.after e in
      record {
        before = r.before;
        last = r.last;
        is = r.is;
        runs = between_begins at done st k ts (starts a (inside st k) 0 ts _ h.before)
            ∙ complete a (Cells at done RowEnd ∷ st) k ts _ 0 (omega arith) (omega arith) (more_cells_follow more (inside st k) (stop a) _ m (positive_stop a) h.after e) h.before
            ∙ r.runs;
      }

  complete_more_cells : (row : Row) (a : Exp) (at : Place) (done : Rows) (before : Row) (st : Stack) (k : Purpose) (ts m : List Lexeme) → more_cells (inside st k) row ts m → Begins IsRowEnd m
      → RowRead (and_cells before (Cell a row)) (Have a (Cells at done before ∷ st) k) at done st k ts m
  complete_more_cells RowEnd a at done before st k ts m h e = record { before = before; last = a; is = refl; runs = ap (run (Have a (Cells at done before ∷ st) k)) h }
  complete_more_cells (Cell b more) a at done before st k ts m h e =
      let r : RowRead (and_cells (with_cell before a) (Cell b more)) (Have b (Cells at done (with_cell before a) ∷ st) k) at done st k h.after.middle m = complete_more_cells more b at done (with_cell before a) st k _ m h.after.after e in
      record {
        before = r.before;
        last = r.last;
        is = r.is ∙ and_cells_step before a (Cell b more);
        runs = ⊎_elim
            (λ x. cell_comma at done before a st k ts _ x ∙ gap_begins at done (with_cell before a) st k _ (starts b (inside st k) 0 _ _ h.after.before))
            (λ x. cell_separator at done before a st k ts _ x)
            h.before
            ∙ complete b (Cells at done (with_cell before a) ∷ st) k _ _ 0 (omega arith) (omega arith) (more_cells_follow more (inside st k) (stop b) _ m (positive_stop b) h.after.after e) h.after.before
            ∙ r.runs;
      }
