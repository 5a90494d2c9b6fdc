-- A tree keeps what its tokens keep: its places are in the source, and its numbers are decimals.
use Rattle.std.proofs.Common.{◌≡◌, ℕ, ◌+◌, ◌-◌, ◌≤◌, Bool, true, false, zero, suc, List, [], ◌∷◌, ◌++◌, length, arith, refl, sym, subst, ⊎_elim}
use Rattle.std.specs.Prelude.{◌⊎◌, slice_index, codes}
use Rattle.std.specs.List.{AllByRecursion}
use Rattle.fic_base.specs.declared.place.Place.{Place}
use Rattle.fic_base.specs.Decimal.{IsDecimal}
use Rattle.fic_base.specs.Names.{IsName}
use Rattle.mat_ast.specs.declared.tree.BinOp.{BinOp}
use Rattle.mat_ast.specs.declared.tree.BinOp.TheVariants as bin
use Rattle.mat_ast.specs.declared.tree.Ident.{Ident}
use Rattle.mat_ast.specs.Tree.{Exp, Number, Words, Name, Apply, End, Unary, Binary, Post, Range, RangeBy, Paren, Matrix, Args, NoArgs, Whole, Item, Row, RowEnd, Cell, Rows, NoRows, RowOn, Sta, Assign, Store, Multi, IfOnly, IfElse, ForEach, WhileTrue, BreakOff, GoOn, Arms, NoArms, Arm, Block, Done, Next, Fun}
use Rattle.mat_ast.specs.Source.{IsInSource, AreInSource, KeepsExp, KeepsArgs, KeepsRow, KeepsRows, KeepsSta, KeepsArms, KeepsBlock, KeepsFun, KeepsFuns}
use Rattle.mat_token.specs.declared.token.Kind.{Kind}
use Rattle.mat_token.specs.declared.token.Kind.TheVariants as kind
use Rattle.mat_token.specs.declared.token.Token.{Token}
use Rattle.mat_token.specs.Lexeme.{Lexeme, lexemes_of}
use Rattle.mat_token.specs.Texts.{is_unit}
use Rattle.mat_token.specs.Kept.{IsNumberText, IsTokenOf, AreTokensOf}
use Rattle.mat_grammar.specs.Lang.{Lang, ◌▸◌, ◌or◌, nothing, never, given, maybe, times, many, one_at, one, any_of, op, keyword}
use Rattle.mat_grammar.specs.Spelling.{unary_text, post_text, binary_text, has_unit, quoted}
use Rattle.mat_grammar.specs.Grammar.{rank, right_of, number_at, comma, row_break, bracket_end, expression, exponent, arguments, more_arguments, cells, more_cells, matrix, more_rows, separator, ident, more_idents, idents, name_list, call, statement, first_arm, more_arms, block, more_statements, header_inputs, header_outputs, function_end, function, functions, file}

-- what a token keeps
pub record IsKept (t : Lexeme) : Type 0 where
  pub within : IsInSource t.place
  pub number : t.kind ≡ kind.Number → IsNumberText t.text
  pub name : t.kind ≡ kind.Name → IsName t.text

abbrev pub AreKept : List Lexeme → Type 0
AreKept [] = Unit {0}
AreKept (t ∷ ts) = IsKept t × AreKept ts

-- from kept tokens a set gives this fact, and leaves kept tokens
abbrev pub Gives : Lang → Type 0 → Type 0
Gives set fact = (ts rest : List Lexeme) → set ts rest → AreKept ts → fact × AreKept rest

-- a set of which no fact is wanted
abbrev pub Passes : Lang → Type 0
Passes set = Gives set (Unit {0})

pub from : {P Q : Type 0} {F : Lang} → (P → Q) → Gives F P → Gives F Q
from f g ts rest h k = let r = g ts rest h k in (f r.0, r.1)

pub pass : {P : Type 0} {F : Lang} → Gives F P → Passes F
pass g ts rest h k = (tt, (g ts rest h k).1)

pub both : {P Q : Type 0} {F G : Lang} → Gives F P → Gives G Q → Gives (F ▸ G) (P × Q)
both f g ts rest h k = let a = f ts h.middle h.before k in let b = g h.middle rest h.after a.1 in ((a.0, b.0), b.1)

-- the first of the two facts, or the second
pub before : {P Q : Type 0} {F G : Lang} → Gives F P → Gives G Q → Gives (F ▸ G) P
before f g ts rest h k = let a = f ts h.middle h.before k in (a.0, (g h.middle rest h.after a.1).1)

pub behind : {P Q : Type 0} {F G : Lang} → Gives F P → Gives G Q → Gives (F ▸ G) Q
behind f g ts rest h k = g h.middle rest h.after (f ts h.middle h.before k).1

pub either : {P : Type 0} {F G : Lang} → Gives F P → Gives G P → Gives (F or G) P
either f g ts rest h k = ⊎_elim (λ x. f ts rest x k) (λ x. g ts rest x k) h

where_given : {P fact : Type 0} {F : Lang} → Gives F P → Gives (given fact F) P
where_given g ts rest h k = g ts rest h.1 k

pub empty : Passes nothing
empty ts rest h k = (tt, subst AreKept h k)

pub none : {P : Type 0} → Gives never P
none ts rest h k = absurd h

pub perhaps : {F : Lang} → Passes F → Passes (maybe F)
perhaps g = either empty g

so_many : {F : Lang} (n : ℕ) → Passes F → Passes (times n F)
so_many zero g = empty
so_many (suc n) g = behind g (so_many n g)

pub any_number : {F : Lang} → Passes F → Passes (many F)
any_number g ts rest h k = so_many h.0 g ts rest h.1 k

-- One token

token : (at : Place) (k : Kind) (text : List ℕ) → Gives (one_at at k text) (IsInSource at × (k ≡ kind.Number → IsNumberText text))
token at k text ts rest h a = let b : AreKept (record { place = at; kind = k; text = text } ∷ rest) = subst AreKept h a in ((b.0.within, b.0.number), b.1)

placed : (at : Place) (k : Kind) (text : List ℕ) → Gives (one_at at k text) (IsInSource at)
placed at k text = from (λ x. x.0) (token at k text)

anywhere : (k : Kind) (text : List ℕ) → Passes (one k text)
anywhere k text ts rest h a = pass (placed h.0 k text) ts rest h.1 a

pub any_text : (k : Kind) → Passes (any_of k)
any_text k ts rest h a = anywhere k h.0 ts rest h.1 a

pub an_op : (text : List ℕ) → Passes (op text)
an_op text = anywhere kind.Op text

pub a_keyword : (text : List ℕ) → Passes (keyword text)
a_keyword text = anywhere kind.Keyword text

pub a_name : (at : Place) (text : List ℕ) → Gives (one_at at kind.Name text) (IsName text)
a_name at text ts rest h a = let b : AreKept (record { place = at; kind = kind.Name; text = text } ∷ rest) = subst AreKept h a in (b.0.name refl, b.1)

-- Numbers

unit_behind : (text : List ℕ) → has_unit text ≡ false → is_unit (slice_index text (length text - 1)) ≡ false
unit_behind [] h = refl
unit_behind (c ∷ []) h = h
unit_behind (c ∷ d ∷ cs) h =
    let a : suc (length cs) - 1 ≡ length cs = omega arith in
    let b : suc (suc (length cs)) - 1 ≡ suc (length cs) = omega arith in
    subst (λ n. is_unit (slice_index (c ∷ d ∷ cs) n) ≡ false) (sym b) (subst (λ n. is_unit (slice_index (d ∷ cs) n) ≡ false) a (unit_behind (d ∷ cs) h))

decimal_real : (text : List ℕ) → has_unit text ≡ false → IsNumberText text → IsDecimal text
decimal_real text h n = n.real (unit_behind text h)

real_keeps : (at : Place) (digits : List ℕ) → Gives (number_at at digits false) (IsInSource at × IsDecimal digits)
real_keeps at digits ts rest h k = let r = token at kind.Number digits ts rest h.1 k in ((r.0.0, decimal_real digits h.0 (r.0.1 refl)), r.1)

number_keeps : (at : Place) (digits : List ℕ) (imaginary : Bool) → Gives (number_at at digits imaginary) (IsInSource at × IsDecimal digits)
number_keeps at digits false = real_keeps at digits
number_keeps at digits true = either
    (from (λ x. (x.0, (x.1 refl).imaginary digits 105 refl refl)) (token at kind.Number (digits ++ codes "i")))
    (from (λ x. (x.0, (x.1 refl).imaginary digits 106 refl refl)) (token at kind.Number (digits ++ codes "j")))

-- Brackets

pub a_comma : Passes comma
a_comma = either (an_op (codes ",")) (any_text kind.Separator)

pub a_break : Passes row_break
a_break = behind (perhaps (an_op (codes ","))) (either (an_op (codes ";")) (any_text kind.Newline))

pub an_end : Passes bracket_end
an_end = behind (any_number a_break) (behind (perhaps (an_op (codes ","))) (an_op (codes "]")))

-- Expressions

right : {P : Type 0} (o : BinOp) (at_level : ℕ → Lang) (signed : Lang) → ((l : ℕ) → Gives (at_level l) P) → Gives signed P
    → Gives (right_of o at_level signed) P
right bin.Pow at_level signed f g = either (f 11) g
right bin.ElemPow at_level signed f g = either (f 11) g
right _ at_level signed f g = f _

mutual
  keeps_expression : (e : Exp) (b : Bool) (l : ℕ) → Gives (expression b l e) (KeepsExp e)
  keeps_expression (Number at digits imaginary) b l = number_keeps at digits imaginary
  keeps_expression (Words at text) b l = either (placed at kind.Words (quoted 39 text)) (placed at kind.Words (quoted 34 text))
  keeps_expression (Name at text) b l = placed at kind.Name text
  keeps_expression (Apply at text opens args) b l =
      from (λ x. (x.0, x.1.0, x.1.1))
      (both (placed at kind.Name text) (both (placed opens kind.Op (codes "(")) (before (keeps_arguments args) (an_op (codes ")")))))
  keeps_expression (End at) b l = where_given (placed at kind.Keyword (codes "end"))
  keeps_expression (Unary at sign e) b l = where_given (both (placed at kind.Op (unary_text sign)) (keeps_expression e b 8))
  keeps_expression (Binary at o a c) b l = where_given (from (λ x. (x.1.0, x.0, x.1.1))
      (both (keeps_expression a b (rank o))
      (both (placed at kind.Op (binary_text o)) (right o (λ n. expression b n c) (exponent b c) (λ n. keeps_expression c b n) (keeps_exponent c b)))))
  keeps_expression (Post at mark e) b l = where_given (from (λ x. (x.1, x.0)) (both (keeps_expression e b 10) (placed at kind.Op (post_text mark))))
  keeps_expression (Range at first last) b l =
      where_given (from (λ x. (x.1.0, x.0, x.1.1)) (both (keeps_expression first b 6) (both (placed at kind.Op (codes ":")) (keeps_expression last b 6))))
  keeps_expression (RangeBy at first step last) b l = where_given (from (λ x. (x.1.0, x.0, x.1.1.0, x.1.1.1))
      (both (keeps_expression first b 6)
      (both (placed at kind.Op (codes ":")) (both (keeps_expression step b 6) (behind (an_op (codes ":")) (keeps_expression last b 6))))))
  keeps_expression (Paren at e) b l = both (placed at kind.Op (codes "(")) (before (keeps_expression e b 0) (an_op (codes ")")))
  keeps_expression (Matrix at rows) b l = both (placed at kind.Op (codes "[")) (behind (any_number a_break) (keeps_matrix rows b))

  keeps_exponent : (e : Exp) (b : Bool) → Gives (exponent b e) (KeepsExp e)
  keeps_exponent (Unary at sign e) b = both (placed at kind.Op (unary_text sign)) (either (keeps_expression e b 11) (keeps_exponent e b))
  keeps_exponent _ b = none

  keeps_arguments : (args : Args) → Gives (arguments args) (KeepsArgs args)
  keeps_arguments NoArgs = empty
  keeps_arguments (Whole more) = behind (an_op (codes ":")) (keeps_more_arguments more)
  keeps_arguments (Item e more) = both (keeps_expression e true 0) (keeps_more_arguments more)

  keeps_more_arguments : (args : Args) → Gives (more_arguments args) (KeepsArgs args)
  keeps_more_arguments NoArgs = empty
  keeps_more_arguments (Whole more) = behind (an_op (codes ",")) (behind (an_op (codes ":")) (keeps_more_arguments more))
  keeps_more_arguments (Item e more) = behind (an_op (codes ",")) (both (keeps_expression e true 0) (keeps_more_arguments more))

  keeps_cells : (row : Row) (b : Bool) → Gives (cells b row) (KeepsRow row)
  keeps_cells RowEnd b = none
  keeps_cells (Cell e more) b = both (keeps_expression e b 0) (keeps_more_cells more b)

  keeps_more_cells : (row : Row) (b : Bool) → Gives (more_cells b row) (KeepsRow row)
  keeps_more_cells RowEnd b = empty
  keeps_more_cells (Cell e more) b = behind a_comma (both (keeps_expression e b 0) (keeps_more_cells more b))

  keeps_matrix : (rows : Rows) (b : Bool) → Gives (matrix b rows) (KeepsRows rows)
  keeps_matrix NoRows b = behind (perhaps (an_op (codes ","))) (an_op (codes "]"))
  keeps_matrix (RowOn r more) b = both (keeps_cells r b) (keeps_more_rows more b)

  keeps_more_rows : (rows : Rows) (b : Bool) → Gives (more_rows b rows) (KeepsRows rows)
  keeps_more_rows NoRows b = an_end
  keeps_more_rows (RowOn r more) b = behind a_break (behind (any_number a_break) (both (keeps_cells r b) (keeps_more_rows more b)))

-- Names

pub a_separator : Passes separator
a_separator = either (any_text kind.Newline) (either (an_op (codes ";")) (an_op (codes ",")))

pub separators : Passes (many separator)
separators = any_number a_separator

keeps_ident : (name : Ident) → Gives (ident name) (IsInSource name.place)
keeps_ident name = placed name.place kind.Name name.text

keeps_more_idents : {F : Lang} (names : List Ident) → Passes F → Gives (more_idents F names) (AreInSource names)
keeps_more_idents [] f = empty
keeps_more_idents (name ∷ names) f = behind f (both (keeps_ident name) (keeps_more_idents names f))

keeps_idents : {F : Lang} (names : List Ident) → Passes F → Gives (idents F names) (AreInSource names)
keeps_idents [] f = none
keeps_idents (name ∷ names) f = both (keeps_ident name) (keeps_more_idents names f)

keeps_name_list : (names : List Ident) → Gives (name_list names) (AreInSource names)
keeps_name_list names = behind (an_op (codes "[")) (behind (any_number a_break) (before (keeps_idents names a_comma) an_end))

keeps_call : (e : Exp) → Gives (call e) (KeepsExp e)
keeps_call (Name at text) = placed at kind.Name text
keeps_call (Apply at text opens args) =
    from (λ x. (x.0, x.1.0, x.1.1))
    (both (placed at kind.Name text) (both (placed opens kind.Op (codes "(")) (before (keeps_arguments args) (an_op (codes ")")))))
keeps_call _ = none

-- Statements

mutual
  keeps_statement : (s : Sta) → Gives (statement s) (KeepsSta s)
  keeps_statement (Assign to value) = both (keeps_ident to) (behind (an_op (codes "=")) (keeps_expression value false 0))
  keeps_statement (Store to opens args value) = from (λ x. (x.0, x.1.0, x.1.1.0, x.1.1.1))
      (both (keeps_ident to) (both (placed opens kind.Op (codes "(")) (both (where_given (keeps_arguments args)) (behind (an_op (codes ")"))
      (behind (an_op (codes "=")) (keeps_expression value false 0))))))
  keeps_statement (Multi targets value) = both (keeps_name_list targets) (behind (an_op (codes "=")) (keeps_call value))
  keeps_statement (IfOnly at arms) = before (keeps_first_arm arms at) (a_keyword (codes "end"))
  keeps_statement (IfElse at arms other) = from (λ x. (x.0.0, x.0.1, x.1))
      (both (keeps_first_arm arms at) (behind (a_keyword (codes "else")) (before (keeps_block other) (a_keyword (codes "end")))))
  keeps_statement (ForEach at to range body) = from (λ x. (x.0, x.1.0, x.1.1.0, x.1.1.1))
      (both (placed at kind.Keyword (codes "for")) (both (keeps_ident to) (behind (an_op (codes "="))
      (both (keeps_expression range false 0) (before (keeps_block body) (a_keyword (codes "end")))))))
  keeps_statement (WhileTrue at condition body) = from (λ x. (x.0, x.1.0, x.1.1))
      (both (placed at kind.Keyword (codes "while")) (both (keeps_expression condition false 0) (before (keeps_block body) (a_keyword (codes "end")))))
  keeps_statement (BreakOff at) = placed at kind.Keyword (codes "break")
  keeps_statement (GoOn at) = placed at kind.Keyword (codes "continue")

  keeps_first_arm : (arms : Arms) (at : Place) → Gives (first_arm at arms) (IsInSource at × KeepsArms arms)
  keeps_first_arm NoArms at = none
  keeps_first_arm (Arm condition body more) at = from (λ x. (x.0, (x.1.0, x.1.1.0, x.1.1.1)))
      (both (placed at kind.Keyword (codes "if")) (both (keeps_expression condition false 0) (both (keeps_block body) (keeps_more_arms more))))

  keeps_more_arms : (arms : Arms) → Gives (more_arms arms) (KeepsArms arms)
  keeps_more_arms NoArms = empty
  keeps_more_arms (Arm condition body more) = from (λ x. (x.0, x.1.0, x.1.1))
      (behind (a_keyword (codes "elseif")) (both (keeps_expression condition false 0) (both (keeps_block body) (keeps_more_arms more))))

  pub keeps_block : (b : Block) → Gives (block b) (KeepsBlock b)
  keeps_block Done = separators
  keeps_block (Next s more) = behind separators (both (keeps_statement s) (keeps_more_statements more))

  keeps_more_statements : (b : Block) → Gives (more_statements b) (KeepsBlock b)
  keeps_more_statements Done = separators
  keeps_more_statements (Next s more) = behind a_separator (behind separators (both (keeps_statement s) (keeps_more_statements more)))

-- Functions

keeps_inputs : (names : List Ident) → Gives (header_inputs names) (AreInSource names)
keeps_inputs [] = perhaps (behind (an_op (codes "(")) (an_op (codes ")")))
keeps_inputs (name ∷ names) = behind (an_op (codes "(")) (before (keeps_idents (name ∷ names) (an_op (codes ","))) (an_op (codes ")")))

keeps_outputs : (names : List Ident) → Gives (header_outputs names) (AreInSource names)
keeps_outputs [] = keeps_name_list []
keeps_outputs (name ∷ []) = either (from (λ x. (x, tt)) (keeps_ident name)) (keeps_name_list (name ∷ []))
keeps_outputs (name ∷ other ∷ names) = keeps_name_list (name ∷ other ∷ names)

pub passes_end : (ended : Bool) → Passes (function_end ended)
passes_end true = behind (a_keyword (codes "end")) separators
passes_end false = empty

keeps_function : (ended : Bool) (f : Fun) → Gives (function ended f) (KeepsFun f)
keeps_function ended f = from (λ x. (x.0.1.0, x.0.1.1, x.0.0, x.1))
    (behind (a_keyword (codes "function"))
    (both (both (keeps_outputs f.outputs) (behind (an_op (codes "=")) (both (keeps_ident f.name) (keeps_inputs f.inputs))))
    (behind a_separator (before (keeps_block f.body) (passes_end ended)))))

keeps_functions : (ended : Bool) (fs : List Fun) → Gives (functions ended fs) (KeepsFuns fs)
keeps_functions ended [] = empty
keeps_functions ended (f ∷ fs) = both (keeps_function ended f) (keeps_functions ended fs)

-- the tree of kept tokens
pub keeps_file : (fs : List Fun) (ts : List Lexeme) → AreKept ts → file fs ts [] → KeepsFuns fs
keeps_file fs ts k h = (behind separators (before (either (keeps_functions true fs) (keeps_functions false fs)) (any_text kind.Finish)) ts [] h k).0

-- the tokens of a source are kept
pub each_kept : (bytes : List ℕ) (ts : List Token) → length bytes ≤ 1048576 → AllByRecursion (IsTokenOf bytes) ts → AreKept (lexemes_of bytes ts)
each_kept bytes [] h k = tt
each_kept bytes (t ∷ ts) h k = (record { within = omega (arith, k.0.within); number = k.0.number; name = k.0.name }, each_kept bytes ts h k.1)

pub tokens_keep : (bytes : List ℕ) (ts : List Token) (fs : List Fun) → AreTokensOf bytes ts → file fs (lexemes_of bytes ts) [] → KeepsFuns fs
tokens_keep bytes ts fs k h = keeps_file fs (lexemes_of bytes ts) (each_kept bytes ts k.short k.each) h
