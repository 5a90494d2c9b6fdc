-- What was read up to each state.
use Rattle.std.proofs.Common.{◌≡◌, ◌≢◌, ◌≤◌, Bool, true, false, List, [], ◌∷◌, ◌++◌, refl, sym, subst}
use Rattle.std.specs.Prelude.{codes}
use Rattle.fic_base.specs.declared.place.Place.{Place}
use Rattle.mat_ast.specs.declared.tree.Ident.{Ident}
use Rattle.mat_ast.specs.Tree.{Exp, Args, NoArgs, Whole, Item, Row, RowEnd, Cell, Rows, NoRows, RowOn, Sta, Arms, NoArms, Arm, Block, Done, Next, Fun}
use Rattle.mat_token.specs.declared.token.Kind.TheVariants as kind
use Rattle.mat_token.specs.Lexeme.{Lexeme}
use Rattle.mat_grammar.specs.Lang.{Lang, ◌▸◌, ◌or◌, nothing, never, given, maybe, many, one_at, any_of, op, op_at, keyword, keyword_at}
use Rattle.mat_grammar.specs.Spelling.{unary_text, binary_text}
use Rattle.mat_grammar.specs.Grammar.{rank, expression, exponent, arguments, more_arguments, comma, row_break, cells, more_cells, matrix, more_rows, separator, ident, more_idents, idents, name_list, statement, first_arm, more_arms, block, more_statements, header_outputs, header, function, functions}
use Rattle.mat_grammar.specs.declared.word.Mode.{Mode}
use Rattle.mat_grammar.specs.declared.word.Mode.TheVariants as mode
use Rattle.mat_grammar.specs.Machine.{Sign, ExponentSign, Right, Inside, Call, To, ByTo, Cells, Stack, Header, Around, IfBody, ElseBody, WhileBody, ForBody, FunBody, Use, Target, Callee, Purpose, AssignTo, StoreTo, ArmTest, WhileTest, ForRange, Argument, Caller, InValue, InStatement, Lister, Outputs, Targets, State, Need, Begun, Listed, Between, Bare, Gap, Have, Within, After, Named, Subscripted, Targeted, Calling, Called, Looping, Looped, Edge, EdgeComma, Listing, ListComma, ListNext, Tail, TailComma, Top, Heading, HeadOut, HeadEqual, HeadName, Params, Param, ParamComma, Headed, Complete, Stuck, top, and_then, with_item, with_whole, with_cell, with_row, with_statement, with_arm, inside}
use Rattle.mat_grammar.proofs.Join.{join, many_none, many_first, many_last}

-- arguments, each with the comma behind it
abbrev pub read_args : Args → Lang
read_args NoArgs = nothing
read_args (Whole more) = op (codes ":") ▸ op (codes ",") ▸ read_args more
read_args (Item e more) = expression true 0 e ▸ op (codes ",") ▸ read_args more

-- elements, each with the comma behind it
abbrev pub read_cells : Bool → Row → Lang
read_cells b RowEnd = nothing
read_cells b (Cell e more) = expression b 0 e ▸ comma ▸ read_cells b more

-- rows, each with its row ends behind it
abbrev pub read_rows : Bool → Rows → Lang
read_rows b NoRows = many row_break
read_rows b (RowOn r more) = many row_break ▸ cells b r ▸ row_break ▸ read_rows b more

-- statements, each with its separators behind it
abbrev pub read_block : Block → Lang
read_block Done = many separator
read_block (Next s more) = many separator ▸ statement s ▸ separator ▸ read_block more

-- the arms behind the first, and the keyword of one more
abbrev pub read_more_tests : Arms → Lang
read_more_tests NoArms = keyword (codes "elseif")
read_more_tests (Arm condition body more) = keyword (codes "elseif") ▸ expression false 0 condition ▸ block body ▸ read_more_tests more

-- the arms of an `if`, and the keyword of one more
abbrev pub read_tests : Place → Arms → Lang
read_tests at NoArms = keyword_at at (codes "if")
read_tests at (Arm condition body more) = keyword_at at (codes "if") ▸ expression false 0 condition ▸ block body ▸ read_more_tests more

abbrev pub read_top : Mode → List Fun → Lang
read_top mode.Unknown fs = given (fs ≡ []) (many separator)
read_top mode.Ended fs = many separator ▸ functions true fs
read_top mode.Unended fs = never

abbrev pub read_heading : Mode → List Fun → Lang
read_heading mode.Unknown fs = given (fs ≡ []) (many separator ▸ keyword (codes "function"))
read_heading mode.Ended fs = many separator ▸ functions true fs ▸ keyword (codes "function")
read_heading mode.Unended fs = many separator ▸ functions false fs ▸ keyword (codes "function")

abbrev pub header_read : Header → Lang
header_read h = header h.outputs h.name h.inputs

-- what was read up to the innermost open block
abbrev pub Blocks : Around → Lang
Blocks (IfBody b at arms condition out) = (Blocks out ▸ read_block b) ▸ read_tests at arms ▸ expression false 0 condition
Blocks (ElseBody b at arms out) = (Blocks out ▸ read_block b) ▸ first_arm at arms ▸ keyword (codes "else")
Blocks (WhileBody b at condition out) = (Blocks out ▸ read_block b) ▸ keyword_at at (codes "while") ▸ expression false 0 condition
Blocks (ForBody b at to range out) = (Blocks out ▸ read_block b) ▸ keyword_at at (codes "for") ▸ ident to ▸ op (codes "=") ▸ expression false 0 range
Blocks (FunBody mode fs h) = read_heading mode fs ▸ header_read h ▸ separator

-- what was read up to a statement
abbrev pub Before : Block → Around → Lang
Before b out = Blocks out ▸ read_block b

abbrev pub Uses : Use → Lang
Uses (Target b out) = Before b out
Uses (Callee b targets out) = Before b out ▸ name_list targets ▸ op (codes "=")

-- what was read up to a whole expression
abbrev pub Purposes : Purpose → Lang
Purposes (AssignTo b to out) = Before b out ▸ ident to ▸ op (codes "=")
Purposes (StoreTo b to opens args out) =
    Before b out ▸ ident to ▸ op_at opens (codes "(") ▸ given (args ≢ NoArgs) (arguments args) ▸ op (codes ")") ▸ op (codes "=")
Purposes (ArmTest b at arms out) = Before b out ▸ read_tests at arms
Purposes (WhileTest b at out) = Before b out ▸ keyword_at at (codes "while")
Purposes (ForRange b at to out) = Before b out ▸ keyword_at at (codes "for") ▸ ident to ▸ op (codes "=")
Purposes (Argument u at text opens args) = Uses u ▸ one_at at kind.Name text ▸ op_at opens (codes "(") ▸ read_args args

-- what was read up to an operand
abbrev pub Frames : Stack → Purpose → Lang
Frames [] k = Purposes k
Frames (Sign at sign ∷ st) k = given (top st ≤ 8) (Frames st k ▸ op_at at (unary_text sign))
Frames (ExponentSign at sign ∷ st) k = given (top st ≡ 11) (Frames st k ▸ op_at at (unary_text sign))
Frames (Right at o a ∷ st) k = given (top st ≤ rank o) (Frames st k ▸ expression (inside st k) (rank o) a ▸ op_at at (binary_text o))
Frames (Inside at ∷ st) k = Frames st k ▸ op_at at (codes "(")
Frames (Call at text opens args ∷ st) k = Frames st k ▸ one_at at kind.Name text ▸ op_at opens (codes "(") ▸ read_args args
Frames (To at first ∷ st) k = given (top st ≤ 5) (Frames st k ▸ expression (inside st k) 6 first ▸ op_at at (codes ":"))
Frames (ByTo at first by ∷ st) k =
    given (top st ≤ 5) (Frames st k ▸ expression (inside st k) 6 first ▸ op_at at (codes ":") ▸ expression (inside st k) 6 by ▸ op (codes ":"))
Frames (Cells at rows row ∷ st) k = Frames st k ▸ op_at at (codes "[") ▸ read_rows (inside st k) rows ▸ read_cells (inside st k) row

-- an operand below these frames
abbrev pub operand : Stack → Purpose → Exp → Lang
operand st k e = expression (inside st k) (top st) e or given (top st ≡ 11) (exponent (inside st k) e)

abbrev pub Reads : Exp → Stack → Purpose → Lang
Reads e st k = Frames st k ▸ operand st k e

abbrev pub Callers : Caller → Lang
Callers (InValue st k) = Frames st k
Callers (InStatement u) = Uses u

abbrev pub Lists : Lister → Lang
Lists (Outputs mode fs) = read_heading mode fs
Lists (Targets b out) = Before b out

-- arguments to which a comma can be added
abbrev pub all_args : Args → Lang
all_args args ts rest = arguments args ts rest × ((r : List Lexeme) → op (codes ",") rest r → read_args args ts r)

-- a row with a comma behind it
abbrev pub comma_cells : Bool → Row → Lang
comma_cells b row ts rest = (cells b row ▸ op (codes ",")) ts rest × read_cells b row ts rest

-- a block to which a separator can be added
abbrev pub open_block : Block → Lang
open_block b ts rest = block b ts rest × ((r : List Lexeme) → separator rest r → read_block b ts r)

-- what was read up to a state
abbrev pub Holds : State → Lang
Holds (Need st k) = Frames st k
Holds (Begun c at text opens) = Callers c ▸ one_at at kind.Name text ▸ op_at opens (codes "(")
Holds (Listed c at text opens args) = Callers c ▸ one_at at kind.Name text ▸ op_at opens (codes "(") ▸ all_args args
Holds (Between at rows st k) = Frames st k ▸ op_at at (codes "[") ▸ read_rows (inside st k) rows
Holds (Bare at rows st k) = Frames st k ▸ op_at at (codes "[") ▸ read_rows (inside st k) rows ▸ op (codes ",")
Holds (Gap at rows row st k) = Frames st k ▸ op_at at (codes "[") ▸ read_rows (inside st k) rows ▸ comma_cells (inside st k) row
Holds (Have e st k) = Reads e st k
Holds (Within b out) = Before b out
Holds (After b out) = Blocks out ▸ open_block b
Holds (Named b to out) = Before b out ▸ ident to
Holds (Subscripted b to opens args out) = Before b out ▸ ident to ▸ op_at opens (codes "(") ▸ given (args ≢ NoArgs) (arguments args) ▸ op (codes ")")
Holds (Targeted b targets out) = Before b out ▸ name_list targets
Holds (Calling b targets out) = Before b out ▸ name_list targets ▸ op (codes "=")
Holds (Called b targets at text out) = Before b out ▸ name_list targets ▸ op (codes "=") ▸ one_at at kind.Name text
Holds (Looping b at out) = Before b out ▸ keyword_at at (codes "for")
Holds (Looped b at to out) = Before b out ▸ keyword_at at (codes "for") ▸ ident to
Holds (Edge l) = Lists l ▸ op (codes "[") ▸ many row_break
Holds (EdgeComma l) = Lists l ▸ op (codes "[") ▸ many row_break ▸ op (codes ",")
Holds (Listing l names) = Lists l ▸ op (codes "[") ▸ many row_break ▸ idents comma names
Holds (ListComma l names) = Lists l ▸ op (codes "[") ▸ many row_break ▸ idents comma names ▸ op (codes ",")
Holds (ListNext l names) = Lists l ▸ op (codes "[") ▸ many row_break ▸ idents comma names ▸ any_of kind.Separator
Holds (Tail l names) = Lists l ▸ op (codes "[") ▸ many row_break ▸ idents comma names ▸ many row_break
Holds (TailComma l names) = Lists l ▸ op (codes "[") ▸ many row_break ▸ idents comma names ▸ many row_break ▸ op (codes ",")
Holds (Top mode fs) = read_top mode fs
Holds (Heading mode fs) = read_heading mode fs
Holds (HeadOut mode fs outputs) = read_heading mode fs ▸ header_outputs outputs
Holds (HeadEqual mode fs outputs) = read_heading mode fs ▸ header_outputs outputs ▸ op (codes "=")
Holds (HeadName mode fs outputs name) = read_heading mode fs ▸ header_outputs outputs ▸ op (codes "=") ▸ ident name
Holds (Params mode fs outputs name) = read_heading mode fs ▸ header_outputs outputs ▸ op (codes "=") ▸ ident name ▸ op (codes "(")
Holds (Param mode fs h) = read_heading mode fs ▸ header_outputs h.outputs ▸ op (codes "=") ▸ ident h.name ▸ op (codes "(") ▸ idents (op (codes ",")) h.inputs
Holds (ParamComma mode fs h) =
    read_heading mode fs ▸ header_outputs h.outputs ▸ op (codes "=") ▸ ident h.name ▸ op (codes "(") ▸ idents (op (codes ",")) h.inputs ▸ op (codes ",")
Holds (Headed mode fs h) = read_heading mode fs ▸ header_read h
Holds (Complete fs) = many separator ▸ (functions true fs or functions false fs) ▸ any_of kind.Finish
Holds Stuck = λ ts rest. Unit {0}

-- Arguments

-- one argument more
later : (args : Args) (x : Args) (X : Lang) → ((ts m rest : List Lexeme) → op (codes ",") ts m → X m rest → more_arguments x ts rest)
    → (ts m m' rest : List Lexeme) → op (codes ",") ts m → read_args args m m' → X m' rest → more_arguments (and_then args x) ts rest
later NoArgs x X f ts m m' rest c h k = f ts m rest c (subst (λ z. X z rest) (sym h) k)
later (Whole more) x X f ts m m' rest c h k = join m c (join h.middle h.before (later more x X f _ _ m' rest h.after.before h.after.after k))
later (Item a more) x X f ts m m' rest c h k = join m c (join h.middle h.before (later more x X f _ _ m' rest h.after.before h.after.after k))

last_argument : (args : Args) (x : Args) (X : Lang) → ((ts rest : List Lexeme) → X ts rest → arguments x ts rest) → ((ts m rest : List Lexeme) → op (codes ",") ts m → X m rest → more_arguments x ts rest)
    → (ts m rest : List Lexeme) → read_args args ts m → X m rest → arguments (and_then args x) ts rest
last_argument NoArgs x X g f ts m rest h k = g ts rest (subst (λ z. X z rest) (sym h) k)
last_argument (Whole more) x X g f ts m rest h k = join h.middle h.before (later more x X f _ _ m rest h.after.before h.after.after k)
last_argument (Item a more) x X g f ts m rest h k = join h.middle h.before (later more x X f _ _ m rest h.after.before h.after.after k)

more_read : (args : Args) (x : Args) (X : Lang) → ((ts m rest : List Lexeme) → X ts m → op (codes ",") m rest → read_args x ts rest)
    → (ts m m' rest : List Lexeme) → read_args args ts m → X m m' → op (codes ",") m' rest → read_args (and_then args x) ts rest
more_read NoArgs x X f ts m m' rest h k c = f ts m' rest (subst (λ z. X z m') (sym h) k) c
more_read (Whole more) x X f ts m m' rest h k c = join h.middle h.before (join h.after.middle h.after.before (more_read more x X f _ m m' rest h.after.after k c))
more_read (Item a more) x X f ts m m' rest h k c = join h.middle h.before (join h.after.middle h.after.before (more_read more x X f _ m m' rest h.after.after k c))

pub last_item : (args : Args) (e : Exp) (ts m rest : List Lexeme) → read_args args ts m → expression true 0 e m rest → arguments (with_item args e) ts rest
last_item args e = last_argument args (Item e NoArgs) (expression true 0 e) (λ ts rest k. join rest k refl) (λ ts m rest c k. join m c (join rest k refl))

pub item_read : (args : Args) (e : Exp) (ts m m' rest : List Lexeme) → read_args args ts m → expression true 0 e m m' → op (codes ",") m' rest → read_args (with_item args e) ts rest
item_read args e = more_read args (Item e NoArgs) (expression true 0 e) (λ ts m rest k c. join m k (join rest c refl))

pub last_whole : (args : Args) (ts m rest : List Lexeme) → read_args args ts m → op (codes ":") m rest → all_args (with_whole args) ts rest
last_whole args ts m rest h k = (
  last_argument args (Whole NoArgs) (op (codes ":")) (λ ts rest k. join rest k refl) (λ ts m rest c k. join m c (join rest k refl)) ts m rest h k,
  λ r c. more_read args (Whole NoArgs) (op (codes ":")) (λ ts m rest k c. join m k (join rest c refl)) ts m rest r h k c,
)

-- Elements of a row

later_cell : (row : Row) (b : Bool) (e : Exp) (ts m m' rest : List Lexeme) → comma ts m → read_cells b row m m' → expression b 0 e m' rest → more_cells b (with_cell row e) ts rest
later_cell RowEnd b e ts m m' rest c h k = join m c (join rest (subst (λ z. expression b 0 e z rest) (sym h) k) refl)
later_cell (Cell a more) b e ts m m' rest c h k = join m c (join h.middle h.before (later_cell more b e _ _ m' rest h.after.before h.after.after k))

pub last_cell : (row : Row) (b : Bool) (e : Exp) (ts m rest : List Lexeme) → read_cells b row ts m → expression b 0 e m rest → cells b (with_cell row e) ts rest
last_cell RowEnd b e ts m rest h k = join rest (subst (λ z. expression b 0 e z rest) (sym h) k) refl
last_cell (Cell a more) b e ts m rest h k = join h.middle h.before (later_cell more b e _ _ m rest h.after.before h.after.after k)

pub cell_read : (row : Row) (b : Bool) (e : Exp) (ts m m' rest : List Lexeme) → read_cells b row ts m → expression b 0 e m m' → comma m' rest → read_cells b (with_cell row e) ts rest
cell_read RowEnd b e ts m m' rest h k c = join m' (subst (λ z. expression b 0 e z m') (sym h) k) (join rest c refl)
cell_read (Cell a more) b e ts m m' rest h k c = join h.middle h.before (join h.after.middle h.after.before (cell_read more b e _ m m' rest h.after.after k c))

-- Rows

-- the end of a bracket behind its row ends
abbrev pub shut : Lang
shut = maybe (op (codes ",")) ▸ op (codes "]")

pub break_read : (rows : Rows) (b : Bool) (ts m rest : List Lexeme) → read_rows b rows ts m → row_break m rest → read_rows b rows ts rest
break_read NoRows b ts m rest h k = many_last row_break ts m rest h k
break_read (RowOn r more) b ts m rest h k = join h.middle h.before (join h.after.middle h.after.before (join h.after.after.middle h.after.after.before (break_read more b _ m rest h.after.after.after k)))

pub row_read : (rows : Rows) (b : Bool) (row : Row) (ts m m' rest : List Lexeme) → read_rows b rows ts m → cells b row m m' → row_break m' rest → read_rows b (with_row rows row) ts rest
row_read NoRows b row ts m m' rest h k c = join m h (join m' k (join rest c (many_none row_break rest)))
row_read (RowOn r more) b row ts m m' rest h k c = join h.middle h.before (join h.after.middle h.after.before (join h.after.after.middle h.after.after.before (row_read more b row _ m m' rest h.after.after.after k c)))

later_end : (rows : Rows) (b : Bool) (ts m m' rest : List Lexeme) → row_break ts m → read_rows b rows m m' → shut m' rest → more_rows b rows ts rest
later_end NoRows b ts m m' rest c h k = join m' (many_first row_break ts m m' c h) k
later_end (RowOn r more) b ts m m' rest c h k = join m c (join h.middle h.before (join h.after.middle h.after.before (later_end more b _ _ m' rest h.after.after.before h.after.after.after k)))

pub rows_end : (rows : Rows) (b : Bool) (ts m rest : List Lexeme) → read_rows b rows ts m → shut m rest → (many row_break ▸ matrix b rows) ts rest
rows_end NoRows b ts m rest h k = join m h k
rows_end (RowOn r more) b ts m rest h k = join h.middle h.before (join h.after.middle h.after.before (later_end more b _ _ m rest h.after.after.before h.after.after.after k))

later_row : (rows : Rows) (b : Bool) (row : Row) (ts m m' m'' rest : List Lexeme) → row_break ts m → read_rows b rows m m' → cells b row m' m'' → shut m'' rest → more_rows b (with_row rows row) ts rest
later_row NoRows b row ts m m' m'' rest c h k s = join m c (join m' h (join m'' k (join m'' (many_none row_break m'') s)))
later_row (RowOn r more) b row ts m m' m'' rest c h k s = join m c (join h.middle h.before (join h.after.middle h.after.before (later_row more b row _ _ m' m'' rest h.after.after.before h.after.after.after k s)))

pub last_row : (rows : Rows) (b : Bool) (row : Row) (ts m m' rest : List Lexeme) → read_rows b rows ts m → cells b row m m' → shut m' rest → (many row_break ▸ matrix b (with_row rows row)) ts rest
last_row NoRows b row ts m m' rest h k s = join m h (join m' k (join m' (many_none row_break m') s))
last_row (RowOn r more) b row ts m m' rest h k s = join h.middle h.before (join h.after.middle h.after.before (later_row more b row _ _ m m' rest h.after.after.before h.after.after.after k s))

-- Names

more_ident : (between : Lang) (names : List Ident) (name : Ident) (ts m m' rest : List Lexeme) → more_idents between names ts m → between m m' → ident name m' rest → more_idents between (names ++ name ∷ []) ts rest
more_ident between [] name ts m m' rest h c k = join m' (subst (λ z. between z m') (sym h) c) (join rest k refl)
more_ident between (n ∷ names) name ts m m' rest h c k = join h.middle h.before (join h.after.middle h.after.before (more_ident between names name _ m m' rest h.after.after c k))

pub last_ident : (between : Lang) (names : List Ident) (name : Ident) (ts m m' rest : List Lexeme) → idents between names ts m → between m m' → ident name m' rest → idents between (names ++ name ∷ []) ts rest
last_ident between [] name ts m m' rest h c k = absurd h
last_ident between (n ∷ names) name ts m m' rest h c k = join h.middle h.before (more_ident between names name _ m m' rest h.after c k)

-- Statements

pub more_block : (b : Block) (ts m rest : List Lexeme) → read_block b ts m → separator m rest → read_block b ts rest
more_block Done ts m rest h k = many_last separator ts m rest h k
more_block (Next s b) ts m rest h k = join h.middle h.before (join h.after.middle h.after.before (join h.after.after.middle h.after.after.before (more_block b _ m rest h.after.after.after k)))

later_block : (b : Block) (ts m rest : List Lexeme) → separator ts m → read_block b m rest → more_statements b ts rest
later_block Done ts m rest c h = many_first separator ts m rest c h
later_block (Next s b) ts m rest c h = join m c (join h.middle h.before (join h.after.middle h.after.before (later_block b _ _ rest h.after.after.before h.after.after.after)))

pub block_end : (b : Block) (ts rest : List Lexeme) → read_block b ts rest → block b ts rest
block_end Done ts rest h = h
block_end (Next s b) ts rest h = join h.middle h.before (join h.after.middle h.after.before (later_block b _ _ rest h.after.after.before h.after.after.after))

later_statement : (b : Block) (s : Sta) (ts m m' rest : List Lexeme) → separator ts m → read_block b m m' → statement s m' rest → more_statements (with_statement b s) ts rest
later_statement Done s ts m m' rest c h k = join m c (join m' h (join rest k (many_none separator rest)))
later_statement (Next a b) s ts m m' rest c h k = join m c (join h.middle h.before (join h.after.middle h.after.before (later_statement b s _ _ m' rest h.after.after.before h.after.after.after k)))

last_statement : (b : Block) (s : Sta) (ts m rest : List Lexeme) → read_block b ts m → statement s m rest → block (with_statement b s) ts rest
last_statement Done s ts m rest h k = join m h (join rest k (many_none separator rest))
last_statement (Next a b) s ts m rest h k = join h.middle h.before (join h.after.middle h.after.before (later_statement b s _ _ m rest h.after.after.before h.after.after.after k))

statement_read : (b : Block) (s : Sta) (ts m m' rest : List Lexeme) → read_block b ts m → statement s m m' → separator m' rest → read_block (with_statement b s) ts rest
statement_read Done s ts m m' rest h k c = join m h (join m' k (join rest c (many_none separator rest)))
statement_read (Next a b) s ts m m' rest h k c = join h.middle h.before (join h.after.middle h.after.before (join h.after.after.middle h.after.after.before (statement_read b s _ m m' rest h.after.after.after k c)))

-- a statement was read
pub after_holds : (b : Block) (s : Sta) (out : Around) (all ts : List Lexeme) → (Before b out ▸ statement s) all ts → Holds (After (with_statement b s) out) all ts
after_holds b s out all ts h = record {
  middle = h.before.middle;
  before = h.before.before;
  after = (last_statement b s _ _ ts h.before.after h.after, λ r c. statement_read b s _ _ ts r h.before.after h.after c);
}

-- Arms

later_arm : (arms : Arms) (condition : Exp) (body : Block) (ts m m' rest : List Lexeme) → read_more_tests arms ts m → expression false 0 condition m m' → block body m' rest → more_arms (with_arm arms condition body) ts rest
later_arm NoArms condition body ts m m' rest h k x = join m h (join m' k (join rest x refl))
later_arm (Arm c b arms) condition body ts m m' rest h k x = join h.middle h.before (join h.after.middle h.after.before (join h.after.after.middle h.after.after.before (later_arm arms condition body _ m m' rest h.after.after.after k x)))

pub last_arm : (at : Place) (arms : Arms) (condition : Exp) (body : Block) (ts m m' rest : List Lexeme) → read_tests at arms ts m → expression false 0 condition m m' → block body m' rest → first_arm at (with_arm arms condition body) ts rest
last_arm at NoArms condition body ts m m' rest h k x = join m h (join m' k (join rest x refl))
last_arm at (Arm c b arms) condition body ts m m' rest h k x = join h.middle h.before (join h.after.middle h.after.before (join h.after.after.middle h.after.after.before (later_arm arms condition body _ m m' rest h.after.after.after k x)))

later_test : (arms : Arms) (condition : Exp) (body : Block) (ts m m' m'' rest : List Lexeme) → read_more_tests arms ts m → expression false 0 condition m m' → block body m' m'' → keyword (codes "elseif") m'' rest → read_more_tests (with_arm arms condition body) ts rest
later_test NoArms condition body ts m m' m'' rest h k x c = join m h (join m' k (join m'' x c))
later_test (Arm d b arms) condition body ts m m' m'' rest h k x c = join h.middle h.before (join h.after.middle h.after.before (join h.after.after.middle h.after.after.before (later_test arms condition body _ m m' m'' rest h.after.after.after k x c)))

pub test_read : (at : Place) (arms : Arms) (condition : Exp) (body : Block) (ts m m' m'' rest : List Lexeme) → read_tests at arms ts m → expression false 0 condition m m' → block body m' m'' → keyword (codes "elseif") m'' rest → read_tests at (with_arm arms condition body) ts rest
test_read at NoArms condition body ts m m' m'' rest h k x c = join m h (join m' k (join m'' x c))
test_read at (Arm d b arms) condition body ts m m' m'' rest h k x c = join h.middle h.before (join h.after.middle h.after.before (join h.after.after.middle h.after.after.before (later_test arms condition body _ m m' m'' rest h.after.after.after k x c)))

-- Functions

pub last_function : (b : Bool) (fs : List Fun) (f : Fun) (ts m rest : List Lexeme) → functions b fs ts m → function b f m rest → functions b (fs ++ f ∷ []) ts rest
last_function b [] f ts m rest h k = join rest (subst (λ z. function b f z rest) (sym h) k) refl
last_function b (g ∷ fs) f ts m rest h k = join h.middle h.before (last_function b fs f _ m rest h.after k)

-- a separator behind the last `end`
more_functions : (f : Fun) (fs : List Fun) (ts m rest : List Lexeme) → functions true (f ∷ fs) ts m → separator m rest → functions true (f ∷ fs) ts rest
more_functions f [] ts m rest h k =
    let g = h.before in
    join rest
    (join g.middle g.before (join g.after.middle g.after.before (join g.after.after.middle g.after.after.before (join g.after.after.after.middle g.after.after.after.before
    (join g.after.after.after.after.middle g.after.after.after.after.before
    (many_last separator _ m rest (subst (λ z. many separator g.after.after.after.after.middle z) h.after g.after.after.after.after.after) k))))))
    refl
more_functions f (g ∷ fs) ts m rest h k = join h.middle h.before (more_functions g fs _ m rest h.after k)

pub top_break : (fs : List Fun) (all m ts : List Lexeme) → read_top mode.Ended fs all m → separator m ts → read_top mode.Ended fs all ts
top_break [] all m ts h k = join ts (many_last separator all m ts (subst (λ z. many separator all z) h.after h.before) k) refl
top_break (f ∷ fs) all m ts h k = join h.middle h.before (more_functions f fs _ m ts h.after k)
