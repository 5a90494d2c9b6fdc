-- What is still owed behind each token: a machine that reads a file's tokens one by one.
use Rattle.std.specs.Prelude.{Bool, true, false, ℕ, ◌+◌, List, [], ◌∷◌, ◌++◌, nat_lt, nat_le, if◌then◌else◌, Option, Some, None}
use Rattle.fic_base.specs.declared.place.Place.{Place}
use Rattle.mat_ast.specs.declared.tree.UnOp.{UnOp}
use Rattle.mat_ast.specs.declared.tree.UnOp.TheVariants as un
use Rattle.mat_ast.specs.declared.tree.BinOp.{BinOp}
use Rattle.mat_ast.specs.declared.tree.PostOp.{PostOp}
use Rattle.mat_ast.specs.declared.tree.Ident.{Ident}
use Rattle.mat_ast.specs.Tree.{Exp, Number, Words, Name, Apply, End, Unary, Binary, Post, Range, RangeBy, Paren, Matrix, Args, NoArgs, Whole, Item, Row, RowEnd, Cell, Rows, NoRows, RowOn, Sta, Assign, Store, Multi, IfOnly, IfElse, ForEach, WhileTrue, BreakOff, GoOn, Arms, NoArms, Arm, Block, Done, Next, Fun}
use Rattle.mat_token.specs.Lexeme.{Lexeme}
use Rattle.mat_grammar.specs.Spelling.{has_unit}
use Rattle.mat_grammar.specs.Grammar.{rank, rank_with}
use Rattle.mat_grammar.specs.Words.{word_of, sign_of, digits_of, unquoted}
use Rattle.mat_grammar.specs.declared.word.Word.{Word}
use Rattle.mat_grammar.specs.declared.word.Word.TheVariants as word
use Rattle.mat_grammar.specs.declared.word.Mode.{Mode}
use Rattle.mat_grammar.specs.declared.word.Mode.TheVariants as mode

-- what of an expression waits for the operand that is read
pub data Frame : Type 0 where
  -- a sign
  Sign : Place → UnOp → Frame
  -- a sign of an exponent
  ExponentSign : Place → UnOp → Frame
  -- a left operand and its operator
  Right : Place → BinOp → Exp → Frame
  -- a parenthesis
  Inside : Place → Frame
  -- a name with its parenthesis, and the arguments before
  Call : Place → List ℕ → Place → Args → Frame
  -- a range with its first part
  To : Place → Exp → Frame
  -- a range with its first part and its step
  ByTo : Place → Exp → Exp → Frame
  -- a bracket with the rows before, and the elements before of this row
  Cells : Place → Rows → Row → Frame

abbrev pub Stack : Type 0
Stack = List Frame

-- the front of a function
pub record Header : Type 0 where
  pub outputs : List Ident
  pub name : Ident
  pub inputs : List Ident

-- the open blocks, from the inside out, each with the statements before it
pub data Around : Type 0 where
  -- an arm of an `if`, with the arms before and its condition
  IfBody : Block → Place → Arms → Exp → Around → Around
  -- an `else`, with the arms before
  ElseBody : Block → Place → Arms → Around → Around
  WhileBody : Block → Place → Exp → Around → Around
  ForBody : Block → Place → Ident → Exp → Around → Around
  -- a function, with the functions before
  FunBody : Mode → List Fun → Header → Around

-- the parentheses of a name that belong to a statement
pub data Use : Type 0 where
  -- the subscripts of an assignment
  Target : Block → Around → Use
  -- the arguments of a call that is assigned to a bracket of names
  Callee : Block → List Ident → Around → Use

-- what a whole expression is for
pub data Purpose : Type 0 where
  AssignTo : Block → Ident → Around → Purpose
  StoreTo : Block → Ident → Place → Args → Around → Purpose
  -- the condition of an arm, with the arms before
  ArmTest : Block → Place → Arms → Around → Purpose
  WhileTest : Block → Place → Around → Purpose
  ForRange : Block → Place → Ident → Around → Purpose
  -- an argument, with the arguments before
  Argument : Use → Place → List ℕ → Place → Args → Purpose

-- whose parentheses are read
pub data Caller : Type 0 where
  InValue : Stack → Purpose → Caller
  InStatement : Use → Caller

-- whose bracket of names is read
pub data Lister : Type 0 where
  Outputs : Mode → List Fun → Lister
  Targets : Block → Around → Lister

pub data State : Type 0 where
  -- an operand has to come
  Need : Stack → Purpose → State
  -- the parenthesis of a name was opened
  Begun : Caller → Place → List ℕ → Place → State
  -- a colon was read as an argument
  Listed : Caller → Place → List ℕ → Place → Args → State
  -- between the rows of a bracket
  Between : Place → Rows → Stack → Purpose → State
  -- behind a comma between the rows of a bracket
  Bare : Place → Rows → Stack → Purpose → State
  -- behind a comma in a row
  Gap : Place → Rows → Row → Stack → Purpose → State
  -- an operand was read
  Have : Exp → Stack → Purpose → State
  -- a statement may come
  Within : Block → Around → State
  -- behind a statement
  After : Block → Around → State
  -- behind the first name of a statement
  Named : Block → Ident → Around → State
  -- behind the subscripts of a target
  Subscripted : Block → Ident → Place → Args → Around → State
  -- behind a bracket of targets, and behind its `=`
  Targeted : Block → List Ident → Around → State
  Calling : Block → List Ident → Around → State
  -- behind the name of a call that is assigned to a bracket of names
  Called : Block → List Ident → Place → List ℕ → Around → State
  -- behind `for`, and behind its name
  Looping : Block → Place → Around → State
  Looped : Block → Place → Ident → Around → State
  -- in a bracket of names: before the names, and behind a comma there
  Edge : Lister → State
  EdgeComma : Lister → State
  -- behind a name, behind a comma after it, behind a separator after it
  Listing : Lister → List Ident → State
  ListComma : Lister → List Ident → State
  ListNext : Lister → List Ident → State
  -- behind the names and a row end, and behind a comma there
  Tail : Lister → List Ident → State
  TailComma : Lister → List Ident → State
  -- between functions
  Top : Mode → List Fun → State
  -- behind `function`, behind the outputs, behind their `=`, behind the name
  Heading : Mode → List Fun → State
  HeadOut : Mode → List Fun → List Ident → State
  HeadEqual : Mode → List Fun → List Ident → State
  HeadName : Mode → List Fun → List Ident → Ident → State
  -- behind the parenthesis of the inputs, behind an input, behind a comma after it, behind the inputs
  Params : Mode → List Fun → List Ident → Ident → State
  Param : Mode → List Fun → Header → State
  ParamComma : Mode → List Fun → Header → State
  Headed : Mode → List Fun → Header → State
  -- behind the end
  Complete : List Fun → State
  Stuck : State

-- operators of this rank and above go into the operand of a frame
abbrev pub level : Frame → ℕ
level (Sign at sign) = 8
level (ExponentSign at sign) = 11
level (Right at op a) = rank op + 1
level (Inside at) = 0
level (Call at text opens args) = 0
level (To at first) = 6
level (ByTo at first step) = 6
level (Cells at rows row) = 0

abbrev pub top : Stack → ℕ
top [] = 0
top (f ∷ st) = level f

-- how tightly a word binds to the operand before it: 0 ends each operand, and 12 belongs to a name alone
abbrev pub tightness : Word → ℕ
tightness (word.Infix op) = rank op
tightness (word.Turn mark) = 10
tightness word.Colon = 6
tightness word.Open = 12
tightness _ = 0

-- the level of an expression
abbrev pub rank_of : Exp → ℕ
rank_of (Unary at sign e) = 8
rank_of (Binary at op a b) = rank_with op b
rank_of (Post at mark e) = 10
rank_of (Range at first last) = 5
rank_of (RangeBy at first step last) = 5
rank_of _ = 11

-- whether an expression is a name alone
abbrev pub is_name : Exp → Bool
is_name (Name at text) = true
is_name _ = false

-- lists of the tree, one after the other
abbrev pub and_then : Args → Args → Args
and_then NoArgs more = more
and_then (Whole es) more = Whole (and_then es more)
and_then (Item e es) more = Item e (and_then es more)

abbrev pub and_cells : Row → Row → Row
and_cells RowEnd more = more
and_cells (Cell e es) more = Cell e (and_cells es more)

abbrev pub and_rows : Rows → Rows → Rows
and_rows NoRows more = more
and_rows (RowOn r rs) more = RowOn r (and_rows rs more)

abbrev pub and_block : Block → Block → Block
and_block Done more = more
and_block (Next s b) more = Next s (and_block b more)

abbrev pub and_arms : Arms → Arms → Arms
and_arms NoArms more = more
and_arms (Arm condition body arms) more = Arm condition body (and_arms arms more)

-- with one more at the end
abbrev pub with_item : Args → Exp → Args
with_item args e = and_then args (Item e NoArgs)

abbrev pub with_whole : Args → Args
with_whole args = and_then args (Whole NoArgs)

abbrev pub with_cell : Row → Exp → Row
with_cell row e = and_cells row (Cell e RowEnd)

abbrev pub with_row : Rows → Row → Rows
with_row rows row = and_rows rows (RowOn row NoRows)

abbrev pub with_statement : Block → Sta → Block
with_statement b s = and_block b (Next s Done)

abbrev pub with_arm : Arms → Exp → Block → Arms
with_arm arms condition body = and_arms arms (Arm condition body NoArms)

abbrev pub fun_of : Header → Block → Fun
fun_of h b = record { name = h.name; inputs = h.inputs; outputs = h.outputs; body = b }

abbrev pub with_fun : List Fun → Header → Block → List Fun
with_fun fs h b = fs ++ fun_of h b ∷ []

abbrev pub ident_at : Place → List ℕ → Ident
ident_at at text = record { text = text; place = at }

-- whether the parentheses of a name stand round what comes
abbrev pub for_argument : Purpose → Bool
for_argument (Argument u at text opens args) = true
for_argument _ = false

abbrev pub is_call : Frame → Bool
is_call (Call at text opens args) = true
is_call _ = false

abbrev pub inside : Stack → Purpose → Bool
inside [] k = for_argument k
inside (Call at text opens args ∷ st) k = true
inside (f ∷ st) k = inside st k

-- the expression with its frame round it
abbrev pub closed : Frame → Exp → Exp
closed (Sign at sign) e = Unary at sign e
closed (ExponentSign at sign) e = Unary at sign e
closed (Right at op a) e = Binary at op a e
closed (Inside at) e = Paren at e
closed (Call at text opens args) e = Apply at text opens (with_item args e)
closed (To at first) e = Range at first e
closed (ByTo at first step) e = RangeBy at first step e
closed (Cells at rows row) e = Matrix at (with_row rows (with_cell row e))

-- an operand, and what waits for it
pub record Operand : Type 0 where
  pub is : Exp
  pub under : Stack

-- each frame that a word of this tightness ends is closed
abbrev pub settle : ℕ → Exp → Stack → Operand
settle r e [] = record { is = e; under = [] }
settle r e (f ∷ st) = if nat_lt r (level f) then settle r (closed f e) st else record { is = e; under = f ∷ st }

-- where an argument is read
unfoldable pub caller_stack : Caller → Place → List ℕ → Place → Args → Stack
caller_stack (InValue st k) at text opens args = Call at text opens args ∷ st
caller_stack (InStatement u) at text opens args = []

unfoldable pub caller_purpose : Caller → Place → List ℕ → Place → Args → Purpose
caller_purpose (InValue st k) at text opens args = k
caller_purpose (InStatement u) at text opens args = Argument u at text opens args

-- an argument is owed
abbrev pub need_in : Caller → Place → List ℕ → Place → Args → State
need_in c at text opens args = Need (caller_stack c at text opens args) (caller_purpose c at text opens args)

-- behind the arguments of a statement
unfoldable pub used : Use → Place → List ℕ → Place → Args → State
used (Target b out) at text opens NoArgs = Stuck
used (Target b out) at text opens args = Subscripted b (ident_at at text) opens args out
used (Callee b targets out) at text opens args = After (with_statement b (Multi targets (Apply at text opens args))) out

-- behind the arguments of a name
unfoldable pub applied : Caller → Place → List ℕ → Place → Args → State
applied (InValue st k) at text opens args = Have (Apply at text opens args) st k
applied (InStatement u) at text opens args = used u at text opens args

-- a word behind an argument
unfoldable pub argued : Word → Exp → Caller → Place → List ℕ → Place → Args → State
argued word.Close e c at text opens args = applied c at text opens (with_item args e)
argued word.Comma e c at text opens args = need_in c at text opens (with_item args e)
argued _ e c at text opens args = Stuck

unfoldable pub with_sign : Place → UnOp → Stack → Purpose → State
with_sign at sign st k = if nat_le (top st) 8 then Need (Sign at sign ∷ st) k else Need (ExponentSign at sign ∷ st) k

unfoldable pub with_infix : Place → Option UnOp → Stack → Purpose → State
with_infix at (Some sign) st k = with_sign at sign st k
with_infix at None st k = Stuck

unfoldable pub with_text : Place → Option (List ℕ) → Stack → Purpose → State
with_text at (Some text) st k = Have (Words at text) st k
with_text at None st k = Stuck

unfoldable pub with_end : Place → Stack → Purpose → State
with_end at st k = if inside st k then Have (End at) st k else Stuck

unfoldable pub argument_colon : Purpose → State
argument_colon (Argument u at text opens args) = Listed (InStatement u) at text opens (with_whole args)
argument_colon _ = Stuck

unfoldable pub with_colon_item : Stack → Purpose → State
with_colon_item (Call at text opens args ∷ st) k = Listed (InValue st k) at text opens (with_whole args)
with_colon_item [] k = argument_colon k
with_colon_item _ k = Stuck

-- a word where an operand has to come; own is its token's text
unfoldable pub need : Place → Word → List ℕ → Stack → Purpose → State
need at word.Number own st k = Have (Number at (digits_of own) (has_unit own)) st k
need at word.Quoted own st k = with_text at (unquoted own) st k
need at word.Name own st k = Have (Name at own) st k
need at (word.Infix op) own st k = with_infix at (sign_of op) st k
need at word.Tilde own st k = with_sign at un.Not st k
need at word.Open own st k = Need (Inside at ∷ st) k
need at word.OpenSquare own st k = Between at NoRows st k
need at word.End own st k = with_end at st k
need at word.Colon own st k = with_colon_item st k
need at _ own st k = Stuck

unfoldable pub begun : Caller → Place → List ℕ → Place → Place → Word → List ℕ → State
begun c name text opens at word.Close own = applied c name text opens NoArgs
begun c name text opens at w own = need at w own (caller_stack c name text opens NoArgs) (caller_purpose c name text opens NoArgs)

unfoldable pub listed : Caller → Place → List ℕ → Place → Args → Word → State
listed c name text opens args word.Close = applied c name text opens args
listed c name text opens args word.Comma = need_in c name text opens args
listed c name text opens args _ = Stuck

unfoldable pub between : Place → Rows → Place → Word → List ℕ → Stack → Purpose → State
between opens rows at word.Semicolon own st k = Between opens rows st k
between opens rows at word.Newline own st k = Between opens rows st k
between opens rows at word.Comma own st k = Bare opens rows st k
between opens rows at word.CloseSquare own st k = Have (Matrix opens rows) st k
between opens rows at w own st k = need at w own (Cells opens rows RowEnd ∷ st) k

unfoldable pub bare : Place → Rows → Word → Stack → Purpose → State
bare opens rows word.Semicolon st k = Between opens rows st k
bare opens rows word.Newline st k = Between opens rows st k
bare opens rows word.CloseSquare st k = Have (Matrix opens rows) st k
bare opens rows _ st k = Stuck

unfoldable pub gap : Place → Rows → Row → Place → Word → List ℕ → Stack → Purpose → State
gap opens rows row at word.Semicolon own st k = Between opens (with_row rows row) st k
gap opens rows row at word.Newline own st k = Between opens (with_row rows row) st k
gap opens rows row at word.CloseSquare own st k = Have (Matrix opens (with_row rows row)) st k
gap opens rows row at w own st k = need at w own (Cells opens rows row ∷ st) k

-- a word behind an element of a row; row has the element
unfoldable pub celled : Word → Place → Rows → Row → Stack → Purpose → State
celled word.Comma opens rows row st k = Gap opens rows row st k
celled word.Separator opens rows row st k = Need (Cells opens rows row ∷ st) k
celled word.Semicolon opens rows row st k = Between opens (with_row rows row) st k
celled word.Newline opens rows row st k = Between opens (with_row rows row) st k
celled word.CloseSquare opens rows row st k = Have (Matrix opens (with_row rows row)) st k
celled _ opens rows row st k = Stuck

-- the body of a function ends
unfoldable pub body_end : Mode → List Fun → State
body_end mode.Unended fs = Stuck
body_end _ fs = Top mode.Ended fs

unfoldable pub body_next : Mode → List Fun → State
body_next mode.Ended fs = Stuck
body_next _ fs = Heading mode.Unended fs

unfoldable pub body_finish : Mode → List Fun → State
body_finish mode.Ended fs = Stuck
body_finish _ fs = Complete fs

unfoldable pub arm_ended : Word → Block → Place → Arms → Around → State
arm_ended word.ElseIf before at arms out = Need [] (ArmTest before at arms out)
arm_ended word.Else before at arms out = Within Done (ElseBody before at arms out)
arm_ended word.End before at arms out = After (with_statement before (IfOnly at arms)) out
arm_ended _ before at arms out = Stuck

-- an `end`, behind which this statement is read
unfoldable pub statement_ended : Word → Block → Sta → Around → State
statement_ended word.End before s out = After (with_statement before s) out
statement_ended _ before s out = Stuck

unfoldable pub body_ended : Word → Mode → List Fun → State
body_ended word.End mode fs = body_end mode fs
body_ended word.Function mode fs = body_next mode fs
body_ended word.Finish mode fs = body_finish mode fs
body_ended _ mode fs = Stuck

-- a word that ends a block
unfoldable pub block_ended : Word → Block → Around → State
block_ended w b (IfBody before at arms condition out) = arm_ended w before at (with_arm arms condition b) out
block_ended w b (ElseBody before at arms out) = statement_ended w before (IfElse at arms b) out
block_ended w b (WhileBody before at condition out) = statement_ended w before (WhileTrue at condition b) out
block_ended w b (ForBody before at to range out) = statement_ended w before (ForEach at to range b) out
block_ended w b (FunBody mode fs h) = body_ended w mode (with_fun fs h b)

unfoldable pub within : Place → Word → List ℕ → Block → Around → State
within at word.Newline own b out = Within b out
within at word.Semicolon own b out = Within b out
within at word.Comma own b out = Within b out
within at word.Name own b out = Named b (ident_at at own) out
within at word.OpenSquare own b out = Edge (Targets b out)
within at word.If own b out = Need [] (ArmTest b at NoArms out)
within at word.For own b out = Looping b at out
within at word.While own b out = Need [] (WhileTest b at out)
within at word.Break own b out = After (with_statement b (BreakOff at)) out
within at word.Continue own b out = After (with_statement b (GoOn at)) out
within at w own b out = block_ended w b out

unfoldable pub after : Word → Block → Around → State
after word.Newline b out = Within b out
after word.Semicolon b out = Within b out
after word.Comma b out = Within b out
after w b out = block_ended w b out

-- a word behind a whole expression
unfoldable pub purposed : Place → Word → List ℕ → Exp → Purpose → State
purposed at w own e (AssignTo b to out) = after w (with_statement b (Assign to e)) out
purposed at w own e (StoreTo b to opens args out) = after w (with_statement b (Store to opens args e)) out
purposed at w own e (ArmTest b place arms out) = within at w own Done (IfBody b place arms e out)
purposed at w own e (WhileTest b place out) = within at w own Done (WhileBody b place e out)
purposed at w own e (ForRange b place to out) = within at w own Done (ForBody b place to e out)
purposed at w own e (Argument u name text opens args) = argued w e (InStatement u) name text opens args

unfoldable pub closing : Word → Exp → Place → Stack → Purpose → State
closing word.Close e opens st k = Have (Paren opens e) st k
closing _ e opens st k = Stuck

-- a word that ends an operand in this frame
unfoldable pub ended_in : Word → Exp → Frame → Stack → Purpose → State
ended_in w e (Inside opens) st k = closing w e opens st k
ended_in w e (Call name text opens args) st k = argued w e (InValue st k) name text opens args
ended_in w e (Cells opens rows row) st k = celled w opens rows (with_cell row e) st k
ended_in w e _ st k = Stuck

-- a word that ends an operand
unfoldable pub ended : Place → Word → List ℕ → Exp → Stack → Purpose → State
ended at w own e [] k = purposed at w own e k
ended at w own e (f ∷ st) k = ended_in w e f st k

unfoldable pub with_operator : Place → BinOp → Exp → Stack → Purpose → State
with_operator at op e st k = if nat_le (rank op) (rank_of e) then Need (Right at op e ∷ st) k else Stuck

unfoldable pub with_turn : Place → PostOp → Exp → Stack → Purpose → State
with_turn at mark e st k = if nat_le 10 (rank_of e) then Have (Post at mark e) st k else Stuck

unfoldable pub with_to : Place → Exp → Stack → Purpose → State
with_to at e st k = if nat_le 6 (rank_of e) then Need (To at e ∷ st) k else Stuck

unfoldable pub with_by : Place → Exp → Exp → Stack → Purpose → State
with_by opens first e st k = if nat_le 6 (rank_of e) then Need (ByTo opens first e ∷ st) k else Stuck

unfoldable pub with_colon : Place → Exp → Stack → Purpose → State
with_colon at e (To opens first ∷ st) k = with_by opens first e st k
with_colon at e (ByTo opens first step ∷ st) k = Stuck
with_colon at e (Right opens op a ∷ st) k = if nat_le (rank op + 1) 5 then with_to at e (Right opens op a ∷ st) k else Stuck
with_colon at e (Sign opens sign ∷ st) k = Stuck
with_colon at e (ExponentSign opens sign ∷ st) k = Stuck
with_colon at e st k = with_to at e st k

unfoldable pub with_open : Place → Exp → Stack → Purpose → State
with_open at (Name place text) st k = Begun (InValue st k) place text at
with_open at _ st k = Stuck

-- a word behind an operand that it doesn't end
unfoldable pub have : Place → Word → List ℕ → Exp → Stack → Purpose → State
have at (word.Infix op) own e st k = with_operator at op e st k
have at (word.Turn mark) own e st k = with_turn at mark e st k
have at word.Open own e st k = with_open at e st k
have at word.Colon own e st k = with_colon at e st k
have at w own e st k = ended at w own e st k

unfoldable pub named : Word → Place → Block → Ident → Around → State
named word.Equal at b to out = Need [] (AssignTo b to out)
named word.Open at b to out = Need [] (Argument (Target b out) to.place to.text at NoArgs)
named _ at b to out = Stuck

unfoldable pub subscripted : Word → Block → Ident → Place → Args → Around → State
subscripted word.Equal b to opens args out = Need [] (StoreTo b to opens args out)
subscripted _ b to opens args out = Stuck

unfoldable pub targeted : Word → Block → List Ident → Around → State
targeted word.Equal b targets out = Calling b targets out
targeted _ b targets out = Stuck

unfoldable pub calling : Place → Word → List ℕ → Block → List Ident → Around → State
calling at word.Name own b targets out = Called b targets at own out
calling at _ own b targets out = Stuck

unfoldable pub called : Place → Word → Block → List Ident → Place → List ℕ → Around → State
called at word.Open b targets name text out = Begun (InStatement (Callee b targets out)) name text at
called at w b targets name text out = after w (with_statement b (Multi targets (Name name text))) out

unfoldable pub looping : Place → Word → List ℕ → Block → Place → Around → State
looping at word.Name own b for_at out = Looped b for_at (ident_at at own) out
looping at _ own b for_at out = Stuck

unfoldable pub looped : Word → Block → Place → Ident → Around → State
looped word.Equal b at to out = Need [] (ForRange b at to out)
looped _ b at to out = Stuck

-- behind a bracket of names
unfoldable pub names_closed : Lister → List Ident → State
names_closed (Outputs mode fs) names = HeadOut mode fs names
names_closed (Targets b out) names = Targeted b names out

unfoldable pub edge : Place → Word → List ℕ → Lister → State
edge at word.Name own l = Listing l (ident_at at own ∷ [])
edge at word.Comma own l = EdgeComma l
edge at word.Semicolon own l = Edge l
edge at word.Newline own l = Edge l
edge at _ own l = Stuck

unfoldable pub edge_comma : Word → Lister → State
edge_comma word.Semicolon l = Edge l
edge_comma word.Newline l = Edge l
edge_comma _ l = Stuck

unfoldable pub listing : Word → Lister → List Ident → State
listing word.Comma l names = ListComma l names
listing word.Separator l names = ListNext l names
listing word.Semicolon l names = Tail l names
listing word.Newline l names = Tail l names
listing word.CloseSquare l names = names_closed l names
listing _ l names = Stuck

unfoldable pub list_comma : Place → Word → List ℕ → Lister → List Ident → State
list_comma at word.Name own l names = Listing l (names ++ ident_at at own ∷ [])
list_comma at word.Semicolon own l names = Tail l names
list_comma at word.Newline own l names = Tail l names
list_comma at word.CloseSquare own l names = names_closed l names
list_comma at _ own l names = Stuck

unfoldable pub list_next : Place → Word → List ℕ → Lister → List Ident → State
list_next at word.Name own l names = Listing l (names ++ ident_at at own ∷ [])
list_next at _ own l names = Stuck

unfoldable pub tail : Word → Lister → List Ident → State
tail word.Comma l names = TailComma l names
tail word.Semicolon l names = Tail l names
tail word.Newline l names = Tail l names
tail word.CloseSquare l names = names_closed l names
tail _ l names = Stuck

unfoldable pub tail_comma : Word → Lister → List Ident → State
tail_comma word.Semicolon l names = Tail l names
tail_comma word.Newline l names = Tail l names
tail_comma word.CloseSquare l names = names_closed l names
tail_comma _ l names = Stuck

unfoldable pub between_functions : Word → Mode → List Fun → State
between_functions word.Newline mode fs = Top mode fs
between_functions word.Semicolon mode fs = Top mode fs
between_functions word.Comma mode fs = Top mode fs
between_functions word.Function mode fs = Heading mode fs
between_functions word.Finish mode fs = Complete fs
between_functions _ mode fs = Stuck

unfoldable pub heading : Place → Word → List ℕ → Mode → List Fun → State
heading at word.Name own mode fs = HeadOut mode fs (ident_at at own ∷ [])
heading at word.OpenSquare own mode fs = Edge (Outputs mode fs)
heading at _ own mode fs = Stuck

unfoldable pub head_out : Word → Mode → List Fun → List Ident → State
head_out word.Equal mode fs outputs = HeadEqual mode fs outputs
head_out _ mode fs outputs = Stuck

unfoldable pub head_equal : Place → Word → List ℕ → Mode → List Fun → List Ident → State
head_equal at word.Name own mode fs outputs = HeadName mode fs outputs (ident_at at own)
head_equal at _ own mode fs outputs = Stuck

-- behind a whole header
unfoldable pub headed : Word → Mode → List Fun → Header → State
headed word.Newline mode fs h = Within Done (FunBody mode fs h)
headed word.Semicolon mode fs h = Within Done (FunBody mode fs h)
headed word.Comma mode fs h = Within Done (FunBody mode fs h)
headed _ mode fs h = Stuck

abbrev pub header_of : List Ident → Ident → List Ident → Header
header_of outputs name inputs = record { outputs = outputs; name = name; inputs = inputs }

unfoldable pub head_name : Word → Mode → List Fun → List Ident → Ident → State
head_name word.Open mode fs outputs name = Params mode fs outputs name
head_name w mode fs outputs name = headed w mode fs (header_of outputs name [])

unfoldable pub params : Place → Word → List ℕ → Mode → List Fun → List Ident → Ident → State
params at word.Name own mode fs outputs name = Param mode fs (header_of outputs name (ident_at at own ∷ []))
params at word.Close own mode fs outputs name = Headed mode fs (header_of outputs name [])
params at _ own mode fs outputs name = Stuck

unfoldable pub param : Word → Mode → List Fun → Header → State
param word.Comma mode fs h = ParamComma mode fs h
param word.Close mode fs h = Headed mode fs h
param _ mode fs h = Stuck

unfoldable pub param_comma : Place → Word → List ℕ → Mode → List Fun → Header → State
param_comma at word.Name own mode fs h = Param mode fs (header_of h.outputs h.name (h.inputs ++ ident_at at own ∷ []))
param_comma at _ own mode fs h = Stuck

-- the machine at one more word
abbrev pub go : State → Place → Word → List ℕ → State
go (Need st k) at w own = need at w own st k
go (Begun c name text opens) at w own = begun c name text opens at w own
go (Listed c name text opens args) at w own = listed c name text opens args w
go (Between opens rows st k) at w own = between opens rows at w own st k
go (Bare opens rows st k) at w own = bare opens rows w st k
go (Gap opens rows row st k) at w own = gap opens rows row at w own st k
go (Have e st k) at w own = have at w own (settle (tightness w) e st).is (settle (tightness w) e st).under k
go (Within b out) at w own = within at w own b out
go (After b out) at w own = after w b out
go (Named b to out) at w own = named w at b to out
go (Subscripted b to opens args out) at w own = subscripted w b to opens args out
go (Targeted b targets out) at w own = targeted w b targets out
go (Calling b targets out) at w own = calling at w own b targets out
go (Called b targets name text out) at w own = called at w b targets name text out
go (Looping b place out) at w own = looping at w own b place out
go (Looped b place to out) at w own = looped w b place to out
go (Edge l) at w own = edge at w own l
go (EdgeComma l) at w own = edge_comma w l
go (Listing l names) at w own = listing w l names
go (ListComma l names) at w own = list_comma at w own l names
go (ListNext l names) at w own = list_next at w own l names
go (Tail l names) at w own = tail w l names
go (TailComma l names) at w own = tail_comma w l names
go (Top mode fs) at w own = between_functions w mode fs
go (Heading mode fs) at w own = heading at w own mode fs
go (HeadOut mode fs outputs) at w own = head_out w mode fs outputs
go (HeadEqual mode fs outputs) at w own = head_equal at w own mode fs outputs
go (HeadName mode fs outputs name) at w own = head_name w mode fs outputs name
go (Params mode fs outputs name) at w own = params at w own mode fs outputs name
go (Param mode fs h) at w own = param w mode fs h
go (ParamComma mode fs h) at w own = param_comma at w own mode fs h
go (Headed mode fs h) at w own = headed w mode fs h
go (Complete fs) at w own = Stuck
go Stuck at w own = Stuck

-- the machine at one more token
abbrev pub step : State → Lexeme → State
step q t = go q t.place (word_of t.kind t.text) t.text

abbrev pub finish : State → Option (List Fun)
finish (Complete fs) = Some fs
finish _ = None

abbrev pub steps : State → List Lexeme → State
steps q [] = q
steps q (t ∷ ts) = steps (step q t) ts

abbrev pub run : State → List Lexeme → Option (List Fun)
run q ts = finish (steps q ts)

-- what the machine is in at the beginning, and after the tokens
abbrev pub start : State
start = Top mode.Unknown []

abbrev pub state : List Lexeme → State
state ts = steps start ts
