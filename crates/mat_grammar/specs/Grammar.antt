-- Which token lists a file has.
use Rattle.std.specs.Prelude.{◌≡◌, ◌≢◌, ◌<◌, ◌≤◌, ℕ, ◌+◌, Bool, true, false, List, [], ◌∷◌, ◌++◌, codes, length, take}
use Rattle.fic_base.specs.declared.place.Place.{Place}
use Rattle.mat_ast.specs.declared.tree.BinOp.{BinOp}
use Rattle.mat_ast.specs.declared.tree.BinOp.TheVariants as bin
use Rattle.mat_ast.specs.declared.tree.Ident.{Ident}
use Rattle.mat_ast.specs.Tree.{Exp, Number, Words, Name, Apply, End, Unary, Binary, Post, Range, RangeBy, Paren, Matrix, Args, NoArgs, Whole, Item, Row, RowEnd, Cell, Rows, NoRows, RowOn, Sta, Assign, Store, Multi, IfOnly, IfElse, ForEach, WhileTrue, BreakOff, GoOn, Arms, NoArms, Arm, Block, Done, Next, Fun}
use Rattle.mat_ast.specs.Depth.{file_depth}
use Rattle.mat_token.specs.declared.token.Kind.TheVariants as kind
use Rattle.mat_token.specs.Lexeme.{Lexeme}
use Rattle.mat_grammar.specs.Lang.{Lang, ◌▸◌, ◌or◌, nothing, never, given, maybe, many, one_at, any_of, op, op_at, keyword, keyword_at}
use Rattle.mat_grammar.specs.Spelling.{unary_text, post_text, binary_text, has_unit, quoted}

-- How tightly an operator binds. Expressions have these levels too: 0 is any expression, 5 a range, 8 a sign, 9 a power with a signed
-- exponent, 10 another power or a transpose, and 11 what needs no parentheses anywhere.
abbrev pub rank : BinOp → ℕ
rank bin.OrOr = 0
rank bin.AndAnd = 1
rank bin.Or = 2
rank bin.And = 3
rank bin.Eq = 4
rank bin.Ne = 4
rank bin.Lt = 4
rank bin.Le = 4
rank bin.Gt = 4
rank bin.Ge = 4
rank bin.Add = 6
rank bin.Sub = 6
rank bin.Mul = 7
rank bin.ElemMul = 7
rank bin.Div = 7
rank bin.ElemDiv = 7
rank bin.LeftDiv = 7
rank bin.ElemLeftDiv = 7
rank bin.Pow = 10
rank bin.ElemPow = 10

-- what may stand right of an operator: what binds tighter, and right of a power also signs
abbrev pub right_of : BinOp → (ℕ → Lang) → Lang → Lang
right_of bin.Pow at_level signed = at_level 11 or signed
right_of bin.ElemPow at_level signed = at_level 11 or signed
right_of operator at_level signed = at_level (rank operator + 1)

-- the level of an operator with this right operand
abbrev pub rank_with : BinOp → Exp → ℕ
rank_with bin.Pow (Unary at sign e) = 9
rank_with bin.ElemPow (Unary at sign e) = 9
rank_with operator right = rank operator

-- a number: the `i` or `j` of an imaginary one is no part of its digits
abbrev pub number_at : Place → List ℕ → Bool → Lang
number_at at digits true = one_at at kind.Number (digits ++ codes "i") or one_at at kind.Number (digits ++ codes "j")
number_at at digits false = given (has_unit digits ≡ false) (one_at at kind.Number digits)

-- a text, in quotes of either kind
abbrev pub words_at : Place → List ℕ → Lang
words_at at text = one_at at kind.Words (quoted 39 text) or one_at at kind.Words (quoted 34 text)

-- what stands between two elements of a bracket
abbrev pub comma : Lang
comma = op (codes ",") or any_of kind.Separator

-- the end of a row; a comma directly before it is ignored
abbrev pub row_break : Lang
row_break = maybe (op (codes ",")) ▸ (op (codes ";") or any_of kind.Newline)

-- the end of a bracket; row ends and a comma directly before it are ignored
abbrev pub bracket_end : Lang
bracket_end = many row_break ▸ maybe (op (codes ",")) ▸ op (codes "]")

abbrev mutual
  -- an expression of this level or above; inside is whether the parentheses of a name stand round it
  pub expression : Bool → ℕ → Exp → Lang
  expression inside level (Number at digits imaginary) = number_at at digits imaginary
  expression inside level (Words at text) = words_at at text
  expression inside level (Name at text) = one_at at kind.Name text
  expression inside level (Apply at text opens args) = one_at at kind.Name text ▸ op_at opens (codes "(") ▸ arguments args ▸ op (codes ")")
  expression inside level (End at) = given (inside ≡ true) (keyword_at at (codes "end"))
  expression inside level (Unary at sign e) = given (level ≤ 8) (op_at at (unary_text sign) ▸ expression inside 8 e)
  expression inside level (Binary at operator a b) =
      given (level ≤ rank_with operator b)
      (expression inside (rank operator) a ▸ op_at at (binary_text operator) ▸ right_of operator (λ l. expression inside l b) (exponent inside b))
  expression inside level (Post at transpose e) = given (level ≤ 10) (expression inside 10 e ▸ op_at at (post_text transpose))
  expression inside level (Range at first last) = given (level ≤ 5) (expression inside 6 first ▸ op_at at (codes ":") ▸ expression inside 6 last)
  expression inside level (RangeBy at first step last) =
      given (level ≤ 5) (expression inside 6 first ▸ op_at at (codes ":") ▸ expression inside 6 step ▸ op (codes ":") ▸ expression inside 6 last)
  expression inside level (Paren at e) = op_at at (codes "(") ▸ expression inside 0 e ▸ op (codes ")")
  expression inside level (Matrix at rows) = op_at at (codes "[") ▸ many row_break ▸ matrix inside rows

  -- a signed exponent: one sign or more, and then what needs no parentheses
  pub exponent : Bool → Exp → Lang
  exponent inside (Unary at sign e) = op_at at (unary_text sign) ▸ (expression inside 11 e or exponent inside e)
  exponent inside _ = never

  -- what stands in the parentheses of a name
  pub arguments : Args → Lang
  arguments NoArgs = nothing
  arguments (Whole more) = op (codes ":") ▸ more_arguments more
  arguments (Item e more) = expression true 0 e ▸ more_arguments more

  -- arguments, each with the comma before it
  pub more_arguments : Args → Lang
  more_arguments NoArgs = nothing
  more_arguments (Whole more) = op (codes ",") ▸ op (codes ":") ▸ more_arguments more
  more_arguments (Item e more) = op (codes ",") ▸ expression true 0 e ▸ more_arguments more

  -- a row, which has an element or more
  pub cells : Bool → Row → Lang
  cells inside RowEnd = never
  cells inside (Cell e more) = expression inside 0 e ▸ more_cells inside more

  -- elements, each with the comma before it
  pub more_cells : Bool → Row → Lang
  more_cells inside RowEnd = nothing
  more_cells inside (Cell e more) = comma ▸ expression inside 0 e ▸ more_cells inside more

  -- the rows of a bracket behind its first row ends, and its end
  pub matrix : Bool → Rows → Lang
  matrix inside NoRows = maybe (op (codes ",")) ▸ op (codes "]")
  matrix inside (RowOn r more) = cells inside r ▸ more_rows inside more

  -- rows, each with the row ends before it, and the bracket's end
  pub more_rows : Bool → Rows → Lang
  more_rows inside NoRows = bracket_end
  more_rows inside (RowOn r more) = row_break ▸ many row_break ▸ cells inside r ▸ more_rows inside more

-- what separates statements
abbrev pub separator : Lang
separator = any_of kind.Newline or op (codes ";") or op (codes ",")

-- a name that is declared or assigned
abbrev pub ident : Ident → Lang
ident name = one_at name.place kind.Name name.text

-- names, each with what stands before it
abbrev pub more_idents : Lang → List Ident → Lang
more_idents between [] = nothing
more_idents between (name ∷ names) = between ▸ ident name ▸ more_idents between names

-- a name or more
abbrev pub idents : Lang → List Ident → Lang
idents between [] = never
idents between (name ∷ names) = ident name ▸ more_idents between names

-- a bracket of names
abbrev pub name_list : List Ident → Lang
name_list names = op (codes "[") ▸ many row_break ▸ idents comma names ▸ bracket_end

-- a call, as the right side of an assignment to a bracket of names
abbrev pub call : Exp → Lang
call (Name at text) = one_at at kind.Name text
call (Apply at text opens args) = one_at at kind.Name text ▸ op_at opens (codes "(") ▸ arguments args ▸ op (codes ")")
call _ = never

abbrev mutual
  pub statement : Sta → Lang
  statement (Assign to value) = ident to ▸ op (codes "=") ▸ expression false 0 value
  statement (Store to opens args value) =
      ident to ▸ op_at opens (codes "(") ▸ given (args ≢ NoArgs) (arguments args) ▸ op (codes ")") ▸ op (codes "=") ▸ expression false 0 value
  statement (Multi targets value) = name_list targets ▸ op (codes "=") ▸ call value
  statement (IfOnly at arms) = first_arm at arms ▸ keyword (codes "end")
  statement (IfElse at arms other) = first_arm at arms ▸ keyword (codes "else") ▸ block other ▸ keyword (codes "end")
  statement (ForEach at to range body) =
      keyword_at at (codes "for") ▸ ident to ▸ op (codes "=") ▸ expression false 0 range ▸ block body ▸ keyword (codes "end")
  statement (WhileTrue at condition body) =
      keyword_at at (codes "while") ▸ expression false 0 condition ▸ block body ▸ keyword (codes "end")
  statement (BreakOff at) = keyword_at at (codes "break")
  statement (GoOn at) = keyword_at at (codes "continue")

  -- the arm of an `if`, and its other arms
  pub first_arm : Place → Arms → Lang
  first_arm at NoArms = never
  first_arm at (Arm condition body more) = keyword_at at (codes "if") ▸ expression false 0 condition ▸ block body ▸ more_arms more

  pub more_arms : Arms → Lang
  more_arms NoArms = nothing
  more_arms (Arm condition body more) = keyword (codes "elseif") ▸ expression false 0 condition ▸ block body ▸ more_arms more

  pub block : Block → Lang
  block Done = many separator
  block (Next s more) = many separator ▸ statement s ▸ more_statements more

  -- statements, each with the separators before it
  pub more_statements : Block → Lang
  more_statements Done = many separator
  more_statements (Next s more) = separator ▸ many separator ▸ statement s ▸ more_statements more

-- the inputs of a header
abbrev pub header_inputs : List Ident → Lang
header_inputs [] = maybe (op (codes "(") ▸ op (codes ")"))
header_inputs names = op (codes "(") ▸ idents (op (codes ",")) names ▸ op (codes ")")

-- the outputs of a header: a name, or a bracket of names
abbrev pub header_outputs : List Ident → Lang
header_outputs (name ∷ []) = ident name or name_list (name ∷ [])
header_outputs names = name_list names

-- how a function ends, by whether the functions have their `end`
abbrev pub function_end : Bool → Lang
function_end true = keyword (codes "end") ▸ many separator
function_end false = nothing

-- what stands between `function` and the body
abbrev pub header : List Ident → Ident → List Ident → Lang
header outputs name inputs = header_outputs outputs ▸ op (codes "=") ▸ ident name ▸ header_inputs inputs

abbrev pub function : Bool → Fun → Lang
function ended f = keyword (codes "function") ▸ header f.outputs f.name f.inputs ▸ separator ▸ block f.body ▸ function_end ended

-- functions, all with their `end` or all without
abbrev pub functions : Bool → List Fun → Lang
functions ended [] = nothing
functions ended (f ∷ fs) = function ended f ▸ functions ended fs

-- the token lists of a file's tree
abbrev pub file : List Fun → Lang
file fs = many separator ▸ (functions true fs or functions false fs) ▸ any_of kind.Finish

-- with more tokens it is a file
abbrev pub IsLive : List Lexeme → Type 0
IsLive ts = (more : List Lexeme) × (fs : List Fun) × file fs (ts ++ more) []

-- with more tokens it is a file that is not too deep
abbrev pub IsShallow : List Lexeme → Type 0
IsShallow ts = (more : List Lexeme) × (fs : List Fun) × (file_depth fs ≤ 100) × file fs (ts ++ more) []

-- the token at this index is the first with which the list is no longer shallow
pub record IsBad (ts : List Lexeme) (index : ℕ) : Type 0 where
  pub within : index < length ts
  pub before : IsShallow (take index ts)
  pub with_it : IsShallow (take (index + 1) ts) → ⊥
