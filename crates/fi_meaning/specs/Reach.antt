-- Where names stand, and which functions of a file an entry reaches.
use Rattle.std.specs.Prelude.{◌≡◌, ℕ, Bool, true, false, ◌||◌, List, Some, bytes_eq}
use Rattle.mat_ast.specs.Tree.{Exp, Number, Words, Name, Apply, End, Unary, Binary, Post, Range, RangeBy, Paren, Matrix, Args, NoArgs, Whole, Item, Row, RowEnd, Cell, Rows, NoRows, RowOn, Sta, Assign, Store, Multi, IfOnly, IfElse, ForEach, WhileTrue, BreakOff, GoOn, Arms, NoArms, Arm, Block, Done, Next, Fun}
use Rattle.fi_eval.specs.Meaning.{function_named, names_of, variables_of}
use Rattle.fi_meaning.specs.Expressions.{is_listed}

-- ---- where a name stands

abbrev mutual
  -- as a name that is read or called
  pub in_expression : Exp → List ℕ → Bool
  in_expression (Number at text imaginary) name = false
  in_expression (Words at text) name = false
  in_expression (Name at other) name = bytes_eq name other
  in_expression (Apply at other opens args) name = bytes_eq name other || in_arguments args name
  in_expression (End at) name = false
  in_expression (Unary at sign e) name = in_expression e name
  in_expression (Binary at o a b) name = in_expression a name || in_expression b name
  in_expression (Post at mark e) name = in_expression e name
  in_expression (Range at first last) name = in_expression first name || in_expression last name
  in_expression (RangeBy at first step last) name = in_expression first name || (in_expression step name || in_expression last name)
  in_expression (Paren at e) name = in_expression e name
  in_expression (Matrix at rows) name = in_rows rows name

  pub in_arguments : Args → List ℕ → Bool
  in_arguments NoArgs name = false
  in_arguments (Whole more) name = in_arguments more name
  in_arguments (Item e more) name = in_expression e name || in_arguments more name

  pub in_row : Row → List ℕ → Bool
  in_row RowEnd name = false
  in_row (Cell e more) name = in_expression e name || in_row more name

  pub in_rows : Rows → List ℕ → Bool
  in_rows NoRows name = false
  in_rows (RowOn r more) name = in_row r name || in_rows more name

abbrev mutual
  -- there, or as a target or a loop variable
  pub in_statement : Sta → List ℕ → Bool
  in_statement (Assign to e) name = bytes_eq name to.text || in_expression e name
  in_statement (Store to opens args e) name = bytes_eq name to.text || (in_arguments args name || in_expression e name)
  in_statement (Multi targets e) name = is_listed name (names_of targets) || in_expression e name
  in_statement (IfOnly at arms) name = in_arms arms name
  in_statement (IfElse at arms other) name = in_arms arms name || in_block other name
  in_statement (ForEach at to range body) name = bytes_eq name to.text || (in_expression range name || in_block body name)
  in_statement (WhileTrue at test body) name = in_expression test name || in_block body name
  in_statement (BreakOff at) name = false
  in_statement (GoOn at) name = false

  pub in_arms : Arms → List ℕ → Bool
  in_arms NoArms name = false
  in_arms (Arm test body more) name = in_expression test name || (in_block body name || in_arms more name)

  pub in_block : Block → List ℕ → Bool
  in_block Done name = false
  in_block (Next s more) name = in_statement s name || in_block more name

-- in its body, or as its own name, an input or an output
abbrev pub in_function : Fun → List ℕ → Bool
in_function f name =
    bytes_eq name f.name.text || (is_listed name (names_of f.inputs) || (is_listed name (names_of f.outputs) || in_block f.body name))

-- ---- what an entry reaches

-- the entry's function, and those that one that is reached may call: their names stand in it and are none of its variables
pub data Reached (fs : List Fun) (entry : List ℕ) : Fun → Type 0 where
  Itself : (f : Fun) → function_named fs entry ≡ Some f → Reached fs entry f
  Onward : (f g : Fun) (name : List ℕ) → Reached fs entry f → in_function f name ≡ true → is_listed name (variables_of f) ≡ false → function_named fs name ≡ Some g → Reached fs entry g

-- a name that isn't the entry's and stands in no function that the entry reaches
pub record IsApart (fs : List Fun) (entry name : List ℕ) : Type 0 where
  pub no_entry : bytes_eq name entry ≡ false
  pub no_use : (f : Fun) → Reached fs entry f → in_function f name ≡ false
