-- What expressions do.
use Rattle.std.specs.Prelude.{ℕ, suc, ◌+◌, Bool, true, false, not, ◌&&◌, ◌||◌, bytes_eq, List, [], ◌∷◌, codes, Option, Some, None}
use Rattle.std.specs.List.{list_any}
use Rattle.fic_base.specs.declared.place.Place.{Place}
use Rattle.mat_ast.specs.declared.tree.BinOp.{BinOp}
use Rattle.mat_ast.specs.Tree.{Exp, Number, Words, Name, Apply, End, Unary, Binary, Post, Range, RangeBy, Paren, Matrix, Args, NoArgs, Whole, Item, Row, RowEnd, Cell, Rows, NoRows, RowOn}
use Rattle.const_rules.specs.LiteralValues.{literal_of}
use Rattle.num_type.specs.Constants.{Exact}
use Rattle.fi_rules.specs.Options.{◌|>◌}
use Rattle.fi_rules.specs.Value as val
use Rattle.fi_rules.specs.Value.{Val, ComplexNumber, scalar}
use Rattle.fi_eval.specs.Outcome.{Got, Gives, Wrong, ◌>>=◌, or_wrong, when◌then◌else◌}
use Rattle.fi_values.specs.Brackets.{bracket}
use Rattle.fi_values.specs.Logicals.{scalar_truth, truth_value, deciding}
use Rattle.fi_values.specs.Numbers.{nought, whole_value}
use Rattle.fi_values.specs.Ranges.{ranged}
use Rattle.fi_values.specs.Reads.{shape_of, read}
use Rattle.fi_values.specs.Subscripts.{as_subscripts, extent}
use Rattle.fi_values.specs.Transposes.{transposed}
use Rattle.fi_meaning.specs.Calls.{Argument, called_name, values_of}
use Rattle.fi_meaning.specs.Operators.{by_operator, by_sign}
use Rattle.fi_meaning.specs.Environment.{Env, variable}

-- ---- what stays the same over the body of a function

pub record Context : Type 0 where
  -- the names that are variables throughout it
  pub variables : List (List ℕ)
  -- the names of the file's functions
  pub functions : List (List ℕ)
  -- a call of a function of the file, asked for so many outputs
  pub call : Place → List ℕ → List Val → ℕ → Got Place (List Val)
  -- whether a loop stands round it
  pub in_loop : Bool

abbrev pub looped : Context → Context
looped cx = record cx { in_loop = true }

abbrev pub is_listed : List ℕ → List (List ℕ) → Bool
is_listed name names = list_any (bytes_eq name) names

-- an imaginary literal is a complex number
unfoldable pub literal : Bool → Exact → Val
literal true c = ComplexNumber scalar (nought ∷ []) (c ∷ [])
literal false c = val.Number scalar (c ∷ [])

unfoldable pub only : Place → List Val → Got Place Val
only at [] = Wrong at
only at (v ∷ vs) = Gives v

-- a call of a function of the file, or else of a built-in one
abbrev pub called : Context → Place → List ℕ → List Argument → Got Place Val
called cx at name args =
    when is_listed name cx.functions then (cx.call at name (values_of args) 1 >>= only at) else called_name at name args

-- the word true or false itself, where that is no variable and no function of the file
unfoldable pub is_word : List (List ℕ) → List (List ℕ) → Exp → Bool
is_word variables functions (Name at name) =
    (bytes_eq name (codes "true") || bytes_eq name (codes "false")) && not (is_listed name variables || is_listed name functions)
is_word variables functions e = false

-- whether the left operand of an operator that skips decides; one that has no truth doesn't
unfoldable pub decided : Bool → Option Bool → Bool
decided b None = false
decided true (Some t) = t
decided false (Some t) = not t

-- both operands of an operator that skips have a truth, and the left one hasn't decided
unfoldable pub right_decides : Option Bool → Val → Option Val
right_decides left y = left |> (λ t. scalar_truth y |> (λ u. Some (truth_value u)))

-- goes on from the left operand of an operator: it may decide alone
unfoldable pub behind_left : Place → BinOp → Option Bool → Val → Got Place Val → Got Place Val
behind_left at o None x right = right >>= (λ y. or_wrong at (by_operator o x y))
behind_left at o (Some b) x right =
    when decided b (scalar_truth x) then Gives (truth_value b) else (right >>= (λ y. or_wrong at (right_decides (scalar_truth x) y)))

abbrev pub args_count : Args → ℕ
args_count NoArgs = 0
args_count (Whole more) = suc (args_count more)
args_count (Item e more) = suc (args_count more)

-- the number of a fault at an opening parenthesis
abbrev pub site_of : Place → ℕ
site_of opens = opens.offset + 1

abbrev mutual
  -- the value of an expression; ends is what `end` means there
  pub value : Exp → Context → Env → Option ℕ → Got Place Val
  value (Number at text imaginary) cx env ends = or_wrong at (literal_of text) >>= (λ c. Gives (literal imaginary c))
  value (Words at text) cx env ends = Gives (val.Words text)
  value (Name at name) cx env ends = when is_listed name cx.variables then variable env at name else called cx at name []
  value (Apply at name opens args) cx env ends =
      when is_listed name cx.variables
      then (subscript_values args cx env at (env name) 0 (args_count args)
      >>= (λ vs. variable env at name >>= (λ v. or_wrong at (as_subscripts vs) >>= (λ subs. read at (site_of opens) v subs))))
      else (arguments args cx env at ends >>= called cx at name)
  value (End at) cx env ends = or_wrong at ends >>= (λ n. Gives (whole_value n))
  value (Unary at sign e) cx env ends = value e cx env ends >>= (λ v. or_wrong at (by_sign sign v))
  value (Binary at o a b) cx env ends = value a cx env ends >>= (λ x. behind_left at o (deciding o) x (value b cx env ends))
  value (Post at mark e) cx env ends = value e cx env ends >>= (λ v. or_wrong at (transposed mark v))
  value (Range at first last) cx env ends =
      value first cx env ends >>= (λ x. value last cx env ends >>= (λ y. or_wrong at (ranged x (whole_value 1) y)))
  value (RangeBy at first step last) cx env ends =
      value first cx env ends >>= (λ x. value step cx env ends >>= (λ s. value last cx env ends >>= (λ y. or_wrong at (ranged x s y))))
  value (Paren at e) cx env ends = value e cx env ends
  value (Matrix at rows) cx env ends = rows_values rows cx env ends >>= (λ vs. or_wrong at (bracket vs))

  -- the values of subscripts of a variable, none for `:`; all are evaluated before any is tested
  pub subscript_values : Args → Context → Env → Place → Option Val → ℕ → ℕ → Got Place (List (Option Val))
  subscript_values NoArgs cx env at v k many = Gives []
  subscript_values (Whole more) cx env at v k many = subscript_values more cx env at v (suc k) many >>= (λ vs. Gives (None ∷ vs))
  subscript_values (Item e more) cx env at v k many =
      value e cx env (v |> (λ u. Some (extent (shape_of u) k many)))
      >>= (λ x. subscript_values more cx env at v (suc k) many >>= (λ vs. Gives (Some x ∷ vs)))

  -- arguments of a call; there is none for `:`, which is wrong at the call
  pub arguments : Args → Context → Env → Place → Option ℕ → Got Place (List Argument)
  arguments NoArgs cx env at ends = Gives []
  arguments (Whole more) cx env at ends = arguments more cx env at ends >>= (λ vs. Wrong at)
  arguments (Item e more) cx env at ends =
      value e cx env ends
      >>= (λ v. arguments more cx env at ends >>= (λ vs. Gives (record { value = v; is_word = is_word cx.variables cx.functions e } ∷ vs)))

  pub row_values : Row → Context → Env → Option ℕ → Got Place (List Val)
  row_values RowEnd cx env ends = Gives []
  row_values (Cell e more) cx env ends = value e cx env ends >>= (λ v. row_values more cx env ends >>= (λ vs. Gives (v ∷ vs)))

  pub rows_values : Rows → Context → Env → Option ℕ → Got Place (List (List Val))
  rows_values NoRows cx env ends = Gives []
  rows_values (RowOn r more) cx env ends = row_values r cx env ends >>= (λ vs. rows_values more cx env ends >>= (λ rest. Gives (vs ∷ rest)))
