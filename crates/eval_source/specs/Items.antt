-- Arguments and subscripts one by one.
use Rattle.std.specs.Prelude.{ℕ, Bool, true, false, List, [], ◌∷◌, ◌++◌, map, Option, Some, None}
use Rattle.fic_base.specs.declared.place.Place.{Place}
use Rattle.mat_ast.specs.Tree.{Exp}
use Rattle.fi_rules.specs.Value.{Val}
use Rattle.fi_eval.specs.Outcome.{Got, Gives, Wrong, ◌>>=◌}
use Rattle.fi_meaning.specs.Calls.{Argument}
use Rattle.fi_meaning.specs.Environment.{Env}
use Rattle.fi_meaning.specs.Expressions.{Context, value, is_word}
use Rattle.eval_call.specs.View.{argument_view}
use Rattle.eval_source.specs.declared.arguments.Passed as code

-- the value of an item, none for `:`
unfoldable pub item_value : Option Exp → Context → Env → Option ℕ → Got Place (Option Val)
item_value None cx env ends = Gives None
item_value (Some e) cx env ends = value e cx env ends >>= (λ v. Gives (Some v))

-- whether it is the word true or false itself
unfoldable pub word_at : List (List ℕ) → List (List ℕ) → Option Exp → Bool
word_at variables functions None = false
word_at variables functions (Some e) = is_word variables functions e

-- arguments that are evaluated, and whether a `:` stood among them
pub record Passed : Type 0 where
  pub arguments : List Argument
  pub colon : Bool

unfoldable pub with_item : Passed → Option Val → Bool → Passed
with_item p None w = record { arguments = p.arguments; colon = true }
with_item p (Some v) w = record { arguments = p.arguments ++ record { value = v; is_word = w } ∷ []; colon = p.colon }

-- the arguments with those behind them; wrong at the call where a `:` stood
unfoldable pub closed : Place → Passed → List Argument → Got Place (List Argument)
closed at p more = by p.colon
  where
    by : Bool → Got Place (List Argument)
    by true = Wrong at
    by false = Gives (p.arguments ++ more)

abbrev pub passed_view : code.Passed → Passed
passed_view p = record { arguments = map argument_view p.arguments.items; colon = p.colon }
