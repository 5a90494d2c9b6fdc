-- Statements one by one.
use Rattle.std.specs.Prelude.{ℕ, nat_le, Bool, true, false, ℤ, List, length, Option, Some, None}
use Rattle.fic_base.specs.declared.place.Place.{Place}
use Rattle.mat_ast.specs.Tree.{Exp, Block, Arms, NoArms, Arm}
use Rattle.fi_rules.specs.Value.{Val}
use Rattle.fi_eval.specs.Outcome.{Got, Gives, Wrong, ◌>>=◌, when◌then◌else◌}
use Rattle.fi_values.specs.Numbers.{whole_value}
use Rattle.fi_meaning.specs.Environment.{Env, Flow, Went, Broke, Continued, assigned}
use Rattle.fi_meaning.specs.Expressions.{Context, looped, value}
use Rattle.fi_meaning.specs.Statements.{condition, run_block, item_value}
use Rattle.eval_source.specs.declared.flow.Flow as code
use Rattle.eval_source.specs.declared.flow.Flow.TheVariants as flow

-- where a statement leads, with these variables
abbrev pub flow_view : code.Flow → Env → Flow
flow_view flow.Went env = Went env
flow_view flow.Broke env = Broke env
flow_view flow.Continued env = Continued env

abbrev pub leaves : code.Flow → Bool
leaves flow.Went = false
leaves flow.Broke = true
leaves flow.Continued = true

abbrev pub ends_loop : code.Flow → Bool
ends_loop flow.Went = false
ends_loop flow.Broke = true
ends_loop flow.Continued = false

-- what arms of an `if` lead to: where the one that holds leads, or on to the `else`
pub data Armed : Type 0 where
  Held : Flow → Armed
  NoneHeld : Env → Armed

abbrev pub armed_view : Option code.Flow → Env → Armed
armed_view None env = NoneHeld env
armed_view (Some f) env = Held (flow_view f env)

-- a single arm
abbrev pub one_arm : Exp → Block → Context → ℕ → Env → Got Place Armed
one_arm test body cx n env = condition test cx env >>= (λ t. when t then (run_block body cx n env >>= (λ f. Gives (Held f))) else Gives (NoneHeld env))

-- on to the next arm
unfoldable pub next_arm : Armed → (Env → Got Place Armed) → Got Place Armed
next_arm (Held f) more = Gives (Held f)
next_arm (NoneHeld env) more = more env

abbrev pub armed : Arms → Context → ℕ → Env → Got Place Armed
armed NoArms cx n env = Gives (NoneHeld env)
armed (Arm test body more) cx n env = one_arm test body cx n env >>= (λ a. next_arm a (armed more cx n))

-- on to the `else`
unfoldable pub or_else : Armed → (Env → Got Place Flow) → Got Place Flow
or_else (Held f) other = Gives f
or_else (NoneHeld env) other = other env

-- a turn of a `while`: out of the loop where the condition doesn't hold
abbrev pub while_turn : Exp → Block → Context → ℕ → Env → Got Place Flow
while_turn test body cx n env = condition test cx env >>= (λ t. when t then run_block body (looped cx) n env else Gives (Broke env))

-- a turn of a `for`
abbrev pub for_turn : List ℕ → Block → Context → ℕ → ℤ → Env → Got Place Flow
for_turn name body cx n z inner = run_block body (looped cx) n (assigned name (item_value z) inner)

-- the step of a range, 1 where none is written
abbrev pub step_value : Option Exp → Context → Env → Got Place Val
step_value None cx env = Gives (whole_value 1)
step_value (Some e) cx env = value e cx env None

-- at most 1,048,576 items of a loop
abbrev pub within : Place → List ℤ → Got Place (List ℤ)
within to zs = when nat_le (length zs) 1048576 then Gives zs else Wrong to
