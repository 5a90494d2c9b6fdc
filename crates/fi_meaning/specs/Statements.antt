-- What statements do.
use Rattle.std.specs.Prelude.{ℕ, zero, suc, Bool, not, ◌&&◌, nat_le, List, [], ◌∷◌, length, Some, None, ℤ}
use Rattle.fic_base.specs.declared.place.Place.{Place}
use Rattle.mat_ast.specs.Tree.{Exp, Name, Apply, Range, RangeBy, Sta, Assign, Store, Multi, IfOnly, IfElse, ForEach, WhileTrue, BreakOff, GoOn, Arms, NoArms, Arm, Block, Done, Next}
use Rattle.fi_rules.specs.Value as val
use Rattle.fi_rules.specs.Value.{Val, scalar}
use Rattle.fi_eval.specs.Meaning.{place_of}
use Rattle.fi_eval.specs.Outcome.{Got, Gives, Over, Wrong, ◌>>=◌, or_wrong, when◌then◌else◌}
use Rattle.fi_values.specs.Logicals.{truth}
use Rattle.fi_values.specs.Numbers.{constant, whole_value}
use Rattle.fi_values.specs.Ranges.{items_of}
use Rattle.fi_values.specs.Stores.{stored}
use Rattle.fi_values.specs.Subscripts.{as_subscripts}
use Rattle.fi_meaning.specs.Calls.{values_of}
use Rattle.fi_meaning.specs.Expressions.{Context, looped, is_listed, value, arguments, subscript_values, args_count, site_of}
use Rattle.fi_meaning.specs.Environment.{Env, Flow, Went, Broke, Continued, assigned, variable, under_names, then_do, turned, behind_loop}

-- ---- loops, over every type W of wrong places

-- each item in order
abbrev pub each_item : {W A : Type 0} → List A → (A → Env → Got W Flow) → Env → Got W Flow
each_item [] body env = Gives (Went env)
each_item (x ∷ xs) body env = body x env >>= (λ flow. turned flow (each_item xs body))

-- at most n turns: past the bound where the test holds once more
abbrev pub turns : {W : Type 0} → ℕ → (Env → Got W Bool) → (Env → Got W Flow) → Env → Got W Flow
turns zero test body env = test env >>= (λ t. when t then Over else Gives (Went env))
turns (suc n) test body env =
    test env >>= (λ t. when t then (body env >>= (λ flow. turned flow (turns n test body))) else Gives (Went env))

abbrev pub condition : Exp → Context → Env → Got Place Bool
condition e cx env = value e cx env None >>= (λ v. or_wrong (place_of e) (truth v))

-- the items of a range in the head of a loop, at most 1,048,576; another expression is no range
unfoldable pub loop_items : Exp → Place → Context → Env → Got Place (List ℤ)
loop_items (Range at first last) to cx env =
    value first cx env None >>= (λ x. value last cx env None >>= (λ y. or_wrong at (items_of x (whole_value 1) y) >>= within to))
  where
    within : Place → List ℤ → Got Place (List ℤ)
    within to zs = when nat_le (length zs) 1048576 then Gives zs else Wrong to
loop_items (RangeBy at first step last) to cx env =
    value first cx env None
    >>= (λ x. value step cx env None >>= (λ s. value last cx env None >>= (λ y. or_wrong at (items_of x s y) >>= within to)))
  where
    within : Place → List ℤ → Got Place (List ℤ)
    within to zs = when nat_le (length zs) 1048576 then Gives zs else Wrong to
loop_items e to cx env = Wrong to

-- the loop variable as a number
abbrev pub item_value : ℤ → Val
item_value z = val.Number scalar (constant z ∷ [])

-- ---- statements

-- a function of the file
abbrev pub is_called : Context → List ℕ → Bool
is_called cx name = is_listed name cx.functions && not (is_listed name cx.variables)

-- the values of a call of a function of the file that is asked for several outputs; a variable gives no such list
unfoldable pub call_outputs : Exp → Context → Env → ℕ → Got Place (List Val)
call_outputs (Name at name) cx env wanted = when is_called cx name then cx.call at name [] wanted else Wrong at
call_outputs (Apply at name opens args) cx env wanted =
    when is_listed name cx.variables
    then (subscript_values args cx env at (env name) 0 (args_count args) >>= (λ vs. Wrong at))
    else (arguments args cx env at None >>= (λ vs. when is_listed name cx.functions then cx.call at name (values_of vs) wanted else Wrong at))
call_outputs e cx env wanted = Wrong (place_of e)

-- one output is the value of the expression
unfoldable pub output_values : Exp → Context → Env → ℕ → Got Place (List Val)
output_values e cx env (suc zero) = value e cx env None >>= (λ v. Gives (v ∷ []))
output_values e cx env wanted = call_outputs e cx env wanted

abbrev mutual
  -- a statement, with at most n turns of each while
  pub run : Sta → Context → ℕ → Env → Got Place Flow
  run (Assign to e) cx n env = value e cx env None >>= (λ v. Gives (Went (assigned to.text v env)))
  run (Store to opens args e) cx n env =
      value e cx env None
      >>= (λ v. variable env to.place to.text
      >>= (λ old. subscript_values args cx env to.place (Some old) 0 (args_count args)
      >>= (λ ks. or_wrong to.place (as_subscripts ks)
      >>= (λ subs. stored to.place (site_of opens) old subs v >>= (λ new. Gives (Went (assigned to.text new env)))))))
  run (Multi targets e) cx n env =
      output_values e cx env (length targets) >>= (λ vs. or_wrong (place_of e) (under_names targets vs env) >>= (λ later. Gives (Went later)))
  run (IfOnly at arms) cx n env = run_arms arms cx n env (Gives (Went env))
  run (IfElse at arms other) cx n env = run_arms arms cx n env (run_block other cx n env)
  run (ForEach at to range body) cx n env =
      loop_items range to.place cx env
      >>= (λ zs. each_item zs (λ z inner. run_block body (looped cx) n (assigned to.text (item_value z) inner)) env >>= behind_loop to.text)
  run (WhileTrue at test body) cx n env = turns n (condition test cx) (run_block body (looped cx) n) env
  run (BreakOff at) cx n env = when cx.in_loop then Gives (Broke env) else Wrong at
  run (GoOn at) cx n env = when cx.in_loop then Gives (Continued env) else Wrong at

  pub run_arms : Arms → Context → ℕ → Env → Got Place Flow → Got Place Flow
  run_arms NoArms cx n env otherwise = otherwise
  run_arms (Arm test body more) cx n env otherwise =
      condition test cx env >>= (λ t. when t then run_block body cx n env else run_arms more cx n env otherwise)

  pub run_block : Block → Context → ℕ → Env → Got Place Flow
  run_block Done cx n env = Gives (Went env)
  run_block (Next s more) cx n env = run s cx n env >>= (λ flow. then_do flow (run_block more cx n))
