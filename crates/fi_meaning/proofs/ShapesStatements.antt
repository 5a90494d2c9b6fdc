-- Statements keep the values of variables sound.
use Rattle.std.proofs.Common.{refl, ℕ, zero, suc, [], length}
use Rattle.std.specs.Prelude.{ℤ, Some, None}
use Rattle.std.specs.List.{AllByRecursion}
use Rattle.fic_base.specs.declared.place.Place.{Place}
use Rattle.mat_ast.specs.Tree.{Exp, Number, Words, Name, Apply, End, Unary, Binary, Post, Range, RangeBy, Paren, Matrix, Sta, Assign, Store, Multi, IfOnly, IfElse, ForEach, WhileTrue, BreakOff, GoOn, Arms, NoArms, Arm, Block, Done, Next}
use Rattle.fi_eval.specs.Outcome.{Got}
use Rattle.fi_values.specs.Sound.{IsSound, Granted, grants, at_wrong}
use Rattle.fi_values.proofs.Holds.{granted_then, granted_wrong, granted_if, granted_any}
use Rattle.fi_values.proofs.Sizes.{scalar_sized}
use Rattle.fi_values.proofs.Stores.{stored_sound}
use Rattle.fi_meaning.specs.Environment.{Env, Flow, assigned}
use Rattle.fi_meaning.specs.Expressions.{Context, is_listed, looped, args_count, site_of, subscript_values}
use Rattle.fi_meaning.specs.Statements.{condition, item_value, is_called, call_outputs, output_values, run, run_arms, run_block}
use Rattle.fi_meaning.proofs.ShapesCalls.{values_sound}
use Rattle.fi_meaning.proofs.ShapesEnvironments.{AreSound, assigned_sound, variable_sound, under_names_sound, LeadsSound, RunsSound, then_sound, behind_sound, items_sound, turns_sound}
use Rattle.fi_meaning.proofs.ShapesExpressions.{CallsSound, value_sound, subscripts_granted, arguments_sound}

item_value_sound : (z : ℤ) → IsSound (item_value z)
item_value_sound z = (scalar_sized, refl)

call_sound : (e : Exp) (cx : Context) (env : Env) (wanted : ℕ) → CallsSound cx.call → AreSound env → Granted (AllByRecursion IsSound) (call_outputs e cx env wanted)
unfolding call_outputs
call_sound (Name at name) cx env wanted calls h = granted_if (is_called cx name) (λ _. calls at name [] wanted tt) (λ _. at_wrong at)
call_sound (Apply at name opens args) cx env wanted calls h =
    granted_if (is_listed name cx.variables)
    (λ _. granted_then (granted_any (subscript_values args cx env at (env name) 0 (args_count args))) (λ vs _. at_wrong at))
    (λ _. granted_then (arguments_sound cx calls env h args at None) (λ vs k.
    granted_if (is_listed name cx.functions) (λ _. calls at name _ wanted (values_sound vs k)) (λ _. at_wrong at)))
call_sound (Number at text imaginary) cx env wanted calls h = at_wrong _
call_sound (Words at text) cx env wanted calls h = at_wrong _
call_sound (End at) cx env wanted calls h = at_wrong _
call_sound (Unary at sign e) cx env wanted calls h = at_wrong _
call_sound (Binary at operator e d) cx env wanted calls h = at_wrong _
call_sound (Post at mark e) cx env wanted calls h = at_wrong _
call_sound (Range at first last) cx env wanted calls h = at_wrong _
call_sound (RangeBy at first step last) cx env wanted calls h = at_wrong _
call_sound (Paren at e) cx env wanted calls h = at_wrong _
call_sound (Matrix at rows) cx env wanted calls h = at_wrong _

outputs_sound : (e : Exp) (cx : Context) (env : Env) (wanted : ℕ) → CallsSound cx.call → AreSound env → Granted (AllByRecursion IsSound) (output_values e cx env wanted)
unfolding output_values
outputs_sound e cx env zero calls h = call_sound e cx env zero calls h
outputs_sound e cx env (suc zero) calls h = granted_then (value_sound cx calls env h e None) (λ v k. grants _ (k, tt))
outputs_sound e cx env (suc (suc k)) calls h = call_sound e cx env (suc (suc k)) calls h

mutual
  run_sound : (s : Sta) (cx : Context) (n : ℕ) → CallsSound cx.call → RunsSound (run s cx n)
  run_sound (Assign to e) cx n calls env h = granted_then (value_sound cx calls env h e None) (λ v k. grants _ (assigned_sound to.text v env k h))
  run_sound (Store to opens args e) cx n calls env h =
      granted_then (value_sound cx calls env h e None) (λ v k.
      granted_then (variable_sound env to.place to.text h) (λ old g.
      granted_then (subscripts_granted cx calls env h args to.place (Some old) 0 (args_count args)) (λ ks _.
      granted_then (granted_any _) (λ subs _.
      granted_then (stored_sound to.place (site_of opens) old subs v g) (λ new f. grants _ (assigned_sound to.text new env f h))))))
  run_sound (Multi targets e) cx n calls env h =
      granted_then (outputs_sound e cx env (length targets) calls h) (λ vs k.
      granted_then (granted_wrong _ (under_names_sound targets vs env k h)) (λ later g. grants _ g))
  run_sound (IfOnly at arms) cx n calls env h = arms_sound arms cx n calls env h (grants _ h)
  run_sound (IfElse at arms other) cx n calls env h = arms_sound arms cx n calls env h (block_sound other cx n calls env h)
  run_sound (ForEach at to range body) cx n calls env h =
      granted_then (granted_any _) (λ zs _.
      granted_then (items_sound zs _ (λ z inner k. block_sound body (looped cx) n calls (assigned to.text (item_value z) inner) (assigned_sound to.text (item_value z) inner (item_value_sound z) k)) env h)
      (λ flow g. behind_sound to.text flow g))
  run_sound (WhileTrue at test body) cx n calls env h = turns_sound n (condition test cx) (run_block body (looped cx) n) (block_sound body (looped cx) n calls) env h
  run_sound (BreakOff at) cx n calls env h = granted_if cx.in_loop (λ _. grants _ h) (λ _. at_wrong at)
  run_sound (GoOn at) cx n calls env h = granted_if cx.in_loop (λ _. grants _ h) (λ _. at_wrong at)

  arms_sound : (arms : Arms) (cx : Context) (n : ℕ) → CallsSound cx.call → (env : Env) → AreSound env → {otherwise : Got Place Flow} → Granted LeadsSound otherwise → Granted LeadsSound (run_arms arms cx n env otherwise)
  arms_sound NoArms cx n calls env h k = k
  arms_sound (Arm test body more) cx n calls env h k =
      granted_then (granted_any (condition test cx env)) (λ t _. granted_if t (λ _. block_sound body cx n calls env h) (λ _. arms_sound more cx n calls env h k))

  pub block_sound : (d : Block) (cx : Context) (n : ℕ) → CallsSound cx.call → RunsSound (run_block d cx n)
  block_sound Done cx n calls env h = grants _ h
  block_sound (Next s more) cx n calls env h = granted_then (run_sound s cx n calls env h) (λ flow k. then_sound flow (run_block more cx n) k (block_sound more cx n calls))
