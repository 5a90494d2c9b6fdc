-- What a typed tree does: on the values of evaluation, with each operation's type taken from its node. Nothing is wrong.
use Rattle.std.specs.Prelude.{ℕ, Bool, false, List, [], ◌∷◌, map, Option, Some, None, unwrap_or}
use Rattle.mat_ast.specs.declared.tree.Ident.{Ident}
use Rattle.fi_rules.specs.Value.{Val}
use Rattle.fi_eval.specs.Outcome.{Got, Gives, ◌>>=◌, when◌then◌else◌}
use Rattle.fi_values.specs.Logicals.{truth, deciding}
use Rattle.fi_meaning.specs.Environment.{Env, no_values, assigned, Flow, Went, Broke, Continued, env_of, then_do, behind_loop}
use Rattle.fi_meaning.specs.Statements.{each_item, turns, item_value}
use Rattle.node_rules.specs.Brackets.{bracket_value}
use Rattle.node_rules.specs.Calls.{built_in_value}
use Rattle.node_rules.specs.Logicals.{skipped}
use Rattle.node_rules.specs.Operators.{pair_value}
use Rattle.node_rules.specs.Ranges.{items_at}
use Rattle.node_rules.specs.Signs.{sign_value}
use Rattle.node_rules.specs.Stores.{store_value}
use Rattle.node_rules.specs.Subscripts.{read_value}
use Rattle.node_rules.specs.Transposes.{post_value}
use Rattle.node_rules.specs.Types.{NodeTy, known}
use Rattle.typed_ir.specs.Tree.{Slot, TExp, TNumber, TWords, TRead, TSelect, TBuiltin, TCall, TEnd, TUnary, TBinary, TPost, TRange, TRangeBy, TParen, TMatrix, TArgs, TNoArgs, TAll, TItem, TItems, TNone, TOne, TRows, TNoRows, TRowOn, TSta, TAssign, TStore, TMulti, TIfOnly, TIfElse, TForEach, TWhile, TBreak, TContinue, TArms, TNoArms, TArm, TBlock, TDone, TNext, TFun, Function}

-- ---- names and lists of them

-- the value of a variable; one that is read has a value
abbrev pub held : Env → List ℕ → NodeTy → Val
held env name t = unwrap_or (env name) (known t)

-- the first of the outputs of a call; there is one
abbrev pub first_of : NodeTy → List Val → Val
first_of t [] = known t
first_of t (v ∷ vs) = v

-- values under names, from left to right
abbrev pub under_names : List Ident → List Val → Env → Env
under_names [] vs env = env
under_names (name ∷ names) [] env = env
under_names (name ∷ names) (v ∷ vs) env = under_names names vs (assigned name.text v env)

abbrev pub under_slots : List Slot → List Val → Env → Env
under_slots [] vs env = env
under_slots (s ∷ slots) [] env = env
under_slots (s ∷ slots) (v ∷ vs) env = under_slots slots vs (assigned s.name v env)

abbrev pub values_held : List Slot → Env → List Val
values_held slots env = map (λ (s : Slot). held env s.name s.ty) slots

-- whether the value of a condition is true
abbrev pub holds : Val → Bool
holds v = unwrap_or (truth v) false

-- ---- trees; each `while` makes at most n turns

abbrev mutual
  pub value : TExp → ℕ → Env → Got ⊥ Val
  value (TNumber at t text imaginary) n env = Gives (known t)
  value (TWords at t text) n env = Gives (known t)
  value (TRead at t name) n env = Gives (held env name t)
  value (TSelect at t name site args) n env = subscript_values args n env >>= (λ ks. read_value site t (held env name t) ks)
  value (TBuiltin at t name args) n env = item_values args n env >>= (λ vs. Gives (built_in_value name t vs))
  value (TCall at t callee args outs) n env =
      item_values args n env >>= (λ vs. function_values callee n vs >>= (λ ws. Gives (first_of t ws)))
  value (TEnd at t) n env = Gives (known t)
  value (TUnary at t sign e) n env = value e n env >>= (λ v. Gives (sign_value sign t v))
  value (TBinary at t o a b) n env =
      value a n env >>= (λ v. skipped (deciding o) v (value b n env >>= (λ w. Gives (pair_value o t v w))))
  value (TPost at t mark e) n env = value e n env >>= (λ v. Gives (post_value mark t v))
  value (TRange at t first last) n env = value first n env >>= (λ x. value last n env >>= (λ y. Gives (known t)))
  value (TRangeBy at t first step last) n env =
      value first n env >>= (λ x. value step n env >>= (λ s. value last n env >>= (λ y. Gives (known t))))
  value (TParen at t e) n env = value e n env
  value (TMatrix at t rows) n env = row_values rows n env >>= (λ vs. Gives (bracket_value t vs))

  -- none for `:`
  pub subscript_values : TArgs → ℕ → Env → Got ⊥ (List (Option Val))
  subscript_values TNoArgs n env = Gives []
  subscript_values (TAll more) n env = subscript_values more n env >>= (λ vs. Gives (None ∷ vs))
  subscript_values (TItem e more) n env = value e n env >>= (λ v. subscript_values more n env >>= (λ vs. Gives (Some v ∷ vs)))

  pub item_values : TItems → ℕ → Env → Got ⊥ (List Val)
  item_values TNone n env = Gives []
  item_values (TOne e more) n env = value e n env >>= (λ v. item_values more n env >>= (λ vs. Gives (v ∷ vs)))

  pub row_values : TRows → ℕ → Env → Got ⊥ (List (List Val))
  row_values TNoRows n env = Gives []
  row_values (TRowOn r more) n env = item_values r n env >>= (λ vs. row_values more n env >>= (λ rest. Gives (vs ∷ rest)))

  -- the outputs of a call that is asked for several
  pub output_values : TExp → ℕ → Env → Got ⊥ (List Val)
  output_values (TCall at t callee args outs) n env = item_values args n env >>= (λ vs. function_values callee n vs)
  output_values e n env = Gives []

  pub run : TSta → ℕ → Env → Got ⊥ Flow
  run (TAssign to e) n env = value e n env >>= (λ v. Gives (Went (assigned to.text v env)))
  run (TStore to site args e) n env =
      value e n env >>= (λ v. subscript_values args n env
      >>= (λ ks. store_value site (unwrap_or (env to.text) v) ks v >>= (λ new. Gives (Went (assigned to.text new env)))))
  run (TMulti (to ∷ []) e) n env = value e n env >>= (λ v. Gives (Went (assigned to.text v env)))
  run (TMulti targets e) n env = output_values e n env >>= (λ vs. Gives (Went (under_names targets vs env)))
  run (TIfOnly at arms) n env = run_arms arms n env (Gives (Went env))
  run (TIfElse at arms other) n env = run_arms arms n env (run_block other n env)
  run (TForEach at to bounds first step count body) n env =
      item_values bounds n env
      >>= (λ vs. each_item (items_at first step count) (λ z inner. run_block body n (assigned to.text (item_value z) inner)) env >>= behind_loop to.text)
  run (TWhile at test body) n env = turns n (λ inner. value test n inner >>= (λ v. Gives (holds v))) (run_block body n) env
  run (TBreak at) n env = Gives (Broke env)
  run (TContinue at) n env = Gives (Continued env)

  pub run_arms : TArms → ℕ → Env → Got ⊥ Flow → Got ⊥ Flow
  run_arms TNoArms n env otherwise = otherwise
  run_arms (TArm test body more) n env otherwise =
      value test n env >>= (λ v. when holds v then run_block body n env else run_arms more n env otherwise)

  pub run_block : TBlock → ℕ → Env → Got ⊥ Flow
  run_block TDone n env = Gives (Went env)
  run_block (TNext s more) n env = run s n env >>= (λ flow. then_do flow (run_block more n))

  -- all outputs of a function
  pub function_values : TFun → ℕ → List Val → Got ⊥ (List Val)
  function_values (Function name at inputs outputs body) n vs =
      run_block body n (under_slots inputs vs no_values) >>= (λ flow. Gives (values_held outputs (env_of flow)))
