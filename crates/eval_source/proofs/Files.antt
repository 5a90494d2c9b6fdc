-- Bodies, outputs and calls of the functions of a file.
use Rattle.std.proofs.Common.{◌≡◌, ℕ, false, zero, suc, ◌+◌, ◌-◌, ◌<◌, ◌≤◌, List, [], ◌∷◌, ◌++◌, length, map, drop, Option, Some, None, Err, refl, sym, ap, subst, ◌∙◌, arith}
use Rattle.std.specs.Prelude.{option_map}
use Rattle.std.specs.Borrow.{Bor}
use Rattle.fic_base.specs.declared.place.Place.{Place}
use Rattle.mat_ast.specs.Tree.{Fun}
use Rattle.mat_ast.specs.View.{func_view}
use Rattle.mat_ast.specs.declared.tree.Func.{Func}
use Rattle.fi_rules.specs.Options.{◌|>◌, and_then}
use Rattle.fi_rules.specs.Value.{Val}
use Rattle.fi_eval.specs.Meaning.{variables_of}
use Rattle.fi_eval.specs.Outcome.{Gives, Wrong, bind, ◌>>=◌, or_wrong}
use Rattle.fi_meaning.specs.Environment.{Env, Flow, env_of, variable}
use Rattle.mat_ast.specs.declared.tree.Ident.{Ident}
use Rattle.fi_meaning.specs.Meaning.{body_run, first_outputs, entry_output, entry_outputs}
use Rattle.fi_meaning.specs.Statements.{run_block}
use Rattle.eval_value.specs.Tells.{Tells}
use Rattle.eval_value.specs.declared.halt.Halt.{Halt}
use Rattle.eval_source.specs.Flows.{flow_view}
use Rattle.eval_source.specs.View.{Call}
use Rattle.eval_source.specs.declared.flow.Flow as code
use Rattle.eval_source.specs.declared.flow.Flow.TheVariants as flow
use Rattle.eval_value.specs.View.{value_view}
use Rattle.eval_value.specs.declared.value.Value.{Value}
use Rattle.eval_source.proofs.Lists.{mapped, appended_nil}
use Rattle.eval_source.proofs.Targets.{assoc}
use Rattle.eval_source.proofs.Views.{map_length}
use Rattle.eval_call.proofs.Follow.{after_err}

same_env : (f : code.Flow) (env : Env) → env_of (flow_view f env) ≡ env
same_env flow.Went env = refl
same_env flow.Broke env = refl
same_env flow.Continued env = refl

-- a body that is run in the scope of its function
pub body_done : (fs : List Fun) (f : Fun) (call : Call) (vars names : List (List ℕ)) (n : ℕ) (env later : Env) (to : code.Flow) → vars ≡ variables_of f → names ≡ map (λ g. g.name.text) fs
    → run_block f.body (record { variables = vars; functions = names; call = call; in_loop = false }) n env ≡ Gives (flow_view to later) → body_run call fs f env n ≡ Gives later
unfolding bind
body_done fs f call vars names n env later to v m h =
    ap (λ g. bind g (λ flow. Gives (env_of flow))) ((λ i. run_block f.body (record { variables = sym v i; functions = sym m i; call = call; in_loop = false }) n env) ∙ h) ∙ ap Gives (same_env to later)

pub body_stops : {R S : Type 0} (h : Halt) (part : R → Flow) (view : S → Env) (fs : List Fun) (f : Fun) (call : Call) (vars names : List (List ℕ)) (n : ℕ) (env : Env) → vars ≡ variables_of f → names ≡ map (λ g. g.name.text) fs
    → Tells {R = R} (Err h) part (run_block f.body (record { variables = vars; functions = names; call = call; in_loop = false }) n env) → Tells {R = S} (Err h) view (body_run call fs f env n)
body_stops {R = R} h part view fs f call vars names n env v m t =
    after_err h part view (run_block f.body (record { variables = variables_of f; functions = map (λ g. g.name.text) fs; call = call; in_loop = false }) n env) (λ flow. Gives (env_of flow))
    (subst (λ ms. Tells {R = R} (Err h) part (run_block f.body (record { variables = variables_of f; functions = ms; call = call; in_loop = false }) n env)) m
    (subst (λ vs. Tells {R = R} (Err h) part (run_block f.body (record { variables = vs; functions = names; call = call; in_loop = false }) n env)) v t))

-- ---- a function of the file

pub no_function : (o : Option (Bor Func)) (e : Option Fun) (at : Place) → option_map (λ b. func_view b.now) o ≡ e → o ≡ None → or_wrong at e ≡ Wrong at
unfolding or_wrong
no_function o e at h n = ap (or_wrong at) (sym h ∙ ap (option_map (λ b. func_view b.now)) n)

pub has_function : (o : Option (Bor Func)) (e : Option Fun) (at : Place) (b : Bor Func) → option_map (λ b. func_view b.now) o ≡ e → o ≡ Some b → or_wrong at e ≡ Gives (func_view b.now)
unfolding or_wrong
has_function o e at b h n = ap (or_wrong at) (sym h ∙ ap (option_map (λ b. func_view b.now)) n)

-- ---- the first outputs

pub fewer : (n : ℕ) (vs : List Val) → length vs < n → first_outputs n vs ≡ None
unfolding and_then
fewer zero vs h = absurd (omega (arith, h))
fewer (suc n) [] h = refl
fewer (suc n) (v ∷ vs) h = ap (λ o. o |> (λ ws. Some (v ∷ ws))) (fewer n vs (omega (arith, h)))

-- one more of the first
pub first_step : (n : ℕ) (v : Val) (vs built : List Val) → (first_outputs (suc n) (v ∷ vs) |> (λ ws. Some (built ++ ws))) ≡ (first_outputs n vs |> (λ ws. Some ((built ++ v ∷ []) ++ ws)))
unfolding and_then
first_step n v vs built = by (first_outputs n vs)
  where
    assoc : (xs ys : List Val) → xs ++ v ∷ ys ≡ (xs ++ v ∷ []) ++ ys
    assoc [] ys = refl
    assoc (x ∷ xs) ys = ap (λ zs. x ∷ zs) (assoc xs ys)

    by : (o : Option (List Val)) → ((o |> (λ ws. Some (v ∷ ws))) |> (λ ws. Some (built ++ ws))) ≡ (o |> (λ ws. Some ((built ++ v ∷ []) ++ ws)))
    by None = refl
    by (Some ws) = ap Some (assoc built ws)

-- ---- the first outputs one by one

-- none yet
pub first_begins : (wanted : ℕ) (vs olds : List Value) → olds ≡ [] → first_outputs wanted (map value_view vs) ≡ (first_outputs (wanted - 0) (map value_view vs) |> (λ ws. Some (map value_view olds ++ ws)))
unfolding and_then
first_begins wanted vs olds h =
    same (first_outputs wanted (map value_view vs))
    ∙ (λ i. first_outputs (less i) (map value_view vs) |> (λ ws. Some (map value_view (sym h i) ++ ws)))
  where
    less : wanted ≡ wanted - 0
    less = omega arith

    same : (o : Option (List Val)) → o ≡ (o |> (λ ws. Some ([] ++ ws)))
    same None = refl
    same (Some ws) = refl

-- one more, of which c is a copy
pub first_goes : (wanted k : ℕ) (vs olds news : List Value) (x c : Value) (whole : Option (List Val)) → k < wanted → drop k vs ≡ x ∷ drop (k + 1) vs → value_view c ≡ value_view x → news ≡ olds ++ c ∷ []
    → whole ≡ (first_outputs (wanted - k) (map value_view (drop k vs)) |> (λ ws. Some (map value_view olds ++ ws)))
    → whole ≡ (first_outputs (wanted - (k + 1)) (map value_view (drop (k + 1) vs)) |> (λ ws. Some (map value_view news ++ ws)))
first_goes wanted k vs olds news x c whole h d e n w =
    let m : wanted - k ≡ suc (wanted - (k + 1)) = omega (arith, h) in
    w ∙ (λ i. first_outputs (m i) (map value_view (d i)) |> (λ ws. Some (map value_view olds ++ ws)))
    ∙ first_step (wanted - (k + 1)) (value_view x) (map value_view (drop (k + 1) vs)) (map value_view olds)
    ∙ ap (λ b. first_outputs (wanted - (k + 1)) (map value_view (drop (k + 1) vs)) |> (λ ws. Some (b ++ ws)))
    (ap (λ y. map value_view olds ++ y ∷ []) (sym e) ∙ sym (mapped value_view olds c) ∙ ap (map value_view) (sym n))

-- as many as are wanted
pub first_done : (at : Place) (wanted k : ℕ) (vs : List Val) (built : List Val) (whole : Option (List Val)) → wanted ≤ k → whole ≡ (first_outputs (wanted - k) vs |> (λ ws. Some (built ++ ws))) → or_wrong at whole ≡ Gives built
unfolding and_then or_wrong
first_done at wanted k vs built whole h w =
    let m : wanted - k ≡ 0 = omega (arith, h) in
    ap (or_wrong at) (w ∙ ap (λ n. first_outputs n vs |> (λ ws. Some (built ++ ws))) m ∙ ap Some (appended_nil built))

-- an entry's output behind its variable
pub entry_step : (name : Ident) (names : List Ident) (env : Env) → entry_outputs (name ∷ names) env ≡ ((variable env name.place name.text >>= entry_output name.place) >>= (λ w. entry_outputs names env >>= (λ ws. Gives (w ∷ ws))))
entry_step name names env = sym (assoc (variable env name.place name.text) (entry_output name.place) (λ w. entry_outputs names env >>= (λ ws. Gives (w ∷ ws))))

pub too_few : (at : Place) (wanted : ℕ) (vs xs : List Value) → xs ≡ vs → length xs < wanted → or_wrong at (first_outputs wanted (map value_view vs)) ≡ Wrong at
unfolding or_wrong
too_few at wanted vs xs h few =
    let same : length xs ≡ length (map value_view vs) = ap length h ∙ map_length value_view vs in
    ap (or_wrong at) (fewer wanted (map value_view vs) (omega (arith, few, same)))
