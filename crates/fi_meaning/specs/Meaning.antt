-- What functions and files do, over their trees and without inference.
use Rattle.std.specs.Prelude.{ℕ, zero, suc, nat_lt, ◌||◌, false, List, [], ◌∷◌, length, map, Option, Some, None}
use Rattle.fic_base.specs.declared.place.Place.{Place}
use Rattle.mat_ast.specs.declared.tree.Ident.{Ident}
use Rattle.mat_ast.specs.Tree.{Fun}
use Rattle.fi_rules.specs.Options.{◌|>◌}
use Rattle.fi_rules.specs.Value.{Val, Words, MathObject, TypeObject}
use Rattle.fi_eval.specs.Meaning.{function_named, variables_of, start}
use Rattle.fi_eval.specs.Outcome.{Got, Gives, Wrong, ◌>>=◌, or_wrong, when◌then◌else◌}
use Rattle.fi_meaning.specs.Expressions.{is_listed}
use Rattle.fi_meaning.specs.Statements.{run_block}
use Rattle.fi_meaning.specs.Environment.{Env, variable, under_names, env_of, no_values}

-- every output has a value; so many of the first are given
abbrev pub given_outputs : List Ident → Env → Got Place (List Val)
given_outputs [] env = Gives []
given_outputs (name ∷ names) env = variable env name.place name.text >>= (λ v. given_outputs names env >>= (λ vs. Gives (v ∷ vs)))

-- the first of a list, as many as are wanted; none where there are fewer, or none is wanted
abbrev pub first_outputs : ℕ → List Val → Option (List Val)
first_outputs zero vs = Some []
first_outputs (suc n) [] = None
first_outputs (suc n) (v ∷ vs) = first_outputs n vs |> (λ ws. Some (v ∷ ws))

-- the variables behind the body of a function, where its own calls go by call
abbrev pub body_run : (Place → List ℕ → List Val → ℕ → Got Place (List Val)) → List Fun → Fun → Env → ℕ → Got Place Env
body_run call fs f env n =
    run_block f.body (record { variables = variables_of f; functions = map (λ g. g.name.text) fs; call = call; in_loop = false }) n env
    >>= (λ flow. Gives (env_of flow))

-- a call of a function of the file, with so many calls still allowed; running are the functions whose bodies are being run. It is asked for no more outputs than
-- the function has
abbrev pub file_call : List Fun → ℕ → ℕ → List (List ℕ) → Place → List ℕ → List Val → ℕ → Got Place (List Val)
file_call fs n zero running at name vs wanted = Wrong at
file_call fs n (suc depth) running at name vs wanted =
    or_wrong at (function_named fs name)
    >>= (λ f. when is_listed name running || nat_lt (length f.outputs) wanted then Wrong at
    else (or_wrong at (under_names f.inputs vs no_values)
    >>= (λ env. body_run (file_call fs n depth (name ∷ running)) fs f env n
    >>= (λ later. given_outputs f.outputs later >>= (λ outs. or_wrong at (first_outputs wanted outs))))))

-- an entry's output is no text and no object
unfoldable pub entry_output : Place → Val → Got Place Val
entry_output at (Words text) = Wrong at
entry_output at (MathObject m) = Wrong at
entry_output at (TypeObject t) = Wrong at
entry_output at v = Gives v

abbrev pub entry_outputs : List Ident → Env → Got Place (List Val)
entry_outputs [] env = Gives []
entry_outputs (name ∷ names) env = do
  v ← variable env name.place name.text
  w ← entry_output name.place v
  ws ← entry_outputs names env
  Gives (w ∷ ws)

-- an entry of a file on these inputs, with at most 16 calls inside each other below it
abbrev pub entered : List Fun → Fun → List Val → ℕ → Got Place (List Val)
entered fs f vs n =
    or_wrong f.name.place (under_names f.inputs vs no_values)
    >>= (λ env. body_run (file_call fs n 16 (f.name.text ∷ [])) fs f env n >>= entry_outputs f.outputs)

-- what a file does from an entry, where each while makes at most n turns
abbrev pub evaluated : List Fun → List ℕ → List Val → ℕ → Got Place (List Val)
evaluated fs entry vs n = or_wrong start (function_named fs entry) >>= (λ f. entered fs f vs n)
