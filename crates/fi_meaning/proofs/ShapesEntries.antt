-- Functions and entries give sound values.
use Rattle.std.proofs.Common.{ℕ, zero, suc, false, List, [], ◌∷◌}
use Rattle.std.specs.Prelude.{nat_lt, ◌||◌, length, map, All}
use Rattle.std.specs.List.{AllByRecursion}
use Rattle.std.proofs.lemmas.List.Elements.{All-from_recursion, recursion_from_All}
use Rattle.fic_base.specs.declared.place.Place.{Place}
use Rattle.mat_ast.specs.declared.tree.Ident.{Ident}
use Rattle.mat_ast.specs.Tree.{Fun}
use Rattle.fi_eval.specs.Meaning.{variables_of}
use Rattle.fi_eval.specs.Outcome.{Got}
use Rattle.fi_rules.specs.Value.{Val, Fi, ComplexFi, Logical, Number, ComplexNumber, Words, MathObject, TypeObject}
use Rattle.fi_values.specs.Sound.{IsSound, Granted, grants, at_fault, past, at_wrong}
use Rattle.fi_values.proofs.Holds.{Holds, holds, empty, holds_then, granted_then, granted_wrong, granted_if, granted_any}
use Rattle.fi_meaning.specs.Environment.{Env, no_values}
use Rattle.fi_meaning.specs.Expressions.{is_listed}
use Rattle.fi_meaning.specs.Meaning.{given_outputs, first_outputs, body_run, file_call, entry_output, entry_outputs, entered, evaluated}
use Rattle.fi_meaning.proofs.ShapesEnvironments.{AreSound, none_sound, variable_sound, under_names_sound}
use Rattle.fi_meaning.proofs.ShapesExpressions.{CallsSound}
use Rattle.fi_meaning.proofs.ShapesStatements.{block_sound}

given_sound : (names : List Ident) (env : Env) → AreSound env → Granted (AllByRecursion IsSound) (given_outputs names env)
given_sound [] env h = grants _ tt
given_sound (name ∷ names) env h = granted_then (variable_sound env name.place name.text h) (λ v k. granted_then (given_sound names env h) (λ vs g. grants _ (k, g)))

first_sound : (n : ℕ) (vs : List Val) → AllByRecursion IsSound vs → Holds (AllByRecursion IsSound) (first_outputs n vs)
first_sound zero vs h = holds [] tt
first_sound (suc n) [] h = empty
first_sound (suc n) (v ∷ vs) h = holds_then (first_sound n vs h.1) (λ ws k. holds (v ∷ ws) (h.0, k))

body_sound : (call : Place → List ℕ → List Val → ℕ → Got Place (List Val)) (fs : List Fun) (f : Fun) (env : Env) (n : ℕ) → CallsSound call → AreSound env → Granted AreSound (body_run call fs f env n)
body_sound call fs f env n calls h =
    granted_then (block_sound f.body (record { variables = variables_of f; functions = map (λ (g : Fun). g.name.text) fs; call = call; in_loop = false }) n calls env h) (λ flow k. grants _ k)

file_sound : (fs : List Fun) (n depth : ℕ) (running : List (List ℕ)) → CallsSound (file_call fs n depth running)
file_sound fs n zero running at name vs wanted h = at_wrong at
file_sound fs n (suc depth) running at name vs wanted h =
    granted_then (granted_any _) (λ f _. granted_if (is_listed name running || nat_lt (length f.outputs) wanted) (λ _. at_wrong at) (λ _.
    granted_then (granted_wrong at (under_names_sound f.inputs vs no_values h none_sound)) (λ env k.
    granted_then (body_sound (file_call fs n depth (name ∷ running)) fs f env n (file_sound fs n depth (name ∷ running)) k) (λ later g.
    granted_then (given_sound f.outputs later g) (λ outs e. granted_wrong at (first_sound wanted outs e))))))

-- ---- entries

output_sound : (at : Place) (v : Val) → IsSound v → Granted IsSound (entry_output at v)
unfolding entry_output
output_sound at (Fi t m s xs) h = grants _ h
output_sound at (ComplexFi t m s xs ys) h = grants _ h
output_sound at (Logical s bs) h = grants _ h
output_sound at (Number s cs) h = grants _ h
output_sound at (ComplexNumber s xs ys) h = grants _ h
output_sound at (Words text) h = at_wrong at
output_sound at (MathObject m) h = at_wrong at
output_sound at (TypeObject t) h = at_wrong at

entry_sound : (names : List Ident) (env : Env) → AreSound env → Granted (AllByRecursion IsSound) (entry_outputs names env)
entry_sound [] env h = grants _ tt
entry_sound (name ∷ names) env h =
    granted_then (variable_sound env name.place name.text h) (λ v k.
    granted_then (output_sound name.place v k) (λ w g.
    granted_then (entry_sound names env h) (λ ws e. grants _ (g, e))))

entered_sound : (fs : List Fun) (f : Fun) (vs : List Val) (n : ℕ) → AllByRecursion IsSound vs → Granted (AllByRecursion IsSound) (entered fs f vs n)
entered_sound fs f vs n h =
    granted_then (granted_wrong _ (under_names_sound f.inputs vs no_values h none_sound)) (λ env k.
    granted_then (body_sound (file_call fs n 16 (f.name.text ∷ [])) fs f env n (file_sound fs n 16 (f.name.text ∷ [])) k) (λ later g. entry_sound f.outputs later g))

each_sound : {r : Got Place (List Val)} → Granted (AllByRecursion IsSound) r → Granted (All IsSound) r
each_sound (grants vs h) = grants vs (All-from_recursion IsSound vs h)
each_sound (at_fault site) = at_fault site
each_sound past = past
each_sound (at_wrong at) = at_wrong at

pub sound_outcomes : (fs : List Fun) (entry : List ℕ) (vs : List Val) (n : ℕ) → All IsSound vs → Granted (All IsSound) (evaluated fs entry vs n)
sound_outcomes fs entry vs n h = each_sound (granted_then (granted_any _) (λ f _. entered_sound fs f vs n (recursion_from_All IsSound vs h)))
