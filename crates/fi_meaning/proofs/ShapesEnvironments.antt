-- Environments of sound values, and where statements lead with them.
use Rattle.std.proofs.Common.{ℕ, zero, suc, Bool, List, [], ◌∷◌}
use Rattle.std.specs.Prelude.{bytes_eq, Option, Some, None}
use Rattle.std.specs.List.{AllByRecursion}
use Rattle.std.proofs.lemmas.Bool.{cond_both}
use Rattle.fic_base.specs.declared.place.Place.{Place}
use Rattle.mat_ast.specs.declared.tree.Ident.{Ident}
use Rattle.fi_eval.specs.Outcome.{Got, or_wrong}
use Rattle.fi_rules.specs.Value.{Val}
use Rattle.fi_values.specs.Sound.{IsSound, Granted, grants, past, at_wrong}
use Rattle.fi_values.proofs.Holds.{Holds, holds, empty, granted_then, granted_if, granted_any}
use Rattle.fi_values.proofs.Selections.{IsItem}
use Rattle.fi_meaning.specs.Environment.{Env, no_values, assigned, forgotten, variable, under_names, Flow, Went, Broke, Continued, env_of, then_do, turned, behind_loop}
use Rattle.fi_meaning.specs.Statements.{each_item, turns}

-- each variable's value is sound
abbrev pub AreSound : Env → Type 0
AreSound env = (name : List ℕ) → IsItem (env name)

pub none_sound : AreSound no_values
none_sound name = tt

pub assigned_sound : (name : List ℕ) (v : Val) (env : Env) → IsSound v → AreSound env → AreSound (assigned name v env)
assigned_sound name v env h k other = cond_both (bytes_eq name other) (Some v) (env other) IsItem (λ _. h) (λ _. k other)

forgotten_sound : (name : List ℕ) (env : Env) → AreSound env → AreSound (forgotten name env)
forgotten_sound name env k other = cond_both (bytes_eq name other) None (env other) IsItem (λ _. tt) (λ _. k other)

item_granted : (at : Place) (o : Option Val) → IsItem o → Granted IsSound (or_wrong at o)
unfolding or_wrong
item_granted at (Some v) h = grants v h
item_granted at None h = at_wrong at

pub variable_sound : (env : Env) (at : Place) (name : List ℕ) → AreSound env → Granted IsSound (variable env at name)
variable_sound env at name h = item_granted at (env name) (h name)

pub under_names_sound : (names : List Ident) (vs : List Val) (env : Env) → AllByRecursion IsSound vs → AreSound env → Holds AreSound (under_names names vs env)
under_names_sound [] [] env h k = holds env k
under_names_sound [] (v ∷ vs) env h k = empty
under_names_sound (name ∷ names) [] env h k = empty
under_names_sound (name ∷ names) (v ∷ vs) env h k = under_names_sound names vs (assigned name.text v env) h.1 (assigned_sound name.text v env h.0 k)

-- ---- where statements lead

abbrev pub LeadsSound : Flow → Type 0
LeadsSound flow = AreSound (env_of flow)

abbrev pub RunsSound : (Env → Got Place Flow) → Type 0
RunsSound next = (env : Env) → AreSound env → Granted LeadsSound (next env)

pub then_sound : (flow : Flow) (next : Env → Got Place Flow) → LeadsSound flow → RunsSound next → Granted LeadsSound (then_do flow next)
unfolding then_do
then_sound (Went env) next h k = k env h
then_sound (Broke env) next h k = grants _ h
then_sound (Continued env) next h k = grants _ h

turned_sound : (flow : Flow) (next : Env → Got Place Flow) → LeadsSound flow → RunsSound next → Granted LeadsSound (turned flow next)
unfolding turned
turned_sound (Went env) next h k = k env h
turned_sound (Continued env) next h k = k env h
turned_sound (Broke env) next h k = grants _ h

pub behind_sound : (name : List ℕ) (flow : Flow) → LeadsSound flow → Granted {W = Place} LeadsSound (behind_loop name flow)
unfolding behind_loop
behind_sound name (Went env) h = grants _ (forgotten_sound name env h)
behind_sound name (Broke env) h = grants _ (forgotten_sound name env h)
behind_sound name (Continued env) h = grants _ (forgotten_sound name env h)

pub items_sound : {A : Type 0} (xs : List A) (body : A → Env → Got Place Flow) → ((x : A) → RunsSound (body x)) → RunsSound (each_item xs body)
items_sound [] body h env k = grants _ k
items_sound (x ∷ xs) body h env k = granted_then (h x env k) (λ flow g. turned_sound flow (each_item xs body) g (items_sound xs body h))

pub turns_sound : (n : ℕ) (test : Env → Got Place Bool) (body : Env → Got Place Flow) → RunsSound body → RunsSound (turns n test body)
turns_sound zero test body h env k = granted_then (granted_any (test env)) (λ t _. granted_if t (λ _. past) (λ _. grants _ k))
turns_sound (suc n) test body h env k =
    granted_then (granted_any (test env)) (λ t _. granted_if t
    (λ _. granted_then (h env k) (λ flow g. turned_sound flow (turns n test body) g (turns_sound n test body h)))
    (λ _. grants _ k))
