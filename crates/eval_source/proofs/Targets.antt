-- Assignments.
use Rattle.std.proofs.Common.{◌≡◌, ℕ, zero, suc, ◌+◌, List, [], ◌∷◌, length, map, drop, Option, Some, None, Result, Err, refl, sym, ap, subst, ◌∙◌}
use Rattle.std.specs.Prelude.{option_map}
use Rattle.std.specs.Borrow.{Bor}
use Rattle.fic_base.specs.declared.place.Place.{Place}
use Rattle.mat_ast.specs.Tree.{Exp}
use Rattle.mat_ast.specs.declared.tree.Ident.{Ident}
use Rattle.fi_rules.specs.Value.{Val}
use Rattle.fi_eval.specs.Outcome.{Got, Gives, Fault, Over, Wrong, bind, ◌>>=◌, or_wrong}
use Rattle.fi_values.specs.Stores.{stored}
use Rattle.fi_values.specs.Subscripts.{as_subscripts}
use Rattle.mat_ast.specs.Tree.{Args}
use Rattle.fi_meaning.specs.Environment.{Env, Went, Flow, assigned, under_names, variable}
use Rattle.fi_meaning.specs.Expressions.{Context, value, subscript_values, args_count, site_of}
use Rattle.eval_value.specs.Tells.{Tells}
use Rattle.eval_value.specs.declared.halt.Halt.{Halt}
use Rattle.eval_call.proofs.Follow.{after_ok, after_err}
use Rattle.eval_source.proofs.Views.{map_length}
use Rattle.fi_meaning.specs.Statements.{output_values, call_outputs}
use Rattle.eval_value.specs.View.{value_view}
use Rattle.eval_value.specs.declared.value.Value.{Value}

pub assoc : {A B C : Type 0} (g : Got Place A) (f : A → Got Place B) (h : B → Got Place C) → ((g >>= f) >>= h) ≡ (g >>= (λ x. f x >>= h))
unfolding bind
assoc (Gives x) f h = refl
assoc (Fault site) f h = refl
assoc Over f h = refl
assoc (Wrong at) f h = refl

-- what is stored is assigned last
pub store_last : {A B C D E : Type 0} (variable : Got Place A) (subscripts : A → Got Place B) (selected : B → Got Place C) (stored : A → C → Got Place D) (h : D → Got Place E)
    → ((variable >>= (λ old. subscripts old >>= (λ ks. selected ks >>= (λ subs. stored old subs)))) >>= h)
    ≡ (variable >>= (λ old. subscripts old >>= (λ ks. selected ks >>= (λ subs. stored old subs >>= h))))
store_last variable subscripts selected stored h =
    assoc variable (λ old. subscripts old >>= (λ ks. selected ks >>= (λ subs. stored old subs))) h
    ∙ (λ i. variable >>= (λ old. (assoc (subscripts old) (λ ks. selected ks >>= (λ subs. stored old subs)) h ∙ (λ j. subscripts old >>= (λ ks. assoc (selected ks) (λ subs. stored old subs) h j))) i))

-- a store where its variable has a value
pub store_stops : {K : Type 0} (h : Halt) (part : K → List (Option Val)) (at : Place) (e : Option Val) (v : Val) (subscripts : Option Val → Got Place (List (Option Val))) (next : Val → List (Option Val) → Got Place Val) → e ≡ Some v
    → Tells {R = K} (Err h) part (subscripts e) → Tells {R = Value} (Err h) value_view (or_wrong at e >>= (λ old. subscripts (Some old) >>= next old))
unfolding bind or_wrong
store_stops {K = K} h part at e v subscripts next is t =
    subst (λ o. Tells {R = Value} (Err h) value_view (or_wrong at o >>= (λ old. subscripts (Some old) >>= next old))) (sym is)
    (after_err h part value_view (subscripts (Some v)) (next v) (subst (λ o. Tells {R = K} (Err h) part (subscripts o)) is t))

pub store_goes : (r : Result Value Halt) (at : Place) (e : Option Val) (v : Val) (ks : List (Option Val)) (subscripts : Option Val → Got Place (List (Option Val))) (next : Val → List (Option Val) → Got Place Val) → e ≡ Some v
    → subscripts e ≡ Gives ks → Tells r value_view (next v ks) → Tells r value_view (or_wrong at e >>= (λ old. subscripts (Some old) >>= next old))
unfolding bind or_wrong
store_goes r at e v ks subscripts next is k t =
    subst (λ o. Tells r value_view (or_wrong at o >>= (λ old. subscripts (Some old) >>= next old))) (sym is)
    (after_ok r value_view (subscripts (Some v)) ks (next v) (ap subscripts (sym is) ∙ k) t)

-- what a store gives, and what it leads to
abbrev pub kept_value : Args → Context → Env → Ident → Place → Val → Got Place Val
kept_value args cx env to opens v =
    variable env to.place to.text
    >>= (λ old. subscript_values args cx env to.place (Some old) 0 (args_count args) >>= (λ ks. or_wrong to.place (as_subscripts ks) >>= (λ subs. stored to.place (site_of opens) old subs v)))

abbrev pub kept_flow : Args → Context → Env → Ident → Place → Val → Got Place Flow
kept_flow args cx env to opens v =
    variable env to.place to.text
    >>= (λ old. subscript_values args cx env to.place (Some old) 0 (args_count args)
    >>= (λ ks. or_wrong to.place (as_subscripts ks) >>= (λ subs. stored to.place (site_of opens) old subs v >>= (λ new. Gives (Went (assigned to.text new env))))))

pub kept_last : (args : Args) (cx : Context) (env : Env) (to : Ident) (opens : Place) (v : Val) → (kept_value args cx env to opens v >>= (λ new. Gives (Went (assigned to.text new env)))) ≡ kept_flow args cx env to opens v
kept_last args cx env to opens v =
    store_last (variable env to.place to.text) (λ old. subscript_values args cx env to.place (Some old) 0 (args_count args)) (λ ks. or_wrong to.place (as_subscripts ks)) (λ old subs. stored to.place (site_of opens) old subs v)
    (λ new. Gives (Went (assigned to.text new env)))

pub kept_goes : (e : Exp) (args : Args) (cx : Context) (env : Env) (to : Ident) (opens : Place) (v new : Val) → value e cx env None ≡ Gives v → kept_value args cx env to opens v ≡ Gives new
    → (value e cx env None >>= kept_flow args cx env to opens) ≡ Gives (Went (assigned to.text new env))
unfolding bind
kept_goes e args cx env to opens v new h k =
    ap (λ g. bind g (kept_flow args cx env to opens)) h ∙ sym (kept_last args cx env to opens v) ∙ ap (λ g. bind g (λ new. Gives (Went (assigned to.text new env)))) k

pub kept_stops : {S : Type 0} (h : Halt) (view : S → Flow) (e : Exp) (args : Args) (cx : Context) (env : Env) (to : Ident) (opens : Place) (v : Val) → value e cx env None ≡ Gives v
    → Tells {R = Value} (Err h) value_view (kept_value args cx env to opens v) → Tells {R = S} (Err h) view (value e cx env None >>= kept_flow args cx env to opens)
unfolding bind
kept_stops {S = S} h view e args cx env to opens v is t =
    subst (λ g. Tells {R = S} (Err h) view (bind g (kept_flow args cx env to opens))) (sym is)
    (subst (λ g. Tells {R = S} (Err h) view g) (kept_last args cx env to opens v) (after_err h value_view view (kept_value args cx env to opens v) (λ new. Gives (Went (assigned to.text new env))) t))

-- the value that a table has
pub has_some : (o : Option (Bor Value)) (e : Option Val) (b : Bor Value) → option_map (λ b. value_view b.now) o ≡ e → o ≡ Some b → e ≡ Some (value_view b.now)
has_some o e b h s = sym h ∙ ap (option_map (λ b. value_view b.now)) s

-- ---- outputs

pub one_wanted : (e : Exp) (cx : Context) (env : Env) (n : ℕ) → n ≡ 1 → output_values e cx env n ≡ (value e cx env None >>= (λ v. Gives (v ∷ [])))
unfolding output_values
one_wanted e cx env n h = ap (output_values e cx env) h

pub many_wanted : (e : Exp) (cx : Context) (env : Env) (n : ℕ) → (n ≡ 1 → ⊥) → output_values e cx env n ≡ call_outputs e cx env n
unfolding output_values
many_wanted e cx env zero h = refl
many_wanted e cx env (suc zero) h = absurd (h refl)
many_wanted e cx env (suc (suc n)) h = refl

-- ---- values under names

pub differ : (names : List Ident) (vs : List Val) (env : Env) → (length names ≡ length vs → ⊥) → under_names names vs env ≡ None
differ [] [] env h = absurd (h refl)
differ [] (v ∷ vs) env h = refl
differ (name ∷ names) [] env h = refl
differ (name ∷ names) (v ∷ vs) env h = differ names vs (assigned name.text v env) (λ e. h (ap suc e))

-- one more value under its name
pub named_step : (ts : List Ident) (vs : List Value) (k : ℕ) (t : Ident) (v : Value) (env : Env) → drop k ts ≡ t ∷ drop (k + 1) ts → drop k vs ≡ v ∷ drop (k + 1) vs
    → under_names (drop k ts) (map value_view (drop k vs)) env ≡ under_names (drop (k + 1) ts) (map value_view (drop (k + 1) vs)) (assigned t.text (value_view v) env)
named_step ts vs k t v env a b = λ i. under_names (a i) (map value_view (b i)) env

pub none_named : (ts : List Ident) (vs : List Value) (k : ℕ) (env : Env) → drop k ts ≡ [] → drop k vs ≡ [] → under_names (drop k ts) (map value_view (drop k vs)) env ≡ Some env
none_named ts vs k env a b = λ i. under_names (a i) (map value_view (b i)) env

pub all_named : (at : Place) (o : Option Env) (env : Env) → o ≡ Some env → or_wrong at o ≡ Gives env
unfolding or_wrong
all_named at o env h = ap (or_wrong at) h

pub unnamed : (at : Place) (ts : List Ident) (vs xs : List Value) (env : Env) → xs ≡ vs → (length ts ≡ length xs → ⊥) → or_wrong at (under_names ts (map value_view vs) env) ≡ Wrong at
unfolding or_wrong
unnamed at ts vs xs env h other = ap (or_wrong at) (differ ts (map value_view vs) env (λ e. other (e ∙ sym (map_length value_view vs) ∙ ap length (sym h))))
