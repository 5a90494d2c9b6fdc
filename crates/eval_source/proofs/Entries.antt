-- Calls of functions of a file, and entries.
use Rattle.std.proofs.Common.{◌≡◌, ℕ, suc, Bool, true, false, List, [], ◌∷◌, length, Option, Some, None, Result, Err, sym, ap, subst, ◌∙◌}
use Rattle.std.specs.Prelude.{option_map, nat_lt, ◌||◌}
use Rattle.std.specs.Borrow.{Bor}
use Rattle.std.specs.Global.{Vec}
use Rattle.fic_base.specs.declared.place.Place.{Place}
use Rattle.mat_ast.specs.Tree.{Fun}
use Rattle.mat_ast.specs.View.{func_view}
use Rattle.mat_ast.specs.declared.tree.Func.{Func}
use Rattle.fi_rules.specs.Value.{Val}
use Rattle.fi_eval.specs.Meaning.{function_named, start}
use Rattle.fi_eval.specs.Outcome.{Got, Gives, Wrong, bind, ◌>>=◌, choose, or_wrong}
use Rattle.fi_meaning.specs.Environment.{Env, under_names, no_values}
use Rattle.fi_meaning.specs.Expressions.{is_listed}
use Rattle.fi_meaning.specs.Meaning.{body_run, given_outputs, first_outputs, file_call, entry_outputs, entered, evaluated}
use Rattle.eval_value.specs.Tells.{Tells}
use Rattle.eval_value.specs.View.{row_view}
use Rattle.eval_value.specs.declared.halt.Halt.{Halt}
use Rattle.eval_value.specs.declared.value.Value.{Value}
use Rattle.eval_source.specs.View.{Call}
use Rattle.eval_source.proofs.Files.{no_function, has_function}
use Rattle.eval_call.proofs.Follow.{after_ok, after_err}
use Rattle.eval_source.proofs.Targets.{assoc}

-- ---- a call

-- the outputs of a function on values
abbrev pub outputs_with : Call → List Fun → Fun → ℕ → Place → List Val → Got Place (List Val)
outputs_with call fs f n at vs = or_wrong at (under_names f.inputs vs no_values) >>= (λ env. body_run call fs f env n >>= given_outputs f.outputs)

-- what a call does behind its function's name
abbrev pub on_function : List Fun → ℕ → ℕ → List (List ℕ) → Place → List ℕ → List Val → ℕ → Fun → Got Place (List Val)
on_function fs n depth running at name vs wanted f =
    choose (is_listed name running || nat_lt (length f.outputs) wanted) (Wrong at)
    (or_wrong at (under_names f.inputs vs no_values)
    >>= (λ env. body_run (file_call fs n depth (name ∷ running)) fs f env n >>= (λ later. given_outputs f.outputs later >>= (λ outs. or_wrong at (first_outputs wanted outs)))))

pub no_call : (o : Option (Bor Func)) (fs : List Fun) (n depth : ℕ) (running : List (List ℕ)) (at : Place) (name : List ℕ) (vs : List Val) (wanted : ℕ) → option_map (λ b. func_view b.now) o ≡ function_named fs name → o ≡ None
    → file_call fs n (suc depth) running at name vs wanted ≡ Wrong at
unfolding bind
no_call o fs n depth running at name vs wanted h is = ap (λ g. bind g (on_function fs n depth running at name vs wanted)) (no_function o (function_named fs name) at h is)

pub call_refused : (o : Option (Bor Func)) (b : Bor Func) (fs : List Fun) (n depth : ℕ) (running : List (List ℕ)) (at : Place) (name : List ℕ) (vs : List Val) (wanted : ℕ) (refused : Bool) → option_map (λ b. func_view b.now) o ≡ function_named fs name → o ≡ Some b
    → refused ≡ (is_listed name running || nat_lt (length (func_view b.now).outputs) wanted) → refused ≡ true → file_call fs n (suc depth) running at name vs wanted ≡ Wrong at
unfolding bind choose
call_refused o b fs n depth running at name vs wanted refused h is r t =
    ap (λ g. bind g (on_function fs n depth running at name vs wanted)) (has_function o (function_named fs name) at b h is)
    ∙ ap (λ c. choose c (Wrong at)
    (or_wrong at (under_names (func_view b.now).inputs vs no_values)
    >>= (λ env. body_run (file_call fs n depth (name ∷ running)) fs (func_view b.now) env n >>= (λ later. given_outputs (func_view b.now).outputs later >>= (λ outs. or_wrong at (first_outputs wanted outs)))))) (sym r ∙ t)

assoc_twice : {A B C D : Type 0} (g : Got Place A) (f : A → Got Place B) (h : B → Got Place C) (k : C → Got Place D) → ((g >>= (λ x. f x >>= h)) >>= k) ≡ (g >>= (λ x. f x >>= (λ y. h y >>= k)))
assoc_twice g f h k = assoc g (λ x. f x >>= h) k ∙ (λ i. g >>= (λ x. assoc (f x) h k i))

-- a call that isn't refused
call_opened : (o : Option (Bor Func)) (b : Bor Func) (fs : List Fun) (n depth : ℕ) (running : List (List ℕ)) (at : Place) (name : List ℕ) (vs : List Val) (wanted : ℕ) (refused : Bool) → option_map (λ b. func_view b.now) o ≡ function_named fs name → o ≡ Some b
    → refused ≡ (is_listed name running || nat_lt (length (func_view b.now).outputs) wanted) → refused ≡ false
    → (outputs_with (file_call fs n depth (name ∷ running)) fs (func_view b.now) n at vs >>= (λ outs. or_wrong at (first_outputs wanted outs))) ≡ file_call fs n (suc depth) running at name vs wanted
unfolding bind choose
call_opened o b fs n depth running at name vs wanted refused h is r t =
    assoc_twice (or_wrong at (under_names (func_view b.now).inputs vs no_values)) (λ env. body_run (file_call fs n depth (name ∷ running)) fs (func_view b.now) env n) (given_outputs (func_view b.now).outputs) (λ outs. or_wrong at (first_outputs wanted outs))
    ∙ sym (ap (λ c. choose c (Wrong at)
    (or_wrong at (under_names (func_view b.now).inputs vs no_values)
    >>= (λ env. body_run (file_call fs n depth (name ∷ running)) fs (func_view b.now) env n >>= (λ later. given_outputs (func_view b.now).outputs later >>= (λ outs. or_wrong at (first_outputs wanted outs)))))) (sym r ∙ t))
    ∙ sym (ap (λ g. bind g (on_function fs n depth running at name vs wanted)) (has_function o (function_named fs name) at b h is))

pub call_goes : (r : Result (Vec Value) Halt) (o : Option (Bor Func)) (b : Bor Func) (fs : List Fun) (n depth : ℕ) (running inner : List (List ℕ)) (at : Place) (name : List ℕ) (vs outs : List Val) (wanted : ℕ) (refused : Bool)
    → option_map (λ b. func_view b.now) o ≡ function_named fs name → o ≡ Some b → refused ≡ (is_listed name running || nat_lt (length (func_view b.now).outputs) wanted) → refused ≡ false → inner ≡ name ∷ running
    → outputs_with (file_call fs n depth inner) fs (func_view b.now) n at vs ≡ Gives outs → Tells r row_view (or_wrong at (first_outputs wanted outs)) → Tells r row_view (file_call fs n (suc depth) running at name vs wanted)
call_goes r o b fs n depth running inner at name vs outs wanted refused h is c f i k t =
    subst (λ g. Tells r row_view g) (call_opened o b fs n depth running at name vs wanted refused h is c f)
    (after_ok r row_view (outputs_with (file_call fs n depth (name ∷ running)) fs (func_view b.now) n at vs) outs (λ outs. or_wrong at (first_outputs wanted outs))
    (ap (λ m. outputs_with (file_call fs n depth m) fs (func_view b.now) n at vs) (sym i) ∙ k) t)

pub call_stops : (halt : Halt) (o : Option (Bor Func)) (b : Bor Func) (fs : List Fun) (n depth : ℕ) (running inner : List (List ℕ)) (at : Place) (name : List ℕ) (vs : List Val) (wanted : ℕ) (refused : Bool)
    → option_map (λ b. func_view b.now) o ≡ function_named fs name → o ≡ Some b → refused ≡ (is_listed name running || nat_lt (length (func_view b.now).outputs) wanted) → refused ≡ false → inner ≡ name ∷ running
    → Tells {R = Vec Value} (Err halt) row_view (outputs_with (file_call fs n depth inner) fs (func_view b.now) n at vs) → Tells {R = Vec Value} (Err halt) row_view (file_call fs n (suc depth) running at name vs wanted)
call_stops halt o b fs n depth running inner at name vs wanted refused h is c f i t =
    subst (λ g. Tells {R = Vec Value} (Err halt) row_view g) (call_opened o b fs n depth running at name vs wanted refused h is c f)
    (after_err halt row_view row_view (outputs_with (file_call fs n depth (name ∷ running)) fs (func_view b.now) n at vs) (λ outs. or_wrong at (first_outputs wanted outs))
    (subst (λ m. Tells {R = Vec Value} (Err halt) row_view (outputs_with (file_call fs n depth m) fs (func_view b.now) n at vs)) i t))

-- ---- an entry

-- the variables behind the body of an entry
abbrev pub ran : List (List ℕ) → List Fun → Fun → List Val → ℕ → Got Place Env
ran running fs f vs n = or_wrong f.name.place (under_names f.inputs vs no_values) >>= (λ env. body_run (file_call fs n 16 running) fs f env n)

pub entered_goes : (r : Result (Vec Value) Halt) (running : List (List ℕ)) (fs : List Fun) (f : Fun) (vs : List Val) (n : ℕ) (later : Env) → running ≡ f.name.text ∷ [] → ran running fs f vs n ≡ Gives later
    → Tells r row_view (entry_outputs f.outputs later) → Tells r row_view (entered fs f vs n)
entered_goes r running fs f vs n later is k t =
    subst (λ g. Tells r row_view g) (assoc (or_wrong f.name.place (under_names f.inputs vs no_values)) (λ env. body_run (file_call fs n 16 (f.name.text ∷ [])) fs f env n) (entry_outputs f.outputs))
    (after_ok r row_view (ran (f.name.text ∷ []) fs f vs n) later (entry_outputs f.outputs) (ap (λ m. ran m fs f vs n) (sym is) ∙ k) t)

pub entered_stops : {R : Type 0} (halt : Halt) (part : R → Env) (running : List (List ℕ)) (fs : List Fun) (f : Fun) (vs : List Val) (n : ℕ) → running ≡ f.name.text ∷ []
    → Tells {R = R} (Err halt) part (ran running fs f vs n) → Tells {R = Vec Value} (Err halt) row_view (entered fs f vs n)
entered_stops {R = R} halt part running fs f vs n is t =
    subst (λ g. Tells {R = Vec Value} (Err halt) row_view g) (assoc (or_wrong f.name.place (under_names f.inputs vs no_values)) (λ env. body_run (file_call fs n 16 (f.name.text ∷ [])) fs f env n) (entry_outputs f.outputs))
    (after_err halt part row_view (ran (f.name.text ∷ []) fs f vs n) (entry_outputs f.outputs) (subst (λ m. Tells {R = R} (Err halt) part (ran m fs f vs n)) is t))

pub no_entry : (o : Option (Bor Func)) (fs : List Fun) (entry : List ℕ) (vs : List Val) (n : ℕ) → option_map (λ b. func_view b.now) o ≡ function_named fs entry → o ≡ None → evaluated fs entry vs n ≡ Wrong start
unfolding bind
no_entry o fs entry vs n h is = ap (λ g. bind g (λ f. entered fs f vs n)) (no_function o (function_named fs entry) start h is)

pub named_entry : (r : Result (Vec Value) Halt) (o : Option (Bor Func)) (b : Bor Func) (fs : List Fun) (entry : List ℕ) (vs : List Val) (n : ℕ) → option_map (λ b. func_view b.now) o ≡ function_named fs entry → o ≡ Some b
    → Tells r row_view (entered fs (func_view b.now) vs n) → Tells r row_view (evaluated fs entry vs n)
unfolding bind
named_entry r o b fs entry vs n h is t = subst (λ g. Tells r row_view (bind g (λ f. entered fs f vs n))) (sym (has_function o (function_named fs entry) start b h is)) t
