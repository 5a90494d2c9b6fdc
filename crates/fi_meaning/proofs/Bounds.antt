-- More turns change only a run that went past the bound.
use Rattle.std.proofs.Common.{◌≡◌, ℕ, zero, suc, ◌+◌, ◌-◌, ◌≤◌, Bool, true, false, List, [], ◌∷◌, subst, arith, length}
use Rattle.std.specs.Prelude.{Option, Some, None, map}
use Rattle.fic_base.specs.declared.place.Place.{Place}
use Rattle.mat_ast.specs.declared.tree.BinOp.{BinOp}
use Rattle.mat_ast.specs.Tree.{Exp, Number, Words, Name, Apply, End, Unary, Binary, Post, Range, RangeBy, Paren, Matrix, Args, NoArgs, Whole, Item, Row, RowEnd, Cell, Rows, NoRows, RowOn, Sta, Assign, Store, Multi, IfOnly, IfElse, ForEach, WhileTrue, BreakOff, GoOn, Arms, NoArms, Arm, Block, Done, Next, Fun}
use Rattle.fi_eval.specs.Outcome.{Got, Gives, Fault, Over, Wrong, bind, ◌>>=◌, choose, when◌then◌else◌}
use Rattle.fi_eval.specs.Meaning.{variables_of}
use Rattle.fi_meaning.specs.Environment.{Env, Flow, Went, Broke, Continued, then_do, turned}
use Rattle.fi_rules.specs.Value.{Val}
use Rattle.fi_meaning.specs.Runs.{Kept, same, past}
use Rattle.fi_meaning.specs.Expressions.{Context, value, subscript_values, arguments, row_values, rows_values, behind_left}
use Rattle.fi_meaning.specs.Statements.{call_outputs, output_values, run, run_arms, run_block, each_item, turns, loop_items, condition}
use Rattle.fi_meaning.specs.Meaning.{file_call, evaluated}

kept_bind : {A B : Type 0} {f g : Got Place A} {h k : A → Got Place B} → Kept f g → ((x : A) → Kept (h x) (k x)) → Kept (f >>= h) (g >>= k)
unfolding bind
kept_bind {f = Gives x} same each = each x
kept_bind {f = Fault site} same each = same
kept_bind {f = Over} same each = same
kept_bind {f = Wrong at} same each = same
kept_bind past each = past

kept_if : {A : Type 0} (b : Bool) {r s c d : Got Place A} → Kept r s → Kept c d → Kept (when b then r else c) (when b then s else d)
unfolding choose
kept_if true h k = h
kept_if false h k = k

kept_behind : (at : Place) (op : BinOp) (o : Option Bool) (x : Val) {r s : Got Place Val} → Kept r s → Kept (behind_left at op o x r) (behind_left at op o x s)
unfolding behind_left
kept_behind at op None x h = kept_bind h (λ y. same)
kept_behind at op (Some b) x h = kept_if _ same (kept_bind h (λ y. same))

abbrev Call : Type 0
Call = Place → List ℕ → List Val → ℕ → Got Place (List Val)

turned_kept : (flow : Flow) {next later : Env → Got Place Flow} → ((env : Env) → Kept (next env) (later env)) → Kept (turned flow next) (turned flow later)
unfolding turned
turned_kept (Went env) h = h env
turned_kept (Continued env) h = h env
turned_kept (Broke env) h = same

then_kept : (flow : Flow) {next later : Env → Got Place Flow} → ((env : Env) → Kept (next env) (later env)) → Kept (then_do flow next) (then_do flow later)
unfolding then_do
then_kept (Went env) h = h env
then_kept (Continued env) h = same
then_kept (Broke env) h = same

items_kept : {A : Type 0} (xs : List A) (body more : A → Env → Got Place Flow) → ((x : A) (env : Env) → Kept (body x env) (more x env)) → (env : Env) → Kept (each_item xs body env) (each_item xs more env)
items_kept [] body more h env = same
items_kept (x ∷ xs) body more h env = kept_bind (h x env) (λ flow. turned_kept flow (items_kept xs body more h))

turns_kept : (n : ℕ) (test later : Env → Got Place Bool) (body more : Env → Got Place Flow) → ((env : Env) → Kept (test env) (later env)) → ((env : Env) → Kept (body env) (more env)) → (env : Env) → Kept (turns n test body env) (turns (suc n) later more env)
turns_kept zero test later body more t h env = kept_bind (t env) (λ b. kept_if b past same)
turns_kept (suc n) test later body more t h env =
    kept_bind (t env) (λ b. kept_if b (kept_bind (h env) (λ flow. turned_kept flow (turns_kept n test later body more t h))) same)

module _ (vars functions : List (List ℕ)) (f g : Call) (calls : (at : Place) (name : List ℕ) (vs : List Val) (wanted : ℕ) → Kept (f at name vs wanted) (g at name vs wanted)) where
  abbrev before : Bool → Context
  before b = record { variables = vars; functions = functions; call = f; in_loop = b }

  abbrev after : Bool → Context
  after b = record { variables = vars; functions = functions; call = g; in_loop = b }

  mutual
    value_kept : (e : Exp) (b : Bool) (env : Env) (ends : Option ℕ) → Kept (value e (before b) env ends) (value e (after b) env ends)
    value_kept (Number at text imaginary) b env ends = same
    value_kept (Words at text) b env ends = same
    value_kept (Name at name) b env ends = kept_if _ same (kept_if _ (kept_bind (calls at name [] 1) (λ vs. same)) same)
    value_kept (Apply at name opens args) b env ends =
        kept_if _
        (kept_bind (subscripts_kept args b env at _ 0 _) (λ vs. same))
        (kept_bind (arguments_kept args b env at ends) (λ vs. kept_if _ (kept_bind (calls at name _ 1) (λ found. same)) same))
    value_kept (End at) b env ends = same
    value_kept (Unary at sign e) b env ends = kept_bind (value_kept e b env ends) (λ x. same)
    value_kept (Binary at operator e d) b env ends =
        kept_bind (value_kept e b env ends) (λ x. kept_behind at operator _ x (value_kept d b env ends))
    value_kept (Post at mark e) b env ends = kept_bind (value_kept e b env ends) (λ x. same)
    value_kept (Range at first last) b env ends =
        kept_bind (value_kept first b env ends) (λ x. kept_bind (value_kept last b env ends) (λ y. same))
    value_kept (RangeBy at first step last) b env ends =
        kept_bind (value_kept first b env ends) (λ x. kept_bind (value_kept step b env ends) (λ s. kept_bind (value_kept last b env ends) (λ y. same)))
    value_kept (Paren at e) b env ends = value_kept e b env ends
    value_kept (Matrix at rows) b env ends = kept_bind (rows_kept rows b env ends) (λ vs. same)

    subscripts_kept : (args : Args) (b : Bool) (env : Env) (at : Place) (v : Option Val) (k many : ℕ) → Kept (subscript_values args (before b) env at v k many) (subscript_values args (after b) env at v k many)
    subscripts_kept NoArgs b env at v k many = same
    subscripts_kept (Whole more) b env at v k many = kept_bind (subscripts_kept more b env at v (suc k) many) (λ vs. same)
    subscripts_kept (Item e more) b env at v k many =
        kept_bind (value_kept e b env _) (λ x. kept_bind (subscripts_kept more b env at v (suc k) many) (λ vs. same))

    arguments_kept : (args : Args) (b : Bool) (env : Env) (at : Place) (ends : Option ℕ) → Kept (arguments args (before b) env at ends) (arguments args (after b) env at ends)
    arguments_kept NoArgs b env at ends = same
    arguments_kept (Whole more) b env at ends = kept_bind (arguments_kept more b env at ends) (λ vs. same)
    arguments_kept (Item e more) b env at ends =
        kept_bind (value_kept e b env ends) (λ v. kept_bind (arguments_kept more b env at ends) (λ vs. same))

    row_kept : (r : Row) (b : Bool) (env : Env) (ends : Option ℕ) → Kept (row_values r (before b) env ends) (row_values r (after b) env ends)
    row_kept RowEnd b env ends = same
    row_kept (Cell e more) b env ends = kept_bind (value_kept e b env ends) (λ v. kept_bind (row_kept more b env ends) (λ vs. same))

    rows_kept : (rows : Rows) (b : Bool) (env : Env) (ends : Option ℕ) → Kept (rows_values rows (before b) env ends) (rows_values rows (after b) env ends)
    rows_kept NoRows b env ends = same
    rows_kept (RowOn r more) b env ends = kept_bind (row_kept r b env ends) (λ vs. kept_bind (rows_kept more b env ends) (λ rest. same))

  call_kept : (e : Exp) (b : Bool) (env : Env) (wanted : ℕ) → Kept (call_outputs e (before b) env wanted) (call_outputs e (after b) env wanted)
  unfolding call_outputs
  call_kept (Name at name) b env wanted = kept_if _ (calls at name [] wanted) same
  call_kept (Apply at name opens args) b env wanted =
      kept_if _ (kept_bind (subscripts_kept args b env at _ 0 _) (λ vs. same)) (kept_bind (arguments_kept args b env at None) (λ vs. kept_if _ (calls at name _ wanted) same))
  call_kept (Number at text imaginary) b env wanted = same
  call_kept (Words at text) b env wanted = same
  call_kept (End at) b env wanted = same
  call_kept (Unary at sign e) b env wanted = same
  call_kept (Binary at operator e d) b env wanted = same
  call_kept (Post at mark e) b env wanted = same
  call_kept (Range at first last) b env wanted = same
  call_kept (RangeBy at first step last) b env wanted = same
  call_kept (Paren at e) b env wanted = same
  call_kept (Matrix at rows) b env wanted = same

  outputs_kept : (e : Exp) (b : Bool) (env : Env) (wanted : ℕ) → Kept (output_values e (before b) env wanted) (output_values e (after b) env wanted)
  unfolding output_values
  outputs_kept e b env zero = call_kept e b env zero
  outputs_kept e b env (suc zero) = kept_bind (value_kept e b env None) (λ v. same)
  outputs_kept e b env (suc (suc k)) = call_kept e b env (suc (suc k))

  condition_kept : (e : Exp) (b : Bool) (env : Env) → Kept (condition e (before b) env) (condition e (after b) env)
  condition_kept e b env = kept_bind (value_kept e b env None) (λ v. same)

  loop_kept : (e : Exp) (to : Place) (b : Bool) (env : Env) → Kept (loop_items e to (before b) env) (loop_items e to (after b) env)
  unfolding loop_items
  loop_kept (Range at first last) to b env = kept_bind (value_kept first b env None) (λ x. kept_bind (value_kept last b env None) (λ y. same))
  loop_kept (RangeBy at first step last) to b env =
      kept_bind (value_kept first b env None) (λ x. kept_bind (value_kept step b env None) (λ s. kept_bind (value_kept last b env None) (λ y. same)))
  loop_kept (Number at text imaginary) to b env = same
  loop_kept (Words at text) to b env = same
  loop_kept (Name at name) to b env = same
  loop_kept (Apply at name opens args) to b env = same
  loop_kept (End at) to b env = same
  loop_kept (Unary at sign e) to b env = same
  loop_kept (Binary at operator e d) to b env = same
  loop_kept (Post at mark e) to b env = same
  loop_kept (Paren at e) to b env = same
  loop_kept (Matrix at rows) to b env = same

  mutual
    run_kept : (s : Sta) (b : Bool) (n : ℕ) (env : Env) → Kept (run s (before b) n env) (run s (after b) (suc n) env)
    run_kept (Assign to e) b n env = kept_bind (value_kept e b env None) (λ v. same)
    run_kept (Store to opens args e) b n env =
        kept_bind (value_kept e b env None) (λ v. kept_bind same (λ old. kept_bind (subscripts_kept args b env to.place _ 0 _) (λ ks. same)))
    run_kept (Multi targets e) b n env = kept_bind (outputs_kept e b env (length targets)) (λ vs. same)
    run_kept (IfOnly at arms) b n env = arms_kept arms b n env same
    run_kept (IfElse at arms other) b n env = arms_kept arms b n env (block_kept other b n env)
    run_kept (ForEach at to range body) b n env =
        kept_bind (loop_kept range to.place b env) (λ zs. kept_bind (items_kept zs _ _ (λ z inner. block_kept body true n _) env) (λ flow. same))
    run_kept (WhileTrue at test body) b n env = turns_kept n _ _ _ _ (condition_kept test b) (block_kept body true n) env
    run_kept (BreakOff at) b n env = same
    run_kept (GoOn at) b n env = same

    arms_kept : (arms : Arms) (b : Bool) (n : ℕ) (env : Env) {r s : Got Place Flow} → Kept r s → Kept (run_arms arms (before b) n env r) (run_arms arms (after b) (suc n) env s)
    arms_kept NoArms b n env h = h
    arms_kept (Arm test body more) b n env h = kept_bind (condition_kept test b env) (λ t. kept_if t (block_kept body b n env) (arms_kept more b n env h))

    block_kept : (d : Block) (b : Bool) (n : ℕ) (env : Env) → Kept (run_block d (before b) n env) (run_block d (after b) (suc n) env)
    block_kept Done b n env = same
    block_kept (Next s more) b n env = kept_bind (run_kept s b n env) (λ flow. then_kept flow (block_kept more b n))

file_kept : (fs : List Fun) (n depth : ℕ) (running : List (List ℕ)) (at : Place) (name : List ℕ) (vs : List Val) (wanted : ℕ) → Kept (file_call fs n depth running at name vs wanted) (file_call fs (suc n) depth running at name vs wanted)
file_kept fs n zero running at name vs wanted = same
file_kept fs n (suc depth) running at name vs wanted =
    kept_bind same (λ f. kept_if _ same (kept_bind same (λ env.
    kept_bind (kept_bind (block_kept (variables_of f) (map (λ g. g.name.text) fs) _ _ (file_kept fs n depth (name ∷ running)) f.body false n env) (λ flow. same)) (λ later. same))))

one_more : (fs : List Fun) (entry : List ℕ) (vs : List Val) (n : ℕ) → Kept (evaluated fs entry vs n) (evaluated fs entry vs (suc n))
one_more fs entry vs n =
    kept_bind same (λ f. kept_bind same (λ env.
    kept_bind (kept_bind (block_kept (variables_of f) (map (λ g. g.name.text) fs) _ _ (file_kept fs n 16 (f.name.text ∷ [])) f.body false n env) (λ flow. same)) (λ later. same)))

kept_twice : {A : Type 0} {r s t : Got Place A} → Kept r s → Kept s t → Kept r t
kept_twice same h = h
kept_twice past h = past

reached : (fs : List Fun) (entry : List ℕ) (vs : List Val) (m : ℕ) {j k : ℕ} → j ≡ k → Kept (evaluated fs entry vs m) (evaluated fs entry vs j) → Kept (evaluated fs entry vs m) (evaluated fs entry vs k)
reached fs entry vs m e h = subst (λ i. Kept (evaluated fs entry vs m) (evaluated fs entry vs i)) e h

more : (fs : List Fun) (entry : List ℕ) (vs : List Val) (m k : ℕ) → Kept (evaluated fs entry vs m) (evaluated fs entry vs (k + m))
more fs entry vs m zero =
    let e : m ≡ 0 + m = omega (arith) in
    reached fs entry vs m e same
more fs entry vs m (suc k) =
    let e : suc (k + m) ≡ suc k + m = omega (arith) in
    reached fs entry vs m e (kept_twice (more fs entry vs m k) (one_more fs entry vs (k + m)))

pub kept_outcomes : (fs : List Fun) (entry : List ℕ) (vs : List Val) (m n : ℕ) → m ≤ n → Kept (evaluated fs entry vs m) (evaluated fs entry vs n)
kept_outcomes fs entry vs m n h =
    let e : (n - m) + m ≡ n = omega (arith, h) in
    subst (λ k. Kept (evaluated fs entry vs m) (evaluated fs entry vs k)) e (more fs entry vs m (n - m))
