-- Statements of a block, arms and turns of loops one by one.
use Rattle.std.proofs.Common.{◌≡◌, ℕ, zero, suc, ◌+◌, ◌-◌, ◌<◌, ◌≤◌, Bool, true, false, List, [], ◌∷◌, Option, Some, None, Err, refl, sym, ap, subst, ◌∙◌, arith}
use Rattle.std.specs.Prelude.{ℤ, is_some}
use Rattle.fic_base.specs.declared.place.Place.{Place}
use Rattle.fi_eval.specs.Outcome.{Got, Gives, Fault, Over, Wrong, bind, ◌>>=◌, choose}
use Rattle.fi_values.specs.Elements.{count_from}
use Rattle.mat_ast.specs.Tree.{Arms, NoArms, Arm}
use Rattle.mat_ast.specs.View.{stmt_view, arms_view, block_view}
use Rattle.mat_ast.specs.declared.tree.Stmt.{Stmt}
use Rattle.mat_ast.specs.declared.tree.Stmt.TheVariants as stmt
use Rattle.mat_ast.specs.declared.tree.Arm as arm
use Rattle.fi_meaning.specs.Environment.{Env, Flow, Went, Broke, then_do, turned, forgotten, behind_loop}
use Rattle.fi_meaning.specs.Expressions.{Context}
use Rattle.fi_meaning.specs.Statements as statements
use Rattle.fi_meaning.specs.Statements.{turns, condition, run_arms, run_block}
use Rattle.eval_value.specs.Tells.{Tells}
use Rattle.eval_value.specs.declared.halt.Halt.{Halt}
use Rattle.eval_source.specs.Flows.{flow_view, leaves, ends_loop, Armed, Held, NoneHeld, armed, armed_view, next_arm, or_else}
use Rattle.eval_source.specs.declared.flow.Flow as code
use Rattle.eval_source.specs.declared.flow.Flow.TheVariants as flow
use Rattle.eval_call.proofs.Follow.{after_err}
use Rattle.eval_source.proofs.Bodies.{if_only_view, if_else_view}

-- one that has no result
pub part_stops : {R S A B : Type 0} (h : Halt) (part : R → A) (view : S → B) (first : Got Place A) (next : A → Got Place B) (whole : Got Place B) → whole ≡ (first >>= next) → Tells {R = R} (Err h) part first → Tells {R = S} (Err h) view whole
part_stops {S = S} h part view first next whole w t = subst (λ g. Tells {R = S} (Err h) view g) (sym w) (after_err h part view first next t)

-- ---- blocks

pub block_goes : (first : Got Place Flow) (f : code.Flow) (env : Env) (next : Env → Got Place Flow) (whole : Got Place Flow) (b : Bool) → whole ≡ (first >>= (λ flow. then_do flow next)) → first ≡ Gives (flow_view f env) → b ≡ leaves f → b ≡ false → whole ≡ next env
unfolding bind then_do
block_goes first f env next whole b w h l n = w ∙ ap (λ g. bind g (λ flow. then_do flow next)) h ∙ by f (sym l ∙ n)
  where
    by : (f : code.Flow) → leaves f ≡ false → then_do (flow_view f env) next ≡ next env
    by flow.Went n = refl
    by flow.Broke n = absurd (let e : true ≡ false = n in cc)
    by flow.Continued n = absurd (let e : true ≡ false = n in cc)

pub block_leaves : (first : Got Place Flow) (f : code.Flow) (env : Env) (next : Env → Got Place Flow) (whole : Got Place Flow) (b : Bool) → whole ≡ (first >>= (λ flow. then_do flow next)) → first ≡ Gives (flow_view f env) → b ≡ leaves f → b ≡ true → whole ≡ Gives (flow_view f env)
unfolding bind then_do
block_leaves first f env next whole b w h l n = w ∙ ap (λ g. bind g (λ flow. then_do flow next)) h ∙ by f (sym l ∙ n)
  where
    by : (f : code.Flow) → leaves f ≡ true → then_do (flow_view f env) next ≡ Gives (flow_view f env)
    by flow.Went n = absurd (let e : false ≡ true = n in cc)
    by flow.Broke n = refl
    by flow.Continued n = refl

-- ---- arms

pub arms_go : (first : Got Place Armed) (o : Option code.Flow) (env : Env) (next : Env → Got Place Armed) (whole : Got Place Armed) (b : Bool) → whole ≡ (first >>= (λ a. next_arm a next)) → first ≡ Gives (armed_view o env) → b ≡ is_some o → b ≡ false → whole ≡ next env
unfolding bind next_arm
arms_go first o env next whole b w h l n = w ∙ ap (λ g. bind g (λ a. next_arm a next)) h ∙ by o (sym l ∙ n)
  where
    by : (o : Option code.Flow) → is_some o ≡ false → next_arm (armed_view o env) next ≡ next env
    by None n = refl
    by (Some f) n = absurd (let e : true ≡ false = n in cc)

pub arms_hold : (first : Got Place Armed) (o : Option code.Flow) (env : Env) (next : Env → Got Place Armed) (whole : Got Place Armed) (b : Bool) → whole ≡ (first >>= (λ a. next_arm a next)) → first ≡ Gives (armed_view o env) → b ≡ is_some o → b ≡ true → whole ≡ Gives (armed_view o env)
unfolding bind next_arm
arms_hold first o env next whole b w h l n = w ∙ ap (λ g. bind g (λ a. next_arm a next)) h ∙ by o (sym l ∙ n)
  where
    by : (o : Option code.Flow) → is_some o ≡ true → next_arm (armed_view o env) next ≡ Gives (armed_view o env)
    by None n = absurd (let e : false ≡ true = n in cc)
    by (Some f) n = refl

-- ---- loops

pub loop_goes : (first : Got Place Flow) (f : code.Flow) (env : Env) (next : Env → Got Place Flow) (whole : Got Place Flow) (b : Bool) → whole ≡ (first >>= (λ flow. turned flow next)) → first ≡ Gives (flow_view f env) → b ≡ ends_loop f → b ≡ false → whole ≡ next env
unfolding bind turned
loop_goes first f env next whole b w h l n = w ∙ ap (λ g. bind g (λ flow. turned flow next)) h ∙ by f (sym l ∙ n)
  where
    by : (f : code.Flow) → ends_loop f ≡ false → turned (flow_view f env) next ≡ next env
    by flow.Went n = refl
    by flow.Broke n = absurd (let e : true ≡ false = n in cc)
    by flow.Continued n = refl

pub loop_ends : (first : Got Place Flow) (f : code.Flow) (env : Env) (next : Env → Got Place Flow) (whole : Got Place Flow) (b : Bool) → whole ≡ (first >>= (λ flow. turned flow next)) → first ≡ Gives (flow_view f env) → b ≡ ends_loop f → b ≡ true → whole ≡ Gives (Went env)
unfolding bind turned
loop_ends first f env next whole b w h l n = w ∙ ap (λ g. bind g (λ flow. turned flow next)) h ∙ by f (sym l ∙ n)
  where
    by : (f : code.Flow) → ends_loop f ≡ true → turned (flow_view f env) next ≡ Gives (Went env)
    by flow.Went n = absurd (let e : false ≡ true = n in cc)
    by flow.Broke n = refl
    by flow.Continued n = absurd (let e : false ≡ true = n in cc)

-- the items from one on
pub counted : (k n : ℕ) → k < n → count_from k (n - k) ≡ k ∷ count_from (k + 1) (n - (k + 1))
counted k n h =
    let a : n - k ≡ suc (n - (k + 1)) = omega (arith, h) in
    let b : suc k ≡ k + 1 = omega arith in
    ap (count_from k) a ∙ ap (λ i. k ∷ count_from i (n - (k + 1))) b

pub none_counted : (k n : ℕ) → n ≤ k → count_from k (n - k) ≡ []
none_counted k n h =
    let a : n - k ≡ zero = omega (arith, h) in
    ap (count_from k) a

-- a turn of a `while` as a turn of a loop
pub while_first : (n : ℕ) (test : Env → Got Place Bool) (body : Env → Got Place Flow) (env : Env)
    → turns (suc n) test body env ≡ ((test env >>= (λ t. choose t (body env) (Gives (Broke env)))) >>= (λ flow. turned flow (turns n test body)))
unfolding bind choose turned
while_first n test body env = by (test env)
  where
    by : (g : Got Place Bool) → bind g (λ t. choose t (bind (body env) (λ flow. turned flow (turns n test body))) (Gives (Went env))) ≡ bind (bind g (λ t. choose t (body env) (Gives (Broke env)))) (λ flow. turned flow (turns n test body))
    by (Gives true) = refl
    by (Gives false) = refl
    by (Fault site) = refl
    by Over = refl
    by (Wrong at) = refl

pub turns_left : (k n : ℕ) → k < n → n - k ≡ suc (n - (k + 1))
turns_left k n h = omega (arith, h)

-- a `for` whose turns are done
pub for_done : (items : Got Place (List ℤ)) (zs : List ℤ) (run : List ℤ → Got Place Flow) (name : List ℕ) (env later : Env) → items ≡ Gives zs → run zs ≡ Gives (Went env) → later ≡ forgotten name env → (items >>= (λ zs. run zs >>= behind_loop name)) ≡ Gives (Went later)
unfolding bind behind_loop
for_done items zs run name env later h k l = ap (λ g. bind g (λ zs. bind (run zs) (behind_loop name))) h ∙ ap (λ g. bind g (behind_loop name)) k ∙ ap (λ e. Gives (Went e)) (sym l)

-- ---- an `if`

pub arms_by_arms : (arms : Arms) (cx : Context) (n : ℕ) (env : Env) (other : Env → Got Place Flow) → run_arms arms cx n env (other env) ≡ (armed arms cx n env >>= (λ a. or_else a other))
unfolding bind choose next_arm or_else
arms_by_arms NoArms cx n env other = refl
arms_by_arms (Arm test body more) cx n env other = by (arms_by_arms more cx n env other) (condition test cx env)
  where
    held : (g : Got Place Flow) → g ≡ bind (bind (bind g (λ f. Gives (Held f))) (λ a. next_arm a (armed more cx n))) (λ a. or_else a other)
    held (Gives f) = refl
    held (Fault site) = refl
    held Over = refl
    held (Wrong at) = refl

    by : run_arms more cx n env (other env) ≡ bind (armed more cx n env) (λ a. or_else a other) → (g : Got Place Bool) → bind g (λ t. choose t (run_block body cx n env) (run_arms more cx n env (other env)))
        ≡ bind (bind (bind g (λ t. choose t (bind (run_block body cx n env) (λ f. Gives (Held f))) (Gives (NoneHeld env)))) (λ a. next_arm a (armed more cx n))) (λ a. or_else a other)
    by rest (Gives true) = held (run_block body cx n env)
    by rest (Gives false) = rest
    by rest (Fault site) = refl
    by rest Over = refl
    by rest (Wrong at) = refl

-- what stands behind the arms
abbrev pub other_of : Option (List Stmt) → Context → ℕ → Env → Got Place Flow
other_of None cx n env = Gives (Went env)
other_of (Some body) cx n env = statements.run_block (block_view body) cx n env

pub if_run : (s : Stmt) (at : Place) (arms : List arm.Arm) (other : Option (List Stmt)) (cx : Context) (n : ℕ) (env : Env) → s ≡ stmt.If at arms other
    → statements.run (stmt_view s) cx n env ≡ (armed (arms_view arms) cx n env >>= (λ a. or_else a (other_of other cx n)))
if_run s at arms None cx n env is = ap (λ t. statements.run t cx n env) (if_only_view s at arms is) ∙ arms_by_arms (arms_view arms) cx n env (λ env. Gives (Went env))
if_run s at arms (Some body) cx n env is = ap (λ t. statements.run t cx n env) (if_else_view s at arms body is) ∙ arms_by_arms (arms_view arms) cx n env (statements.run_block (block_view body) cx n)

pub if_held : (first : Got Place Armed) (o : Option code.Flow) (f : code.Flow) (env : Env) (other : Env → Got Place Flow) (whole : Got Place Flow) → whole ≡ (first >>= (λ a. or_else a other)) → first ≡ Gives (armed_view o env) → o ≡ Some f → whole ≡ Gives (flow_view f env)
unfolding bind or_else
if_held first o f env other whole w h is = w ∙ ap (λ g. bind g (λ a. or_else a other)) (h ∙ ap (λ o. Gives (armed_view o env)) is)

pub if_none : (first : Got Place Armed) (o : Option code.Flow) (env : Env) (other : Env → Got Place Flow) (whole : Got Place Flow) → whole ≡ (first >>= (λ a. or_else a other)) → first ≡ Gives (armed_view o env) → o ≡ None → whole ≡ other env
unfolding bind or_else
if_none first o env other whole w h is = w ∙ ap (λ g. bind g (λ a. or_else a other)) (h ∙ ap (λ o. Gives (armed_view o env)) is)
