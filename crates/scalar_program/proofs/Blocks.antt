-- The statements of a block lead to a state in which its variables stand.
use Rattle.std.proofs.Common.{◌≡◌, ℕ, ◌≤◌, Bool, true, false, ◌||◌, List, [], ◌∷◌, ◌++◌, length, map, Some, refl, sym, ap, ◌∙◌, subst, arith, append_assoc, append-nil, if◌then◌else◌}
use Rattle.std.specs.Prelude.{bytes_eq}
use Rattle.std.specs.List.{list_any}
use Rattle.mat_ast.specs.declared.tree.Ident.{Ident}
use Rattle.mat_ast.specs.Tree as ast
use Rattle.mat_ast.specs.Tree.{Assign, Store, Multi, IfOnly, IfElse, ForEach, WhileTrue, BreakOff, GoOn}
use Rattle.fi_eval.specs.Outcome as got
use Rattle.fi_rules.specs.Value.{Val}
use Rattle.fi_eval.specs.Meaning as source
use Rattle.fi_eval.specs.Meaning.{Env, Context, look_up, is_variable, targets_of, targets_of_block}
use Rattle.c_tree.specs.declared.tree.CWord.{CWord}
use Rattle.c_tree.specs.Tree.{Sta}
use Rattle.c_tree.specs.Meaning.{State}
use Rattle.scalar_program.specs.NameMaps.{with_type}
use Rattle.scalar_program.specs.Lowered.{Held, Names, Emitted, IsStaLowered, IsBlockLowered, Behind}
use Rattle.scalar_program.proofs.Says.{HeldStands, or_left, or_right}
use Rattle.scalar_program.proofs.Runs.{word_type, RunsTo, runs_nothing, runs_both, IsBelow, Keeps, keeps_both, Adds, adds_nothing, adds_both, some_is, rest_of}
use Rattle.scalar_program.proofs.Expressions.{Sees, sees_after, runs}
use Rattle.scalar_program.proofs.Added.{adds}

-- names that are variables
abbrev pub Covers : Context → List (List ℕ) → Type 0
Covers cx names = (name : List ℕ) → list_any (λ other. bytes_eq other name) names ≡ true → is_variable cx name ≡ true

pub any_behind : (p : List ℕ → Bool) (xs ys : List (List ℕ)) → list_any p ys ≡ true → list_any p (xs ++ ys) ≡ true
any_behind p [] ys e = e
any_behind p (x ∷ xs) ys e = or_right (p x) (list_any p (xs ++ ys)) (any_behind p xs ys e)

or_cases : (a b c : Bool) → (b ≡ true → c ≡ true) → (a || b) ≡ true → (a || c) ≡ true
or_cases true b c f e = refl
or_cases false b c f e = f e

pub any_front : (p : List ℕ → Bool) (xs ys : List (List ℕ)) → list_any p xs ≡ true → list_any p (xs ++ ys) ≡ true
any_front p [] ys e = absurd (cc)
any_front p (x ∷ xs) ys e = or_cases (p x) (list_any p xs) (list_any p (xs ++ ys)) (any_front p xs ys) e

-- a variable that is assigned stands there with its new value
pub sees_assigned : (names : Names) (cx : Context) (env : Env) (st : State) (n : ℕ) (to : List ℕ) (h : Held) (v : Val) → Covers cx (to ∷ []) → HeldStands st h.spot h.ty v → IsBelow h.spot n → Sees names cx env st n → Sees (with_type names to h) cx ((to, v) ∷ env) st n
sees_assigned names cx env st n to h v covers stands below sees name p e = by (bytes_eq to name) refl e
  where
    by : (b : Bool) → bytes_eq to name ≡ b → (if b then Some h else names name) ≡ Some p → (w : Val) × ((if bytes_eq to name then Some v else look_up env name) ≡ Some w) × HeldStands st p.spot p.ty w × IsBelow p.spot n × (is_variable cx name ≡ true)
    by true q e =
        let same : h ≡ p = some_is h p e in (
          v,
          ap (λ b. if b then Some v else look_up env name) q,
          subst (λ (k : Held). HeldStands st k.spot k.ty v) same stands,
          subst (λ (k : Held). IsBelow k.spot n) same below,
          covers name (or_left (bytes_eq to name) false q),
        )
    by false q e =
        let f = sees name p e in
        (f.0, ap (λ b. if b then Some v else look_up env name) q ∙ f.1, f.2, f.3, f.4)

-- a run of a block's statements
pub record RanBlock (cx : Context) (env : Env) (b : ast.Block) (em : Emitted) (behind : Behind) (st : State) (all : List CWord) : Type 0 where
  pub more : List Sta
  pub is : behind.emitted.sets ≡ em.sets ++ more
  pub after : State
  pub does : RunsTo more st after
  pub env_after : Env
  pub gives : (n : ℕ) → source.run_block b cx n env ≡ got.Gives (source.Went env_after)
  pub sees : Sees behind.names cx env_after after (length behind.emitted.words)
  pub keeps : Keeps (length em.words) st after
  pub typed : map word_type after.words ≡ all
  pub wider : length em.words ≤ length behind.emitted.words

-- what is lowered behind statements only adds some
sta_adds : (s : ast.Sta) (cx : Context) (names : Names) (em : Emitted) (b : Behind) → IsStaLowered s cx names em b → Adds em b.emitted
sta_adds (Assign to e) cx names em b h = subst (λ l. Adds em l.emitted) (sym h.2) (adds e cx names em h.0 h.1)
sta_adds (Store to opens args e) cx names em b h = absurd h
sta_adds (Multi targets e) cx names em b h = absurd h
sta_adds (IfOnly at arms) cx names em b h = absurd h
sta_adds (IfElse at arms other) cx names em b h = absurd h
sta_adds (ForEach at to range body) cx names em b h = absurd h
sta_adds (WhileTrue at test body) cx names em b h = absurd h
sta_adds (BreakOff at) cx names em b h = absurd h
sta_adds (GoOn at) cx names em b h = absurd h

pub block_adds : (b : ast.Block) (cx : Context) (names : Names) (em : Emitted) (behind : Behind) → IsBlockLowered b cx names em behind → Adds em behind.emitted
block_adds ast.Done cx names em behind h = subst (λ l. Adds em l.emitted) (sym h) (adds_nothing em)
block_adds (ast.Next s more) cx names em behind h =
    adds_both em h.0.emitted behind.emitted (sta_adds s cx names em h.0 h.1) (block_adds more cx h.0.names h.0.emitted behind h.2)

assign_gives : (to : Ident) (e : ast.Exp) (more : ast.Block) (cx : Context) (env : Env) (n : ℕ) (v : Val) → source.value e cx env ≡ got.Gives v → source.run_block (ast.Next (Assign to e) more) cx n env ≡ source.run_block more cx n ((to.text, v) ∷ env)
unfolding got.bind
assign_gives to e more cx env n v h = ap (λ g. got.bind (got.bind g (λ v. got.Gives (source.Went ((to.text, v) ∷ env)))) (λ flow. source.then_do flow (source.run_block more cx n))) h

pub block_runs : (b : ast.Block) (names : Names) (cx : Context) (env : Env) (em : Emitted) (behind : Behind) → IsBlockLowered b cx names em behind → Covers cx (targets_of_block b) → (st : State) (all rest : List CWord) → Sees names cx env st (length em.words) → map word_type st.words ≡ all → all ≡ behind.emitted.words ++ rest → RanBlock cx env b em behind st all
block_runs ast.Done names cx env em behind h covers st all rest sees typed fits =
    subst (λ l. RanBlock cx env ast.Done em l st all) (sym h) (record {
      more = [];
      is = sym (append-nil em.sets);
      after = st;
      does = runs_nothing st;
      env_after = env;
      gives = λ n. refl;
      sees = sees;
      keeps = record { inputs = refl; outputs = refl; words = λ k l. refl };
      typed = typed;
      wider = omega arith;
    })
block_runs (ast.Next (Assign to e) more) names cx env em behind h covers st all rest sees typed fits =
    let y = h.0 in
    let x = h.1.0 in
    let same = sym h.1.2 in
    let add = block_adds more cx y.names y.emitted behind h.2 in
    let fits_y : all ≡ y.emitted.words ++ (add.extra ++ rest) = rest_of all y.emitted.words add.extra rest behind.emitted.words fits add.words in
    let fits_x : all ≡ x.emitted.words ++ (add.extra ++ rest) = fits_y ∙ ap (λ l. l.emitted.words ++ (add.extra ++ rest)) (sym same) in
    let p = runs e names cx env em x h.1.1 st all (add.extra ++ rest) sees typed fits_x in
    let m = p.moves in
    let env_p : Env = (to.text, p.v) ∷ env in
    let here : Covers cx (to.text ∷ []) = λ name q. covers name (any_front (λ other. bytes_eq other name) (to.text ∷ []) (targets_of_block more) q) in
    let sees_p = sees_assigned names cx env m.after (length x.emitted.words) to.text x.held p.v here p.stands p.below (sees_after names cx env st m.after (length em.words) (length x.emitted.words) m.wider m.keeps sees) in
    let sees_y : Sees y.names cx env_p m.after (length y.emitted.words) = subst (λ l. Sees l.names cx env_p m.after (length l.emitted.words)) same sees_p in
    let q = block_runs more y.names cx env_p y.emitted behind h.2 (λ name r. covers name (any_behind (λ other. bytes_eq other name) (to.text ∷ []) (targets_of_block more) r)) m.after all rest sees_y m.typed fits in
    let is_p : y.emitted.sets ≡ em.sets ++ m.more = ap (λ l. l.emitted.sets) (sym same) ∙ m.is in
    let wide_p : length em.words ≤ length y.emitted.words = subst (λ l. length em.words ≤ length l.emitted.words) same m.wider in
    record {
      more = m.more ++ q.more;
      is = q.is ∙ ap (λ l. l ++ q.more) is_p ∙ append_assoc em.sets m.more q.more;
      after = q.after;
      does = runs_both m.more q.more st m.after q.after m.does q.does;
      env_after = q.env_after;
      gives = λ n. assign_gives to e more cx env n p.v p.gives ∙ q.gives n;
      sees = q.sees;
      keeps = keeps_both (length em.words) (length y.emitted.words) st m.after q.after wide_p m.keeps q.keeps;
      typed = q.typed;
      wider = omega (arith, wide_p, q.wider);
    }
block_runs (ast.Next (Store to opens args e) more) names cx env em behind h covers st all rest sees typed fits = absurd h.1
block_runs (ast.Next (Multi targets e) more) names cx env em behind h covers st all rest sees typed fits = absurd h.1
block_runs (ast.Next (IfOnly at arms) more) names cx env em behind h covers st all rest sees typed fits = absurd h.1
block_runs (ast.Next (IfElse at arms other) more) names cx env em behind h covers st all rest sees typed fits = absurd h.1
block_runs (ast.Next (ForEach at to range body) more) names cx env em behind h covers st all rest sees typed fits = absurd h.1
block_runs (ast.Next (WhileTrue at test body) more) names cx env em behind h covers st all rest sees typed fits = absurd h.1
block_runs (ast.Next (BreakOff at) more) names cx env em behind h covers st all rest sees typed fits = absurd h.1
block_runs (ast.Next (GoOn at) more) names cx env em behind h covers st all rest sees typed fits = absurd h.1
