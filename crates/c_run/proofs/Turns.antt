-- Statements in order, and the turns of loops.
use Rattle.std.proofs.Common.{◌≡◌, ℕ, zero, suc, ◌+◌, ◌<◌, Bool, true, false, List, [], ◌∷◌, length, get_or, drop, refl, sym, ap, ◌∙◌, add-one}
use Rattle.std.specs.Prelude.{Option, Some, None}
use Rattle.std.proofs.Math.Seq.{drop-cons}
use Rattle.c_tree.specs.declared.tree.Counter.{Counter}
use Rattle.c_tree.specs.declared.tree.CStmt.{CStmt}
use Rattle.c_tree.specs.View.{stmt_view, block_view}
use Rattle.c_tree.specs.Tokens.{sta_tokens}
use Rattle.c_tree.specs.Outcome.{Outcome, Completes, PastBound, UndefinedAt, bind, choose}
use Rattle.c_tree.specs.Meaning as meaning
use Rattle.c_tree.specs.Meaning.{State, with_count, then_run, after_turn, for_turns, while_turns, run_sta, run_block}
use Rattle.c_run.specs.declared.flow.Flow.{Flow}
use Rattle.c_run.specs.View.{flow_told, left_or}

-- the first of those that are left
pub item_first : {A : Type 0} → (xs : List A) (i : ℕ) (x : A) → i < length xs → x ≡ get_or xs i x → drop i xs ≡ x ∷ drop (i + 1) xs
item_first xs i x h e = rw add-one (drop-cons xs i x h ∙ ap (λ y. y ∷ drop (suc i) xs) (sym e))

pub block_turn : (body : List CStmt) (s : CStmt) (more : List CStmt) (n : ℕ) (st st' : State) (first : ℕ) (flow : Flow) (o : Option Flow) → body ≡ s ∷ more
    → flow_told flow st' ≡ run_sta (stmt_view s) n st first
    → ((next : State → Outcome meaning.Flow) → left_or o next st' ≡ bind (flow_told flow st') (λ f. then_run f next))
    → run_block (block_view body) n st first ≡ left_or o (λ st. run_block (block_view more) n st (first + sta_tokens (stmt_view s))) st'
block_turn body s more n st st' first flow o e told on =
    let next : State → Outcome meaning.Flow = λ st. run_block (block_view more) n st (first + sta_tokens (stmt_view s)) in
    ap (λ b. run_block (block_view b) n st first) e ∙ ap (λ r. bind r (λ f. then_run f next)) (sym told) ∙ sym (on next)

pub for_turn : (left rest i next : ℕ) (c : Counter) (body : State → Outcome meaning.Flow) (st st1 st' : State) (flow : Flow) (o : Option Flow)
    → left ≡ suc rest → next ≡ suc i → st1 ≡ with_count st c i → flow_told flow st' ≡ body st1
    → ((go : State → Outcome meaning.Flow) → left_or o go st' ≡ bind (flow_told flow st') (λ f. after_turn f go))
    → for_turns left i c body st ≡ left_or o (for_turns rest next c body) st'
for_turn left rest i next c body st st1 st' flow o el en es told on =
    ap (λ n. for_turns n i c body st) el
    ∙ ap (λ r. bind r (λ f. after_turn f (for_turns rest (suc i) c body))) (ap body (sym es) ∙ sym told)
    ∙ sym (on (for_turns rest (suc i) c body)) ∙ ap (λ n. left_or o (for_turns rest n c body) st') (sym en)

pub while_fails : (left : ℕ) (test : State → Outcome Bool) (body : State → Outcome meaning.Flow) (st : State) (token : ℕ) → UndefinedAt token ≡ test st → UndefinedAt token ≡ while_turns left test body st
unfolding bind
while_fails zero test body st token e = ap (λ r. bind r (λ t. choose t PastBound (Completes (meaning.Went st)))) e
while_fails (suc n) test body st token e = ap (λ r. bind r (λ t. choose t (bind (body st) (λ f. after_turn f (while_turns n test body))) (Completes (meaning.Went st)))) e

pub while_ends : (left : ℕ) (test : State → Outcome Bool) (body : State → Outcome meaning.Flow) (st : State) → Completes false ≡ test st → Completes (meaning.Went st) ≡ while_turns left test body st
unfolding bind choose
while_ends zero test body st e = ap (λ r. bind r (λ t. choose t PastBound (Completes (meaning.Went st)))) e
while_ends (suc n) test body st e = ap (λ r. bind r (λ t. choose t (bind (body st) (λ f. after_turn f (while_turns n test body))) (Completes (meaning.Went st)))) e

pub while_turn : (left rest : ℕ) (test : State → Outcome Bool) (body : State → Outcome meaning.Flow) (st st' : State) (flow : Flow) (o : Option Flow)
    → left ≡ suc rest → Completes true ≡ test st → flow_told flow st' ≡ body st
    → ((go : State → Outcome meaning.Flow) → left_or o go st' ≡ bind (flow_told flow st') (λ f. after_turn f go))
    → while_turns left test body st ≡ left_or o (while_turns rest test body) st'
unfolding bind choose
while_turn left rest test body st st' flow o el goes told on =
    ap (λ n. while_turns n test body st) el
    ∙ ap (λ r. bind r (λ t. choose t (bind (body st) (λ f. after_turn f (while_turns rest test body))) (Completes (meaning.Went st)))) (sym goes)
    ∙ ap (λ r. bind r (λ f. after_turn f (while_turns rest test body))) (sym told)
    ∙ sym (on (while_turns rest test body))
