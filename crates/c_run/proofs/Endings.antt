-- A run from its state, statements and answer.
use Rattle.std.proofs.Common.{◌≡◌, ℕ, ◌+◌, ℤ, List, map, sym, ap, ◌∙◌, subst}
use Rattle.c_tree.specs.Tree.{Program}
use Rattle.c_tree.specs.Names.{arrays_of}
use Rattle.c_tree.specs.Tokens.{block_tokens, body_token, closing_token}
use Rattle.c_tree.specs.Outcome.{Outcome}
use Rattle.c_tree.specs.Meaning as meaning
use Rattle.c_tree.specs.Meaning.{State, run_block}
use Rattle.c_tree.specs.Run.{result_of, start, run}
use Rattle.c_run.specs.declared.flow.Flow.{Flow}
use Rattle.c_run.specs.declared.ran.Ran.{Ran}
use Rattle.c_run.specs.View.{flow_told}
use Rattle.c_run.specs.Start.{zero_lists}
use Rattle.c_run.specs.Ran.{IsRan}

-- the answer to the statements of a program from its start is that to the program
pub ran_is : (p : Program) (lists : List (List ℤ)) (turns first size : ℕ) (before after : State) (flow : Flow) (answer : Ran)
    → first ≡ body_token p → size ≡ block_tokens p.body → before ≡ start p lists (zero_lists (arrays_of p).outputs)
    → flow_told flow after ≡ run_block p.body turns before first
    → ((st : State) → IsRan (result_of (first + size) (flow_told flow st)) answer (map (λ cells. cells.items) st.outputs))
    → IsRan (run p lists (zero_lists (arrays_of p).outputs) turns) answer (map (λ cells. cells.items) after.outputs)
ran_is p lists turns first size before after flow answer f s b told answers =
    let outs = map (λ (cells : meaning.Cells). cells.items) after.outputs in
    let ends : result_of (first + size) (flow_told flow after) ≡ run p lists (zero_lists (arrays_of p).outputs) turns =
    ap (λ n. result_of (n + size) (flow_told flow after)) f ∙ ap (λ n. result_of (body_token p + n) (flow_told flow after)) s
    ∙ ap (result_of (closing_token p)) (told ∙ ap (λ st. run_block p.body turns st first) b ∙ ap (λ n. run_block p.body turns (start p lists (zero_lists (arrays_of p).outputs)) n) f) in
    subst (λ r. IsRan r answer outs) ends (answers after)
