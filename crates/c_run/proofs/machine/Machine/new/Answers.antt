use Rattle.std.proofs.Common.{◌≡◌, ◌+◌, ◌<◌, ◌^◌, arith, List, map, sym, ap, ◌∙◌, subst}
use Rattle.c_tree.specs.declared.tree.CStmt.{CStmt}
use Rattle.c_tree.specs.declared.tree.CTree.{CTree}
use Rattle.c_tree.specs.View.{program_view, block_view}
use Rattle.c_tree.specs.Tokens.{body_token, block_tokens, closing_token}
use Rattle.c_tree.specs.Run.{zero_word}
use Rattle.c_tree.specs.Whole.{program_of}
use Rattle.c_run.specs.Shape.{shape_of, program_shape}
use Rattle.c_run.proofs.Lists.{blank_shape}
use Rattle.c_run.proofs.machine.Machine.new.Goals as goal

pub invariant_of-result : goal.invariant_of-result
invariant_of-result c =
    let t = c.tree-tree.ensures.value in
    let ends =
    c.in-Some-count_block.ensures ∙ ap (λ n. n + block_tokens (block_view c.as_slice.result.now)) c.in-Some.ensures
    ∙ ap (λ (b : List CStmt). body_token (program_view c.tree-tree.result.now) + block_tokens (block_view b)) c.as_slice.ensures in
    record {
      words_are = c.in_ok-words.ensures ∙ ap (map zero_word) (c.as_slice-2.ensures ∙ ap (λ (t : CTree). t.words) t);
      first_is = c.in-Some.ensures ∙ ap (λ (t : CTree). body_token (program_view t)) t;
      counted = subst (λ (t : CTree). closing_token (program_view t) < 2 ^ 64) t (subst (λ n. n < 2 ^ 64) ends c.bounded.ensures.bound);
      shaped = ap shape_of c.in_ok-frame.ensures ∙ blank_shape (program_view c.tree-tree.result.now) ∙ ap (λ (t : CTree). program_shape (program_view t)) t;
    }
