use Rattle.std.proofs.Common.{◌≡◌, ℕ, suc, ◌+◌, ◌-◌, ◌<◌, ◌≤◌, Bool, true, false, arith, drop, sym, ap, ◌∙◌}
use Rattle.c_tree.specs.View.{test_view, stmt_view, block_view}
use Rattle.c_tree.specs.Tokens.{test_tokens, sta_tokens, block_tokens}
use Rattle.c_run.specs.Over.{sta_over, block_over}
use Rattle.c_tree.specs.Outcome.{Outcome, Completes}
use Rattle.c_tree.specs.Meaning as meaning
use Rattle.c_tree.specs.Meaning.{State, with_count, holds, run_block, for_turns, while_turns}
use Rattle.c_run.specs.View.{flow_told, left_or}
use Rattle.c_run.proofs.Turns.{item_first, block_turn, for_turn, while_fails, while_ends, while_turn}
use Rattle.c_run.proofs.steps.+steps.Goals as goal

pub block-returns-in-Some-clause-told : goal.block-returns-in-Some-clause-told
block-returns-in-Some-clause-told t c =
    let more = drop (c.loop-s.s-index + 1) c.args.body.now in
    let next : State → Outcome meaning.Flow = λ st. run_block (block_view more) c.args.bound st (c.loop-s.first + sta_tokens (stmt_view c.s-item.result)) in
    sym (c.loop-s.invariant.same
    ∙ block_turn (drop c.loop-s.s-index c.args.body.now) c.s-item.result more c.args.bound c.loop-s.frame c.step.new.frame c.loop-s.first c.step.result c.then_run.result
    (item_first c.args.body.now c.loop-s.s-index c.s-item.result c.loop-s-test.true c.s-item.is) c.step.ensures.told (c.then_run.ensures c.step.new.frame)
    ∙ ap (λ o. left_or o next c.step.new.frame) c.in-Some.is)

pub for_turns-returns-in-Some-clause-told : goal.for_turns-returns-in-Some-clause-told
for_turns-returns-in-Some-clause-told t c =
    let body : State → Outcome meaning.Flow = λ st. run_block (block_view c.args.body.now) c.args.bound st c.args.first in
    let l = c.loop-left.left in
    let el : l ≡ suc (l - 1) = omega (arith, c.loop-left-test.true) in
    let en : c.args.count - (l - 1) ≡ suc (c.args.count - l) = omega (arith, c.loop-left-test.true, c.loop-left.invariant.most) in
    sym (c.loop-left.invariant.same
    ∙ for_turn l (l - 1) (c.args.count - l) (c.args.count - (l - 1)) c.args.counter body c.loop-left.frame c.set_count.new.self c.block.new.frame c.block.result c.after_turn.result
    el en (c.set_count.ensures.count ∙ ap (with_count c.loop-left.frame c.args.counter) c.of.ensures) c.block.ensures.told (c.after_turn.ensures c.block.new.frame)
    ∙ ap (λ o. left_or o (for_turns (l - 1) (c.args.count - (l - 1)) c.args.counter body) c.block.new.frame) c.in-Some.is)

pub while_turns-returns-in-Err-clause-told : goal.while_turns-returns-in-Err-clause-told
while_turns-returns-in-Err-clause-told t c =
    let test : State → Outcome Bool = λ st. holds (test_view c.args.test.now) st (c.args.at + 2) in
    let body : State → Outcome meaning.Flow = λ st. run_block (block_view c.args.body.now) c.args.bound st (c.args.at + 4 + test_tokens (test_view c.args.test.now)) in
    while_fails c.loop-left.left test body c.loop-left.frame c.in-Err.token c.in-Err.ensures ∙ sym c.loop-left.invariant.same

pub while_turns-returns-in-Ok-false-clause-told : goal.while_turns-returns-in-Ok-false-clause-told
while_turns-returns-in-Ok-false-clause-told t c =
    let test : State → Outcome Bool = λ st. holds (test_view c.args.test.now) st (c.args.at + 2) in
    let body : State → Outcome meaning.Flow = λ st. run_block (block_view c.args.body.now) c.args.bound st (c.args.at + 4 + test_tokens (test_view c.args.test.now)) in
    while_ends c.loop-left.left test body c.loop-left.frame (ap Completes (sym c.in-Ok-false.field-0-test) ∙ c.in-Ok-false.ensures) ∙ sym c.loop-left.invariant.same

pub while_turns-returns-in-Some-clause-told : goal.while_turns-returns-in-Some-clause-told
while_turns-returns-in-Some-clause-told t c =
    let test : State → Outcome Bool = λ st. holds (test_view c.args.test.now) st (c.args.at + 2) in
    let body : State → Outcome meaning.Flow = λ st. run_block (block_view c.args.body.now) c.args.bound st (c.args.at + 4 + test_tokens (test_view c.args.test.now)) in
    let l = c.loop-left.left in
    let el : l ≡ suc (l - 1) = omega (arith, c.loop-left-test.true) in
    sym (c.loop-left.invariant.same
    ∙ while_turn l (l - 1) test body c.loop-left.frame c.block.new.frame c.block.result c.after_turn.result
    el (ap Completes (sym c.in-Ok-true.field-0-test) ∙ c.in-Ok-true.ensures)
    (c.block.ensures.told ∙ ap (λ n. run_block (block_view c.args.body.now) c.args.bound c.loop-left.frame (c.args.at + 4 + n)) c.test_tokens.ensures) (c.after_turn.ensures c.block.new.frame)
    ∙ ap (λ o. left_or o (while_turns (l - 1) test body) c.block.new.frame) c.in-Some.is)

pub while_turns-returns-clause-told : goal.while_turns-returns-clause-told
while_turns-returns-clause-told t c =
    let test : State → Outcome Bool = λ st. holds (test_view c.args.test.now) st (c.args.at + 2) in
    let body : State → Outcome meaning.Flow = λ st. run_block (block_view c.args.body.now) c.args.bound st (c.args.at + 4 + test_tokens (test_view c.args.test.now)) in
    let z : 0 ≡ c.loop-left.left = omega (arith, c.loop-left-test.false) in
    c.last_test.ensures ∙ ap (λ n. while_turns n test body c.loop-left.frame) z ∙ sym c.loop-left.invariant.same

pub block-loop-s-preserved : goal.block-loop-s-preserved
block-loop-s-preserved t c =
    let all = c.args.body.now in
    let more = drop (c.loop-s.s-index + 1) all in
    let next : State → Outcome meaning.Flow = λ st. run_block (block_view more) c.args.bound st (c.loop-s.first + sta_tokens (stmt_view c.s-item.result)) in
    let first = item_first all c.loop-s.s-index c.s-item.result c.loop-s-test.true c.s-item.is in
    let tokens : block_tokens (block_view (drop c.loop-s.s-index all)) ≡ sta_tokens (stmt_view c.s-item.result) + block_tokens (block_view more) = ap (λ b. block_tokens (block_view b)) first in
    let limits : block_over (block_view (drop c.loop-s.s-index all)) ≡ sta_over (stmt_view c.s-item.result) + block_over (block_view more) = ap (λ b. block_over (block_view b)) first in
    record {
      same =
          c.loop-s.invariant.same
          ∙ block_turn (drop c.loop-s.s-index all) c.s-item.result more c.args.bound c.loop-s.frame c.step.new.frame c.loop-s.first c.step.result c.then_run.result first c.step.ensures.told (c.then_run.ensures c.step.new.frame)
          ∙ ap (λ o. left_or o next c.step.new.frame) c.in-None.is
          ∙ ap (λ n. run_block (block_view more) c.args.bound c.step.new.frame (c.loop-s.first + n)) (sym c.stmt_tokens-first.ensures);
      counted = omega (arith, tokens, c.stmt_tokens-first.ensures, c.loop-s.invariant.counted);
      within = omega (arith, limits, c.loop-s.invariant.within);
      shaped = c.step.ensures.shaped ∙ c.loop-s.invariant.shaped;
    }

pub for_turns-loop-left-preserved : goal.for_turns-loop-left-preserved
for_turns-loop-left-preserved t c =
    let body : State → Outcome meaning.Flow = λ st. run_block (block_view c.args.body.now) c.args.bound st c.args.first in
    let l = c.loop-left.left in
    let el : l ≡ suc (l - 1) = omega (arith, c.loop-left-test.true) in
    let en : c.args.count - (l - 1) ≡ suc (c.args.count - l) = omega (arith, c.loop-left-test.true, c.loop-left.invariant.most) in
    record {
      most = omega (arith, c.loop-left.invariant.most);
      same =
          c.loop-left.invariant.same
          ∙ for_turn l (l - 1) (c.args.count - l) (c.args.count - (l - 1)) c.args.counter body c.loop-left.frame c.set_count.new.self c.block.new.frame c.block.result c.after_turn.result
          el en (c.set_count.ensures.count ∙ ap (with_count c.loop-left.frame c.args.counter) c.of.ensures) c.block.ensures.told (c.after_turn.ensures c.block.new.frame)
          ∙ ap (λ o. left_or o (for_turns (l - 1) (c.args.count - (l - 1)) c.args.counter body) c.block.new.frame) c.in-None.is;
      shaped = c.block.ensures.shaped ∙ c.set_count.ensures.shaped ∙ c.loop-left.invariant.shaped;
    }

pub while_turns-loop-left-preserved : goal.while_turns-loop-left-preserved
while_turns-loop-left-preserved t c =
    let test : State → Outcome Bool = λ st. holds (test_view c.args.test.now) st (c.args.at + 2) in
    let body : State → Outcome meaning.Flow = λ st. run_block (block_view c.args.body.now) c.args.bound st (c.args.at + 4 + test_tokens (test_view c.args.test.now)) in
    let l = c.loop-left.left in
    let el : l ≡ suc (l - 1) = omega (arith, c.loop-left-test.true) in
    record {
      same =
          c.loop-left.invariant.same
          ∙ while_turn l (l - 1) test body c.loop-left.frame c.block.new.frame c.block.result c.after_turn.result
          el (ap Completes (sym c.in-Ok-true.field-0-test) ∙ c.in-Ok-true.ensures)
          (c.block.ensures.told ∙ ap (λ n. run_block (block_view c.args.body.now) c.args.bound c.loop-left.frame (c.args.at + 4 + n)) c.test_tokens.ensures) (c.after_turn.ensures c.block.new.frame)
          ∙ ap (λ o. left_or o (while_turns (l - 1) test body) c.block.new.frame) c.in-None.is;
      shaped = c.block.ensures.shaped ∙ c.loop-left.invariant.shaped;
    }
