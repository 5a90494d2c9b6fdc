use Rattle.std.proofs.Common.{◌+◌, ◌-◌, ◌<◌, map, drop, Some, sym, ap, subst, ◌∙◌, arith}
use Rattle.std.specs.Prelude.{pos, ◌+ℤ◌, ◌*ℤ◌}
use Rattle.std.proofs.lemmas.Result.{err_from_is_err_and}
use Rattle.mat_ast.specs.View.{arm_view, arms_view, block_view, expr_view, stmt_view}
use Rattle.mat_ast.specs.declared.tree.Stmt.TheVariants as stmt
use Rattle.fi_values.specs.Elements.{count_from}
use Rattle.fi_meaning.specs.Environment.{forgotten, turned}
use Rattle.fi_meaning.specs.Expressions.{looped}
use Rattle.fi_meaning.specs.Statements as statements
use Rattle.eval_value.specs.Tells.{Tells}
use Rattle.eval_array.specs.Ranged.{items_view}
use Rattle.eval_source.specs.Flows.{armed, armed_view, flow_view, for_turn, one_arm, or_else, while_turn}
use Rattle.eval_source.specs.View.{context_of, env_view}
use Rattle.walk_scope.proofs.Lefts.{left_at}
use Rattle.eval_source.proofs.Bodies.{store_view, for_view}
use Rattle.eval_source.proofs.Loops.{part_stops, block_goes, block_leaves, arms_go, arms_hold, loop_goes, loop_ends, counted, turns_left, while_first, for_done, other_of, if_run, if_held, if_none}
use Rattle.eval_source.proofs.statements.+run.Goals as goal

pub first_arm-returns-then-is_some : goal.first_arm-returns-then-is_some
first_arm-returns-then-is_some g t c =
    let cx = context_of c.args.scope.now (g.C.Caller.called c.args.caller.now) in
    let a = arm_view c.arm-item.result in
    let env = env_view c.loop-arm.names in
    arms_hold (one_arm a.0 a.1 cx c.args.turns env) c.in_ok-found.found (env_view c.try_arm.new.names) (armed (arms_view (drop (c.loop-arm.arm-index + 1) c.args.arms.now)) cx c.args.turns) (armed (arms_view c.args.arms.now) cx c.args.turns (env_view c.args.names.now)) c.is_some.result
    (c.loop-arm.invariant ∙ ap (λ l. armed (arms_view l) cx c.args.turns env) (left_at c.args.arms.now c.loop-arm.arm-index c.arm-item.result c.arm-item.result c.loop-arm-test.true c.arm-item.is))
    c.in_ok-found.ensures c.is_some.ensures c.if-is_some.true

pub first_arm-loop-arm-preserved : goal.first_arm-loop-arm-preserved
first_arm-loop-arm-preserved g t c =
    let cx = context_of c.args.scope.now (g.C.Caller.called c.args.caller.now) in
    let a = arm_view c.arm-item.result in
    let env = env_view c.loop-arm.names in
    arms_go (one_arm a.0 a.1 cx c.args.turns env) c.in_ok-found.found (env_view c.try_arm.new.names) (armed (arms_view (drop (c.loop-arm.arm-index + 1) c.args.arms.now)) cx c.args.turns) (armed (arms_view c.args.arms.now) cx c.args.turns (env_view c.args.names.now)) c.is_some.result
    (c.loop-arm.invariant ∙ ap (λ l. armed (arms_view l) cx c.args.turns env) (left_at c.args.arms.now c.loop-arm.arm-index c.arm-item.result c.arm-item.result c.loop-arm-test.true c.arm-item.is))
    c.in_ok-found.ensures c.is_some.ensures c.if-is_some.false

pub for_each-returns : goal.for_each-returns
for_each-returns g t c =
    let cx = context_of c.args.scope.now (g.C.Caller.called c.args.caller.now) in
    let body = block_view c.args.body.now in
    let env = env_view c.args.names.now in
    for_done (statements.loop_items (expr_view c.args.range.now) c.args.name.now.place cx env) (items_view c.in_ok-items.items) (λ zs. statements.each_item zs (for_turn c.args.name.now.text body cx c.args.turns) env) c.args.name.now.text
    (env_view c.for_items.new.names) (env_view c.forget.new.self) c.in_ok-items.ensures
    (ap (λ b. statements.each_item (items_view c.in_ok-items.items) (for_turn b body cx c.args.turns) env) (sym c.as_bytes.ensures) ∙ c.in_ok-for_items.ensures)
    (c.forget.ensures ∙ ap (λ b. forgotten b (env_view c.for_items.new.names)) c.as_bytes-2.ensures)

pub for_items-returns-in_err-flow : goal.for_items-returns-in_err-flow
for_items-returns-in_err-flow g t c =
    let p = err_from_is_err_and c.from_residual.result c.from_residual.ensures.1 in
    let turn = for_turn c.args.name.now (block_view c.args.body.now) (context_of c.args.scope.now (g.C.Caller.called c.args.caller.now)) c.args.turns in
    let items = c.args.items.now in
    let k = c.loop-k.k in
    let env = env_view c.loop-k.names in
    let h : k < items.count = omega (arith, c.loop-k-test.true, c.loop-k.auto.k-end) in
    let rest = statements.each_item (map (λ k. items.first +ℤ items.step *ℤ pos k) (count_from (k + 1) (items.count - (k + 1)))) turn in
    rw (p.1, p.2)
    (part_stops c.in_err-flow.field-0.0 (λ f. flow_view f (env_view c.take_turn.new.names)) _ (turn (items.first +ℤ items.step *ℤ pos k) env) (λ flow. turned flow rest)
    (statements.each_item (items_view items) turn (env_view c.args.names.now))
    (c.loop-k.invariant ∙ ap (λ l. statements.each_item (map (λ k. items.first +ℤ items.step *ℤ pos k) l) turn env) (counted k items.count h)) c.in_err-flow.ensures)

pub for_items-returns-then-ends_loop : goal.for_items-returns-then-ends_loop
for_items-returns-then-ends_loop g t c =
    let turn = for_turn c.args.name.now (block_view c.args.body.now) (context_of c.args.scope.now (g.C.Caller.called c.args.caller.now)) c.args.turns in
    let items = c.args.items.now in
    let k = c.loop-k.k in
    let env = env_view c.loop-k.names in
    let h : k < items.count = omega (arith, c.loop-k-test.true, c.loop-k.auto.k-end) in
    loop_ends (turn (items.first +ℤ items.step *ℤ pos k) env) c.in_ok-flow.flow (env_view c.take_turn.new.names) (statements.each_item (map (λ k. items.first +ℤ items.step *ℤ pos k) (count_from (k + 1) (items.count - (k + 1)))) turn)
    (statements.each_item (items_view items) turn (env_view c.args.names.now)) c.ends_loop.result
    (c.loop-k.invariant ∙ ap (λ l. statements.each_item (map (λ k. items.first +ℤ items.step *ℤ pos k) l) turn env) (counted k items.count h))
    c.in_ok-flow.ensures c.ends_loop.ensures c.if-ends_loop.true

pub for_items-loop-k-preserved : goal.for_items-loop-k-preserved
for_items-loop-k-preserved g t c =
    let turn = for_turn c.args.name.now (block_view c.args.body.now) (context_of c.args.scope.now (g.C.Caller.called c.args.caller.now)) c.args.turns in
    let items = c.args.items.now in
    let k = c.loop-k.k in
    let env = env_view c.loop-k.names in
    let h : k < items.count = omega (arith, c.loop-k-test.true, c.loop-k.auto.k-end) in
    loop_goes (turn (items.first +ℤ items.step *ℤ pos k) env) c.in_ok-flow.flow (env_view c.take_turn.new.names) (statements.each_item (map (λ k. items.first +ℤ items.step *ℤ pos k) (count_from (k + 1) (items.count - (k + 1)))) turn)
    (statements.each_item (items_view items) turn (env_view c.args.names.now)) c.ends_loop.result
    (c.loop-k.invariant ∙ ap (λ l. statements.each_item (map (λ k. items.first +ℤ items.step *ℤ pos k) l) turn env) (counted k items.count h))
    c.in_ok-flow.ensures c.ends_loop.ensures c.if-ends_loop.false

pub run-returns-in_err-found-in-If : goal.run-returns-in_err-found-in-If
run-returns-in_err-found-in-If g t c =
    let p = err_from_is_err_and c.from_residual.result c.from_residual.ensures.1 in
    let cx = context_of c.args.scope.now (g.C.Caller.called c.args.caller.now) in
    let env = env_view c.args.names.now in
    let arms = c.as_slice-in-If.result.now in
    let is = c.in-If.is ∙ ap (λ l. stmt.If c.in-If.place l c.in-If.other) (sym c.as_slice-in-If.ensures) in
    rw (p.1, p.2)
    (part_stops c.in_err-found-in-If.field-0.0 (λ o. armed_view o (env_view c.first_arm.new.names)) _ (armed (arms_view arms) cx c.args.turns env) (λ a. or_else a (other_of c.in-If.other cx c.args.turns)) (statements.run (stmt_view c.args.s.now) cx c.args.turns env)
    (if_run c.args.s.now c.in-If.place arms c.in-If.other cx c.args.turns env is) c.in_err-found-in-If.ensures)

pub run-returns-in-Some : goal.run-returns-in-Some
run-returns-in-Some g t c =
    let cx = context_of c.args.scope.now (g.C.Caller.called c.args.caller.now) in
    let env = env_view c.args.names.now in
    let arms = c.as_slice-in-If.result.now in
    let is = c.in-If.is ∙ ap (λ l. stmt.If c.in-If.place l c.in-If.other) (sym c.as_slice-in-If.ensures) in
    if_held (armed (arms_view arms) cx c.args.turns env) c.in_ok-found-in-If.found c.in-Some.flow (env_view c.first_arm.new.names) (other_of c.in-If.other cx c.args.turns) (statements.run (stmt_view c.args.s.now) cx c.args.turns env)
    (if_run c.args.s.now c.in-If.place arms c.in-If.other cx c.args.turns env is) c.in_ok-found-in-If.ensures c.in-Some.is

pub run-returns-in-None-other : goal.run-returns-in-None-other
run-returns-in-None-other g t c =
    let cx = context_of c.args.scope.now (g.C.Caller.called c.args.caller.now) in
    let env = env_view c.args.names.now in
    let arms = c.as_slice-in-If.result.now in
    let is = c.in-If.is ∙ ap (λ l. stmt.If c.in-If.place l c.in-If.other) (sym c.as_slice-in-If.ensures) in
    if_none (armed (arms_view arms) cx c.args.turns env) c.in_ok-found-in-If.found (env_view c.first_arm.new.names) (other_of c.in-If.other cx c.args.turns) (statements.run (stmt_view c.args.s.now) cx c.args.turns env)
    (if_run c.args.s.now c.in-If.place arms c.in-If.other cx c.args.turns env is) c.in_ok-found-in-If.ensures c.in-None.is
    ∙ ap (λ o. other_of o cx c.args.turns (env_view c.first_arm.new.names)) c.in-None-other.is

pub run-returns-in-Some-other : goal.run-returns-in-Some-other
run-returns-in-Some-other g t c =
    let cx = context_of c.args.scope.now (g.C.Caller.called c.args.caller.now) in
    let env = env_view c.args.names.now in
    let arms = c.as_slice-in-If.result.now in
    let is = c.in-If.is ∙ ap (λ l. stmt.If c.in-If.place l c.in-If.other) (sym c.as_slice-in-If.ensures) in
    let whole =
    if_none (armed (arms_view arms) cx c.args.turns env) c.in_ok-found-in-If.found (env_view c.first_arm.new.names) (other_of c.in-If.other cx c.args.turns) (statements.run (stmt_view c.args.s.now) cx c.args.turns env)
    (if_run c.args.s.now c.in-If.place arms c.in-If.other cx c.args.turns env is) c.in_ok-found-in-If.ensures c.in-None.is
    ∙ ap (λ o. other_of o cx c.args.turns (env_view c.first_arm.new.names)) (c.in-Some-other.is ∙ ap (λ b. Some b) (sym c.as_slice-in-Some-other.ensures)) in
    subst (λ x. Tells c.run_block.result (λ f. flow_view f (env_view c.run_block.new.names)) x) (sym whole) c.run_block.ensures

pub run-returns-in-Store : goal.run-returns-in-Store
run-returns-in-Store g t c =
    let cx = context_of c.args.scope.now (g.C.Caller.called c.args.caller.now) in
    let view = store_view c.args.s.now c.in-Store.name c.in-Store.paren c.as_slice.result.now c.in-Store.value (c.in-Store.is ∙ ap (λ l. stmt.Store c.in-Store.name c.in-Store.paren l c.in-Store.value) (sym c.as_slice.ensures)) in
    subst (λ x. Tells c.store_into.result (λ f. flow_view f (env_view c.store_into.new.names)) (statements.run x cx c.args.turns (env_view c.args.names.now))) (sym view) c.store_into.ensures

pub run-returns-in-For : goal.run-returns-in-For
run-returns-in-For g t c =
    let cx = context_of c.args.scope.now (g.C.Caller.called c.args.caller.now) in
    let view = for_view c.args.s.now c.in-For.place c.in-For.name c.in-For.range c.as_slice-in-For.result.now (c.in-For.is ∙ ap (λ l. stmt.For c.in-For.place c.in-For.name c.in-For.range l) (sym c.as_slice-in-For.ensures)) in
    subst (λ x. Tells c.for_each.result (λ f. flow_view f (env_view c.for_each.new.names)) (statements.run x cx c.args.turns (env_view c.args.names.now))) (sym view) c.for_each.ensures

pub run_block-returns-then-leaves : goal.run_block-returns-then-leaves
run_block-returns-then-leaves g t c =
    let cx = context_of c.args.scope.now (g.C.Caller.called c.args.caller.now) in
    let env = env_view c.loop-s.names in
    let k = c.loop-s.s-index in
    block_leaves (statements.run (stmt_view c.s-item.result) cx c.args.turns env) c.in_ok-flow.flow (env_view c.run.new.names) (statements.run_block (block_view (drop (k + 1) c.args.body.now)) cx c.args.turns)
    (statements.run_block (block_view c.args.body.now) cx c.args.turns (env_view c.args.names.now)) c.leaves.result
    (c.loop-s.invariant ∙ ap (λ l. statements.run_block (block_view l) cx c.args.turns env) (left_at c.args.body.now k c.s-item.result c.s-item.result c.loop-s-test.true c.s-item.is))
    c.in_ok-flow.ensures c.leaves.ensures c.if-leaves.true

pub run_block-loop-s-preserved : goal.run_block-loop-s-preserved
run_block-loop-s-preserved g t c =
    let cx = context_of c.args.scope.now (g.C.Caller.called c.args.caller.now) in
    let env = env_view c.loop-s.names in
    let k = c.loop-s.s-index in
    block_goes (statements.run (stmt_view c.s-item.result) cx c.args.turns env) c.in_ok-flow.flow (env_view c.run.new.names) (statements.run_block (block_view (drop (k + 1) c.args.body.now)) cx c.args.turns)
    (statements.run_block (block_view c.args.body.now) cx c.args.turns (env_view c.args.names.now)) c.leaves.result
    (c.loop-s.invariant ∙ ap (λ l. statements.run_block (block_view l) cx c.args.turns env) (left_at c.args.body.now k c.s-item.result c.s-item.result c.loop-s-test.true c.s-item.is))
    c.in_ok-flow.ensures c.leaves.ensures c.if-leaves.false

pub while_true-returns-in_err-flow : goal.while_true-returns-in_err-flow
while_true-returns-in_err-flow g t c =
    let p = err_from_is_err_and c.from_residual.result c.from_residual.ensures.1 in
    let cx = context_of c.args.scope.now (g.C.Caller.called c.args.caller.now) in
    let test = statements.condition (expr_view c.args.condition.now) cx in
    let body = statements.run_block (block_view c.args.body.now) (looped cx) c.args.turns in
    let k = c.loop-turn.turn in
    let env = env_view c.loop-turn.names in
    let h : k < c.args.turns = omega (arith, c.loop-turn-test.true, c.loop-turn.auto.turn-end) in
    rw (p.1, p.2)
    (part_stops c.in_err-flow.field-0.0 (λ f. flow_view f (env_view c.while_holds.new.names)) _ (while_turn (expr_view c.args.condition.now) (block_view c.args.body.now) cx c.args.turns env) (λ flow. turned flow (statements.turns (c.args.turns - (k + 1)) test body))
    (statements.turns c.args.turns test body (env_view c.args.names.now))
    (c.loop-turn.invariant ∙ ap (λ n. statements.turns n test body env) (turns_left k c.args.turns h) ∙ while_first (c.args.turns - (k + 1)) test body env) c.in_err-flow.ensures)

pub while_true-returns-then-ends_loop : goal.while_true-returns-then-ends_loop
while_true-returns-then-ends_loop g t c =
    let cx = context_of c.args.scope.now (g.C.Caller.called c.args.caller.now) in
    let test = statements.condition (expr_view c.args.condition.now) cx in
    let body = statements.run_block (block_view c.args.body.now) (looped cx) c.args.turns in
    let k = c.loop-turn.turn in
    let env = env_view c.loop-turn.names in
    let h : k < c.args.turns = omega (arith, c.loop-turn-test.true, c.loop-turn.auto.turn-end) in
    loop_ends (while_turn (expr_view c.args.condition.now) (block_view c.args.body.now) cx c.args.turns env) c.in_ok-flow.flow (env_view c.while_holds.new.names) (statements.turns (c.args.turns - (k + 1)) test body)
    (statements.turns c.args.turns test body (env_view c.args.names.now)) c.ends_loop.result
    (c.loop-turn.invariant ∙ ap (λ n. statements.turns n test body env) (turns_left k c.args.turns h) ∙ while_first (c.args.turns - (k + 1)) test body env)
    c.in_ok-flow.ensures c.ends_loop.ensures c.if-ends_loop.true

pub while_true-loop-turn-preserved : goal.while_true-loop-turn-preserved
while_true-loop-turn-preserved g t c =
    let cx = context_of c.args.scope.now (g.C.Caller.called c.args.caller.now) in
    let test = statements.condition (expr_view c.args.condition.now) cx in
    let body = statements.run_block (block_view c.args.body.now) (looped cx) c.args.turns in
    let k = c.loop-turn.turn in
    let env = env_view c.loop-turn.names in
    let h : k < c.args.turns = omega (arith, c.loop-turn-test.true, c.loop-turn.auto.turn-end) in
    loop_goes (while_turn (expr_view c.args.condition.now) (block_view c.args.body.now) cx c.args.turns env) c.in_ok-flow.flow (env_view c.while_holds.new.names) (statements.turns (c.args.turns - (k + 1)) test body)
    (statements.turns c.args.turns test body (env_view c.args.names.now)) c.ends_loop.result
    (c.loop-turn.invariant ∙ ap (λ n. statements.turns n test body env) (turns_left k c.args.turns h) ∙ while_first (c.args.turns - (k + 1)) test body env)
    c.in_ok-flow.ensures c.ends_loop.ensures c.if-ends_loop.false
