use Rattle.std.proofs.Common.{◌≡◌, ◌-◌, map, drop}
use Rattle.std.specs.Prelude.{pos, ◌+ℤ◌, ◌*ℤ◌}
use Rattle.mat_ast.specs.View.{arms_view, block_view, expr_view}
use Rattle.fi_values.specs.Elements.{count_from}
use Rattle.fi_meaning.specs.Expressions.{looped}
use Rattle.fi_meaning.specs.Statements as statements
use Rattle.eval_array.specs.Ranged.{items_view}
use Rattle.eval_source.specs.Flows.{armed, for_turn}
use Rattle.eval_source.specs.View.{context_of, env_view}
use Rattle.eval_source.proofs.statements.+run.Given as goal

abbrev pub invariant-run_block-loop-s : goal.invariant-run_block-loop-s
invariant-run_block-loop-s g l =
    let cx = context_of l.scope (g.C.Caller.called l.caller) in
    statements.run_block (block_view l.body) cx l.turns (env_view l.initial.names) ≡ statements.run_block (block_view (drop l.s-index l.body)) cx l.turns (env_view l.names)

abbrev pub invariant-first_arm-loop-arm : goal.invariant-first_arm-loop-arm
invariant-first_arm-loop-arm g l =
    let cx = context_of l.scope (g.C.Caller.called l.caller) in
    armed (arms_view l.arms) cx l.turns (env_view l.initial.names) ≡ armed (arms_view (drop l.arm-index l.arms)) cx l.turns (env_view l.names)

abbrev pub invariant-for_items-loop-k : goal.invariant-for_items-loop-k
invariant-for_items-loop-k g l =
    let turn = for_turn l.name (block_view l.body) (context_of l.scope (g.C.Caller.called l.caller)) l.turns in
    statements.each_item (items_view l.items) turn (env_view l.initial.names)
    ≡ statements.each_item (map (λ k. l.items.first +ℤ l.items.step *ℤ pos k) (count_from l.k (l.items.count - l.k))) turn (env_view l.names)

abbrev pub invariant-while_true-loop-turn : goal.invariant-while_true-loop-turn
invariant-while_true-loop-turn g l =
    let cx = context_of l.scope (g.C.Caller.called l.caller) in
    let test = statements.condition (expr_view l.condition) cx in
    let body = statements.run_block (block_view l.body) (looped cx) l.turns in
    statements.turns l.turns test body (env_view l.initial.names) ≡ statements.turns (l.turns - l.turn) test body (env_view l.names)
