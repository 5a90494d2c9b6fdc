use Rattle.std.proofs.Common.{sym, ap, subst, ◌∙◌, ◌+◌, ◌++◌, drop, map, Some, Err}
use Rattle.std.proofs.lemmas.Result.{err_from_is_err_and}
use Rattle.std.specs.Global.{Vec}
use Rattle.num_type.specs.View.{type_of}
use Rattle.scalar_program.specs.Lowered.{outputs_lowered, and_then}
use Rattle.scalar_walk.specs.View.{names_view, types_view, operand_view}
use Rattle.scalar_walk.proofs.Outputs.{typed_start, typed_step, typed_refused, typed_end}
use Rattle.scalar_walk.proofs.Steps.{outputs_start, outputs_step, outputs_end}
use Rattle.walk_scope.proofs.Lefts.{left_at, left_none}
use Rattle.walk_scope.specs.View.{Tells}
use Rattle.scalar_walk.specs.declared.operand.Operand as code_operand
use Rattle.scalar_walk.proofs.statements.lower_outputs.Goals as goal

pub loop-o-init : goal.loop-o-init
loop-o-init c = (
  outputs_start (outputs_lowered c.args.outputs.now (names_view c.args.names.now))
      ∙ ap (λ l. and_then (outputs_lowered c.args.outputs.now (names_view c.args.names.now)) (λ more. Some (map operand_view l ++ more))) (sym c.new-values.ensures.items),
  typed_start c.args.outputs.now (types_view c.args.names.now) c.new-values.result.items c.new-values.ensures.items,
)

pub loop-o-preserved : goal.loop-o-preserved
loop-o-preserved c =
    let k = c.loop-o.o-index in
    let os = c.args.outputs.now in
    let left = left_at os k c.o-item.result c.o-item.result c.loop-o-test.true c.o-item.is in (
      c.loop-o.invariant.0
          ∙ outputs_step (drop k os) (drop (k + 1) os) (names_view c.args.names.now) c.o-item.result c.in_ok-operand.operand
          c.loop-o.values.items c.push.new.self.items left c.in_ok-operand.ensures.low c.in_ok-push.ensures.items,
      c.loop-o.invariant.1
          ∙ typed_step k os (types_view c.args.names.now) c.o-item.result c.in_ok-operand.operand
          c.loop-o.values.items c.push.new.self.items left c.in_ok-operand.ensures.told c.in_ok-push.ensures.items,
    )

pub returns-clause-low : goal.returns-clause-low
returns-clause-low c =
    c.loop-o.invariant.0 ∙ outputs_end (names_view c.args.names.now) (drop c.loop-o.o-index c.args.outputs.now) c.loop-o.values.items (left_none c.args.outputs.now c.loop-o.o-index c.loop-o-test.false)

pub returns-clause-told : goal.returns-clause-told
returns-clause-told c =
    c.loop-o.invariant.1 ∙ typed_end (drop c.loop-o.o-index c.args.outputs.now) (types_view c.args.names.now) c.loop-o.values.items (left_none c.args.outputs.now c.loop-o.o-index c.loop-o-test.false)

pub returns-in_err-operand-clause-told : goal.returns-in_err-operand-clause-told
returns-in_err-operand-clause-told c =
    let p = err_from_is_err_and c.from_residual.result c.from_residual.ensures.1 in
    let k = c.loop-o.o-index in
    let os = c.args.outputs.now in
    let s = c.in_err-operand.field-0.0 in
    let left = left_at os k c.o-item.result c.o-item.result c.loop-o-test.true c.o-item.is in
    rw (p.1, p.2) (subst (λ told. Tells {R = Vec code_operand.Operand} (Err s) (λ v. map (λ o. type_of o.num) v.items) told) (sym c.loop-o.invariant.1)
    (typed_refused s (λ o. type_of o.num) (λ v. map (λ o. type_of o.num) v.items) k os (types_view c.args.names.now) c.o-item.result c.loop-o.values.items left c.in_err-operand.ensures.told))
