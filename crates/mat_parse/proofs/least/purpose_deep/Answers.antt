use Rattle.std.proofs.Common.{arith, ◌+◌, ◌∙◌, ap, sym, min, max}
use Rattle.mat_ast.specs.View.{block_view, args_view, arms_view}
use Rattle.mat_ast.specs.Depth.{args_depth, arms_depth, block_depth}
use Rattle.mat_grammar.specs.Least.{purpose_depth}
use Rattle.mat_parts.specs.Pending.{around_view, use_view, purpose_view}
use Rattle.mat_parse.proofs.Capped.{around_capped, use_capped}
use Rattle.mat_parse.proofs.least.purpose_deep.Goals as goal

pub returns-in-Assign : goal.returns-in-Assign
unfolding purpose_view
returns-in-Assign c = c.around_deep.ensures
    ∙ around_capped (around_view c.in-Assign.around) c.greater.result (max (block_depth (block_view c.in-Assign.before.body)) (c.args.deep + 1))
    (omega (arith, c.deeper.ensures, c.greater.ensures, c.in-Assign.before.sized))
    ∙ sym (ap (λ x. min (purpose_depth c.args.deep (purpose_view x)) 101) c.in-Assign.is)

pub returns-in-Store : goal.returns-in-Store
unfolding purpose_view
returns-in-Store c = c.around_deep-in-Store.ensures
    ∙ around_capped (around_view c.in-Store.around) c.greater-in-Store-2.result (max (block_depth (block_view c.in-Store.before.body))
    (max (args_depth (args_view c.in-Store.given.args)) c.args.deep + 1))
    (omega (arith, c.greater-in-Store.ensures, c.deeper-inner.ensures, c.greater-in-Store-2.ensures, c.in-Store.before.sized, c.in-Store.given.sized))
    ∙ sym (ap (λ x. min (purpose_depth c.args.deep (purpose_view x)) 101) c.in-Store.is)

pub returns-in-Arm : goal.returns-in-Arm
unfolding purpose_view
returns-in-Arm c = c.around_deep-in-Arm.ensures
    ∙ around_capped (around_view c.in-Arm.around) c.greater-in-Arm-2.result (max (block_depth (block_view c.in-Arm.before.body))
    (max (arms_depth (arms_view c.in-Arm.cases.arms)) c.args.deep + 1))
    (omega (arith, c.greater-in-Arm.ensures, c.deeper-inner-in-Arm.ensures, c.greater-in-Arm-2.ensures, c.in-Arm.before.sized, c.in-Arm.cases.sized))
    ∙ sym (ap (λ x. min (purpose_depth c.args.deep (purpose_view x)) 101) c.in-Arm.is)

pub returns-in-While : goal.returns-in-While
unfolding purpose_view
returns-in-While c = c.around_deep-in-While.ensures
    ∙ around_capped (around_view c.in-While.around) c.greater-in-While.result (max (block_depth (block_view c.in-While.before.body)) (c.args.deep + 1))
    (omega (arith, c.deeper-in-While.ensures, c.greater-in-While.ensures, c.in-While.before.sized))
    ∙ sym (ap (λ x. min (purpose_depth c.args.deep (purpose_view x)) 101) c.in-While.is)

pub returns-in-For : goal.returns-in-For
unfolding purpose_view
returns-in-For c = c.around_deep-in-For.ensures
    ∙ around_capped (around_view c.in-For.around) c.greater-in-For.result (max (block_depth (block_view c.in-For.before.body)) (c.args.deep + 1))
    (omega (arith, c.deeper-in-For.ensures, c.greater-in-For.ensures, c.in-For.before.sized))
    ∙ sym (ap (λ x. min (purpose_depth c.args.deep (purpose_view x)) 101) c.in-For.is)

pub returns-in-Argument : goal.returns-in-Argument
unfolding purpose_view
returns-in-Argument c = c.use_deep.ensures
    ∙ use_capped (use_view c.in-Argument.used) c.greater-in-Argument.result (max (args_depth (args_view c.in-Argument.given.args)) c.args.deep)
    (omega (arith, c.greater-in-Argument.ensures, c.in-Argument.given.sized))
    ∙ sym (ap (λ x. min (purpose_depth c.args.deep (purpose_view x)) 101) c.in-Argument.is)
