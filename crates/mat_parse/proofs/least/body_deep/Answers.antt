use Rattle.std.proofs.Common.{◌+◌, max, ap, arith}
use Rattle.mat_ast.specs.View.{expr_view, block_view, arms_view}
use Rattle.mat_ast.specs.Depth.{depth, arms_depth, block_depth}
use Rattle.mat_grammar.specs.Least.{around_depth}
use Rattle.mat_parts.specs.Pending.{body_view}
use Rattle.mat_parse.proofs.Capped.{same_around}
use Rattle.mat_parse.proofs.least.body_deep.Goals as goal

pub returns-in-If : goal.returns-in-If
unfolding body_view
returns-in-If c = λ out. same_around out (body_view c.args.body.now out) c.greater-in-If-2.result c.args.deep
    (max (block_depth (block_view c.in-If.before.body)) (max (arms_depth (arms_view c.in-If.cases.arms))
    (max (depth (expr_view c.in-If.condition.expr)) c.args.deep) + 1))
    (ap (λ b. around_depth c.args.deep (body_view b out)) c.in-If.is)
    (omega (
      arith,
      c.greater.ensures,
      c.greater-in-If.ensures,
      c.deeper-inner.ensures,
      c.greater-in-If-2.ensures,
      c.in-If.before.sized,
      c.in-If.cases.sized,
      c.in-If.condition.sized,
    ))

pub returns-in-Else : goal.returns-in-Else
unfolding body_view
returns-in-Else c = λ out. same_around out (body_view c.args.body.now out) c.greater-in-Else-2.result c.args.deep
    (max (block_depth (block_view c.in-Else.before.body)) (max (arms_depth (arms_view c.in-Else.cases.arms)) c.args.deep + 1))
    (ap (λ b. around_depth c.args.deep (body_view b out)) c.in-Else.is)
    (omega (arith, c.greater-in-Else.ensures, c.deeper-inner-in-Else.ensures, c.greater-in-Else-2.ensures, c.in-Else.before.sized, c.in-Else.cases.sized))

pub returns-in-While : goal.returns-in-While
unfolding body_view
returns-in-While c = λ out. same_around out (body_view c.args.body.now out) c.greater-in-While-2.result c.args.deep
    (max (block_depth (block_view c.in-While.before.body)) (max (depth (expr_view c.in-While.condition.expr)) c.args.deep + 1))
    (ap (λ b. around_depth c.args.deep (body_view b out)) c.in-While.is)
    (omega (
      arith,
      c.greater-in-While.ensures,
      c.deeper-inner-in-While.ensures,
      c.greater-in-While-2.ensures,
      c.in-While.before.sized,
      c.in-While.condition.sized,
    ))

pub returns-in-For : goal.returns-in-For
unfolding body_view
returns-in-For c = λ out. same_around out (body_view c.args.body.now out) c.greater-in-For-2.result c.args.deep
    (max (block_depth (block_view c.in-For.before.body)) (max (depth (expr_view c.in-For.range.expr)) c.args.deep + 1))
    (ap (λ b. around_depth c.args.deep (body_view b out)) c.in-For.is)
    (omega (arith, c.greater-in-For.ensures, c.deeper-inner-in-For.ensures, c.greater-in-For-2.ensures, c.in-For.before.sized, c.in-For.range.sized))
