use Rattle.std.proofs.Common.{arith, ◌+◌, ◌∙◌, ap, sym, min, max}
use Rattle.mat_ast.specs.View.{block_view}
use Rattle.mat_ast.specs.Depth.{block_depth}
use Rattle.mat_grammar.specs.Least.{use_depth}
use Rattle.mat_parts.specs.Pending.{around_view, use_view}
use Rattle.mat_parse.proofs.Capped.{around_capped}
use Rattle.mat_parse.proofs.least.use_deep.Goals as goal

pub returns-in-Target : goal.returns-in-Target
unfolding use_view
returns-in-Target c = c.around_deep.ensures
    ∙ around_capped (around_view c.in-Target.around) c.greater-in-Target.result (max (block_depth (block_view c.in-Target.before.body)) (max c.args.deep 1 + 1))
    (omega (arith, c.greater.ensures, c.deeper-inner.ensures, c.greater-in-Target.ensures, c.in-Target.before.sized))
    ∙ sym (ap (λ x. min (use_depth c.args.deep (use_view x)) 101) c.in-Target.is)

pub returns-in-Callee : goal.returns-in-Callee
unfolding use_view
returns-in-Callee c = c.around_deep-in-Callee.ensures
    ∙ around_capped (around_view c.in-Callee.around) c.greater-in-Callee.result (max (block_depth (block_view c.in-Callee.before.body)) (c.args.deep + 1 + 1))
    (omega (arith, c.deeper.ensures, c.deeper-inner-in-Callee.ensures, c.greater-in-Callee.ensures, c.in-Callee.before.sized))
    ∙ sym (ap (λ x. min (use_depth c.args.deep (use_view x)) 101) c.in-Callee.is)
