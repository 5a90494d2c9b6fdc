use Rattle.std.proofs.Common.{arith, ◌∙◌, ap, sym, min, max}
use Rattle.mat_ast.specs.View.{block_view}
use Rattle.mat_ast.specs.Depth.{block_depth}
use Rattle.mat_grammar.specs.Least.{lister_depth}
use Rattle.mat_parts.specs.Pending.{around_view, lister_view}
use Rattle.mat_parse.proofs.Capped.{around_capped}
use Rattle.mat_parse.proofs.least.lister_deep.Goals as goal

pub returns-in-Targets : goal.returns-in-Targets
unfolding lister_view
returns-in-Targets c = c.around_deep.ensures ∙ around_capped (around_view c.in-Targets.around) c.greater.result
    (max (block_depth (block_view c.in-Targets.before.body)) 2) (omega (arith, c.greater.ensures, c.in-Targets.before.sized))
    ∙ sym (ap (λ l. min (lister_depth (lister_view l)) 101) c.in-Targets.is)
