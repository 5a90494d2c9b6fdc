use Rattle.std.proofs.Common.{arith, ◌∙◌, ap}
use Rattle.mat_grammar.specs.Least.{stack_depth}
use Rattle.mat_parts.specs.Pending.{purpose_view, stack_of}
use Rattle.mat_parse.proofs.Capped.{purpose_capped}
use Rattle.mat_parse.proofs.least.operand_deep.Goals as goal

pub returns : goal.returns
returns c = c.purpose_deep.ensures
    ∙ purpose_capped (purpose_view c.args.pending.now.purpose) c.stack_deep.result (stack_depth c.args.deep (stack_of c.args.pending.now.frames))
    (omega (arith, c.stack_deep.ensures, ap (λ fs. stack_depth c.args.deep (stack_of fs)) c.as_slice.ensures))
