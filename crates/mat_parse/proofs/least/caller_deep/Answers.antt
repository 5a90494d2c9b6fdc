use Rattle.std.proofs.Common.{arith, ◌+◌, ◌∙◌, ap, sym, min}
use Rattle.mat_grammar.specs.Least.{caller_depth}
use Rattle.mat_parts.specs.Pending.{purpose_view, caller_view, stack_of}
use Rattle.mat_parse.proofs.Capped.{operand_capped}
use Rattle.mat_parse.proofs.least.caller_deep.Goals as goal

pub returns-in-Value : goal.returns-in-Value
unfolding caller_view
returns-in-Value c = c.operand_deep.ensures
    ∙ operand_capped (stack_of c.in-Value.pending.frames) (purpose_view c.in-Value.pending.purpose) c.deeper.result (c.args.deep + 1)
    (omega (arith, c.deeper.ensures))
    ∙ sym (ap (λ x. min (caller_depth c.args.deep (caller_view x)) 101) c.in-Value.is)
