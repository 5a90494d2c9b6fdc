use Rattle.std.proofs.Common.{◌≡◌, Bool, Some, get_or, ap, sym, ◌∙◌, arith, rules}
use Rattle.std.proofs.lemmas.Grind.{common_steps}
use Rattle.eval_bits.proofs.Conditions.{single_truth, many_truths}
use Rattle.eval_bits.proofs.truths.single_truth.Goals as goal

pub returns-then-is_scalar : goal.returns-then-is_scalar
returns-then-is_scalar c =
    let e : c.index.result.now ≡ get_or c.args.v.now.truths.items 0 c.index.result.now = first_of (search rules, grind (arith, common_steps)) in
    ap (λ (x : Bool). Some x) e ∙ single_truth c.args.v.now c.index.result.now (sym c.is_scalar.ensures ∙ c.if-is_scalar.true)

pub returns-else-is_scalar : goal.returns-else-is_scalar
returns-else-is_scalar c = many_truths c.args.v.now (sym c.is_scalar.ensures ∙ c.if-is_scalar.false)
