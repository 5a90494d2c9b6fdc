use Rattle.std.proofs.Common.{◌≡◌, get_or, sym, ◌∙◌, arith, rules}
use Rattle.std.proofs.lemmas.Grind.{common_steps}
use Rattle.eval_array.specs.Views.{choice_view}
use Rattle.eval_array.proofs.Picked.{at_index, no_complex_fi, no_index}
use Rattle.eval_array.proofs.subscripts.computed.Goals as goal

pub returns-in-Some : goal.returns-in-Some
returns-in-Some c = no_complex_fi c.args.v.now c.in-Some.field-0 c.args.extent c.in-Some.is

pub returns-in_ok-c-in-None : goal.returns-in_ok-c-in-None
returns-in_ok-c-in-None c =
    let e : c.index.result.now ≡ get_or c.args.v.now.re.items 0 c.index.result.now = first_of (search rules, grind (arith, common_steps)) in
    at_index c.args.v.now c.args.extent c.index.result.now (choice_view c.in_ok-c-in-None.c) c.in-None.is (sym c.is_index.ensures ∙ c.if-is_index.true) e c.in_ok-c-in-None.ensures

pub returns-else-is_index : goal.returns-else-is_index
returns-else-is_index c = no_index c.args.v.now c.args.extent c.in-None.is (sym c.is_index.ensures ∙ c.if-is_index.false)
