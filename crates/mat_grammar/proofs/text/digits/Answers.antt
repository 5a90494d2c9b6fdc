use Rattle.std.proofs.Common.{sym, ◌∙◌}
use Rattle.mat_grammar.proofs.Scans.{digits_front, digits_whole}
use Rattle.mat_grammar.proofs.text.digits.Goals as goal

pub returns-then-is_unit : goal.returns-then-is_unit
returns-then-is_unit c = digits_front c.args.own.now c.in-Some.front.now c.in-Some.last.now c.in-Some.ensures.cases.0 (sym c.is_unit.ensures ∙ c.if-is_unit.true)

pub returns-else-is_unit : goal.returns-else-is_unit
returns-else-is_unit c = digits_whole c.args.own.now c.in-Some.front.now c.in-Some.last.now c.in-Some.ensures.cases.0 (sym c.is_unit.ensures ∙ c.if-is_unit.false)
