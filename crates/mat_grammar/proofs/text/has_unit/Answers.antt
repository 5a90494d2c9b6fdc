use Rattle.std.proofs.Common.{◌∙◌}
use Rattle.mat_grammar.proofs.Scans.{unit_last}
use Rattle.mat_grammar.proofs.text.has_unit.Goals as goal

pub returns-in-Some : goal.returns-in-Some
returns-in-Some c = c.is_unit.ensures ∙ unit_last c.args.own.now c.in-Some.field-0-1.now c.in-Some.last.now c.in-Some.ensures.cases.0
