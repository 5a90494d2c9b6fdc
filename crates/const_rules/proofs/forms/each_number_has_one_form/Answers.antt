use Rattle.const_rules.proofs.OneForm.{one_form_is, constant_of_some, constant_of_none, constant_of_once, constant_of_kept}
use Rattle.const_rules.proofs.forms.each_number_has_one_form.Goals as goal

pub returns-clause-form : goal.returns-clause-form
returns-clause-form c = one_form_is

pub returns-clause-some : goal.returns-clause-some
returns-clause-some c = constant_of_some

pub returns-clause-none : goal.returns-clause-none
returns-clause-none c = constant_of_none

pub returns-clause-same : goal.returns-clause-same
returns-clause-same c = constant_of_once

pub returns-clause-own : goal.returns-clause-own
returns-clause-own c = constant_of_kept
