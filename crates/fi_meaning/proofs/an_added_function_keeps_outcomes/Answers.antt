use Rattle.fi_meaning.proofs.Added.{added_outcomes}
use Rattle.fi_meaning.proofs.an_added_function_keeps_outcomes.Goals as goal

pub returns : goal.returns
returns c = added_outcomes
