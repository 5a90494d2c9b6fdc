use Rattle.fi_meaning.proofs.Bounds.{kept_outcomes}
use Rattle.fi_meaning.proofs.greater_bounds_keep_outcomes.Goals as goal

pub returns : goal.returns
returns c = kept_outcomes
