use Rattle.fi_meaning.proofs.ShapesEntries.{sound_outcomes}
use Rattle.fi_meaning.proofs.ends_have_their_shapes.Goals as goal

pub returns : goal.returns
returns c = sound_outcomes
