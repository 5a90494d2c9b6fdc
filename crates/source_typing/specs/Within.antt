-- What was walked is within the limits.
use Rattle.std.specs.Prelude.{◌≤◌}
use Rattle.source_typing.specs.Counts.{Counts, node_limit, element_limit}

pub record IsWithin (c : Counts) : Type 0 where
  pub nodes : c.nodes ≤ node_limit
  pub elements : c.elements ≤ element_limit
