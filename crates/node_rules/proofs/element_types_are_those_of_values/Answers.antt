use Rattle.node_rules.proofs.Arguments.{element_is, types_are}
use Rattle.node_rules.proofs.element_types_are_those_of_values.Goals as goal

pub returns : goal.returns
returns c = record { elements = element_is; arguments = types_are }
