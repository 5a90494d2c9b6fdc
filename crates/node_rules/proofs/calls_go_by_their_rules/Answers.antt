use Rattle.node_rules.proofs.Calls.{call_given, call_typed, call_none, call_shaped}
use Rattle.node_rules.proofs.calls_go_by_their_rules.Goals as goal

pub returns : goal.returns
returns c = record { value = call_given; typed = call_typed; colon = call_none; shape = call_shaped }
