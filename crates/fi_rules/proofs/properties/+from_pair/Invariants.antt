use Rattle.std.proofs.Common.{◌-◌, ◌*◌, length}
use Rattle.fi_rules.proofs.properties.+from_pair.Given as goal

abbrev pub decreases-from_pair : goal.decreases-from_pair
decreases-from_pair l = length l.args.now - l.pairs * 2
