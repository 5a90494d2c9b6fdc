use Rattle.std.proofs.Common.{◌≡◌, ◌++◌, drop, map}
use Rattle.num_type.specs.View.{type_of}
use Rattle.fi_cli.specs.Source.{num_types}
use Rattle.fi_cli.proofs.source.num_types.Given as goal

abbrev pub invariant-loop-declared : goal.invariant-loop-declared
invariant-loop-declared l = num_types l.types ≡ map type_of l.nums.items ++ num_types (drop l.declared-index l.types)
