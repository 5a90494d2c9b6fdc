use Rattle.std.proofs.Common.{◌≡◌, ◌++◌, drop}
use Rattle.fi_eval.specs.Meaning.{names_of}
use Rattle.walk_scope.proofs.targets.put_names.Given as goal

abbrev pub invariant-loop-ident : goal.invariant-loop-ident
invariant-loop-ident l = l.initial.names.list.items ++ names_of l.idents ≡ l.names.list.items ++ names_of (drop l.ident-index l.idents)
