-- What sets of names stand for.
use Rattle.std.specs.Prelude.{ℕ, List}
use Rattle.walk_scope.specs.declared.name_set.NameSet.{NameSet}

-- the names put in, in their order
abbrev pub names_in : NameSet → List (List ℕ)
names_in s = s.list.items
