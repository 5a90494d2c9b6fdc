-- Part of the proof: the families of what the parser reads. What is claimed of a source doesn't rest on it.
use Rattle.std.specs.Prelude.{ℕ}
use Rattle.mat_parts.specs.declared.pending.Reading.{Reading}
use Rattle.mat_parts.specs.declared.pending.Reading.TheVariants as reading

-- 0 in an expression, 1 in a statement, 2 in a bracket of names, 3 in or between the fronts of functions
unfoldable pub family : Reading → ℕ
family (reading.Need p) = 0
family (reading.Begun c opened) = 0
family (reading.Listed c opened given) = 0
family (reading.Between at grid p) = 0
family (reading.Bare at grid p) = 0
family (reading.Gap at grid line p) = 0
family (reading.Have whole p) = 0
family (reading.HaveName at text p) = 0
family (reading.Within steps out) = 1
family (reading.After steps out) = 1
family (reading.Named steps to out) = 1
family (reading.Subscripted steps to opens given out) = 1
family (reading.Targeted steps targets out) = 1
family (reading.Calling steps targets out) = 1
family (reading.Called steps targets at text out) = 1
family (reading.Looping steps at out) = 1
family (reading.Looped steps at to out) = 1
family (reading.Edge l) = 2
family (reading.EdgeComma l) = 2
family (reading.Listing l names) = 2
family (reading.ListComma l names) = 2
family (reading.ListNext l names) = 2
family (reading.Tail l names) = 2
family (reading.TailComma l names) = 2
family _ = 3
