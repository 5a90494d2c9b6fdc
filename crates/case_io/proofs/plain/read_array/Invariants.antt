use Rattle.std.proofs.Common.{◌≡◌, ◌++◌, drop, map}
use Rattle.std.specs.Prelude.{All}
use Rattle.case_io.specs.Cases.{IsWithin}
use Rattle.case_io.specs.View.{range_view}
use Rattle.case_io.specs.Plain.{value_of}
use Rattle.case_io.specs.Reads.{texts_of}
use Rattle.case_io.proofs.plain.read_array.Given as goal

abbrev pub invariant-loop-text : goal.invariant-loop-text
invariant-loop-text l = (map value_of (texts_of l.texts) ≡ l.values.items ++ map value_of (texts_of (drop l.text-index l.texts))) × All (IsWithin (range_view l.range)) l.values.items
