use Rattle.std.proofs.Common.{◌≤◌, drop, length}
use Rattle.case_io.specs.View.{ranges_view}
use Rattle.case_io.specs.Reads.{texts_of, lists_of}
use Rattle.case_io.proofs.Arrays.{BehindArrays}
use Rattle.case_io.proofs.plain.read_arrays.Given as goal

abbrev pub invariant-loop-range : goal.invariant-loop-range
invariant-loop-range l = BehindArrays (ranges_view l.ranges) (texts_of l.texts) (lists_of l.arrays.items) (ranges_view (drop l.range-index l.ranges)) (texts_of (drop l.at l.texts)) × (l.at ≤ length l.texts)
