use Rattle.std.proofs.Common.{◌≡◌, ◌++◌, length}
use Rattle.case_io.specs.Reads.{texts_of}
use Rattle.case_io.specs.Plain.{lines_of}
use Rattle.case_io.proofs.Lines.{AreCanonical}
use Rattle.case_io.proofs.line.read_lines.Given as goal

abbrev pub invariant-loop-rest : goal.invariant-loop-rest
invariant-loop-rest l = (l.bytes ≡ lines_of (texts_of l.texts.items) ++ l.rest) × AreCanonical (texts_of l.texts.items)

abbrev pub decreases-loop-rest : goal.decreases-loop-rest
decreases-loop-rest l = length l.rest
