use Rattle.std.proofs.Common.{◌≤◌, length}
use Rattle.fic_io.proofs.file_shelf.FileShelf.load.Given as goal

abbrev pub invariant-loop : goal.invariant-loop
invariant-loop l = length l.bytes.items ≤ l.limit
