use Rattle.std.proofs.Common.{◌≡◌, map, string_bytes, take}
use Rattle.fi_cli.specs.Forms.{AreTypeWords}
use Rattle.fi_cli.proofs.words.read_types.Given as goal

abbrev pub invariant-loop-word : goal.invariant-loop-word
invariant-loop-word l = (l.at ≡ l.word-index) × AreTypeWords (take l.word-index (map string_bytes l.words)) l.types.items
