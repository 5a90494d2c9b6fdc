use Rattle.std.proofs.Common.{◌≡◌, ◌+◌, drop}
use Rattle.std.specs.List.{prefix_len}
use Rattle.const_eval.specs.Literals.{is_mantissa_byte}
use Rattle.const_eval.proofs.literals.letter_place.Given as goal

abbrev pub invariant-loop-byte : goal.invariant-loop-byte
invariant-loop-byte l = (prefix_len is_mantissa_byte l.text ≡ l.k + prefix_len is_mantissa_byte (drop l.byte-index l.text)) × (l.k ≡ l.byte-index)
