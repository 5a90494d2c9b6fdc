use Rattle.std.proofs.Common.{◌≡◌, ◌+◌, drop}
use Rattle.std.specs.List.{prefix_len}
use Rattle.const_eval.specs.Literals.{is_whole_byte}
use Rattle.const_eval.proofs.literals.point_place.Given as goal

abbrev pub invariant-loop-byte : goal.invariant-loop-byte
invariant-loop-byte l = (prefix_len is_whole_byte l.mantissa ≡ l.k + prefix_len is_whole_byte (drop l.byte-index l.mantissa)) × (l.k ≡ l.byte-index)
