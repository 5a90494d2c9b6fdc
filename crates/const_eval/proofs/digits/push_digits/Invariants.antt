use Rattle.std.proofs.Common.{◌≡◌, ◌≤◌, ◌+◌, ◌↔◌, drop}
use Rattle.std.specs.Str.Parse.{AllDigits, digits_value_after}
use Rattle.const_eval.specs.Digits.{number_of}
use Rattle.const_eval.proofs.digits.push_digits.Given as goal

abbrev pub invariant-loop-byte : goal.invariant-loop-byte
invariant-loop-byte l = record {
  digits : AllDigits 10 l.text ↔ AllDigits 10 (drop l.byte-index l.text);
  number : digits_value_after 10 (number_of l.so_far) (drop l.byte-index l.text) ≡ digits_value_after 10 (number_of l.run) l.text;
  zeros : l.so_far.zeros ≤ l.run.zeros + l.byte-index;
}
