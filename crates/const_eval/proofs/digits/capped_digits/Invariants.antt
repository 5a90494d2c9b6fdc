use Rattle.std.proofs.Common.{◌≡◌, ◌≤◌, ◌<◌, ◌^◌, ◌↔◌, ◌⊎◌, ℕ, drop}
use Rattle.std.specs.Str.Parse.{AllDigits, digits_value, digits_value_after}
use Rattle.const_eval.specs.Digits.{power_cap}
use Rattle.const_eval.proofs.digits.capped_digits.Given as goal

abbrev pub invariant-loop-byte : goal.invariant-loop-byte
invariant-loop-byte l = record {
  digits : AllDigits 10 l.text ↔ AllDigits 10 (drop l.byte-index l.text);
  few : l.value < 10 ^ 32;
  capped : (v : ℕ) × (digits_value_after 10 v (drop l.byte-index l.text) ≡ digits_value 10 l.text) × ((l.value ≡ v) ⊎ ((power_cap ≤ l.value) × (power_cap ≤ v)));
}
