use Rattle.std.proofs.Common.{◌≡◌, ◌+◌, ◌*◌, ◌-◌, ℕ, suc, List, drop, get_or, sym, subst, ◌∙◌}
use Rattle.std.specs.Char.{digit_value}
use Rattle.std.specs.Str.Parse.{AllDigits, digits_value_after}
use Rattle.num_type.proofs.Decimals.{value_step}
use Rattle.const_eval.specs.Digits.{IsLong, number_of}
use Rattle.const_eval.proofs.Zeros.{long_after, rest_digits, digit_from_test}
use Rattle.const_eval.proofs.digits.push_digits.Goals as goal

pub returns-in-None-clause-long : goal.returns-in-None-clause-long
returns-in-None-clause-long c = λ all.
    let text : List ℕ = c.args.text.now in
    let i : ℕ = c.loop-byte.byte-index in
    let n : ℕ = number_of c.loop-byte.so_far in
    let rest : AllDigits 10 (drop (suc i) text) = rest_digits text i all in
    let digit : get_or text i 0 - 48 ≡ digit_value (get_or text i 0) = digit_from_test text i all c.loop-byte-test.true in
    let long : IsLong (n * 10 + digit_value (get_or text i 0)) = subst (λ (d : ℕ). IsLong (n * 10 + d)) digit c.in-None.ensures.long in
    let behind : IsLong (digits_value_after 10 (n * 10 + digit_value (get_or text i 0)) (drop (suc i) text)) = long_after (n * 10 + digit_value (get_or text i 0)) (drop (suc i) text) rest long in
    subst IsLong (sym (value_step n text i c.loop-byte-test.true) ∙ c.loop-byte.invariant.number) behind
