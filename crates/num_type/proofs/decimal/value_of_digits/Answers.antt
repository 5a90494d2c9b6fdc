use Rattle.std.proofs.Common.{◌+◌, ◌*◌, ℕ, suc, drop, get_or, sym, ◌∙◌, arith}
use Rattle.std.specs.Char.{digit_value}
use Rattle.num_type.proofs.Decimals.{value_grows, value_step, value_end}
use Rattle.num_type.proofs.decimal.value_of_digits.Goals as goal

pub returns-in-None : goal.returns-in-None
returns-in-None c = λ digits.
    let next : ℕ = c.loop-byte.value * 10 + digit_value (get_or c.args.bytes.now c.loop-byte.byte-index 0) in
    let step = value_step c.loop-byte.value c.args.bytes.now c.loop-byte.byte-index (omega (arith, c.loop-byte-test.true)) in
    omega (arith, c.loop-byte.invariant.0, step, value_grows next (drop (suc c.loop-byte.byte-index) c.args.bytes.now), c.in-None.ensures.none)

pub returns : goal.returns
returns c =
    let end = value_end c.loop-byte.value c.args.bytes.now c.loop-byte.byte-index c.loop-byte-test.false in
    (c.loop-byte.invariant.1.1 end.1, sym end.0 ∙ c.loop-byte.invariant.0, c.loop-byte.invariant.2)
