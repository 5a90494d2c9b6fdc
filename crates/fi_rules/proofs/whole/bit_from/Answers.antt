use Rattle.std.proofs.Common.{arith}
use Rattle.std.proofs.lemmas.Int.{ints, clamps}
use Rattle.fi_rules.proofs.Numbers.{bit_zero, bit_one, bit_other}
use Rattle.fi_rules.proofs.whole.bit_from.Goals as goal

pub returns-then-n-eq0 : goal.returns-then-n-eq0
returns-then-n-eq0 c = bit_zero c.args.n (omega (arith, ints, clamps, c.if-n-eq0.true))

pub returns-then-n-eq1 : goal.returns-then-n-eq1
returns-then-n-eq1 c = bit_one c.args.n (omega (arith, ints, clamps, c.if-n-eq1.true))

pub returns-else-n-eq1 : goal.returns-else-n-eq1
returns-else-n-eq1 c =
    bit_other c.args.n (λ e. omega (arith, ints, clamps, e, c.if-n-eq0.false)) (λ e. omega (arith, ints, clamps, e, c.if-n-eq1.false))
