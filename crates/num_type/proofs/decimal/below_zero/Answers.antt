use Rattle.num_type.proofs.Decimals.{read_no_below, read_minus_zero}
use Rattle.num_type.proofs.decimal.below_zero.Goals as goal

pub returns-in-None : goal.returns-in-None
returns-in-None c = read_no_below c.args.digits.now c.in-None.ensures

pub returns-then-mag-eq0 : goal.returns-then-mag-eq0
returns-then-mag-eq0 c = read_minus_zero c.in-Some.mag c.args.digits.now c.in-Some.ensures c.if-mag-eq0.true
