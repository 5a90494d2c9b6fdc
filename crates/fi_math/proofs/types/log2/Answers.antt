use Rattle.std.proofs.Common.{◌-◌, arith}
use Rattle.std.proofs.lemmas.Nat.{leading_length}
use Rattle.fi_math.proofs.Logs.{log2_is, log2_small}
use Rattle.fi_math.proofs.types.log2.Goals as goal

pub returns-then-n-le1-clause-value : goal.returns-then-n-le1-clause-value
returns-then-n-le1-clause-value c = log2_small c.args.n (omega (arith, c.if-n-le1.true))

pub returns-else-n-le1-clause-value : goal.returns-else-n-le1-clause-value
returns-else-n-le1-clause-value c =
    let l = leading_length 32 (c.args.n - 1) (omega arith) in
    let f = c.if-n-le1.false in
    let e = log2_is c.args.n l.0 (omega (arith, f)) (omega (arith, f)) in
    omega (arith, l, e)
