use Rattle.std.proofs.Common.{sym, ◌<◌, ◌≤◌, ◌^◌, arith}
use Rattle.std.proofs.Math.Nat.{div-eq_of_lt}
use Rattle.std.proofs.Math.Pow.{pow_mono}
use Rattle.lower_scalar.proofs.numbers.shifted.Goals as goal

pub returns-else-by-lt64 : goal.returns-else-by-lt64
returns-else-by-lt64 c =
    let m : 2 ^ 64 ≤ 2 ^ c.args.by = pow_mono c.if-by-lt64.false in
    let l : c.args.n < 2 ^ c.args.by = omega (arith, m) in
    sym (div-eq_of_lt l)
