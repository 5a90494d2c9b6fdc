use Rattle.std.proofs.Common.{◌≡◌, ◌<◌, ◌-◌, ◌^◌, subst, arith}
use Rattle.std.proofs.lemmas.Nat.{leading_length}
use lib.Count.{count_leading_zeros}
use Rattle.num_type.specs.Precision.{IsWidth}
use Rattle.num_type.proofs.precision.width.Goals as goal

pub returns-clause-bits : goal.returns-clause-bits
returns-clause-bits c =
    let small : c.args.size < 2 ^ 64 = omega (arith, c.ranges.size.fits) in
    let l = leading_length 64 c.args.size small in
    let e : l.0 ≡ 64 - count_leading_zeros 64 c.args.size = omega (arith, l.1) in
    subst (IsWidth c.args.size) e (record { below = l.2; least = l.3 })
