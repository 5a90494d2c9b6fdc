use Rattle.std.proofs.Common.{◌≡◌, ◌<◌, ◌-◌, ◌^◌, subst, arith}
use Rattle.std.proofs.lemmas.Nat.{leading_length}
use lib.Count.{count_leading_zeros}
use Rattle.num_type.specs.Precision.{IsWidth}
use Rattle.const_rules.specs.BestFraction.{width_of}
use Rattle.const_rules.proofs.BestFraction.{width_is}
use Rattle.eval_call.proofs.Tops.{width_once}
use Rattle.eval_call.proofs.widest.width.Goals as goal

pub returns-clause-value : goal.returns-clause-value
returns-clause-value c =
    let small : c.args.size < 2 ^ 64 = omega (arith, c.ranges.size.fits) in
    let l = leading_length 64 c.args.size small in
    let e : l.0 ≡ 64 - count_leading_zeros 64 c.args.size = omega (arith, l.1) in
    width_once c.args.size (64 - count_leading_zeros 64 c.args.size) (width_of c.args.size)
    (subst (IsWidth c.args.size) e (record { below = l.2; least = l.3 })) (width_is c.args.size)
