use Rattle.std.proofs.Common.{◌<◌, ◌^◌, arith}
use Rattle.std.specs.Int.{w128, trailing_zeros}
use Rattle.std.proofs.lemmas.Nat.Bits.{bit_at-trailing_zeros}
use Rattle.num_type.proofs.Constants.{odd_part}
use Rattle.num_type.proofs.bits.zeros_of.Goals as goal

pub returns-clause-odd : goal.returns-clause-odd
returns-clause-odd c =
    let small : c.args.size < 2 ^ 128 = omega (arith, c.ranges.size.fits) in
    (bit_at-trailing_zeros w128 c.args.size c.requires.some small).1

pub returns-clause-whole : goal.returns-clause-whole
returns-clause-whole c =
    let small : c.args.size < 2 ^ 128 = omega (arith, c.ranges.size.fits) in
    odd_part c.args.size (trailing_zeros w128 c.args.size) ((bit_at-trailing_zeros w128 c.args.size c.requires.some small).2)
