use Rattle.std.proofs.Common.{◌+◌, ◌*◌, refl, arith}
use Rattle.const_eval.specs.Digits.{number_of}
use Rattle.const_eval.proofs.Zeros.{long_number, many_zeros, joined_number, joined_long}
use Rattle.const_eval.proofs.run.Run.with_digit.Goals as goal

pub returns-then-self-ge-DIGITS_MAX-clause-long : goal.returns-then-self-ge-DIGITS_MAX-clause-long
returns-then-self-ge-DIGITS_MAX-clause-long c =
    long_number (number_of c.args.self.now * 10 + c.args.digit) (λ z. omega (arith, z, c.requires.some, c.requires.digit)) (omega (arith, many_zeros c.args.self.now.head c.args.self.now.zeros c.requires.head c.if-self-ge-DIGITS_MAX.true))

pub returns-else-self-ge-DIGITS_MAX-clause-number : goal.returns-else-self-ge-DIGITS_MAX-clause-number
returns-else-self-ge-DIGITS_MAX-clause-number c =
    joined_number c.joined.result c.args.self.now.head c.args.self.now.zeros c.args.digit (c.args.self.now.zeros + 1) refl c.joined.ensures.head c.joined.ensures.zeros

pub returns-else-self-ge-DIGITS_MAX-clause-long : goal.returns-else-self-ge-DIGITS_MAX-clause-long
returns-else-self-ge-DIGITS_MAX-clause-long c =
    joined_long c.joined.result c.args.self.now.head c.args.self.now.zeros c.args.digit (c.args.self.now.zeros + 1) c.requires.some c.requires.digit refl c.joined.ensures.long
