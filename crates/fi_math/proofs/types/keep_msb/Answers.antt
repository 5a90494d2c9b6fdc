use Rattle.std.proofs.Common.{inr, arith}
use Rattle.std.specs.Prelude.{pos, ◌-ℤ◌}
use Rattle.num_type.specs.Types.{NumericType, word_limit}
use Rattle.fi_math.proofs.Limits.{wide_is}
use Rattle.fi_math.proofs.types.keep_msb.Goals as goal

pub returns-then-word-gt-WORD_MAX : goal.returns-then-word-gt-WORD_MAX
returns-then-word-gt-WORD_MAX c =
    let t : NumericType = record { signed = c.args.full.signed; word = c.args.word; fraction = pos c.args.word -ℤ (pos c.args.full.word -ℤ c.args.full.fraction) } in
    wide_is word_limit t (inr (omega (arith, c.if-word-gt-WORD_MAX.true)))
