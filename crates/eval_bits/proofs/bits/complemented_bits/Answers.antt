use Rattle.std.proofs.Common.{ap}
use Rattle.fi_values.specs.Bits.{turned_bits}
use Rattle.eval_value.specs.View.{fi_view, value_view}
use Rattle.eval_bits.proofs.Fis.{answered, bits_turned}
use Rattle.eval_bits.proofs.bits.complemented_bits.Goals as goal

pub returns-in_ok-r-in-Fi : goal.returns-in_ok-r-in-Fi
returns-in_ok-r-in-Fi c =
    answered turned_bits (fi_view c.in_ok-r-in-Fi.r) _ (fi_view c.in-Fi.v) (value_view c.args.value.now) c.in_ok-r-in-Fi.ensures (bits_turned c.in-Fi.v) (ap value_view c.in-Fi.is)
