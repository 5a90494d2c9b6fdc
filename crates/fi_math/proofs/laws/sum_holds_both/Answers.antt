use Rattle.fi_math.proofs.Sums.{sum_word}
use Rattle.fi_math.proofs.laws.sum_holds_both.Goals as goal

pub returns : goal.returns
returns c = sum_word
