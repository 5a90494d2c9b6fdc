use Rattle.fi_math.proofs.Equal.{same_to, same_from}
use Rattle.fi_math.proofs.laws.same_is_equal.Goals as goal

pub returns : goal.returns
returns c = λ m n. (same_to m n, same_from m n)
