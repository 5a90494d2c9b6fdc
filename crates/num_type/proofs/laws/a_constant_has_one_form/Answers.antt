use Rattle.num_type.proofs.Constants.{one_form}
use Rattle.num_type.proofs.laws.a_constant_has_one_form.Goals as goal

pub returns : goal.returns
returns c = one_form
