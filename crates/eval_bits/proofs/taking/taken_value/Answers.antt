use Rattle.std.proofs.Common.{ap, sym}
use Rattle.num_type.specs.View.{type_of}
use Rattle.fi_meaning.specs.Calls as calls
use Rattle.eval_value.specs.View.{fi_view, value_view}
use Rattle.eval_bits.proofs.Fis.{answered, taken_in}
use Rattle.eval_bits.proofs.Others.{no_taken}
use Rattle.eval_bits.proofs.taking.taken_value.Goals as goal

pub returns-in_ok-r-in-Fi : goal.returns-in_ok-r-in-Fi
returns-in_ok-r-in-Fi c =
    answered (calls.taken_value (type_of c.args.num) c.args.math) (fi_view c.in_ok-r-in-Fi.r) _ (fi_view c.in-Fi.v) (value_view c.args.value.now) c.in_ok-r-in-Fi.ensures (taken_in c.in-Fi.v c.args.num c.args.math) (ap value_view c.in-Fi.is)

pub returns-in_default : goal.returns-in_default
returns-in_default c = sym (no_taken c.args.value.now (type_of c.args.num) c.args.math c.in_default.not-Fi c.in_default.not-Number c.in_default.not-Logical)
