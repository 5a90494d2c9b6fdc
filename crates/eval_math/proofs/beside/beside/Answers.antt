use Rattle.std.specs.Prelude.{option_map}
use Rattle.num_type.specs.View.{type_of}
use Rattle.eval_math.specs.View.{operand_view}
use Rattle.eval_math.proofs.Alongside.{complex_view, real_view}
use Rattle.eval_math.proofs.beside.beside.Goals as goal

pub returns-in_ok-r-in-None : goal.returns-in_ok-r-in-None
returns-in_ok-r-in-None c = real_view (type_of c.args.t) c.args.n.now c.as_slice.result.now (option_map operand_view c.in_ok-r-in-None.r) c.in-None.is c.as_slice.ensures.value c.in_ok-r-in-None.ensures

pub returns-in_ok-r-in-Some : goal.returns-in_ok-r-in-Some
returns-in_ok-r-in-Some c =
    complex_view (type_of c.args.t) c.args.n.now c.in-Some.im c.as_slice-in-Some.result.now c.as_slice-in-Some-2.result.now (option_map operand_view c.in_ok-r-in-Some.r) c.in-Some.is c.as_slice-in-Some.ensures.value c.as_slice-in-Some-2.ensures.value c.in_ok-r-in-Some.ensures
