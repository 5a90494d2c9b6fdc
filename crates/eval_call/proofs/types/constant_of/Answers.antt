use Rattle.num_type.specs.View.{exact_of}
use Rattle.eval_value.specs.View.{value_view}
use Rattle.eval_call.proofs.Arguments.{word_constant}
use Rattle.eval_call.proofs.types.constant_of.Goals as goal

pub returns-in-Some : goal.returns-in-Some
returns-in-Some c =
    word_constant (value_view c.args.a.now.value) c.args.a.now.is_word c.in-Some.truth (exact_of c.truth_number.result) c.in-Some.ensures c.truth_number.ensures
