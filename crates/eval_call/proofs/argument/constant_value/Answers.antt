use Rattle.num_type.specs.View.{exact_of}
use Rattle.eval_value.specs.View.{value_view}
use Rattle.eval_call.proofs.Arguments.{word_value}
use Rattle.eval_call.proofs.argument.constant_value.Goals as goal

pub returns-in_ok-v-in-Some : goal.returns-in_ok-v-in-Some
returns-in_ok-v-in-Some c =
    word_value (value_view c.args.a.now.value) (value_view c.in_ok-v-in-Some.v) c.args.a.now.is_word c.in-Some.truth (exact_of c.truth_number.result) c.in-Some.ensures c.truth_number.ensures c.in_ok-v-in-Some.ensures
