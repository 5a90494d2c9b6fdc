use Rattle.std.proofs.Common.{◌+◌, drop, sym, ap, ◌∙◌}
use Rattle.fi_eval.specs.Outcome.{◌>>=◌}
use Rattle.fi_meaning.specs.Environment.{variable}
use Rattle.fi_meaning.specs.Meaning as functions
use Rattle.eval_value.specs.View.{value_view}
use Rattle.eval_source.specs.View.{env_view}
use Rattle.walk_scope.proofs.Lefts.{left_at}
use Rattle.eval_source.proofs.Lists.{goes}
use Rattle.eval_source.proofs.Files.{entry_step}
use Rattle.eval_source.proofs.functions.entry_outputs.Goals as goal

pub loop-name-preserved : goal.loop-name-preserved
loop-name-preserved c =
    let k = c.loop-name.name-index in
    let env = env_view c.args.names.now in
    let name = c.name-item.result in
    let more = drop (k + 1) c.args.outputs.now in
    goes value_view c.loop-name.values.items c.push.new.self.items c.in_ok-v.v (variable env name.place name.text >>= functions.entry_output name.place)
    (functions.entry_outputs (drop k c.args.outputs.now) env) (functions.entry_outputs more env) (functions.entry_outputs c.args.outputs.now env) c.in_ok-push.ensures.items
    (ap (λ b. variable env name.place b >>= functions.entry_output name.place) (sym c.as_bytes.ensures) ∙ c.in_ok-v.ensures)
    (ap (λ l. functions.entry_outputs l env) (left_at c.args.outputs.now k name name c.loop-name-test.true c.name-item.is) ∙ entry_step name more env) c.loop-name.invariant
