use Rattle.eval_source.proofs.Files.{too_few}
use Rattle.eval_source.proofs.functions.first_outputs.Goals as goal

pub returns-then-as_slice-wanted : goal.returns-then-as_slice-wanted
returns-then-as_slice-wanted c =
    too_few c.args.at c.args.wanted c.args.values.items c.as_slice.result.now c.as_slice.ensures.value c.if-as_slice-wanted.true
