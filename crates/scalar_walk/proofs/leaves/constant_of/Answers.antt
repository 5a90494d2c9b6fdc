use Rattle.std.proofs.lemmas.Result.{err_from_is_err_and}
use Rattle.const_rules.proofs.KeptAnswers.{kept_literal_is}
use Rattle.scalar_walk.proofs.Constants.{literal_stops, literal_passes}
use Rattle.scalar_walk.proofs.leaves.constant_of.Goals as goal

pub returns-in_err-c-clause-told : goal.returns-in_err-c-clause-told
returns-in_err-c-clause-told c =
    let p = err_from_is_err_and c.from_residual.result c.from_residual.ensures.1 in
    rw (p.1, p.2) (literal_stops c.in_err-c.field-0.0 c.args.at c.args.text.now c.in_err-c.ensures.refusal)

pub returns-clause-told : goal.returns-clause-told
returns-clause-told c = literal_passes c.in_ok-c.c c.args.at c.args.text.now c.in_ok-c.ensures.value

pub returns-clause-is : goal.returns-clause-is
returns-clause-is c = kept_literal_is c.args.text.now c.in_ok-c.c c.in_ok-c.ensures.value
