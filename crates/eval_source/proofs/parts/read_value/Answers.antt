use Rattle.std.proofs.Common.{map, subst}
use Rattle.fi_eval.specs.Outcome.{bind, or_wrong}
use Rattle.fi_values.specs.Reads as reads
use Rattle.fi_values.specs.Subscripts.{as_subscripts}
use Rattle.eval_value.specs.Tells.{Tells}
use Rattle.eval_value.specs.View.{item_view, value_view}
use Rattle.eval_value.specs.declared.halt.Halt.TheVariants as halt
use Rattle.fi_meaning.specs.Expressions.{site_of}
use Rattle.eval_source.specs.View.{env_view}
use Rattle.eval_call.proofs.Follow.{after_ok, after_err}
use Rattle.eval_source.proofs.Follow.{no_value, has_value}
use Rattle.eval_source.proofs.parts.read_value.Goals as goal

pub returns-in-None : goal.returns-in-None
returns-in-None c =
    after_err (halt.Wrong c.args.at) value_view value_view (or_wrong c.args.at (env_view c.args.names.now c.args.name.now))
    (λ v. bind (or_wrong c.args.at (as_subscripts (map item_view c.args.subscripts.items))) (λ subs. reads.read c.args.at (site_of c.args.opens) v subs))
    (no_value c.get.result (env_view c.args.names.now c.args.name.now) c.args.at c.get.ensures c.in-None.is)

pub returns : goal.returns
returns c =
    after_ok c.read_selected.result value_view (or_wrong c.args.at (env_view c.args.names.now c.args.name.now)) (value_view c.in-Some.v.now)
    (λ v. bind (or_wrong c.args.at (as_subscripts (map item_view c.args.subscripts.items))) (λ subs. reads.read c.args.at (site_of c.args.opens) v subs))
    (has_value c.get.result (env_view c.args.names.now c.args.name.now) c.args.at c.in-Some.v c.get.ensures c.in-Some.is)
    (subst (λ n. Tells c.read_selected.result value_view (bind (or_wrong c.args.at (as_subscripts (map item_view c.args.subscripts.items))) (λ subs. reads.read c.args.at n (value_view c.in-Some.v.now) subs))) c.site_of-site.ensures
    (subst (λ xs. Tells c.read_selected.result value_view (bind (or_wrong c.args.at (as_subscripts (map item_view xs))) (λ subs. reads.read c.args.at c.site_of-site.result (value_view c.in-Some.v.now) subs))) c.as_slice.ensures.value c.read_selected.ensures))
