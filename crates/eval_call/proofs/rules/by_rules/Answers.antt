use Rattle.std.proofs.Common.{map, option_map, ap, sym, ◌∙◌}
use Rattle.fi_rules.specs.Calls.{Built, call_checked}
use Rattle.fi_rules.specs.View.{built_view}
use Rattle.fi_rules.specs.Value.{Val}
use Rattle.fi_eval.specs.Outcome.{◌>>=◌, or_wrong}
use Rattle.fi_meaning.specs.Calls.{after_rules, argument_types, built_value, takes, values_of}
use Rattle.eval_call.specs.View.{argument_view}
use Rattle.eval_call.proofs.Granting.{granted_goes}
use Rattle.eval_call.proofs.rules.by_rules.Goals as goal

pub returns-in-Some : goal.returns-in-Some
returns-in-Some c =
    granted_goes c.by_rule.result c.args.at (call_checked c.args.b (argument_types (takes c.args.b) (map argument_view c.args.args.now))) (built_view c.in-Some.r)
    (λ (r : Built). built_value c.args.at r (values_of (map argument_view c.args.args.now)) >>= (λ (v : Val). or_wrong c.args.at (after_rules c.args.b (values_of (map argument_view c.args.args.now)) v)))
    (ap (option_map built_view) (sym c.in-Some.is) ∙ c.in_ok-rule.ensures) c.by_rule.ensures
