use Rattle.std.proofs.Common.{◌∙◌, ◌*◌, sym, map, arith}
use Rattle.std.proofs.lemmas.List.{length-map}
use Rattle.fi_rules.specs.Options.{and_then}
use Rattle.fi_rules.specs.Properties.{names_before}
use Rattle.fi_rules.specs.View.{ty_view}
use Rattle.fi_rules.proofs.Paired.{all_set, one_left}
use Rattle.fi_rules.proofs.properties.+from_pair.Goals as goal

pub returns-then-left-eq0 : goal.returns-then-left-eq0
returns-then-left-eq0 n c =
    all_set (map ty_view c.args.args.now) (c.args.pairs * 2) (names_before c.args.pairs (map ty_view c.args.args.now)) c.args.m
    (omega (arith, c.if-left-eq0.true, c.requires, length-map c.args.args.now ty_view))

pub returns-then-left-eq1 : goal.returns-then-left-eq1
returns-then-left-eq1 n c =
    one_left (map ty_view c.args.args.now) (c.args.pairs * 2) (names_before c.args.pairs (map ty_view c.args.args.now)) c.args.m
    (omega (arith, c.if-left-eq1.true, c.requires, length-map c.args.args.now ty_view))

pub returns-in-Some : goal.returns-in-Some
unfolding and_then
returns-in-Some n c = c.from_pair.ensures ∙ sym c.in-Some.ensures

pub returns-in-None : goal.returns-in-None
unfolding and_then
returns-in-None n c = sym c.in-None.ensures
