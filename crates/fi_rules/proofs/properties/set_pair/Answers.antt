use Rattle.std.proofs.Common.{◌∙◌, ◌+◌, ◌*◌, sym, ap, map, drop}
use Rattle.std.specs.Prelude.{Some}
use Rattle.fi_rules.specs.Arguments.{text_in}
use Rattle.fi_rules.specs.Properties.{with_properties, names_before}
use Rattle.fi_rules.specs.View.{ty_view}
use Rattle.fi_rules.proofs.Paired.{no_words, set_words}
use Rattle.fi_rules.proofs.properties.set_pair.Goals as goal

pub returns-in-Fi : goal.returns-in-Fi
unfolding text_in
returns-in-Fi c =
    no_words c.args.args.now c.args.pairs c.args.m c.index-args-at.result (with_properties (drop ((c.args.pairs + 1) * 2) (map ty_view c.args.args.now)) (names_before (c.args.pairs + 1) (map ty_view c.args.args.now))) c.requires c.index-args-at.is
    (ap (λ x. text_in (ty_view x)) c.in-Fi.is)

pub returns-in-Number : goal.returns-in-Number
unfolding text_in
returns-in-Number c =
    no_words c.args.args.now c.args.pairs c.args.m c.index-args-at.result (with_properties (drop ((c.args.pairs + 1) * 2) (map ty_view c.args.args.now)) (names_before (c.args.pairs + 1) (map ty_view c.args.args.now))) c.requires c.index-args-at.is
    (ap (λ x. text_in (ty_view x)) c.in-Number.is)

pub returns-in-Math : goal.returns-in-Math
unfolding text_in
returns-in-Math c =
    no_words c.args.args.now c.args.pairs c.args.m c.index-args-at.result (with_properties (drop ((c.args.pairs + 1) * 2) (map ty_view c.args.args.now)) (names_before (c.args.pairs + 1) (map ty_view c.args.args.now))) c.requires c.index-args-at.is
    (ap (λ x. text_in (ty_view x)) c.in-Math.is)

pub returns-in-Type : goal.returns-in-Type
unfolding text_in
returns-in-Type c =
    no_words c.args.args.now c.args.pairs c.args.m c.index-args-at.result (with_properties (drop ((c.args.pairs + 1) * 2) (map ty_view c.args.args.now)) (names_before (c.args.pairs + 1) (map ty_view c.args.args.now))) c.requires c.index-args-at.is
    (ap (λ x. text_in (ty_view x)) c.in-Type.is)

pub returns-in-Other : goal.returns-in-Other
unfolding text_in
returns-in-Other c =
    no_words c.args.args.now c.args.pairs c.args.m c.index-args-at.result (with_properties (drop ((c.args.pairs + 1) * 2) (map ty_view c.args.args.now)) (names_before (c.args.pairs + 1) (map ty_view c.args.args.now))) c.requires c.index-args-at.is
    (ap (λ x. text_in (ty_view x)) c.in-Other.is)

pub returns-in-Words : goal.returns-in-Words
unfolding text_in
returns-in-Words c =
    set_words c.args.args.now c.args.pairs c.args.m c.index-args-at.result c.index-args-next.result c.as_bytes.result.now c.set_new.result c.requires c.index-args-at.is c.index-args-next.is
    (ap (λ x. text_in (ty_view x)) c.in-Words.is ∙ ap Some (sym c.as_bytes.ensures)) c.set_new.ensures
