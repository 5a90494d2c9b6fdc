use Rattle.std.proofs.Common.{sym, subst}
use Rattle.case_io.specs.Cases.{IsWithin}
use Rattle.case_io.specs.View.{range_view}
use Rattle.case_io.proofs.Texts.{read_is, too_wide, none_is}
use Rattle.case_io.proofs.plain.read_value.Goals as goal

pub returns-in-None-clause-none : goal.returns-in-None-clause-none
returns-in-None-clause-none c e = too_wide c.args.text.now (range_view c.args.range.now) c.requires c.in-None.ensures c.args.range.now.wide.0 c.args.range.now.wide.1

pub returns-then-is_within-clause-some : goal.returns-then-is_within-clause-some
returns-then-is_within-clause-some c =
    (sym (read_is c.in-Some.z c.args.text.now c.in-Some.ensures.1 c.in-Some.ensures.0), c.is_within.ensures.0 c.if-is_within.true)

pub returns-else-is_within-clause-none : goal.returns-else-is_within-clause-none
returns-else-is_within-clause-none c e within =
    let value = read_is c.in-Some.z c.args.text.now c.in-Some.ensures.1 c.in-Some.ensures.0 in
    none_is c.is_within.result (c.is_within.ensures.1 (subst (IsWithin (range_view c.args.range.now)) value within)) c.if-is_within.false
