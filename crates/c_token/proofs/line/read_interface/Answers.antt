use Rattle.std.proofs.Common.{refl}
use Rattle.std.proofs.lemmas.Bool.{false≢true}
use Rattle.c_token.proofs.Sides.{too_short, other_line, no_blank, no_entry, whole_if_ok}
use Rattle.c_token.proofs.line.read_interface.Goals as goal

pub returns-then-bytes-lt-FIRST_LINE : goal.returns-then-bytes-lt-FIRST_LINE
returns-then-bytes-lt-FIRST_LINE c = too_short c.args.bytes.now c.if-bytes-lt-FIRST_LINE.true

pub returns-then-not-has_front : goal.returns-then-not-has_front
returns-then-not-has_front c = other_line c.args.bytes.now c.split_at.result.1.now c.split_at.ensures.back c.if-not-has_front.ensures

pub returns-in-None : goal.returns-in-None
returns-in-None c =
    no_blank c.args.bytes.now c.split_at.result.1.now c.split_at-2.result.1.now c.split_at.ensures.back c.if-not-has_front.ensures c.split_at-2.ensures.back c.in-None.ensures

pub returns-then-not-is_name : goal.returns-then-not-is_name
returns-then-not-is_name c =
    no_entry c.args.bytes.now c.split_at.result.1.now c.split_at-2.result.1.now c.in-Some.entry.now c.in-Some.field-0-1.now c.split_at.ensures.back c.if-not-has_front.ensures
    c.split_at-2.ensures.back c.in-Some.ensures.0 c.in-Some.ensures.1 (λ n. false≢true (c.if-not-is_name.ensures.1 n))

pub returns-else-not-is_name : goal.returns-else-not-is_name
returns-else-not-is_name c =
    whole_if_ok c.read_sides.result c.args.bytes.now c.split_at.result.1.now c.split_at-2.result.1.now c.in-Some.entry.now c.in-Some.field-0-1.now c.split_at.ensures.back c.if-not-has_front.ensures
    c.split_at-2.ensures.back c.in-Some.ensures.0 c.in-Some.ensures.1 (c.if-not-is_name.ensures.0 refl) c.read_sides.ensures
