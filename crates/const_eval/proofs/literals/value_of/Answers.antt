use Rattle.std.proofs.Common.{arith}
use Rattle.std.proofs.lemmas.List.Sums.{prefix_len-le-length}
use Rattle.const_eval.specs.Digits.{number_of}
use Rattle.const_eval.specs.Literals.{is_mantissa_byte, is_whole_byte}
use Rattle.const_eval.proofs.Readings.{parts, zero_run, long_whole, long_fraction, some_literal, none_literal}
use Rattle.const_eval.proofs.literals.value_of.Goals as goal

pub cut-requires : goal.cut-requires
cut-requires c = omega (arith, c.letter_place.ensures, prefix_len-le-length is_mantissa_byte c.args.text.now)

pub cut-requires-2 : goal.cut-requires-2
cut-requires-2 c = omega (arith, c.point_place.ensures, prefix_len-le-length is_whole_byte c.cut.result.0.now)

pub returns-in-None-clause-none : goal.returns-in-None-clause-none
returns-in-None-clause-none c =
    let q = parts c.args.text.now c.cut.result.0.now c.cut.result.1.now c.cut-2.result.0.now c.cut-2.result.1.now c.letter_place.result c.point_place.result c.letter_place.ensures c.cut.ensures.before c.cut.ensures.behind c.point_place.ensures c.cut-2.ensures.before c.cut-2.ensures.behind in
    let start = zero_run c.zero.result c.zero.ensures.head in
    long_whole c.args.text.now c.cut-2.result.0.now (number_of c.zero.result) q.0 start c.in-None.ensures.long

pub returns-in-None-push_digits-clause-none : goal.returns-in-None-push_digits-clause-none
returns-in-None-push_digits-clause-none c =
    let q = parts c.args.text.now c.cut.result.0.now c.cut.result.1.now c.cut-2.result.0.now c.cut-2.result.1.now c.letter_place.result c.point_place.result c.letter_place.ensures c.cut.ensures.before c.cut.ensures.behind c.point_place.ensures c.cut-2.ensures.before c.cut-2.ensures.behind in
    let start = zero_run c.zero.result c.zero.ensures.head in
    long_fraction c.args.text.now c.cut-2.result.0.now c.cut-2.result.1.now (number_of c.zero.result) (number_of c.in-Some.front) q.0 q.1 start c.in-Some.ensures.number c.in-None-push_digits.ensures.long

pub returns-in-Some-push_digits-clause-some : goal.returns-in-Some-push_digits-clause-some
returns-in-Some-push_digits-clause-some c =
    let q = parts c.args.text.now c.cut.result.0.now c.cut.result.1.now c.cut-2.result.0.now c.cut-2.result.1.now c.letter_place.result c.point_place.result c.letter_place.ensures c.cut.ensures.before c.cut.ensures.behind c.point_place.ensures c.cut-2.ensures.before c.cut-2.ensures.behind in
    let start = zero_run c.zero.result c.zero.ensures.head in
    some_literal c.with_exponent.result c.args.text.now c.cut-2.result.0.now c.cut-2.result.1.now c.cut.result.1.now (number_of c.zero.result) (number_of c.in-Some.front) (number_of c.in-Some-push_digits.run') q start c.in-Some.ensures.number c.in-Some-push_digits.ensures.number c.in-Some.ensures.digits c.in-Some-push_digits.ensures.digits c.with_exponent.ensures.some

pub returns-in-Some-push_digits-clause-none : goal.returns-in-Some-push_digits-clause-none
returns-in-Some-push_digits-clause-none c =
    let q = parts c.args.text.now c.cut.result.0.now c.cut.result.1.now c.cut-2.result.0.now c.cut-2.result.1.now c.letter_place.result c.point_place.result c.letter_place.ensures c.cut.ensures.before c.cut.ensures.behind c.point_place.ensures c.cut-2.ensures.before c.cut-2.ensures.behind in
    let start = zero_run c.zero.result c.zero.ensures.head in
    none_literal c.with_exponent.result c.args.text.now c.cut-2.result.0.now c.cut-2.result.1.now c.cut.result.1.now (number_of c.zero.result) (number_of c.in-Some.front) (number_of c.in-Some-push_digits.run') q start c.in-Some.ensures.number c.in-Some-push_digits.ensures.number c.with_exponent.ensures.none
