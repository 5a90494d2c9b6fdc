use Rattle.c_token.proofs.Lengths.{word_length, number_length}
use Rattle.c_token.proofs.length.token_len.Goals as goal

pub returns-then-begins_word : goal.returns-then-begins_word
returns-then-begins_word c = word_length c.in-Some.first.now c.name_bytes.result c.in-Some.rest.now c.args.s.now c.in-Some.ensures.cases.0 c.if-begins_word.ensures c.name_bytes.ensures.exact

pub returns-then-is_digit : goal.returns-then-is_digit
returns-then-is_digit c = number_length c.in-Some.first.now c.digits.result c.in-Some.rest.now c.args.s.now c.in-Some.ensures.cases.0 c.if-is_digit.ensures c.digits.ensures.exact
