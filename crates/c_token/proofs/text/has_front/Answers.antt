use Rattle.std.proofs.Common.{sym}
use Rattle.c_token.proofs.Reading.{other_front, is_front}
use Rattle.c_token.proofs.text.has_front.Goals as goal

pub returns-then-not-is_same : goal.returns-then-not-is_same
returns-then-not-is_same c = other_front c.args.bytes.now c.args.front.now c.split_at.result.0.now c.split_at.ensures.front (sym c.if-not-is_same.ensures)

pub returns : goal.returns
returns c = is_front c.args.bytes.now c.args.front.now c.split_at.result.0.now c.split_at.ensures.front (sym c.if-not-is_same.ensures)
