use Rattle.std.proofs.Common.{ap, sym, ◌∙◌, arith}
use Rattle.c_read.proofs.Behind.{place_there, place_past}
use Rattle.c_read.proofs.read.place.Goals as goal

pub returns-then-at-len : goal.returns-then-at-len
returns-then-at-len c = λ bytes.
    let tokens = c.args.scanned.now.tokens.items in
    ap (λ t. t.offset) c.index.ensures ∙ sym (place_there bytes tokens c.args.scanned.now.stop c.args.at c.index.result.now (omega (arith, c.if-at-len.true, c.len.ensures)))

pub returns : goal.returns
returns c = λ bytes. sym (place_past bytes c.args.scanned.now.tokens.items c.args.scanned.now.stop c.args.at (omega (arith, c.if-at-len.false, c.len.ensures)))
