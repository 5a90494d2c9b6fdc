use Rattle.std.proofs.Common.{arith, drop, length-drop}
use Rattle.c_token.specs.Scan.{lexemes_of}
use Rattle.c_read.proofs.Behind.{place_within}
use Rattle.c_read.proofs.read.read_behind.Goals as goal

pub refusal-requires : goal.refusal-requires
refusal-requires c =
    let end = c.args.line.end in
    let bytes = c.args.bytes.now in
    let function = drop end bytes in
    let scanned = c.args.scanned.now in
    let e = c.place-at.ensures function in
    let m = place_within 0 (lexemes_of function scanned.tokens.items) scanned.stop c.in-Err-Refused.bad.at function c.requires.lexed in
    let n = length-drop end bytes in
    let w = c.requires.front.within in
    omega arith
