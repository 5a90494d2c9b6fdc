use Rattle.std.proofs.Common.{◌+◌, ◌∙◌, ap, refl, subst, arith, length, length-drop}
use Rattle.std.specs.List.{prefix_len}
use Rattle.c_tree.specs.CText.{is_blank}
use Rattle.c_token.specs.Scan.{IsLength}
use Rattle.c_token.proofs.Scanning.{went, ended}
use Rattle.c_token.proofs.scan.tokens.Goals as goal

pub loop-len-preserved : goal.loop-len-preserved
loop-len-preserved c =
    let bytes = c.args.bytes.now in
    let behind = c.split_at.ensures.back in
    let first = length-drop c.loop-len.at bytes in
    let second = ap length behind ∙ length-drop (c.loop-len.at + c.loop-len.len) bytes in
    record {
      within = omega (arith, c.loop-len.invariant.within, c.loop-len.invariant.longest.within, c.blanks-at.ensures.within, first, second);
      longest = subst (IsLength c.token_len-len-in-loop-len.result) c.split_at-in-loop-len.ensures.back c.token_len-len-in-loop-len.ensures;
      joins = went bytes c.loop-len.at c.loop-len.len c.blanks-at.result _ c.loop-len.tokens.items _ (record { offset = c.loop-len.at; len = c.loop-len.len }) refl refl
          c.in_ok-push.ensures.items c.loop-len.invariant.longest c.loop-len-test.true (c.blanks-at.ensures.exact ∙ ap (prefix_len is_blank) behind) refl c.loop-len.invariant.joins;
    }

pub returns-clause-tokens : goal.returns-clause-tokens
returns-clause-tokens c =
    ended c.args.bytes.now c.loop-len.at c.loop-len.len c.loop-len.tokens.items (omega (arith, c.loop-len-test.false)) c.loop-len.invariant.longest c.loop-len.invariant.joins
