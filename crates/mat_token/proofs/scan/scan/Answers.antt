use Rattle.std.proofs.Common.{◌≡◌, ◌<◌, [], ◌∷◌, length, drop, length-drop, ap, arith}
use Rattle.std.proofs.lemmas.Result.{err_from_is_err_and}
use Rattle.mat_token.specs.Reads.{Gives, Refuses}
use Rattle.mat_token.proofs.Steps.{stopped, went, joined, ended, refuses_weaker}
use Rattle.mat_token.proofs.scan.scan.Goals as goal

pub returns-in-Err-clause-refusal : goal.returns-in-Err-clause-refusal
returns-in-Err-clause-refusal c =
    let some : 0 < length (drop c.loop-at.at c.args.bytes.now) = omega (arith, length-drop c.loop-at.at c.args.bytes.now) in
    refuses_weaker c.refusal_of.result _ _
    (λ r is. c.loop-at.invariant.joins (Refuses r)
    (stopped _ _ _ _ _ r c.split_at.ensures.back some c.in-Err.ensures.exact.0 c.in-Err.ensures.exact.1 is))
    c.refusal_of.ensures

pub loop-at-preserved : goal.loop-at-preserved
loop-at-preserved c =
    let some : 0 < length (drop c.loop-at.at c.args.bytes.now) = omega (arith, length-drop c.loop-at.at c.args.bytes.now) in
    let rest : length c.split_at.result.1.now ≡ length (drop c.loop-at.at c.args.bytes.now) = ap length c.split_at.ensures.back in
    let front = c.split_at-in-loop-at.ensures.front_len in
    record {
      within = omega (arith, rest, length-drop c.loop-at.at c.args.bytes.now, c.in-Ok.ensures.within);
      depth = omega (arith, c.in-Ok.ensures.within, c.after_piece-context.ensures.within, c.loop-at.invariant.depth);
      offset = omega (arith, front, c.place_after-place.ensures.offset, c.loop-at.invariant.offset);
      line = omega (arith, front, c.place_after-place.ensures.line, c.loop-at.invariant.line);
      col = omega (arith, front, c.place_after-place.ensures.col, c.loop-at.invariant.col);
      joins = joined c.args.bytes.now c.loop-at.at c.in-Ok.piece.len _ _ _ _ _ c.loop-at.context c.loop-at.place c.loop-at.invariant.joins
          (λ o. went _ _ _ _ _ _ _ _ _ _ o c.split_at.ensures.back some c.in-Ok.ensures.within.1 c.in-Ok.ensures.exact.0 c.in-Ok.ensures.exact.1
          c.split_at-in-loop-at.ensures.front c.kind_of-kind.ensures c.after_piece-context.ensures.exact c.place_after-place.ensures.exact)
          c.in_ok-add_piece.ensures.tokens;
    }

pub returns-in_err-last-clause-refusal : goal.returns-in_err-last-clause-refusal
returns-in_err-last-clause-refusal c =
    let p = err_from_is_err_and c.from_residual-in_err-last.result c.from_residual-in_err-last.ensures.1 in
    rw (p.1, p.2) (refuses_weaker c.in_err-last.field-0.0 _ _
    (λ r is. c.loop-at.invariant.joins (Refuses r) (ended _ _ _ _ _ c.loop-at-test.false is)) c.in_err-last.ensures.refusal)

pub returns-clause-tokens : goal.returns-clause-tokens
returns-clause-tokens c =
    rw c.in_ok-add.ensures.tokens
    (c.loop-at.invariant.joins (Gives (c.in_ok-last.last ∷ [])) (ended _ _ _ _ _ c.loop-at-test.false c.in_ok-last.ensures.tokens))
