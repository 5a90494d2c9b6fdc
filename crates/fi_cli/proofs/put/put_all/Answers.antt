use Rattle.std.proofs.Common.{◌≡◌, ◌≤◌, take, drop, length, length-drop, sym, ap, ◌∙◌, arith}
use Rattle.std.proofs.Math.Seq.{take-add}
use Rattle.fic_io.specs.Causes.{appended}
use Rattle.fi_cli.proofs.Puts.{appended_twice}
use Rattle.fi_cli.proofs.put.put_all.Goals as goal

pub loop-done-preserved : goal.loop-done-preserved
loop-done-preserved g c =
    let i = c.loop-done.done in
    let n = c.in-Ok.count in
    let bytes = c.args.bytes.now in
    let was = g.O.Sink.taken c.args.out.now in
    let fits : n ≤ length (drop i bytes) = rw c.split_at.ensures.back at c.in-Ok.ensures.2 in
    let more : g.O.Sink.taken c.put.new.self ≡ appended (appended was (take i bytes)) (take n (drop i bytes)) =
    (rw c.split_at.ensures.back at c.in-Ok.ensures.3) ∙ ap (λ o. appended o (take n (drop i bytes))) c.loop-done.invariant.1 in (
      omega (arith, fits, length-drop i bytes, c.loop-done-test.true),
      more ∙ appended_twice was (take i bytes) (take n (drop i bytes)) ∙ ap (appended was) (sym (take-add i n bytes)),
      c.in-Ok.ensures.0 ∙ c.loop-done.invariant.2,
    )
