use Rattle.std.proofs.Common.{◌≡◌, ◌<◌, length, arith, false, sym, ◌∙◌}
use Rattle.std.proofs.lemmas.Grind.{common_steps}
use Rattle.case_io.specs.Reads.{texts_of}
use Rattle.case_io.specs.Plain.{is_canonical}
use Rattle.case_io.proofs.Lines.{no_line, bad_line}
use Rattle.case_io.proofs.line.read_lines.Goals as goal

pub returns-in-None : goal.returns-in-None
returns-in-None c =
    let more : 0 < length c.loop-rest.rest.now = grind (arith, common_steps, c.is_empty.ensures, c.loop-rest-test.true) in
    no_line (texts_of c.loop-rest.texts.items) c.loop-rest.rest.now c.args.bytes.now c.loop-rest.invariant.1 c.loop-rest.invariant.0 more c.in-None.ensures

pub returns-then-not-is_canonical : goal.returns-then-not-is_canonical
returns-then-not-is_canonical c =
    let bad : is_canonical c.in-Some.text.now ≡ false = sym c.is_canonical.ensures ∙ c.if-not-is_canonical.true in
    bad_line (texts_of c.loop-rest.texts.items) c.loop-rest.rest.now c.args.bytes.now c.in-Some.text.now c.in-Some.behind.now c.loop-rest.invariant.1 c.loop-rest.invariant.0 c.in-Some.ensures.0 c.in-Some.ensures.1 bad
