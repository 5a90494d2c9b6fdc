use Rattle.std.proofs.Common.{◌<◌, ◌≤◌, Some, ap, sym, ◌∙◌, arith}
use Rattle.std.proofs.lemmas.Bool.{lt-ltb, le-ltb}
use Rattle.fi_rules.specs.Value.{Val}
use Rattle.eval_bits.proofs.Fis.{bits_moved, no_bits_moved}
use Rattle.eval_bits.proofs.bits.fi_shifted.Goals as goal

pub returns-in_ok-r : goal.returns-in_ok-r
returns-in_ok-r c =
    let l : c.args.places < c.args.v.now.num.word = omega (arith, c.word.ensures.value, c.if-places-word.true) in
    ap (λ (w : Val). Some w) c.in_ok-r.ensures ∙ sym (bits_moved c.args.v.now c.args.shift c.args.places (lt-ltb c.args.places c.args.v.now.num.word l))

pub returns-else-places-word : goal.returns-else-places-word
returns-else-places-word c =
    let l : c.args.v.now.num.word ≤ c.args.places = omega (arith, c.word.ensures.value, c.if-places-word.false) in
    sym (no_bits_moved c.args.v.now c.args.shift c.args.places (le-ltb c.args.places c.args.v.now.num.word l))
