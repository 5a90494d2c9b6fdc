use Rattle.std.proofs.Common.{◌≡◌, ◌∙◌, ap, to_z, of_z, arith}
use Rattle.std.specs.Int.{w32}
use Rattle.std.proofs.lemmas.Int.{ints, clamps}
use Rattle.num_type.specs.View.{exact_of}
use Rattle.fi_rules.specs.Arguments.{bit_of}
use Rattle.fi_rules.proofs.Numbers.{bit_is_some, bit_is_none}
use Rattle.fi_rules.proofs.whole.bit.Goals as goal

pub returns-in-Some : goal.returns-in-Some
returns-in-Some c =
    let e : to_z w32 (of_z w32 c.in-Some.n) ≡ c.in-Some.n = omega (arith, ints, clamps, c.in-Some.ensures.least, c.in-Some.ensures.most) in
    c.bit_from.ensures ∙ ap bit_of e ∙ bit_is_some c.in-Some.n (exact_of c.args.c) c.in-Some.ensures.value

pub returns-in-None : goal.returns-in-None
returns-in-None c = bit_is_none (exact_of c.args.c) c.in-None.ensures.value
