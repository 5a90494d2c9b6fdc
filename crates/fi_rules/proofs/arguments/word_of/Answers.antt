use Rattle.std.proofs.Common.{◌∙◌, to_z, of_z, arith}
use Rattle.std.specs.Int.{w32}
use Rattle.std.specs.Prelude.{nat_abs, Some, None}
use Rattle.std.proofs.lemmas.Int.{ints, clamps}
use Rattle.fi_rules.proofs.Taken.{word_is, size_is, no_size}
use Rattle.fi_rules.proofs.arguments.word_of.Goals as goal

pub returns-in-Some : goal.returns-in-Some
returns-in-Some c =
    size_is c.in-Some.n (nat_abs (to_z w32 (of_z w32 c.in-Some.n))) (omega (arith, ints, clamps, c.in-Some.ensures.least, c.in-Some.ensures.most))
    ∙ word_is c.args.c (Some c.in-Some.n) c.in-Some.ensures.value

pub returns-in-None : goal.returns-in-None
returns-in-None c = no_size ∙ word_is c.args.c None c.in-None.ensures.value
