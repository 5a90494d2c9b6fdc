use Rattle.std.proofs.Common.{◌≡◌, ◌∙◌, ap, to_z, of_z, arith}
use Rattle.std.specs.Int.{w32}
use Rattle.std.proofs.lemmas.Int.{ints, clamps, to_z-of_z}
use Rattle.std.specs.Prelude.{Some}
use Rattle.num_type.specs.View.{exact_of}
use Rattle.fi_rules.proofs.Numbers.{between_some, between_out, between_none}
use Rattle.fi_rules.proofs.whole.between.Goals as goal

pub returns-then-n-least-clause-value : goal.returns-then-n-least-clause-value
returns-then-n-least-clause-value c =
    between_out c.args.least c.args.most c.in-Some.n (exact_of c.args.c) c.requires.least c.requires.most c.in-Some.ensures.value
    (λ h k. omega (arith, ints, clamps, h, c.if-n-least.true, to_z-of_z w32 c.args.least c.ranges.least, c.in-Some.ensures.least, c.in-Some.ensures.most))

pub returns-then-n-most-clause-value : goal.returns-then-n-most-clause-value
returns-then-n-most-clause-value c =
    between_out c.args.least c.args.most c.in-Some.n (exact_of c.args.c) c.requires.least c.requires.most c.in-Some.ensures.value
    (λ h k. omega (arith, ints, clamps, k, c.if-n-most.true, to_z-of_z w32 c.args.most c.ranges.most, c.in-Some.ensures.least, c.in-Some.ensures.most))

pub returns-else-n-most-clause-value : goal.returns-else-n-most-clause-value
returns-else-n-most-clause-value c =
    let e : to_z w32 (of_z w32 c.in-Some.n) ≡ c.in-Some.n = omega (arith, ints, clamps, c.in-Some.ensures.least, c.in-Some.ensures.most) in
    ap Some e ∙ between_some c.args.least c.args.most c.in-Some.n (exact_of c.args.c) c.in-Some.ensures.value
    (omega (arith, ints, clamps, c.if-n-least.false, to_z-of_z w32 c.args.least c.ranges.least, c.in-Some.ensures.least, c.in-Some.ensures.most))
    (omega (arith, ints, clamps, c.if-n-most.false, to_z-of_z w32 c.args.most c.ranges.most, c.in-Some.ensures.least, c.in-Some.ensures.most))

pub returns-in-None-clause-value : goal.returns-in-None-clause-value
returns-in-None-clause-value c = between_none c.args.least c.args.most (exact_of c.args.c) c.requires.least c.requires.most c.in-None.ensures.value
