use Rattle.std.proofs.Common.{◌≡◌, ◌∙◌, to_z, of_z}
use Rattle.std.specs.Int.{w32}
use Rattle.std.proofs.lemmas.Int.{to_z-of_z}
use Rattle.num_type.proofs.Constants.{not_true}
use Rattle.fi_rules.specs.Calls.{fixed}
use Rattle.fi_rules.proofs.Limited.{made_fine, made_out_as}
use Rattle.fi_rules.proofs.limits.typed.Goals as goal

pub returns-in-Some-clause-value : goal.returns-in-Some-clause-value
returns-in-Some-clause-value c =
    let e : to_z w32 (of_z w32 c.args.fraction) ≡ c.args.fraction = to_z-of_z w32 c.args.fraction c.ranges.fraction in
    made_fine c.in-Some.t (fixed c.args.signed c.args.word c.args.fraction) (c.in-Some.ensures.parts ∙ (λ i. fixed c.args.signed c.args.word (e i)))

pub returns-in-None-clause-value : goal.returns-in-None-clause-value
returns-in-None-clause-value c =
    made_out_as c.args.signed c.args.word c.args.fraction (to_z w32 (of_z w32 c.args.fraction)) (to_z-of_z w32 c.args.fraction c.ranges.fraction) c.requires.some c.requires.bits (λ w. not_true (c.in-None.ensures.limits.1 w))

pub returns-in-Some-clause-parts : goal.returns-in-Some-clause-parts
returns-in-Some-clause-parts c =
    let e : to_z w32 (of_z w32 c.args.fraction) ≡ c.args.fraction = to_z-of_z w32 c.args.fraction c.ranges.fraction in
    c.in-Some.ensures.parts ∙ (λ i. fixed c.args.signed c.args.word (e i))
