use Rattle.std.proofs.Common.{◌≡◌, ◌∙◌, to_z, of_z}
use Rattle.std.specs.Int.{w32}
use Rattle.std.specs.Prelude.{Some, None, [], ◌∷◌}
use Rattle.std.proofs.lemmas.Int.{to_z-of_z}
use Rattle.num_type.specs.View.{type_of}
use Rattle.fi_rules.specs.Calls.{fixed}
use Rattle.fi_rules.specs.View.{at_fraction}
use Rattle.fi_rules.proofs.working.constant_operand.Goals as goal

pub returns-in-Ok-clause-side : goal.returns-in-Ok-clause-side
returns-in-Ok-clause-side c =
    let e : to_z w32 (of_z w32 c.args.fraction) ≡ c.args.fraction = to_z-of_z w32 c.args.fraction c.ranges.fraction in
    let p : type_of c.in-Ok.num ≡ at_fraction (type_of c.args.t) c.args.fraction =
    c.in-Ok.ensures.parts ∙ (λ i. fixed (c.signed.ensures i) (c.word.ensures.value i) (e i)) in
    λ i. record { num = p i; math = None; stored = Some (c.args.z ∷ []) }
