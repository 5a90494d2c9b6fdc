use Rattle.std.proofs.Common.{w64, arith}
use Rattle.std.proofs.lemmas.Int.{ints, to_z-of_z}
use Rattle.shape_rules.proofs.Ranges.{items_up}
use Rattle.shape_rules.proofs.range.upward.Goals as goal

pub returns-then-first-last : goal.returns-then-first-last
returns-then-first-last c = λ k.
    let first = to_z-of_z w64 c.args.first c.ranges.first in
    let step = to_z-of_z w64 c.args.step c.ranges.step in
    let last = to_z-of_z w64 c.args.last c.ranges.last in
    let h = c.items.ensures k in
    let i = items_up c.args.first c.args.step c.args.last c.apart-gap.result c.apart-size.result k (omega (arith, ints, step, c.apart-size.ensures.value)) (omega (arith, ints, first, last, c.apart-gap.ensures.value)) c.requires.up in
    (λ a. i.0 (h.0 a), λ a. h.1 (i.1 a))
