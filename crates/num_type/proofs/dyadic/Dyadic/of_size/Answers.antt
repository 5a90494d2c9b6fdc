use Rattle.std.proofs.Common.{◌≡◌, ◌∙◌, ap, ◌/◌, ◌^◌, to_z, of_z, arith}
use Rattle.std.specs.Prelude.{ℤ, pos, ◌+ℤ◌}
use Rattle.std.specs.Int.{w64}
use Rattle.std.proofs.lemmas.Int.{ints, to_z-of_z}
use Rattle.num_type.proofs.Raised.{limits_raised, some_raised, plain}
use Rattle.num_type.proofs.dyadic.Dyadic.of_size.Goals as goal

pub returns-clause-limits : goal.returns-clause-limits
returns-clause-limits c =
    let e : to_z w64 (of_z w64 c.args.e) ≡ c.args.e = to_z-of_z w64 c.args.e c.ranges.e in
    let f : c.raised.result ≡ c.args.e +ℤ pos c.zeros_of-zeros.result = c.raised.ensures ∙ ap (λ (z : ℤ). z +ℤ pos c.zeros_of-zeros.result) e in
    let g : to_z w64 (of_z w64 c.raised.result) ≡ c.raised.result = plain c.raised.result (omega (arith, ints, f, c.requires.least.le)) (omega (arith, ints, f, c.requires.most.le, c.zeros_of-zeros.ensures.most)) in
    limits_raised c.of_odd.result c.args.neg (c.args.size / 2 ^ c.zeros_of-zeros.result) c.args.size c.zeros_of-zeros.result c.args.e (to_z w64 (of_z w64 c.raised.result)) c.zeros_of-zeros.ensures.whole (g ∙ f) c.of_odd.ensures.limits

pub returns-clause-same : goal.returns-clause-same
returns-clause-same c =
    let e : to_z w64 (of_z w64 c.args.e) ≡ c.args.e = to_z-of_z w64 c.args.e c.ranges.e in
    let f : c.raised.result ≡ c.args.e +ℤ pos c.zeros_of-zeros.result = c.raised.ensures ∙ ap (λ (z : ℤ). z +ℤ pos c.zeros_of-zeros.result) e in
    let g : to_z w64 (of_z w64 c.raised.result) ≡ c.raised.result = plain c.raised.result (omega (arith, ints, f, c.requires.least.le)) (omega (arith, ints, f, c.requires.most.le, c.zeros_of-zeros.ensures.most)) in
    some_raised c.of_odd.result c.args.neg (c.args.size / 2 ^ c.zeros_of-zeros.result) c.args.size c.zeros_of-zeros.result c.args.e (to_z w64 (of_z w64 c.raised.result)) c.zeros_of-zeros.ensures.whole (g ∙ f) c.of_odd.ensures.same
