use Rattle.std.proofs.Common.{to_z, of_z, ◌≡◌, ◌↔◌, subst, arith}
use Rattle.std.specs.Prelude.{IsSome, IfSome}
use Rattle.std.specs.Int.{w128}
use Rattle.std.proofs.lemmas.Int.{ints}
use Rattle.num_type.specs.Constants.{Exact, IsSame, IsConstant}
use Rattle.num_type.specs.View.{exact_of}
use Rattle.num_type.proofs.Constants.{not_true}
use Rattle.num_type.proofs.Sums.{sum_is, no_sum}
use Rattle.num_type.proofs.dyadic.Dyadic.sum_above.Goals as goal

pub returns-then-bits-le64-clause-limits : goal.returns-then-bits-le64-clause-limits
returns-then-bits-le64-clause-limits c =
    let fits : to_z w128 (of_z w128 c.shifted_sum.result) ≡ c.shifted_sum.result = omega (arith, ints) in
    subst (λ (x : Exact). IsSome c.reduced.result ↔ IsConstant x) (sum_is c.args.high c.args.low c.gap-bits.result c.shifted_sum.result c.gap-bits.ensures fits c.shifted_sum.ensures) c.reduced.ensures.limits

pub returns-then-bits-le64-clause-same : goal.returns-then-bits-le64-clause-same
returns-then-bits-le64-clause-same c =
    let fits : to_z w128 (of_z w128 c.shifted_sum.result) ≡ c.shifted_sum.result = omega (arith, ints) in
    subst (λ (x : Exact). IfSome c.reduced.result (λ d. IsSame (exact_of d) x)) (sum_is c.args.high c.args.low c.gap-bits.result c.shifted_sum.result c.gap-bits.ensures fits c.shifted_sum.ensures) c.reduced.ensures.same

pub returns-else-bits-le64-clause-limits : goal.returns-else-bits-le64-clause-limits
returns-else-bits-le64-clause-limits c =
    (λ t. absurd (not_true t), λ k. absurd (no_sum c.args.high c.args.low c.gap-bits.result c.gap-bits.ensures c.requires.high c.requires.low c.if-bits-le64.false k))
