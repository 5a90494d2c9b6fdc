use Rattle.std.proofs.Common.{◌↔◌, refl, subst}
use Rattle.std.specs.Prelude.{IsSome, IfSome}
use Rattle.num_type.specs.Constants.{Exact, IsSame, IsConstant, sum_of}
use Rattle.num_type.specs.View.{exact_of}
use Rattle.num_type.proofs.Constants.{constant_same}
use Rattle.num_type.proofs.Sums.{zero_m, zero_sum, sum_zero, sum_turned, constant_of}
use Rattle.num_type.proofs.dyadic.Dyadic.add.Goals as goal

pub returns-then-self-eq0-clause-limits : goal.returns-then-self-eq0-clause-limits
returns-then-self-eq0-clause-limits c =
    let x = c.args.self in
    let y = c.args.o in
    (λ t. constant_same (exact_of y) (sum_of (exact_of x) (exact_of y)) (zero_sum (exact_of x) (exact_of y) (zero_m x c.if-self-eq0.true)) (constant_of y), λ k. refl)

pub returns-then-self-eq0-clause-same : goal.returns-then-self-eq0-clause-same
returns-then-self-eq0-clause-same c = zero_sum (exact_of c.args.self) (exact_of c.args.o) (zero_m c.args.self c.if-self-eq0.true)

pub returns-then-o-eq0-clause-limits : goal.returns-then-o-eq0-clause-limits
returns-then-o-eq0-clause-limits c =
    let x = c.args.self in
    let y = c.args.o in
    (λ t. constant_same (exact_of x) (sum_of (exact_of x) (exact_of y)) (sum_zero (exact_of x) (exact_of y) (zero_m y c.if-o-eq0.true)) (constant_of x), λ k. refl)

pub returns-then-o-eq0-clause-same : goal.returns-then-o-eq0-clause-same
returns-then-o-eq0-clause-same c = sum_zero (exact_of c.args.self) (exact_of c.args.o) (zero_m c.args.o c.if-o-eq0.true)

pub returns-then-self-o-clause-limits : goal.returns-then-self-o-clause-limits
returns-then-self-o-clause-limits c =
    subst (λ (x : Exact). IsSome c.sum_above.result ↔ IsConstant x) (sum_turned (exact_of c.args.o) (exact_of c.args.self)) c.sum_above.ensures.limits

pub returns-then-self-o-clause-same : goal.returns-then-self-o-clause-same
returns-then-self-o-clause-same c =
    subst (λ (x : Exact). IfSome c.sum_above.result (λ d. IsSame (exact_of d) x)) (sum_turned (exact_of c.args.o) (exact_of c.args.self)) c.sum_above.ensures.same

pub returns-else-self-o-clause-limits : goal.returns-else-self-o-clause-limits
returns-else-self-o-clause-limits c = c.sum_above-else-self-o.ensures.limits

pub returns-else-self-o-clause-same : goal.returns-else-self-o-clause-same
returns-else-self-o-clause-same c = c.sum_above-else-self-o.ensures.same
