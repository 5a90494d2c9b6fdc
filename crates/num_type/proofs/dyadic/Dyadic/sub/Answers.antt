use Rattle.std.proofs.Common.{◌↔◌, subst}
use Rattle.std.specs.Prelude.{IsSome, IfSome}
use Rattle.num_type.specs.Constants.{Exact, IsSame, IsConstant, sum_of}
use Rattle.num_type.specs.View.{exact_of}
use Rattle.num_type.proofs.dyadic.Dyadic.sub.Goals as goal

pub returns-clause-limits : goal.returns-clause-limits
returns-clause-limits c = subst (λ (x : Exact). IsSome c.add.result ↔ IsConstant (sum_of (exact_of c.args.self) x)) c.neg.ensures c.add.ensures.limits

pub returns-clause-same : goal.returns-clause-same
returns-clause-same c = subst (λ (x : Exact). IfSome c.add.result (λ d. IsSame (exact_of d) (sum_of (exact_of c.args.self) x))) c.neg.ensures c.add.ensures.same
