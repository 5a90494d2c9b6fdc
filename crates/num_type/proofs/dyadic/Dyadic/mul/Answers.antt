use Rattle.std.proofs.Common.{◌↔◌, subst}
use Rattle.std.specs.Prelude.{IsSome, IfSome}
use Rattle.num_type.specs.Constants.{Exact, IsSame, IsConstant}
use Rattle.num_type.specs.View.{exact_of}
use Rattle.num_type.proofs.Raised.{product_is}
use Rattle.num_type.proofs.dyadic.Dyadic.mul.Goals as goal

pub returns-clause-limits : goal.returns-clause-limits
returns-clause-limits c = subst (λ (x : Exact). IsSome c.reduced.result ↔ IsConstant x) (product_is c.args.self c.args.o c.times.result c.plus.result c.times.ensures c.plus.ensures.sum) c.reduced.ensures.limits

pub returns-clause-same : goal.returns-clause-same
returns-clause-same c = subst (λ (x : Exact). IfSome c.reduced.result (λ d. IsSame (exact_of d) x)) (product_is c.args.self c.args.o c.times.result c.plus.result c.times.ensures c.plus.ensures.sum) c.reduced.ensures.same
