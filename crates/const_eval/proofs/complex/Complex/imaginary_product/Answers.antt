use Rattle.std.proofs.Common.{refl}
use Rattle.num_type.specs.Constants.{Exact, product_of}
use Rattle.num_type.specs.View.{exact_of}
use Rattle.num_type.proofs.Constants.{not_true}
use Rattle.const_eval.proofs.Pairs.{made_sum, sum_is}
use Rattle.const_eval.proofs.complex.Complex.imaginary_product.Goals as goal

pub returns-in-None-clause-limits : goal.returns-in-None-clause-limits
returns-in-None-clause-limits c = (λ t. absurd (not_true t), λ k. c.in-None.ensures.limits.1 k.0)

pub returns-in-None-mul-clause-limits : goal.returns-in-None-mul-clause-limits
returns-in-None-mul-clause-limits c = (λ t. absurd (not_true t), λ k. c.in-None-mul.ensures.limits.1 k.1)

pub returns-in-Some-mul-clause-limits : goal.returns-in-Some-mul-clause-limits
returns-in-Some-mul-clause-limits c =
    let x : Exact = product_of (exact_of c.args.x.now.re) (exact_of c.args.y.now.im) in
    let y : Exact = product_of (exact_of c.args.x.now.im) (exact_of c.args.y.now.re) in
    made_sum c.add.result c.in-Some.first c.in-Some-mul.second x y (c.in-Some.ensures.limits.0 refl) (c.in-Some-mul.ensures.limits.0 refl) c.in-Some.ensures.same c.in-Some-mul.ensures.same c.add.ensures.limits

pub returns-in-Some-mul-clause-same : goal.returns-in-Some-mul-clause-same
returns-in-Some-mul-clause-same c =
    let x : Exact = product_of (exact_of c.args.x.now.re) (exact_of c.args.y.now.im) in
    let y : Exact = product_of (exact_of c.args.x.now.im) (exact_of c.args.y.now.re) in
    sum_is c.add.result c.in-Some.first c.in-Some-mul.second x y c.in-Some.ensures.same c.in-Some-mul.ensures.same c.add.ensures.same
