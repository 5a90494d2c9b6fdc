use Rattle.const_eval.specs.Complex.{complex_of, times}
use Rattle.const_eval.proofs.Pairs.{product_limits, paired_same}
use Rattle.const_eval.proofs.complex.Complex.mul.Goals as goal

pub returns-clause-limits : goal.returns-clause-limits
returns-clause-limits c =
    product_limits c.paired.result c.real_product-re.result c.imaginary_product-im.result (complex_of c.args.self.now) (complex_of c.args.o.now) c.paired.ensures.both c.real_product-re.ensures.limits c.imaginary_product-im.ensures.limits

pub returns-clause-same : goal.returns-clause-same
returns-clause-same c =
    paired_same c.paired.result c.real_product-re.result c.imaginary_product-im.result (times (complex_of c.args.self.now) (complex_of c.args.o.now)) c.paired.ensures.real c.paired.ensures.imaginary c.real_product-re.ensures.same c.imaginary_product-im.ensures.same
