use Rattle.const_eval.specs.Complex.{complex_of, minus}
use Rattle.const_eval.proofs.Pairs.{paired_limits, paired_same}
use Rattle.const_eval.proofs.complex.Complex.sub.Goals as goal

pub returns-clause-limits : goal.returns-clause-limits
returns-clause-limits c =
    paired_limits c.paired.result c.sub-re.result c.sub-im.result (minus (complex_of c.args.self.now) (complex_of c.args.o.now)) c.paired.ensures.both c.sub-re.ensures.limits c.sub-im.ensures.limits

pub returns-clause-same : goal.returns-clause-same
returns-clause-same c =
    paired_same c.paired.result c.sub-re.result c.sub-im.result (minus (complex_of c.args.self.now) (complex_of c.args.o.now)) c.paired.ensures.real c.paired.ensures.imaginary c.sub-re.ensures.same c.sub-im.ensures.same
