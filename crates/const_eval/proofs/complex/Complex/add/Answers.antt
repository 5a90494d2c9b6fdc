use Rattle.const_eval.specs.Complex.{complex_of, plus}
use Rattle.const_eval.proofs.Pairs.{paired_limits, paired_same}
use Rattle.const_eval.proofs.complex.Complex.add.Goals as goal

pub returns-clause-limits : goal.returns-clause-limits
returns-clause-limits c =
    paired_limits c.paired.result c.add-re.result c.add-im.result (plus (complex_of c.args.self.now) (complex_of c.args.o.now)) c.paired.ensures.both c.add-re.ensures.limits c.add-im.ensures.limits

pub returns-clause-same : goal.returns-clause-same
returns-clause-same c =
    paired_same c.paired.result c.add-re.result c.add-im.result (plus (complex_of c.args.self.now) (complex_of c.args.o.now)) c.paired.ensures.real c.paired.ensures.imaginary c.add-re.ensures.same c.add-im.ensures.same
