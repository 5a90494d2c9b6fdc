use Rattle.eval_math.proofs.Accumulated.{totals_complex, totals_real}
use Rattle.num_type.specs.View.{type_of}
use Rattle.eval_math.proofs.fi_products.totals.Goals as goal

pub returns-in-None-clause-value : goal.returns-in-None-clause-value
returns-in-None-clause-value c = totals_real c.args.m.now (type_of c.args.t) c.args.v.now c.as_slice.result.now c.total-re.result c.in-None.is c.as_slice.ensures.value c.total-re.ensures.value

pub returns-in-None-clause-inside : goal.returns-in-None-clause-inside
returns-in-None-clause-inside c = record { real = c.total-re.ensures.inside; imaginary = tt }

pub returns-in-Some-clause-value : goal.returns-in-Some-clause-value
returns-in-Some-clause-value c =
    totals_complex c.args.m.now (type_of c.args.t) c.args.v.now c.in-Some.parts c.as_slice.result.now c.as_slice-in-Some.result.now c.total-re.result c.total-im.result c.in-Some.is c.as_slice.ensures.value c.as_slice-in-Some.ensures.value c.total-re.ensures.value c.total-im.ensures.value

pub returns-in-Some-clause-inside : goal.returns-in-Some-clause-inside
returns-in-Some-clause-inside c = record { real = c.total-re.ensures.inside; imaginary = c.total-im.ensures.inside }
