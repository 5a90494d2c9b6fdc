use Rattle.num_type.specs.View.{type_of}
use Rattle.eval_value.specs.View.{shape_view}
use Rattle.eval_math.proofs.Accumulated.{complex_parts_are, real_parts_are}
use Rattle.eval_math.proofs.fi_products.of_entries.Goals as goal

pub returns-in_ok-im : goal.returns-in_ok-im
returns-in_ok-im c =
    λ i. record { num = type_of c.args.how.now.sum; math = c.args.how.now.by.attached; shape = shape_view c.args.shape; parts = complex_parts_are c.args.complex c.args.zs.now c.in_ok-re.re.items c.in_ok-im.im.items c.if-complex.true c.in_ok-re.ensures.value c.in_ok-im.ensures.value i }

pub returns-else-complex : goal.returns-else-complex
returns-else-complex c =
    λ i. record { num = type_of c.args.how.now.sum; math = c.args.how.now.by.attached; shape = shape_view c.args.shape; parts = real_parts_are c.args.complex c.args.zs.now c.in_ok-re.re.items c.if-complex.false c.in_ok-re.ensures.value i }
