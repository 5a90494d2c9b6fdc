use Rattle.eval_math.proofs.Accumulated.{picked_complex, picked_real}
use Rattle.eval_math.proofs.fi_products.at_places.Goals as goal

pub returns-in-None-clause-parts : goal.returns-in-None-clause-parts
returns-in-None-clause-parts c = picked_real c.args.v.now c.as_slice.result.now c.in_ok-re.re.items c.args.places.now c.in-None.is c.as_slice.ensures.value c.in_ok-re.ensures.value

pub returns-in_ok-im-in-Some-clause-parts : goal.returns-in_ok-im-in-Some-clause-parts
returns-in_ok-im-in-Some-clause-parts c =
    picked_complex c.args.v.now c.in-Some.parts c.as_slice.result.now c.in_ok-re.re.items c.as_slice-in-Some.result.now c.in_ok-im-in-Some.im.items c.args.places.now c.in-Some.is c.as_slice.ensures.value c.as_slice-in-Some.ensures.value c.in_ok-re.ensures.value c.in_ok-im-in-Some.ensures.value
