use Rattle.std.proofs.Common.{map, ap, ◌∙◌}
use Rattle.num_type.specs.View.{type_of}
use Rattle.eval_bits.specs.Changes.{applied, target_of}
use Rattle.eval_bits.proofs.Fis.{real_changed, complex_changed}
use Rattle.eval_bits.proofs.change.changed.Goals as goal

pub returns-in-None : goal.returns-in-None
returns-in-None c =
    real_changed c.args.v.now (applied c.args.change.now (type_of c.args.v.now.num)) (target_of c.args.change.now (type_of c.args.v.now.num)) (type_of c.target-num.result) c.args.math c.in_ok-re.re.items c.in-None.is c.target-num.ensures
    (c.in_ok-re.ensures.elements ∙ ap (map (applied c.args.change.now (type_of c.args.v.now.num))) c.as_slice.ensures.value)

pub returns-in_ok-im-in-Some : goal.returns-in_ok-im-in-Some
returns-in_ok-im-in-Some c =
    complex_changed c.args.v.now c.in-Some.parts (applied c.args.change.now (type_of c.args.v.now.num)) (target_of c.args.change.now (type_of c.args.v.now.num)) (type_of c.target-num.result) c.args.math c.in_ok-re.re.items c.in_ok-im-in-Some.im.items c.in-Some.is c.target-num.ensures
    (c.in_ok-re.ensures.elements ∙ ap (map (applied c.args.change.now (type_of c.args.v.now.num))) c.as_slice.ensures.value)
    (c.in_ok-im-in-Some.ensures.elements ∙ ap (map (applied c.args.change.now (type_of c.args.v.now.num))) c.as_slice-in-Some.ensures.value)
