use Rattle.std.proofs.Common.{map, ap, ◌∙◌}
use Rattle.num_type.specs.View.{exact_of, type_of}
use Rattle.fi_eval.specs.Calls.{taken_constant}
use Rattle.eval_bits.proofs.Classes.{real_constants_taken, complex_constants_taken}
use Rattle.eval_bits.proofs.taking.constants_taken.Goals as goal

pub returns-in-None : goal.returns-in-None
returns-in-None c =
    real_constants_taken c.args.v.now (type_of c.args.num) c.args.math c.in_ok-re.re.items c.in-None.is
    (c.in_ok-re.ensures.elements ∙ ap (λ xs. map (taken_constant (type_of c.args.num) c.args.math) (map exact_of xs)) c.as_slice.ensures.value)

pub returns-in_ok-im-in-Some : goal.returns-in_ok-im-in-Some
returns-in_ok-im-in-Some c =
    complex_constants_taken c.args.v.now c.in-Some.parts (type_of c.args.num) c.args.math c.in_ok-re.re.items c.in_ok-im-in-Some.im.items c.in-Some.is
    (c.in_ok-re.ensures.elements ∙ ap (λ xs. map (taken_constant (type_of c.args.num) c.args.math) (map exact_of xs)) c.as_slice.ensures.value)
    (c.in_ok-im-in-Some.ensures.elements ∙ ap (λ xs. map (taken_constant (type_of c.args.num) c.args.math) (map exact_of xs)) c.as_slice-in-Some.ensures.value)
