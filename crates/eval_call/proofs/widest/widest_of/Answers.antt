use Rattle.std.proofs.Common.{map, ap, ◌∙◌}
use Rattle.num_type.specs.View.{exact_of}
use Rattle.eval_call.specs.Represented.{widest_from}
use Rattle.eval_call.proofs.Tops.{widest_complex}
use Rattle.eval_call.proofs.widest.widest_of.Goals as goal

pub returns-in-Some : goal.returns-in-Some
returns-in-Some c =
    widest_complex c.args.signed c.args.v.now c.in-Some.parts c.zero.result (exact_of c.widest_from-widest.result) (exact_of c.widest_from.result) c.in-Some.is c.zero.ensures.significand c.zero.ensures.exponent
    (c.widest_from-widest.ensures ∙ ap (λ cs. widest_from c.args.signed (exact_of c.zero.result) (map exact_of cs)) c.as_slice.ensures.value)
    (c.widest_from.ensures ∙ ap (λ cs. widest_from c.args.signed (exact_of c.widest_from-widest.result) (map exact_of cs)) c.as_slice-in-Some.ensures.value)
