use Rattle.std.proofs.Common.{not, nat_eq, of_z, w64, ap, ◌∙◌}
use Rattle.eval_call.proofs.Arguments.{signed_by}
use Rattle.eval_call.proofs.types.are_signed.Goals as goal

pub returns-in-Some : goal.returns-in-Some
returns-in-Some c =
    ap (λ m. not (nat_eq (of_z w64 m) 0)) c.significand.ensures.value
    ∙ signed_by c.args.args.now c.index-args-1.result c.in-Some.c c.if-args-lt2.false c.index-args-1.is c.in-Some.ensures
