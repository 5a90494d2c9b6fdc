use Rattle.std.proofs.Common.{◌≡◌, ◌*◌, ◌^◌, ◌∙◌, arith}
use Rattle.const_eval.specs.Digits.{number_of}
use Rattle.const_eval.proofs.Zeros.{ten_plus}
use Rattle.const_eval.proofs.run.Run.pushed.Goals as goal

pub returns-then-digit-eq0-clause-number : goal.returns-then-digit-eq0-clause-number
returns-then-digit-eq0-clause-number c =
    let e : number_of c.with_zero.result ≡ number_of c.args.self.now * 10 =
    (λ i. c.with_zero.ensures.head i * 10 ^ c.with_zero.ensures.zeros i) ∙ ten_plus c.args.self.now.head c.args.self.now.zeros in
    omega (arith, e, c.if-digit-eq0.true)
