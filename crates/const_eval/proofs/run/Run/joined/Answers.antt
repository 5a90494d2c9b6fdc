use Rattle.std.proofs.Common.{◌≡◌, ◌*◌, ◌^◌, ℕ, refl, ap, arith}
use Rattle.const_eval.proofs.Zeros.{last_room}
use Rattle.const_eval.proofs.run.Run.joined.Goals as goal

pub invariant_of-result : goal.invariant_of-result
invariant_of-result c =
    let e : c.args.head * c.power.result ≡ c.args.head * 10 ^ c.args.room = ap (λ (p : ℕ). c.args.head * p) c.power.ensures in
    record {
      few = omega arith;
      last = λ h. absurd (omega (arith, h, e, last_room c.args.head c.args.room c.args.digit c.requires.least c.requires.digit, c.requires.some));
      zero = λ h. refl;
    }
