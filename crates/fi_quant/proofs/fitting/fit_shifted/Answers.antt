use Rattle.std.proofs.Common.{ℕ, ◌≡◌, ◌∙◌, ap, arith, ltb, not, eqb, ◌^◌, ◌*◌, ◌/◌, ◌%◌, ◌-◌, ◌+◌}
use Rattle.num_type.specs.Whole.{signed}
use Rattle.num_type.specs.View.{type_of}
use Rattle.fi_quant.proofs.Fits.{fit_over, shifted_over, shifted_far, far_over, scaled}
use Rattle.fi_quant.proofs.fitting.fit_shifted.Goals as goal

pub returns-then-n-lt128 : goal.returns-then-n-lt128
returns-then-n-lt128 c =
    let n : ℕ = c.magnitude-size.result * 2 ^ c.args.n in
    let e : n % 2 ^ 128 + n / 2 ^ 128 * 2 ^ 128 ≡ n = omega arith in
    fit_over c.args.action (type_of c.args.t) c.is_negative.result (ltb ((2 ^ 128 - 1) / 2 ^ c.args.n) c.magnitude-size.result) (n % 2 ^ 128) (n / 2 ^ 128) _ c.fit_wide.result
    (shifted_over c.magnitude-size.result c.args.n (omega arith) c.if-n-lt128.true)
    (ap (signed c.is_negative.result) e ∙ scaled c.args.z c.is_negative.result c.magnitude-size.result (2 ^ c.args.n) c.is_negative.ensures c.magnitude-size.ensures)
    c.fit_wide.ensures

pub returns-else-n-lt128 : goal.returns-else-n-lt128
returns-else-n-lt128 c =
    fit_over c.args.action (type_of c.args.t) c.is_negative-else-n-lt128.result (not (eqb c.magnitude-size.result 0)) 0 (c.magnitude-size.result * 2 ^ (c.args.n - 128)) _ c.fit_wide-else-n-lt128.result
    (far_over c.magnitude-size.result c.args.n)
    (ap (signed c.is_negative-else-n-lt128.result) (shifted_far c.magnitude-size.result c.args.n c.if-n-lt128.false) ∙ scaled c.args.z c.is_negative-else-n-lt128.result c.magnitude-size.result (2 ^ c.args.n) c.is_negative-else-n-lt128.ensures c.magnitude-size.ensures)
    c.fit_wide-else-n-lt128.ensures
