use Rattle.std.proofs.Common.{ℕ, ◌≡◌, ◌∙◌, ap, arith, ltb, not, ◌^◌, ◌*◌, ◌/◌, ◌%◌, ◌-◌, ◌+◌}
use Rattle.std.specs.Prelude.{ℤ, ◌+ℤ◌}
use Rattle.num_type.specs.Whole.{signed}
use Rattle.num_type.specs.View.{type_of}
use Rattle.fi_quant.proofs.Signs.{part_is, sum_same, sum_left, sum_right}
use Rattle.fi_quant.proofs.Fits.{fit_over, fit_exact, carry}
use Rattle.fi_quant.proofs.fitting.fit_parts.Goals as goal

both : (a b x y : ℤ) → x ≡ a → y ≡ b → x +ℤ y ≡ a +ℤ b
both a b x y e f = cc

pub returns-then-neg-is_negative : goal.returns-then-neg-is_negative
returns-then-neg-is_negative c =
    let n : ℕ = c.magnitude-x.result + c.magnitude-y.result in
    let e : n % 2 ^ 128 + n / 2 ^ 128 * 2 ^ 128 ≡ n = omega arith in
    fit_over c.args.action (type_of c.args.t) c.is_negative-neg.result (ltb (n % 2 ^ 128) c.magnitude-x.result) (n % 2 ^ 128) (n / 2 ^ 128) _ c.fit_wide.result
    (carry c.magnitude-x.result c.magnitude-y.result (omega arith) (omega arith))
    (ap (signed c.is_negative-neg.result) e ∙ sum_same c.is_negative-neg.result c.is_negative.result c.magnitude-x.result c.magnitude-y.result c.if-neg-is_negative.true ∙ both c.args.a c.args.b _ _ (part_is c.args.a c.is_negative-neg.result c.magnitude-x.result c.is_negative-neg.ensures c.magnitude-x.ensures) (part_is c.args.b c.is_negative.result c.magnitude-y.result c.is_negative.ensures c.magnitude-y.ensures))
    c.fit_wide.ensures

pub returns-then-y-x : goal.returns-then-y-x
returns-then-y-x c =
    fit_exact c.args.action (type_of c.args.t) c.is_negative-neg.result (c.magnitude-x.result - c.magnitude-y.result) _ c.fit_wide-then-y-x.result
    (sum_left c.is_negative-neg.result c.is_negative.result c.magnitude-x.result c.magnitude-y.result c.if-neg-is_negative.false c.if-y-x.true ∙ both c.args.a c.args.b _ _ (part_is c.args.a c.is_negative-neg.result c.magnitude-x.result c.is_negative-neg.ensures c.magnitude-x.ensures) (part_is c.args.b c.is_negative.result c.magnitude-y.result c.is_negative.ensures c.magnitude-y.ensures))
    c.fit_wide-then-y-x.ensures

pub returns-else-y-x : goal.returns-else-y-x
returns-else-y-x c =
    fit_exact c.args.action (type_of c.args.t) (not c.is_negative-neg.result) (c.magnitude-y.result - c.magnitude-x.result) _ c.fit_wide-else-y-x.result
    (sum_right c.is_negative-neg.result c.is_negative.result c.magnitude-x.result c.magnitude-y.result c.if-neg-is_negative.false c.if-y-x.false ∙ both c.args.a c.args.b _ _ (part_is c.args.a c.is_negative-neg.result c.magnitude-x.result c.is_negative-neg.ensures c.magnitude-x.ensures) (part_is c.args.b c.is_negative.result c.magnitude-y.result c.is_negative.ensures c.magnitude-y.ensures))
    c.fit_wide-else-y-x.ensures
