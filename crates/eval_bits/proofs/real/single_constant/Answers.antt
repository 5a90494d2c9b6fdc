use Rattle.std.proofs.Common.{◌≡◌, Some, get_or, ap, sym, ◌∙◌, arith, rules}
use Rattle.std.proofs.lemmas.Grind.{common_steps}
use Rattle.num_type.specs.View.{exact_of}
use Rattle.num_type.specs.declared.dyadic.Dyadic.{Dyadic}
use Rattle.eval_bits.proofs.Conditions.{single_constant, many_constants, complex_constants}
use Rattle.eval_bits.proofs.real.single_constant.Goals as goal

pub returns-then-is_scalar : goal.returns-then-is_scalar
returns-then-is_scalar c =
    let e : c.index.result.now ≡ get_or c.args.v.now.re.items 0 c.index.result.now = first_of (search rules, grind (arith, common_steps)) in
    ap (λ (x : Dyadic). Some (exact_of x)) e ∙ single_constant c.args.v.now c.index.result.now c.in-None.is (sym c.is_scalar.ensures ∙ c.if-is_scalar.true)

pub returns-else-is_scalar : goal.returns-else-is_scalar
returns-else-is_scalar c = many_constants c.args.v.now c.in-None.is (sym c.is_scalar.ensures ∙ c.if-is_scalar.false)

pub returns-in-Some : goal.returns-in-Some
returns-in-Some c = complex_constants c.args.v.now _ c.in-Some.is
