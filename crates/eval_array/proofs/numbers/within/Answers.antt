use Rattle.std.proofs.Common.{◌≡◌, ap, sym, ◌∙◌, Some, arith, rules, to_z, of_z, w64}
use Rattle.std.specs.Prelude.{ℤ, pos, ◌*ℤ◌}
use Rattle.std.proofs.lemmas.Int.{ints}
use Rattle.fi_values.specs.Numbers.{is_bound}
use Rattle.eval_array.proofs.Bounds.{it_is_there, nothing_there}
use Rattle.eval_array.proofs.numbers.within.Goals as goal

pub returns-then-is_bound : goal.returns-then-is_bound
returns-then-is_bound c =
    let z = c.args.m *ℤ pos c.args.p in
    let e : to_z w64 (of_z w64 c.product-z.result) ≡ c.product-z.result = first_of (search rules, omega (arith, ints)) in
    let f : to_z w64 (of_z w64 c.args.m) ≡ c.args.m = first_of (search rules, omega (arith, ints)) in
    let p : c.product-z.result ≡ z = c.product-z.ensures ∙ ap (λ (y : ℤ). y *ℤ pos c.args.p) f in
    ap Some (e ∙ p) ∙ it_is_there (is_bound z) z (ap (λ (y : ℤ). is_bound y) (sym p ∙ sym e) ∙ sym c.is_bound.ensures ∙ c.if-is_bound.true)

pub returns-else-is_bound : goal.returns-else-is_bound
returns-else-is_bound c =
    let z = c.args.m *ℤ pos c.args.p in
    let e : to_z w64 (of_z w64 c.product-z.result) ≡ c.product-z.result = first_of (search rules, omega (arith, ints)) in
    let f : to_z w64 (of_z w64 c.args.m) ≡ c.args.m = first_of (search rules, omega (arith, ints)) in
    let p : c.product-z.result ≡ z = c.product-z.ensures ∙ ap (λ (y : ℤ). y *ℤ pos c.args.p) f in
    nothing_there (is_bound z) z (ap (λ (y : ℤ). is_bound y) (sym p ∙ sym e) ∙ sym c.is_bound.ensures ∙ c.if-is_bound.false)
