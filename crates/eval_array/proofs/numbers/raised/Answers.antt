use Rattle.std.proofs.Common.{◌≡◌, ◌^◌, ap, sym, ◌∙◌, arith, rules, to_z, of_z, w64}
use Rattle.std.specs.Prelude.{ℤ, pos, ◌*ℤ◌}
use Rattle.std.proofs.lemmas.Int.{ints}
use Rattle.std.proofs.lemmas.Nat.{pow_pos}
use Rattle.fi_values.specs.Numbers.{is_bound}
use Rattle.eval_array.proofs.Bounds.{beyond_times, nothing_there}
use Rattle.eval_array.proofs.numbers.raised.Goals as goal

pub returns-else-is_bound : goal.returns-else-is_bound
returns-else-is_bound c =
    let z = c.args.m *ℤ pos (2 ^ c.args.k) in
    let e : to_z w64 (of_z w64 c.args.m) ≡ c.args.m = first_of (search rules, omega (arith, ints)) in
    nothing_there (is_bound z) z (beyond_times c.args.m (2 ^ c.args.k) (pow_pos c.args.k) (ap (λ (y : ℤ). is_bound y) (sym e) ∙ sym c.is_bound.ensures ∙ c.if-is_bound.false))
