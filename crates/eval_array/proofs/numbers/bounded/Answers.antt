use Rattle.std.proofs.Common.{◌≡◌, ◌^◌, ℕ, sym, ◌∙◌, arith, rules, to_z, of_z, w32, w64}
use Rattle.std.specs.Prelude.{pos, ◌*ℤ◌, ◌<ℤ◌, nat_abs}
use Rattle.std.proofs.lemmas.Int.{ints, clamps}
use Rattle.fi_rules.specs.Options.{where_so}
use Rattle.fi_values.specs.Numbers.{is_bound}
use Rattle.eval_array.proofs.Bounds.{bounded_above, bounded_at, bounded_below}
use Rattle.eval_array.proofs.numbers.bounded.Goals as goal

pub returns-then-e-lt0 : goal.returns-then-e-lt0
returns-then-e-lt0 c =
    let h : c.args.c.e <ℤ pos 0 = omega (arith, ints, clamps, c.if-e-lt0.true, c.exponent-e.ensures.value) in
    bounded_below c.args.c h

pub returns-then-e-gt30 : goal.returns-then-e-gt30
returns-then-e-gt30 c =
    let h : pos 30 <ℤ c.args.c.e = omega (arith, ints, clamps, c.if-e-gt30.true, c.exponent-e.ensures.value) in
    bounded_above c.args.c h

pub returns-else-e-gt30 : goal.returns-else-e-gt30
returns-else-e-gt30 c =
    let k : ℕ = nat_abs c.args.c.e in
    let p : c.args.c.e ≡ pos k = omega (arith, ints, clamps, c.if-e-lt0.false, c.exponent-e.ensures.value) in
    let t : nat_abs (to_z w32 (of_z w32 c.exponent-e.result)) ≡ k = omega (arith, ints, clamps, c.if-e-lt0.false, c.exponent-e.ensures.value) in
    let s : to_z w64 (of_z w64 c.significand.result) ≡ c.args.c.m = first_of (omega (arith, ints, c.significand.ensures.value), search rules) in
    c.raised.ensures ∙ (λ i. where_so (is_bound (s i *ℤ pos (2 ^ t i))) (s i *ℤ pos (2 ^ t i))) ∙ sym (bounded_at c.args.c k p)
