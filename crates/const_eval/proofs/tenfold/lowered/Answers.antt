use Rattle.std.proofs.Common.{◌≡◌, ◌*◌, ◌^◌, ◌/◌, ◌%◌, ℕ, sym, ap, ◌∙◌, to_z, of_z, arith}
use Rattle.std.specs.Prelude.{pos, neg_ℤ, ◌-ℤ◌}
use Rattle.std.specs.Int.{w64, w128}
use Rattle.std.proofs.lemmas.Int.{ints}
use Rattle.std.proofs.lemmas.Nat.{div-add-mod'}
use Rattle.std.proofs.Math.Nat.{div-le_self}
use Rattle.const_eval.proofs.Zeros.{five_most, five_some}
use Rattle.const_eval.proofs.Fives.{lowered_some, lowered_none, no_lowered}
use Rattle.const_eval.proofs.tenfold.lowered.Goals as goal

pub power-fives-requires-clause-few : goal.power-fives-requires-clause-few
power-fives-requires-clause-few c = omega (arith, five_most c.args.tens c.requires.most)

pub overflow_cast-fives : goal.overflow_cast-fives
overflow_cast-fives c = omega (arith, five_most c.args.tens c.requires.most, c.power-fives.ensures)

pub nonzero_rem-digits : goal.nonzero_rem-digits
nonzero_rem-digits c = omega (arith, five_some c.args.tens, c.power-fives.ensures)

pub nonzero_div-digits : goal.nonzero_div-digits
nonzero_div-digits c = omega (arith, five_some c.args.tens, c.power-fives.ensures)

pub returns-then-digits-fives-eq0-clause-value : goal.returns-then-digits-fives-eq0-clause-value
returns-then-digits-fives-eq0-clause-value c =
    let q : ℕ = c.args.digits / c.power-fives.result in
    let whole : q * 5 ^ c.args.tens ≡ c.args.digits =
    ap (λ (k : ℕ). q * k) (sym c.power-fives.ensures) ∙ (let split : q * c.power-fives.result ≡ c.args.digits = omega (arith, div-add-mod' c.args.digits c.power-fives.result, c.if-digits-fives-eq0.true) in split) in
    let m : to_z w128 q ≡ pos q = omega (arith, ints, div-le_self c.args.digits c.power-fives.result, c.requires.few) in
    let e : to_z w64 (of_z w64 (pos 0 -ℤ to_z w64 c.args.tens)) ≡ neg_ℤ (pos c.args.tens) = omega (arith, ints, c.requires.most) in
    lowered_some c.reduced.result c.args.digits q c.args.tens (to_z w128 q) (to_z w64 (of_z w64 (pos 0 -ℤ to_z w64 c.args.tens))) c.requires.least whole m e c.reduced.ensures.same

pub returns-then-digits-fives-eq0-clause-none : goal.returns-then-digits-fives-eq0-clause-none
returns-then-digits-fives-eq0-clause-none c =
    let q : ℕ = c.args.digits / c.power-fives.result in
    let whole : q * 5 ^ c.args.tens ≡ c.args.digits =
    ap (λ (k : ℕ). q * k) (sym c.power-fives.ensures) ∙ (let split : q * c.power-fives.result ≡ c.args.digits = omega (arith, div-add-mod' c.args.digits c.power-fives.result, c.if-digits-fives-eq0.true) in split) in
    let m : to_z w128 q ≡ pos q = omega (arith, ints, div-le_self c.args.digits c.power-fives.result, c.requires.few) in
    let e : to_z w64 (of_z w64 (pos 0 -ℤ to_z w64 c.args.tens)) ≡ neg_ℤ (pos c.args.tens) = omega (arith, ints, c.requires.most) in
    lowered_none c.reduced.result c.args.digits q c.args.tens (to_z w128 q) (to_z w64 (of_z w64 (pos 0 -ℤ to_z w64 c.args.tens))) c.requires.least whole m e c.reduced.ensures.limits

pub returns-else-digits-fives-eq0-clause-none : goal.returns-else-digits-fives-eq0-clause-none
returns-else-digits-fives-eq0-clause-none c =
    no_lowered c.args.digits c.args.tens c.requires.least (λ z. c.if-digits-fives-eq0.false (ap (λ (p : ℕ). c.args.digits % p) c.power-fives.ensures ∙ z))
