use Rattle.std.proofs.Common.{◌≡◌, to_z, of_z, arith}
use Rattle.std.specs.Prelude.{ℤ, pos, ◌-ℤ◌, neg_ℤ}
use Rattle.std.specs.Int.{w32, w64}
use Rattle.std.proofs.lemmas.Int.{ints}
use Rattle.num_type.specs.View.{exact_of}
use Rattle.const_eval.proofs.Inverses.{turned_same}
use Rattle.const_eval.proofs.whole_power.inverse.Goals as goal

pub returns-then-m-clause-same : goal.returns-then-m-clause-same
returns-then-m-clause-same c =
    let m : ℤ = to_z w64 (of_z w64 c.significand-m.result) in
    let e : ℤ = to_z w32 (of_z w32 (pos 0 -ℤ to_z w32 (of_z w32 c.exponent.result))) in
    let p : m ≡ c.args.base.now.m = omega (arith, ints, c.significand-m.ensures.value, c.significand-m.ensures.bits) in
    let q : e ≡ neg_ℤ c.args.base.now.e = omega (arith, ints, c.exponent.ensures.value, c.exponent.ensures.least, c.exponent.ensures.most) in
    turned_same c.make.result (exact_of c.args.base.now) m e p q c.make.ensures.same
