use Rattle.std.proofs.Common.{◌≡◌, ◌∙◌, refl, ap, ◌^◌, to_z, of_z, arith}
use Rattle.std.specs.Int.{w32, w64}
use Rattle.std.specs.Prelude.{ℤ, pos, Some, ◌*ℤ◌}
use Rattle.std.proofs.lemmas.Int.{ints, clamps, to_z-of_z}
use Rattle.num_type.specs.View.{type_of}
use Rattle.fi_rules.specs.View.{at_fraction}
use Rattle.fi_rules.proofs.Stores.{zero_stored, below_stored, beyond_stored, within_stored}
use Rattle.fi_rules.proofs.beside.stored.Goals as goal

pub returns-then-m-eq0 : goal.returns-then-m-eq0
returns-then-m-eq0 c =
    ap Some c.of.ensures ∙ zero_stored (at_fraction (type_of c.args.t) c.args.fraction) c.args.c (omega (arith, ints, clamps, c.if-m-eq0.true, c.significand-m.ensures.value))

pub returns-then-shift-lt0 : goal.returns-then-shift-lt0
returns-then-shift-lt0 c =
    below_stored (at_fraction (type_of c.args.t) c.args.fraction) c.args.c
    (λ e. omega (arith, ints, clamps, e, c.if-m-eq0.false, c.significand-m.ensures.value))
    (omega (arith, ints, clamps, c.if-shift-lt0.true, c.shift_of-shift.ensures, c.shift_of-shift.type_inv, to_z-of_z w32 c.args.fraction c.ranges.fraction))

pub returns-then-shift-gt64 : goal.returns-then-shift-gt64
returns-then-shift-gt64 c =
    beyond_stored (at_fraction (type_of c.args.t) c.args.fraction) c.args.c c.args.t.bits
    (λ e. omega (arith, ints, clamps, e, c.if-m-eq0.false, c.significand-m.ensures.value))
    (omega (arith, ints, clamps, c.if-shift-gt64.true, c.shift_of-shift.ensures, c.shift_of-shift.type_inv, to_z-of_z w32 c.args.fraction c.ranges.fraction))

pub returns-else-shift-gt64 : goal.returns-else-shift-gt64
returns-else-shift-gt64 c =
    let m : to_z w64 (of_z w64 c.significand-m.result) ≡ c.args.c.m = omega (arith, ints, clamps, c.significand-m.ensures.value, c.significand-m.ensures.bits) in
    within_stored c.within.result (type_of c.args.t) (at_fraction (type_of c.args.t) c.args.fraction) c.args.c c.bits_of.result c.doubled.result refl refl
    (omega (arith, ints, clamps, c.bits_of.ensures.value, c.shift_of-shift.ensures, c.shift_of-shift.type_inv, to_z-of_z w32 c.args.fraction c.ranges.fraction))
    (c.doubled.ensures ∙ ap (λ (y : ℤ). y *ℤ pos (2 ^ c.bits_of.result)) m)
    c.within.ensures.some c.within.ensures.none
