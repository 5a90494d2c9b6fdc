use Rattle.std.proofs.Common.{◌≡◌, ◌∙◌, arith}
use Rattle.std.specs.Prelude.{pos, ◌+ℤ◌}
use Rattle.std.proofs.lemmas.Int.{ints}
use Rattle.num_type.specs.View.{type_of}
use Rattle.c_tree.specs.View.{expr_view}
use Rattle.lower_scalar.proofs.QuantiseParts.{part_up, part_down}
use Rattle.lower_scalar.proofs.quantise.quantise_part.Goals as goal

pub returns-in_ok-p : goal.returns-in_ok-p
returns-in_ok-p c =
    let h = c.fraction-high.ensures.value in
    let l = c.fraction-low.ensures.value in
    c.in_ok-p.ensures
    ∙ part_up c.args.method c.args.action (type_of c.args.t) (type_of c.args.from) (expr_view c.args.e) c.gap.result c.args.fresh (omega (arith, ints, h, l, c.gap.ensures))

pub returns-in_ok-p-2 : goal.returns-in_ok-p-2
returns-in_ok-p-2 c =
    let h = c.fraction-high.ensures.value in
    let l = c.fraction-low.ensures.value in
    c.in_ok-p-2.ensures
    ∙ part_down c.args.method c.args.action (type_of c.args.t) (type_of c.args.from) (expr_view c.args.e) c.gap-else-low-high.result c.args.fresh (omega (arith, ints, h, l, c.gap-else-low-high.ensures)) (omega (arith, ints, h, l, c.gap-else-low-high.ensures, c.if-low-high.false))
