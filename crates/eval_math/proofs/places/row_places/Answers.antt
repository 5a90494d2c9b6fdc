use Rattle.std.proofs.Common.{◌≡◌, ◌∙◌, ◌+◌, ◌-◌, ◌*◌, ◌<◌, ◌≤◌, ap, ℕ, List, ◌++◌, map, arith}
use Rattle.shape_rules.specs.Shapes.{columns_of, rows_of}
use Rattle.fi_values.specs.Elements.{count_from}
use Rattle.fi_values.specs.Sums as sums
use Rattle.eval_value.specs.View.{shape_view}
use Rattle.eval_math.proofs.Counted.{begun_counted, index_end, index_next}
use Rattle.eval_math.proofs.places.row_places.Goals as goal

pub loop-j-init : goal.loop-j-init
loop-j-init c =
    ap (λ (w : List ℕ). w ++ map (λ j. c.args.row + rows_of c.args.shape * j) (count_from 0 (columns_of c.args.shape - 0))) c.new-out.ensures.items
    ∙ begun_counted (λ j. c.args.row + rows_of c.args.shape * j) (columns_of c.args.shape)

pub loop-j-preserved : goal.loop-j-preserved
loop-j-preserved c =
    let l : c.loop-j.j < columns_of c.args.shape = omega arith in
    index_next (λ j. c.args.row + rows_of c.args.shape * j) c.loop-j.j (columns_of c.args.shape) c.loop-j.out.items c.push.new.self.items c.place.result (sums.row_places (shape_view c.args.shape) c.args.row) l
    (c.place.ensures ∙ ap (λ (r : ℕ). c.args.row + r * c.loop-j.j) c.rows-rows.ensures.value)
    c.in_ok-push.ensures.items c.loop-j.invariant

pub returns : goal.returns
returns c =
    let l : columns_of c.args.shape ≤ c.loop-j.j = omega arith in
    index_end (λ j. c.args.row + rows_of c.args.shape * j) c.loop-j.j (columns_of c.args.shape) c.loop-j.out.items (sums.row_places (shape_view c.args.shape) c.args.row) l c.loop-j.invariant
