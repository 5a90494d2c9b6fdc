use Rattle.std.proofs.Common.{◌≡◌, ◌∙◌, ◌+◌, ◌-◌, ◌*◌, ◌<◌, ◌≤◌, ap, ℕ, List, ◌++◌, map, arith}
use Rattle.shape_rules.specs.Shapes.{rows_of}
use Rattle.fi_values.specs.Elements.{count_from}
use Rattle.fi_values.specs.Sums as sums
use Rattle.eval_value.specs.View.{shape_view}
use Rattle.eval_math.proofs.Counted.{begun_counted, index_end, index_next}
use Rattle.eval_math.proofs.places.column_places.Goals as goal

pub loop-i-init : goal.loop-i-init
loop-i-init c =
    ap (λ (w : List ℕ). w ++ map (λ i. i + rows_of c.args.shape * c.args.column) (count_from 0 (rows_of c.args.shape - 0))) c.new-out.ensures.items
    ∙ begun_counted (λ i. i + rows_of c.args.shape * c.args.column) (rows_of c.args.shape)

pub loop-i-preserved : goal.loop-i-preserved
loop-i-preserved c =
    let l : c.loop-i.i < rows_of c.args.shape = omega arith in
    index_next (λ i. i + rows_of c.args.shape * c.args.column) c.loop-i.i (rows_of c.args.shape) c.loop-i.out.items c.push.new.self.items c.place.result (sums.column_places (shape_view c.args.shape) c.args.column) l
    (c.place.ensures ∙ ap (λ (r : ℕ). c.loop-i.i + r * c.args.column) c.rows-rows.ensures.value)
    c.in_ok-push.ensures.items c.loop-i.invariant

pub returns : goal.returns
returns c =
    let l : rows_of c.args.shape ≤ c.loop-i.i = omega arith in
    index_end (λ i. i + rows_of c.args.shape * c.args.column) c.loop-i.i (rows_of c.args.shape) c.loop-i.out.items (sums.column_places (shape_view c.args.shape) c.args.column) l c.loop-i.invariant
