use Rattle.std.proofs.Common.{◌≡◌, ◌∙◌, ◌-◌, ◌<◌, ◌≤◌, ap, refl, List, ℕ, ◌++◌, map, arith}
use Rattle.fi_values.specs.Elements.{below, count_from}
use Rattle.eval_math.proofs.Counted.{begun_counted, index_end, index_next}
use Rattle.eval_math.proofs.cells.column_cells.Goals as goal

pub loop-i-init : goal.loop-i-init
loop-i-init c =
    ap (λ (w : List (ℕ × ℕ)). w ++ map (λ i. (i, c.args.j)) (count_from 0 (c.args.rows - 0))) c.new-out.ensures.items
    ∙ begun_counted (λ i. (i, c.args.j)) c.args.rows

pub loop-i-preserved : goal.loop-i-preserved
loop-i-preserved c =
    let l : c.loop-i.i < c.args.rows = omega arith in
    index_next (λ i. (i, c.args.j)) c.loop-i.i c.args.rows c.loop-i.out.items c.push.new.self.items (c.loop-i.i, c.args.j) (map (λ i. (i, c.args.j)) (below c.args.rows)) l refl c.in_ok-push.ensures.items c.loop-i.invariant

pub returns : goal.returns
returns c =
    let l : c.args.rows ≤ c.loop-i.i = omega arith in
    index_end (λ i. (i, c.args.j)) c.loop-i.i c.args.rows c.loop-i.out.items (map (λ i. (i, c.args.j)) (below c.args.rows)) l c.loop-i.invariant
