use Rattle.std.proofs.Common.{◌≡◌, ◌∙◌, ap, ◌*◌, ◌<◌, ◌≤◌, ℕ, List, ◌++◌, map, length, arith}
use Rattle.std.proofs.lemmas.List.Elements.{All-same}
use Rattle.shape_rules.specs.Shapes.{columns_of, rows_of}
use Rattle.fi_values.specs.Elements.{below}
use Rattle.eval_math.specs.Matrices.{IsCell, cells}
use Rattle.eval_math.proofs.Entries.{cells_begun, cells_end, cells_inside, cells_next, length_cells}
use Rattle.eval_math.proofs.cells.cells.Goals as goal

pub loop-j-init : goal.loop-j-init
loop-j-init c = cells_begun (λ j. map (λ i. (i, j)) (below (rows_of c.args.shape))) (columns_of c.args.shape) c.new-out.result.items c.new-out.ensures.items

pub loop-j-preserved : goal.loop-j-preserved
loop-j-preserved c =
    let l : c.loop-j.j < columns_of c.args.shape = omega arith in
    cells_next (λ j. map (λ i. (i, j)) (below (rows_of c.args.shape))) c.loop-j.j (columns_of c.args.shape) c.loop-j.out.items c.extend_from_slice.new.self.items c.in_ok-column.column.items (cells (rows_of c.args.shape) (columns_of c.args.shape)) l
    (c.in_ok-column.ensures ∙ ap (λ (r : ℕ). map (λ i. (i, c.loop-j.j)) (below r)) c.rows-rows.ensures.value)
    (c.in_ok-extend_from_slice.ensures.items ∙ ap (λ (w : List (ℕ × ℕ)). c.loop-j.out.items ++ w) c.as_slice.ensures.value) c.loop-j.invariant

pub returns-clause-value : goal.returns-clause-value
returns-clause-value c =
    let l : columns_of c.args.shape ≤ c.loop-j.j = omega arith in
    cells_end (λ j. map (λ i. (i, j)) (below (rows_of c.args.shape))) c.loop-j.j (columns_of c.args.shape) c.loop-j.out.items (cells (rows_of c.args.shape) (columns_of c.args.shape)) l c.loop-j.invariant

pub returns-clause-many : goal.returns-clause-many
returns-clause-many c =
    let l : columns_of c.args.shape ≤ c.loop-j.j = omega arith in
    let e : length c.loop-j.out.items ≡ rows_of c.args.shape * columns_of c.args.shape =
    ap length (cells_end (λ j. map (λ i. (i, j)) (below (rows_of c.args.shape))) c.loop-j.j (columns_of c.args.shape) c.loop-j.out.items (cells (rows_of c.args.shape) (columns_of c.args.shape)) l c.loop-j.invariant)
    ∙ length_cells (rows_of c.args.shape) (columns_of c.args.shape) in
    omega (arith, e, c.loop-j.out.ok.0)

pub returns-clause-inside : goal.returns-clause-inside
returns-clause-inside c =
    let l : columns_of c.args.shape ≤ c.loop-j.j = omega arith in
    All-same (IsCell (rows_of c.args.shape) (columns_of c.args.shape)) c.loop-j.out.items (cells (rows_of c.args.shape) (columns_of c.args.shape))
    (cells_end (λ j. map (λ i. (i, j)) (below (rows_of c.args.shape))) c.loop-j.j (columns_of c.args.shape) c.loop-j.out.items (cells (rows_of c.args.shape) (columns_of c.args.shape)) l c.loop-j.invariant)
    (cells_inside (rows_of c.args.shape) (columns_of c.args.shape))
