use Rattle.std.proofs.Common.{◌*◌, Some, length, map, ap, ◌∙◌}
use Rattle.std.specs.Prelude.{ℕ}
use Rattle.std.proofs.lemmas.List.{length-map}
use Rattle.num_type.specs.View.{exact_of}
use Rattle.fi_values.specs.Elements.{below}
use Rattle.eval_value.specs.View.{shape_view}
use Rattle.eval_array.proofs.Counts.{length_below}
use Rattle.eval_array.proofs.Joined.{filled_columns, filled_fit, filled_rows, filled_unfit, filled_with}
use Rattle.eval_array.proofs.queries.filled.Goals as goal

pub real_number-requires : goal.real_number-requires
real_number-requires c =
    c.in_ok-re-in-Some.re.ok.0 ∙ ap length c.in_ok-re-in-Some.ensures ∙ length-map (below c.elements.result) (λ (k : ℕ). c.args.number) ∙ length_below c.elements.result ∙ c.elements.ensures.value

pub returns-then-rows-gt4096 : goal.returns-then-rows-gt4096
returns-then-rows-gt4096 c = filled_rows (exact_of c.args.number) c.args.rows c.args.columns c.if-rows-gt4096.true c.requires.columns

pub returns-then-columns-gt4096 : goal.returns-then-columns-gt4096
returns-then-columns-gt4096 c = filled_columns (exact_of c.args.number) c.args.rows c.args.columns c.if-columns-gt4096.true c.requires.rows

pub returns-in-None : goal.returns-in-None
returns-in-None c = filled_unfit (exact_of c.args.number) (record { rows = c.args.rows; columns = c.args.columns }) c.in-None.ensures

pub returns-in_ok-re-in-Some : goal.returns-in_ok-re-in-Some
returns-in_ok-re-in-Some c =
    ap Some c.real_number.ensures
    ∙ filled_fit (exact_of c.args.number) (record { rows = c.args.rows; columns = c.args.columns }) (shape_view c.in-Some.shape) (map exact_of c.in_ok-re-in-Some.re.items) c.in-Some.ensures
    (filled_with c.args.number c.elements.result (c.in-Some.shape.rows * c.in-Some.shape.cols) c.in_ok-re-in-Some.re.items c.in_ok-re-in-Some.ensures c.elements.ensures.value)
