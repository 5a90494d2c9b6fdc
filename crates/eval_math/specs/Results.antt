-- The results of operations on fis behind their shape, and behind their fimath.
use Rattle.std.specs.Prelude.{◌&&◌, Option, Some, is_some}
use Rattle.fi_math.specs.declared.governing.Governed.{Governed}
use Rattle.fi_rules.specs.declared.work.Work.{Work}
use Rattle.fi_rules.specs.Options.{◌|>◌}
use Rattle.fi_rules.specs.Value.{Shape, Val}
use Rattle.fi_values.specs.Arithmetic.{Operand, governing, result_made, result_parts, fi_value}
use Rattle.fi_values.specs.Sums.{made}

-- of this shape, under this fimath
abbrev pub typed_result : Work → Shape → Operand → Operand → Governed → Option Val
typed_result w s a b g =
    let p = is_some a.parts.im in
    let q = is_some b.parts.im in
    made (result_made w (p && q) g.math a.num b.num)
    |> (λ t. result_parts w g.math t a b p q |> (λ r. Some (fi_value t g.attached s r)))

-- of this shape
abbrev pub governed_result : Work → Shape → Operand → Operand → Option Val
governed_result w s a b = governing a.math b.math |> typed_result w s a b
