-- How many elements operands have.
use Rattle.std.proofs.Common.{◌≡◌, ◌*◌, eqb, true}
use Rattle.std.proofs.lemmas.Bool.{and_parts, eqb-true}
use Rattle.shape_rules.specs.Shapes.{elements_of, rows_of, columns_of}
use Rattle.shape_rules.specs.declared.shape.Shape.{Shape}
use Rattle.fi_rules.specs.Value.{is_scalar}
use Rattle.eval_value.specs.View.{shape_view}

pub one_element : (s : Shape) → is_scalar (shape_view s) ≡ true → elements_of s ≡ 1
one_element s h =
    let p = and_parts (eqb (rows_of s) 1) (eqb (columns_of s) 1) h in
    λ i. eqb-true (rows_of s) 1 p.0 i * eqb-true (columns_of s) 1 p.1 i
