-- Transposes.
use Rattle.std.specs.Prelude.{pos, false, List, map, Option, Some, None}
use Rattle.mat_ast.specs.declared.tree.PostOp.{PostOp}
use Rattle.mat_ast.specs.declared.tree.PostOp.TheVariants as post
use Rattle.const_rules.specs.Folds.{negated}
use Rattle.fi_rules.specs.Value.{Shape, Val, Fi, ComplexFi, Logical, Number, ComplexNumber}
use Rattle.fi_eval.specs.Operators.{Negate, math_of, turned_element}
use Rattle.fi_values.specs.Elements.{picked, turned_places}
use Rattle.fi_values.specs.Numbers.{nought}
use Rattle.fi_values.specs.Shapes.{turned}

-- elements of a shape by columns of the turned one
abbrev pub turned_list : {A : Type 0} → A → Shape → List A → List A
turned_list d s xs = picked d xs (turned_places s)

-- the imaginary parts negated, of a fi by the rule of negation
unfoldable pub conjugate : Val → Val
conjugate (ComplexFi t m s xs ys) = ComplexFi t m s xs (map (turned_element Negate (math_of m) t) ys)
conjugate (ComplexNumber s xs ys) = ComplexNumber s xs (map negated ys)
conjugate v = v

unfoldable pub flipped : Val → Option Val
flipped (Fi t m s xs) = Some (Fi t m (turned s) (turned_list (pos 0) s xs))
flipped (ComplexFi t m s xs ys) = Some (ComplexFi t m (turned s) (turned_list (pos 0) s xs) (turned_list (pos 0) s ys))
flipped (Logical s bs) = Some (Logical (turned s) (turned_list false s bs))
flipped (Number s cs) = Some (Number (turned s) (turned_list nought s cs))
flipped (ComplexNumber s xs ys) =
    Some (ComplexNumber (turned s) (turned_list nought s xs) (turned_list nought s ys))
flipped v = None

-- a quote conjugates too
abbrev pub transposed : PostOp → Val → Option Val
transposed post.CTranspose v = flipped (conjugate v)
transposed post.Transpose v = flipped v
