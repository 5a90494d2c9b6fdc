-- Elementwise operators on constants.
use Rattle.std.specs.Prelude.{◌≡◌, ◌<◌, ◌==◌, ◌||◌, if◌then◌else◌, ℕ, List, ◌++◌, codes}
use Rattle.fic_base.specs.declared.code.Code.TheVariants.{SizeMismatch, LiteralInexact}
use Rattle.fic_base.specs.declared.place.Place.{Place}
use Rattle.fic_base.specs.declared.refusal.Refusal.{Refusal}
use Rattle.shape_rules.specs.declared.shape.Shape.{Shape}
use Rattle.shape_rules.specs.Places.{IsElementwise}
use Rattle.shape_rules.specs.Shapes.{rows_of, columns_of, elements_of}
use Rattle.shape_rules.specs.TypeText.{shape_text}
use Rattle.const_eval.specs.Complex.{Complex, AreSame, AreConstant, HasConstantSteps, plus, minus, times}
use Rattle.const_eval.specs.Refusals.{IsRefusal}
use Rattle.const_eval.specs.Values.{number_at, is_complex}
use Rattle.const_eval.specs.declared.constant.Const.{Const}
use Rattle.const_eval.specs.declared.element_op.ElementOp.{ElementOp}
use Rattle.const_eval.specs.declared.element_op.ElementOp.TheVariants.{Sum, Difference, Product}

abbrev pub applied : ElementOp → Complex → Complex → Complex
applied Sum = plus
applied Difference = minus
applied Product = times

-- each step of it is a constant
abbrev pub HasSteps : ElementOp → Complex → Complex → Type 0
HasSteps Sum x y = AreConstant (plus x y)
HasSteps Difference x y = AreConstant (minus x y)
HasSteps Product x y = HasConstantSteps x y

-- the number that serves a place: that of one element serves each
abbrev pub serving : Const → ℕ → Complex
serving c k = number_at c (if elements_of c.shape == 1 then 0 else k)

-- c is the array of the operator on a and b, place by place, each step of which is a constant
pub record IsOperated (op : ElementOp) (a b c : Const) : Type 0 where
  pub shape : IsElementwise a.shape b.shape c.shape
  pub complex : is_complex c ≡ (is_complex a || is_complex b)
  pub steps : (k : ℕ) → k < elements_of c.shape → HasSteps op (serving a k) (serving b k)
  pub numbers : (k : ℕ) → k < elements_of c.shape → AreSame (number_at c k) (applied op (serving a k) (serving b k))

-- two shapes, as 1x2 with 1x3
abbrev pub shapes_text : Shape → Shape → List ℕ
shapes_text a b = shape_text (rows_of a) (columns_of a) ++ codes " with " ++ shape_text (rows_of b) (columns_of b)

-- why there is none: the shapes don't fit, or they do and a step at some place is no constant
pub data IsUnoperated (op : ElementOp) (shown : List ℕ) (a b : Const) (at : Place) (r : Refusal) : Type 0 where
  Misfit : ((s : Shape) → IsElementwise a.shape b.shape s → ⊥) → IsRefusal SizeMismatch at (shapes_text a.shape b.shape) r → IsUnoperated op shown a b at r
  Inexact : (s : Shape) → IsElementwise a.shape b.shape s → (k : ℕ) → k < elements_of s → (HasSteps op (serving a k) (serving b k) → ⊥) → IsRefusal LiteralInexact at shown r → IsUnoperated op shown a b at r
