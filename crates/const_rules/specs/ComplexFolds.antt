-- Operators on complex constants, by their parts.
use Rattle.std.specs.Prelude.{Option, Some, None}
use Rattle.num_type.specs.Constants.{Exact, IsReduced}
use Rattle.const_eval.specs.Complex as complex
use Rattle.const_eval.specs.Complex.{Complex, AreSame}
use Rattle.const_rules.specs.Folds.{added, subtracted, multiplied}

-- an operator on two answers; none where one of them is none
abbrev pub of_both : (Exact → Exact → Option Exact) → Option Exact → Option Exact → Option Exact
of_both f (Some x) (Some y) = f x y
of_both f (Some x) None = None
of_both f None y = None

-- the number of two parts; none where one of them is none
abbrev pub paired : Option Exact → Option Exact → Option Complex
paired (Some x) (Some y) = Some (record { re = x; im = y })
paired (Some x) None = None
paired None y = None

-- the sum, the difference and the product; none where a part, or a product on the way to it, is no constant
abbrev pub complex_added : Complex → Complex → Option Complex
complex_added x y = paired (added x.re y.re) (added x.im y.im)

abbrev pub complex_subtracted : Complex → Complex → Option Complex
complex_subtracted x y = paired (subtracted x.re y.re) (subtracted x.im y.im)

abbrev pub complex_multiplied : Complex → Complex → Option Complex
complex_multiplied x y =
    paired (of_both subtracted (multiplied x.re y.re) (multiplied x.im y.im))
    (of_both added (multiplied x.re y.im) (multiplied x.im y.re))

-- the number with both parts of the other sign
abbrev pub complex_negated : Complex → Complex
complex_negated = complex.negated

-- both parts have the one form
pub record AreReduced (x : Complex) : Type 0 where
  pub re : IsReduced x.re
  pub im : IsReduced x.im

-- the answer is this number with its parts in the one form, and within the limits; and none only where it isn't within them
abbrev pub IsComplexAnswer : Complex → Type 0 → Option Complex → Type 0
IsComplexAnswer x Limits (Some c) = AreReduced c × AreSame c x × Limits
IsComplexAnswer x Limits None = Limits → ⊥
