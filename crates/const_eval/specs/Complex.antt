-- Exact complex numbers; a real one has the imaginary part 0.
use Rattle.num_type.specs.Constants.{Exact, IsSame, IsConstant, sum_of, opposite, difference, product_of}
use Rattle.num_type.specs.View.{exact_of}
use Rattle.const_eval.specs.declared.complex.Complex as code_complex

pub record Complex : Type 0 where
  pub re : Exact
  pub im : Exact

abbrev pub complex_of : code_complex.Complex → Complex
complex_of c = record { re = exact_of c.re; im = exact_of c.im }

-- both parts are the same numbers
pub record AreSame (x y : Complex) : Type 0 where
  pub re : IsSame x.re y.re
  pub im : IsSame x.im y.im

-- both parts are constants
pub record AreConstant (x : Complex) : Type 0 where
  pub re : IsConstant x.re
  pub im : IsConstant x.im

abbrev pub plus : Complex → Complex → Complex
plus x y = record { re = sum_of x.re y.re; im = sum_of x.im y.im }

abbrev pub minus : Complex → Complex → Complex
minus x y = record { re = difference x.re y.re; im = difference x.im y.im }

abbrev pub negated : Complex → Complex
negated x = record { re = opposite x.re; im = opposite x.im }

abbrev pub times : Complex → Complex → Complex
times x y = record { re = difference (product_of x.re y.re) (product_of x.im y.im); im = sum_of (product_of x.re y.im) (product_of x.im y.re) }

-- each step of a product is a constant: its four products, their difference and their sum
pub record HasConstantSteps (x y : Complex) : Type 0 where
  pub re_re : IsConstant (product_of x.re y.re)
  pub im_im : IsConstant (product_of x.im y.im)
  pub re_im : IsConstant (product_of x.re y.im)
  pub im_re : IsConstant (product_of x.im y.re)
  pub parts : AreConstant (times x y)
