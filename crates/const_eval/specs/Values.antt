-- Constants of sources: arrays of exact numbers by columns.
use Rattle.std.specs.Prelude.{◌≡◌, ℕ, pos, List, map, Bool, Option, Some, None, is_some, slice_index_or}
use Rattle.std.specs.Global.{Vec}
use Rattle.num_type.specs.Constants.{Exact}
use Rattle.num_type.specs.Precision.{whole}
use Rattle.num_type.specs.View.{exact_of}
use Rattle.num_type.specs.declared.dyadic.Dyadic.{Dyadic}
use Rattle.const_eval.specs.declared.constant.Const.{Const}
use Rattle.const_eval.specs.Complex.{Complex}

-- the part at a place, counted from 0; behind the last one it is 0
abbrev pub part_at : List Dyadic → ℕ → Exact
part_at parts k = slice_index_or (map exact_of parts) k (whole (pos 0))

-- the imaginary part at a place, which is 0 where there are none
abbrev pub imaginary_at : Option (Vec Dyadic) → ℕ → Exact
imaginary_at None k = whole (pos 0)
imaginary_at (Some parts) k = part_at parts.items k

-- the number at a place
abbrev pub number_at : Const → ℕ → Complex
number_at c k = record { re = part_at c.re.items k; im = imaginary_at c.im k }

-- whether a constant is complex, be its imaginary parts 0 or not
abbrev pub is_complex : Const → Bool
is_complex c = is_some c.im

-- c is a with this done to each number
pub record IsEach (f : Complex → Complex) (a c : Const) : Type 0 where
  pub shape : c.shape ≡ a.shape
  pub complex : is_complex c ≡ is_complex a
  pub numbers : (k : ℕ) → number_at c k ≡ f (number_at a k)
