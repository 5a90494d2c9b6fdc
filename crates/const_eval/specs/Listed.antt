-- Lists of complex constants by their parts.
use Rattle.std.specs.Prelude.{ℕ, pos, List, map, slice_index_or}
use Rattle.num_type.specs.Constants.{Exact}
use Rattle.num_type.specs.Precision.{whole}
use Rattle.num_type.specs.View.{exact_of}
use Rattle.const_eval.specs.Complex.{Complex}
use Rattle.const_eval.specs.declared.complex.Complex as code_complex

abbrev pub real_of : code_complex.Complex → Exact
real_of c = exact_of c.re

abbrev pub imaginary_of : code_complex.Complex → Exact
imaginary_of c = exact_of c.im

-- the number at a place of a list; behind the last one it is 0
abbrev pub listed : List code_complex.Complex → ℕ → Complex
listed cs k = record { re = slice_index_or (map real_of cs) k (whole (pos 0)); im = slice_index_or (map imaginary_of cs) k (whole (pos 0)) }
