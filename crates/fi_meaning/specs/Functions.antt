-- The built-in functions that stand beside those of the rules, on values.
use Rattle.std.specs.Prelude.{ℕ, zero, suc, ℤ, pos, negsuc, Bool, true, false, nat_lt, List, [], ◌∷◌, codes, Option, Some, None}
use Rattle.fi_ops.specs.Bits.{left_shifted, right_shifted, sign_shifted, anded, ored, xored}
use Rattle.fi_rules.specs.Options.{◌|>◌, where_so, named}
use Rattle.fi_rules.specs.Arguments.{whole_of}
use Rattle.fi_rules.specs.Value.{Shape, is_scalar, Val, Fi, ComplexFi, Number}
use Rattle.num_type.specs.Constants.{Exact}
use Rattle.fi_values.specs.Numbers.{nought, one}
use Rattle.fi_values.specs.Bits.{turned_bits, shifted, two_typed, bits_joined, bits_between}
use Rattle.fi_values.specs.Queries.{element_count, greater_extent, extent_of, real_part, imaginary_part, complex_of, filled}
use Rattle.fi_values.specs.Sums.{Along, Columns, Rows, first_along, summed_value}
use Rattle.fi_values.specs.Transposes.{conjugate}
use Rattle.fi_values.specs.Logicals.{truth_value}

pub data Function : Type 0 where
  -- arrays of one number
  Filled : Exact → Function
  Numel : Function
  Length : Function
  Size : Function
  Truth : Bool → Function
  Real : Function
  Imag : Function
  Conj : Function
  Complex : Function
  Sum : Function
  BitAnd : Function
  BitOr : Function
  BitXor : Function
  BitCmp : Function
  BitShiftLeft : Function
  BitShiftRight : Function
  BitShiftSign : Function
  BitConcat : Function
  BitSlice : Function

abbrev pub functions : List (List ℕ × Function)
functions =
    (codes "zeros", Filled nought) ∷ (codes "ones", Filled one) ∷ (codes "numel", Numel) ∷ (codes "length", Length) ∷ (codes "size", Size)
    ∷ (codes "true", Truth true) ∷ (codes "false", Truth false) ∷ (codes "real", Real) ∷ (codes "imag", Imag) ∷ (codes "conj", Conj)
    ∷ (codes "complex", Complex) ∷ (codes "sum", Sum) ∷ (codes "bitand", BitAnd) ∷ (codes "bitor", BitOr) ∷ (codes "bitxor", BitXor)
    ∷ (codes "bitcmp", BitCmp) ∷ (codes "bitsll", BitShiftLeft) ∷ (codes "bitsrl", BitShiftRight) ∷ (codes "bitsra", BitShiftSign)
    ∷ (codes "bitconcat", BitConcat) ∷ (codes "bitsliceget", BitSlice) ∷ []

unfoldable pub function_of : List ℕ → Option Function
function_of name = named functions name

-- a real scalar whole number from 0 on
unfoldable pub natural : Val → Option ℕ
natural (Number s (c ∷ [])) = where_so (is_scalar s) c |> whole_of |> not_below
  where
    not_below : ℤ → Option ℕ
    not_below (pos n) = Some n
    not_below (negsuc n) = None
natural v = None

-- and from 1 on
abbrev pub extent : Val → Option ℕ
extent v = natural v |> (λ n. where_so (nat_lt 0 n) n)

-- an array of one number, square where one extent is given
unfoldable pub filled_by : Exact → List Val → Option Val
filled_by c (n ∷ []) = extent n |> (λ k. filled c (record { rows = k; columns = k }))
filled_by c (m ∷ n ∷ []) = extent m |> (λ r. extent n |> (λ k. filled c (record { rows = r; columns = k })))
filled_by c vs = None

unfoldable pub along : ℕ → Option Along
along (suc zero) = Some Columns
along (suc (suc zero)) = Some Rows
along d = None

abbrev pub shape_of_fi : Val → Option Shape
shape_of_fi (Fi t m s xs) = Some s
shape_of_fi (ComplexFi t m s xs ys) = Some s
shape_of_fi v = None

unfoldable pub conjugate_of : Val → Option Val
conjugate_of v = shape_of_fi v |> (λ s. Some (conjugate v))

-- what a function gives
unfoldable pub given : Function → List Val → Option Val
given (Filled c) vs = filled_by c vs
given Numel (v ∷ []) = element_count v
given Length (v ∷ []) = greater_extent v
given Size (v ∷ d ∷ []) = natural d |> (λ d. extent_of d v)
given (Truth b) [] = Some (truth_value b)
given Real (v ∷ []) = real_part v
given Imag (v ∷ []) = imaginary_part v
given Conj (v ∷ []) = conjugate_of v
given Complex (v ∷ w ∷ []) = complex_of v w
given Sum (v ∷ []) = shape_of_fi v |> (λ s. summed_value (first_along s) v)
given Sum (v ∷ d ∷ []) = natural d |> along |> (λ a. summed_value a v)
given BitAnd (v ∷ w ∷ []) = two_typed anded v w
given BitOr (v ∷ w ∷ []) = two_typed ored v w
given BitXor (v ∷ w ∷ []) = two_typed xored v w
given BitCmp (v ∷ []) = turned_bits v
given BitShiftLeft (v ∷ k ∷ []) = natural k |> (λ k. shifted left_shifted k v)
given BitShiftRight (v ∷ k ∷ []) = natural k |> (λ k. shifted right_shifted k v)
given BitShiftSign (v ∷ k ∷ []) = natural k |> (λ k. shifted sign_shifted k v)
given BitConcat vs = bits_joined vs
given BitSlice (v ∷ l ∷ r ∷ []) = natural l |> (λ l. natural r |> (λ r. bits_between l r v))
given f vs = None
