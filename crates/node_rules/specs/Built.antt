-- Calls of built-in functions: how many arguments each takes, its rule on their types, and its value at the type of the node. So far all but
-- those that make arrays of one number.
use Rattle.std.specs.Prelude.{ℕ, Bool, true, false, List, [], ◌∷◌, length, Option, Some, None}
use Rattle.fic_base.specs.declared.code.Code.TheVariants as code
use Rattle.fi_ops.specs.Bits.{left_shifted, right_shifted, sign_shifted, anded, ored, xored}
use Rattle.fi_rules.specs.Checked.{Itself, Counts}
use Rattle.fi_rules.specs.Value.{Shape, scalar, Val}
use Rattle.fi_values.specs.Logicals.{truth_value}
use Rattle.fi_values.specs.Sums.{Along, Columns, first_along, sum_shape}
use Rattle.fi_meaning.specs.Functions.{Function, Filled, Numel, Length, Size, Truth, Real, Imag, Conj, Complex, Sum, BitAnd, BitOr, BitXor, BitCmp, BitShiftLeft, BitShiftRight, BitShiftSign, BitConcat, BitSlice, along, shape_of_fi, natural}
use Rattle.fi_rules.specs.Options.{◌|>◌}
use Rattle.node_rules.specs.Bits.{natural_ruled, paired_value, complemented_ruled, complemented_value, shifted_ruled, shifted_value, sliced_ruled, sliced_value}
use Rattle.node_rules.specs.Concatenated.{concatenated_met, concatenated_worked, concatenated_value}
use Rattle.node_rules.specs.Parted.{part_ruled, real_value, imaginary_value, conjugate_ruled, conjugate_value, complex_value}
use Rattle.node_rules.specs.Queries.{numel_ruled, length_ruled, size_ruled}
use Rattle.node_rules.specs.Ruled.{Ruled, Fine, Missing, Shows, ◌>>=◌, needed}
use Rattle.node_rules.specs.Sides.{Side}
use Rattle.node_rules.specs.Sums.{sum_met, sum_worked, sum_value}
use Rattle.node_rules.specs.TypedPairs.{TypedPair, typed_pair_met, typed_pair_worked}
use Rattle.node_rules.specs.Types.{NodeTy, LogicalNode, shape_of, known}

-- the functions that have their rule here
unfoldable pub has_rule : Function → Bool
has_rule (Filled c) = false
has_rule f = true

-- so many arguments, and so many that are wanted
abbrev pub miscounted : {A : Type 0} → List NodeTy → ℕ → Ruled A
miscounted ts want = Missing code.ArgCount (Shows (Counts (length ts) want))

-- what of a call is to be worked out behind the counts
pub data Calling : Type 0 where
  -- nothing: its type is known
  Gives : NodeTy → Calling
  -- what is made of two real fis of one type, complex or not
  Pairs : Bool → TypedPair → Calling
  Adds : Along → Side → Calling
  -- the first and others, with the shape of the result
  Concatenates : NodeTy → List NodeTy → Shape → Calling

-- the shape of its result
unfoldable pub calling_shape : Calling → Shape
calling_shape (Gives t) = shape_of t
calling_shape (Pairs c p) = p.shape
calling_shape (Adds l a) = sum_shape l a.shape
calling_shape (Concatenates t ts s) = s

abbrev pub settled : Ruled NodeTy → Ruled Calling
settled r = r >>= (λ t. Fine (Gives t))

abbrev pub paired : Bool → NodeTy → NodeTy → Ruled Calling
paired c t u = typed_pair_met t u >>= (λ p. Fine (Pairs c p))

-- ---- sums, along the first dimension that isn't of one element where none is given

abbrev pub first_sum_met : NodeTy → Ruled Calling
first_sum_met t = sum_met t >>= (λ a. Fine (Adds (first_along a.shape) a))

-- the dimension is the constant 1 or 2
abbrev pub sum_along_met : NodeTy → NodeTy → Ruled Calling
sum_along_met t d =
    natural_ruled d >>= (λ n. needed code.BadArgument (Shows Itself) (along n) >>= (λ l. sum_met t >>= (λ a. Fine (Adds l a))))

unfoldable pub shape_or : Option Shape → Shape
shape_or None = scalar
shape_or (Some s) = s

unfoldable pub along_or : Option Along → Along
along_or None = Columns
along_or (Some a) = a

abbrev pub first_of : Val → Along
first_of v = first_along (shape_or (shape_of_fi v))

abbrev pub along_in : Val → Along
along_in d = along_or (natural d |> along)

-- ---- the rule of each, and its value

-- before the node is counted
unfoldable pub function_met : Function → List NodeTy → Ruled Calling
function_met Numel (t ∷ []) = settled (numel_ruled t)
function_met Numel ts = miscounted ts 1
function_met Length (t ∷ []) = settled (length_ruled t)
function_met Length ts = miscounted ts 1
function_met Size (t ∷ d ∷ []) = settled (size_ruled t d)
function_met Size ts = miscounted ts 2
function_met (Truth b) [] = settled (Fine (LogicalNode scalar))
function_met (Truth b) ts = miscounted ts 0
function_met Real (t ∷ []) = settled (part_ruled t)
function_met Real ts = miscounted ts 1
function_met Imag (t ∷ []) = settled (part_ruled t)
function_met Imag ts = miscounted ts 1
function_met Conj (t ∷ []) = settled (conjugate_ruled t)
function_met Conj ts = miscounted ts 1
function_met Complex (t ∷ u ∷ []) = paired true t u
function_met Complex ts = miscounted ts 2
function_met Sum [] = miscounted [] 1
function_met Sum (t ∷ []) = first_sum_met t
function_met Sum (t ∷ d ∷ []) = sum_along_met t d
function_met Sum ts = miscounted ts 2
function_met BitAnd (t ∷ u ∷ []) = paired false t u
function_met BitAnd ts = miscounted ts 2
function_met BitOr (t ∷ u ∷ []) = paired false t u
function_met BitOr ts = miscounted ts 2
function_met BitXor (t ∷ u ∷ []) = paired false t u
function_met BitXor ts = miscounted ts 2
function_met BitCmp (t ∷ []) = settled (complemented_ruled t)
function_met BitCmp ts = miscounted ts 1
function_met BitShiftLeft (t ∷ k ∷ []) = settled (shifted_ruled t k)
function_met BitShiftLeft ts = miscounted ts 2
function_met BitShiftRight (t ∷ k ∷ []) = settled (shifted_ruled t k)
function_met BitShiftRight ts = miscounted ts 2
function_met BitShiftSign (t ∷ k ∷ []) = settled (shifted_ruled t k)
function_met BitShiftSign ts = miscounted ts 2
function_met BitConcat (t ∷ u ∷ us) = concatenated_met t (u ∷ us) >>= (λ s. Fine (Concatenates t (u ∷ us) s))
function_met BitConcat ts = miscounted ts 2
function_met BitSlice (t ∷ l ∷ r ∷ []) = settled (sliced_ruled t l r)
function_met BitSlice ts = miscounted ts 3
function_met f ts = Missing code.Unsupported (Shows Itself)

-- behind the counts
unfoldable pub function_worked : Calling → Ruled NodeTy
function_worked (Gives t) = Fine t
function_worked (Pairs c p) = typed_pair_worked c p
function_worked (Adds l a) = sum_worked l a
function_worked (Concatenates t ts s) = concatenated_worked t ts s

-- the type of a call's node
abbrev pub function_ruled : Function → List NodeTy → Ruled NodeTy
function_ruled f ts = function_met f ts >>= function_worked

unfoldable pub function_value : Function → NodeTy → List Val → Val
function_value (Truth b) t [] = truth_value b
function_value Real t (v ∷ []) = real_value t v
function_value Imag t (v ∷ []) = imaginary_value t v
function_value Conj t (v ∷ []) = conjugate_value v
function_value Complex t (v ∷ w ∷ []) = complex_value t v w
function_value Sum t (v ∷ []) = sum_value (first_of v) t v
function_value Sum t (v ∷ d ∷ []) = sum_value (along_in d) t v
function_value BitAnd t (v ∷ w ∷ []) = paired_value anded t v w
function_value BitOr t (v ∷ w ∷ []) = paired_value ored t v w
function_value BitXor t (v ∷ w ∷ []) = paired_value xored t v w
function_value BitCmp t (v ∷ []) = complemented_value t v
function_value BitShiftLeft t (v ∷ k ∷ []) = shifted_value left_shifted t v k
function_value BitShiftRight t (v ∷ k ∷ []) = shifted_value right_shifted t v k
function_value BitShiftSign t (v ∷ k ∷ []) = shifted_value sign_shifted t v k
function_value BitConcat t (v ∷ ws) = concatenated_value t v ws
function_value BitSlice t (v ∷ l ∷ r ∷ []) = sliced_value t v l r
function_value f t vs = known t
