-- The expressions that lowering emits. A word of signedness s stands in a variable x.
use Rattle.std.specs.Prelude.{ℕ, suc, ◌+◌, ◌-◌, ◌*◌, ◌/◌, ◌^◌, ◌≡◌, ℤ, pos, negsuc, ◌-ℤ◌, Bool, true, false, not, ◌&&◌, if◌then◌else◌, nat_eq, nat_le, nat_lt, List, [], ◌∷◌}
use Rattle.num_type.specs.Types.{NumericType}
use Rattle.num_type.specs.declared.methods.Rounding.{Rounding}
use Rattle.num_type.specs.declared.methods.Rounding.TheVariants.{Ceiling, Floor, Zero, Nearest, Round, Convergent}
use Rattle.num_type.specs.declared.methods.Overflow.{Overflow}
use Rattle.num_type.specs.declared.methods.Overflow.TheVariants.{Saturate, Wrap}
use Rattle.c_tree.specs.declared.tree.CWord.{CWord}
use Rattle.c_tree.specs.declared.tree.CWord.TheVariants.{I64, U64}
use Rattle.c_tree.specs.declared.tree.CRel.TheVariants.{Lt}
use Rattle.c_tree.specs.declared.tree.COp.TheVariants as op
use Rattle.c_tree.specs.Tree.{Exp, Signed, Unsigned, Var, Cast, Neg, Binary, Choose, Test, Compare, Sta, Set}
use Rattle.lower_scalar.specs.Part.{Part, Operand, word_for}

-- ---- constants

-- a constant of this signedness
abbrev pub constant : Bool → ℕ → Exp
constant true n = Signed n
constant false n = Unsigned n

abbrev pub minus_one : Exp
minus_one = Neg (Signed 1)

-- -n - 1, which is an int64_t where n is
abbrev pub below_minus : ℕ → Exp
below_minus n = Binary op.Sub (Neg (Signed n)) (Signed 1)

-- ---- signs

-- an expression as uint64_t: a negative number modulo 2 ^ 64
abbrev pub bits_of : Bool → Exp → Exp
bits_of true e = Cast U64 e
bits_of false e = e

-- an expression that isn't negative as a word of another signedness
abbrev pub resigned : Bool → Bool → Exp → Exp
resigned true true e = e
resigned true false e = Cast U64 e
resigned false true e = Cast I64 e
resigned false false e = e

abbrev pub is_less : Exp → Exp → Test
is_less a b = Compare Lt a b

-- the first where x is below 0
abbrev pub by_sign : Bool → ℕ → Exp → Exp → Exp
by_sign true x below other = Choose (is_less (Var x) (Signed 0)) below other
by_sign false x below other = other

-- ---- rounding by 1 to 63 bits

-- an expression that isn't negative, shifted right
abbrev pub shift_right : Exp → ℕ → Exp
shift_right e k = Binary op.Shr e (Unsigned k)

-- a negative x / 2 ^ k, rounded down: what is shifted is -1 - x
abbrev pub floor_below : ℕ → ℕ → Exp
floor_below x k = Binary op.Sub minus_one (shift_right (Binary op.Sub minus_one (Var x)) k)

-- x / 2 ^ k, rounded down
abbrev pub floor_shift : Bool → ℕ → ℕ → Exp
floor_shift s x k = by_sign s x (floor_below x k) (shift_right (Var x) k)

-- the low k bits of x
abbrev pub low_bits : Bool → ℕ → ℕ → Exp
low_bits s x k = Binary op.And (bits_of s (Var x)) (Unsigned (2 ^ k - 1))

-- the floor in f, or one more where the low k bits of x are above c
abbrev pub step_above : Bool → ℕ → ℕ → ℕ → ℕ → Exp
step_above s x f k c = Choose (is_less (Unsigned c) (low_bits s x k)) (Binary op.Add (Var f) (constant s 1)) (Var f)

-- rounded toward zero
abbrev pub toward_zero : Bool → ℕ → ℕ → ℕ → Exp
toward_zero s x f k = by_sign s x (step_above s x f k 0) (Var f)

-- rounded to the nearest number, a tie away from zero
abbrev pub away_at_half : Bool → ℕ → ℕ → ℕ → Exp
away_at_half s x f k = by_sign s x (step_above s x f k (2 ^ (k - 1))) (step_above s x f k (2 ^ (k - 1) - 1))

-- rounded to the nearest number, a tie to the even one
abbrev pub even_at_half : Bool → ℕ → ℕ → ℕ → Exp
even_at_half s x f k =
    Choose (is_less (Unsigned 0) (Binary op.And (bits_of s (Var f)) (Unsigned 1))) (step_above s x f k (2 ^ (k - 1) - 1)) (step_above s x f k (2 ^ (k - 1)))

-- x / 2 ^ k, rounded, where its floor stands in f
unfoldable pub round_shift : Rounding → Bool → ℕ → ℕ → ℕ → Exp
round_shift Floor s x f k = Var f
round_shift Ceiling s x f k = step_above s x f k 0
round_shift Zero s x f k = toward_zero s x f k
round_shift Nearest s x f k = step_above s x f k (2 ^ (k - 1) - 1)
round_shift Round s x f k = away_at_half s x f k
round_shift Convergent s x f k = even_at_half s x f k

-- ---- rounding by 64 bits or more

-- 1 where x is above c, else 0
abbrev pub one_above : Bool → ℕ → ℕ → Exp
one_above s x c = Choose (is_less (constant s c) (Var x)) (constant s 1) (constant s 0)

-- the same for an unsigned x alone, where just 64 bits are dropped
abbrev pub half_above : Bool → ℕ → ℕ → ℕ → Exp
half_above true x k c = Signed 0
half_above false x k c = if nat_eq k 64 then one_above false x c else Unsigned 0

-- -1 for the least int64_t, where just 64 bits are dropped
abbrev pub least_below : ℕ → ℕ → Exp
least_below x k = if nat_eq k 64 then Choose (is_less (Var x) (Neg (Signed (2 ^ 63 - 1)))) minus_one (Signed 0) else Signed 0

-- -1 where x is below 0
abbrev pub far_floor : Bool → ℕ → Exp
far_floor s x = by_sign s x minus_one (constant s 0)

-- rounded to the nearest number, a tie away from zero
abbrev pub far_away : Bool → ℕ → ℕ → Exp
far_away true x k = least_below x k
far_away false x k = half_above false x k (2 ^ 63 - 1)

-- x / 2 ^ k, rounded
unfoldable pub round_far : Rounding → Bool → ℕ → ℕ → Exp
round_far Floor s x k = far_floor s x
round_far Ceiling s x k = one_above s x 0
round_far Zero s x k = constant s 0
round_far Nearest s x k = half_above s x k (2 ^ 63 - 1)
round_far Round s x k = far_away s x k
round_far Convergent s x k = half_above s x k (2 ^ 63)

-- ---- bringing into the range of a type of signedness t and w bits

-- the greatest number
abbrev pub top : Bool → ℕ → ℕ
top true w = 2 ^ (w - 1) - 1
top false w = 2 ^ w - 1

-- the least number
abbrev pub least : Bool → ℕ → Exp
least true w = below_minus (2 ^ (w - 1) - 1)
least false w = Unsigned 0

-- the number of the range that is nearest to x
abbrev pub saturated : Bool → ℕ → Bool → ℕ → Exp
saturated true w true x = Choose (is_less (Var x) (least true w)) (least true w) (Choose (is_less (Signed (top true w)) (Var x)) (Signed (top true w)) (Var x))
saturated false w true x =
    Choose (is_less (Var x) (Signed 0)) (Unsigned 0) (Choose (is_less (Unsigned (top false w)) (Cast U64 (Var x))) (Unsigned (top false w)) (Cast U64 (Var x)))
saturated t w false x = Choose (is_less (Unsigned (top t w)) (Var x)) (constant t (top t w)) (resigned false t (Var x))

-- the low w bits of a uint64_t
abbrev pub cut : ℕ → Exp → Exp
cut w u = Binary op.And u (Unsigned (2 ^ w - 1))

-- the low w bits as a negative number
abbrev pub cut_below : ℕ → Exp → Exp
cut_below w u = Binary op.Sub minus_one (Cast I64 (Binary op.Sub (Unsigned (2 ^ w - 1)) (cut w u)))

-- the number of the range that differs from the uint64_t by a multiple of 2 ^ w
abbrev pub wrapped : Bool → ℕ → Exp → Exp
wrapped false w u = cut w u
wrapped true w u = Choose (is_less (cut w u) (Unsigned (2 ^ (w - 1)))) (Cast I64 (cut w u)) (cut_below w u)

-- x * 2 ^ n modulo 2 ^ 64
abbrev pub shifted_bits : Bool → ℕ → ℕ → Exp
shifted_bits s x n = if nat_eq n 0 then bits_of s (Var x) else Binary op.Mul (bits_of s (Var x)) (Unsigned (2 ^ n))

-- x, brought into the range by the action
unfoldable pub fitted : Overflow → Bool → ℕ → Bool → ℕ → Exp
fitted Saturate t w s x = saturated t w s x
fitted Wrap t w s x = wrapped t w (shifted_bits s x 0)

-- ---- raising by n bits

-- e * 2 ^ n, which is a word of the signedness
abbrev pub raised : Bool → ℕ → Exp → Exp
raised s n e =
    if nat_eq n 0 then e
    else (if s && nat_eq n 63 then Binary op.Mul (Binary op.Mul e (Signed (2 ^ 62))) (Signed 2) else Binary op.Mul e (constant s (2 ^ n)))

-- x * 2 ^ n where it is in the range
abbrev pub raised_inside : Bool → Bool → ℕ → ℕ → Exp
raised_inside t s x n = if nat_lt n 64 then raised t n (resigned s t (Var x)) else constant t 0

-- minus the greatest n with -n * 2 ^ by in the range, and 0 where no negative number is
abbrev pub bottom : Bool → ℕ → ℕ → Exp
bottom true w n = Neg (Signed (2 ^ (w - 1) / 2 ^ n))
bottom false w n = Signed 0

-- the greatest number where x * 2 ^ n is above it
abbrev pub below_top : Bool → ℕ → Bool → ℕ → ℕ → Exp → Exp
below_top t w s x n other = Choose (is_less (constant s (top t w / 2 ^ n)) (Var x)) (constant t (top t w)) other

-- the number of the range that is nearest to x * 2 ^ n, for n from 1 on
abbrev pub raised_saturated : Bool → ℕ → Bool → ℕ → ℕ → Exp
raised_saturated t w true x n = below_top t w true x n (Choose (is_less (Var x) (bottom t w n)) (least t w) (raised_inside t true x n))
raised_saturated t w false x n = below_top t w false x n (raised_inside t false x n)

-- the number of the range that differs from x * 2 ^ n by a multiple of 2 ^ w
abbrev pub raised_wrapped : Bool → ℕ → Bool → ℕ → ℕ → Exp
raised_wrapped t w s x n = if nat_lt n 64 then wrapped t w (shifted_bits s x n) else constant t 0

-- x * 2 ^ n, brought into the range by the action
unfoldable pub raised_fitted : Overflow → Bool → ℕ → Bool → ℕ → ℕ → Exp
raised_fitted Saturate t w s x n = raised_saturated t w s x n
raised_fitted Wrap t w s x n = raised_wrapped t w s x n

-- ---- quantising

-- whether each number of a type of signedness s and v bits, times 2 ^ n, is one of signedness t and w bits
abbrev pub holds_raised : Bool → ℕ → Bool → ℕ → ℕ → Bool
holds_raised true w false v n = nat_lt (v + n) w
holds_raised false w true v n = false
holds_raised t w s v n = nat_le (v + n) w

-- an expression alone
abbrev pub alone : Exp → Part
alone e = record { words = []; before = []; value = e }

-- an expression over a variable that holds e
abbrev pub over_one : Bool → Exp → ℕ → Exp → Part
over_one s e fresh value = record { words = word_for s ∷ []; before = Set fresh e ∷ []; value = value }

-- over a second variable too, of the same signedness
abbrev pub over_two : Bool → Exp → ℕ → Exp → Exp → Part
over_two s e fresh second value = record { words = word_for s ∷ word_for s ∷ []; before = Set fresh e ∷ Set (fresh + 1) second ∷ []; value = value }

-- and over a third one
abbrev pub over_three : Bool → Exp → ℕ → Exp → Exp → Exp → Part
over_three s e fresh second third value = record {
  words = word_for s ∷ word_for s ∷ word_for s ∷ [];
  before = Set fresh e ∷ Set (fresh + 1) second ∷ Set (fresh + 2) third ∷ [];
  value = value;
}

-- bits are added
unfoldable pub raised_part : Overflow → NumericType → NumericType → Exp → ℕ → ℕ → Part
raised_part a t from e n fresh =
    if holds_raised t.signed t.word from.signed from.word n then alone (raised t.signed n (resigned from.signed t.signed e))
    else (if nat_eq n 0 then over_one from.signed e fresh (fitted a t.signed t.word from.signed fresh)
    else over_one from.signed e fresh (raised_fitted a t.signed t.word from.signed fresh n))

-- bits are dropped
unfoldable pub lowered_part : Rounding → Overflow → NumericType → NumericType → Exp → ℕ → ℕ → Part
lowered_part m a t from e k fresh =
    if nat_lt k 64
    then over_three from.signed e fresh (floor_shift from.signed fresh k) (round_shift m from.signed fresh (fresh + 1) k) (fitted a t.signed t.word from.signed (fresh + 2))
    else over_two from.signed e fresh (round_far m from.signed fresh k) (fitted a t.signed t.word from.signed (fresh + 1))

-- the exact value of an operand, taken to a type
unfoldable pub quantised_by : ℤ → Rounding → Overflow → NumericType → NumericType → Exp → ℕ → Part
quantised_by (pos n) m a t from e fresh = raised_part a t from e n fresh
quantised_by (negsuc j) m a t from e fresh = lowered_part m a t from e (suc j) fresh

abbrev pub quantised_part : Rounding → Overflow → NumericType → NumericType → Exp → ℕ → Part
quantised_part m a t from e fresh = quantised_by (t.fraction -ℤ from.fraction) m a t from e fresh
