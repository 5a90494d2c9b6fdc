-- The parts that lowering emits for operations on real operands.
use Rattle.std.specs.Prelude.{ℕ, suc, ◌+◌, ◌++◌, length, ◌-◌, ◌^◌, ◌≡◌, ◌||◌, ℤ, pos, ◌-ℤ◌, nat_abs, Bool, true, false, List, [], ◌∷◌}
use Rattle.num_type.specs.Types.{NumericType}
use Rattle.num_type.specs.declared.methods.Overflow.{Overflow}
use Rattle.num_type.specs.declared.methods.Overflow.TheVariants.{Saturate, Wrap}
use Rattle.fi_math.specs.declared.fimath.Fimath.{Fimath}
use Rattle.fi_math.specs.Full.{full_product, full_sum}
use Rattle.fi_ops.specs.Elements.{Element}
use Rattle.fi_ops.specs.Operations.{multiplied, summed, subtracted, negated, absolute}
use Rattle.c_tree.specs.declared.tree.CWord.TheVariants.{I64}
use Rattle.c_tree.specs.declared.tree.COp.TheVariants as op
use Rattle.c_tree.specs.Tree.{Exp, Signed, Unsigned, Var, Cast, Neg, Binary, Choose, Set}
use Rattle.lower_scalar.specs.Part.{Part, Operand, IsPart, on_one, on_two, word_for}
use Rattle.lower_scalar.specs.Shapes.{bits_of, resigned, is_less, cut, raised, top, least, wrapped, alone, over_one, quantised_part}

-- a stored integer of a type
abbrev pub element : NumericType → ℤ → Element
element t z = record { num = t; z = z }

-- ---- products

-- the exact product, as a word of its full type
abbrev pub product_of : Operand → Operand → Exp
product_of a b =
    Binary op.Mul (resigned a.num.signed (a.num.signed || b.num.signed) a.exp) (resigned b.num.signed (a.num.signed || b.num.signed) b.exp)

-- a product in a type
abbrev pub multiplied_part : Fimath → NumericType → Operand → Operand → ℕ → Part
multiplied_part m t a b fresh = quantised_part m.rounding m.overflow t (full_product a.num b.num) (product_of a b) fresh

-- the part computes a product
abbrev pub Multiplies : Fimath → NumericType → Operand → Operand → ℕ → Part → Type 0
Multiplies m t a b fresh p = IsPart (a ∷ b ∷ []) fresh t.signed (on_two (λ x y. multiplied m t (element a.num x) (element b.num y))) p

-- ---- signs

-- what minus the least number becomes
abbrev pub turned_least : Overflow → ℕ → ℕ → Exp
turned_least Saturate w x = Signed (2 ^ (w - 1) - 1)
turned_least Wrap w x = Var x

-- minus x, which is a number of a signed type of w bits
abbrev pub turned : Overflow → ℕ → ℕ → Exp
turned a w x = Choose (is_less (Var x) (Neg (Signed (2 ^ (w - 1) - 1)))) (turned_least a w x) (Neg (Var x))

-- minus an unsigned number of w bits
abbrev pub turned_plain : Overflow → ℕ → Exp → Exp
turned_plain Saturate w e = Unsigned 0
turned_plain Wrap w e = cut w (Binary op.Sub (Unsigned 0) e)

-- a negated number, by the type's signedness
abbrev pub negated_by : Bool → Overflow → ℕ → Exp → ℕ → Part
negated_by true a w e fresh = over_one true e fresh (turned a w fresh)
negated_by false a w e fresh = alone (turned_plain a w e)

abbrev pub negated_part : Overflow → NumericType → Exp → ℕ → Part
negated_part a t e fresh = negated_by t.signed a t.word e fresh

-- the part negates
abbrev pub Negates : Fimath → NumericType → Exp → ℕ → Part → Type 0
Negates m t e fresh p = IsPart (record { num = t; exp = e } ∷ []) fresh t.signed (on_one (λ z. negated m (element t z))) p

-- a number without its sign, by the type's signedness
abbrev pub absolute_by : Bool → Overflow → ℕ → Exp → ℕ → Part
absolute_by true a w e fresh = over_one true e fresh (Choose (is_less (Var fresh) (Signed 0)) (turned a w fresh) (Var fresh))
absolute_by false a w e fresh = alone e

abbrev pub absolute_part : Overflow → NumericType → Exp → ℕ → Part
absolute_part a t e fresh = absolute_by t.signed a t.word e fresh

-- the part takes the sign away
abbrev pub TakesSign : Fimath → NumericType → Exp → ℕ → Part → Type 0
TakesSign m t e fresh p = IsPart (record { num = t; exp = e } ∷ []) fresh t.signed (on_one (λ z. absolute m (element t z))) p

-- ---- exact sums and differences

-- an operand at a fraction length that isn't below its own, as a word of a signedness
abbrev pub aligned_of : Bool → ℤ → Operand → Exp
aligned_of s f o = raised s (nat_abs (f -ℤ o.num.fraction)) (resigned o.num.signed s o.exp)

-- the exact sum, as a word of its full type
abbrev pub sum_of : Operand → Operand → Exp
sum_of a b =
    Binary op.Add (aligned_of (full_sum a.num b.num).signed (full_sum a.num b.num).fraction a) (aligned_of (full_sum a.num b.num).signed (full_sum a.num b.num).fraction b)

-- without CastBeforeSum, or in its full type, a sum is exact and then taken to its type
abbrev pub exact_sum_part : Fimath → NumericType → Operand → Operand → ℕ → Part
exact_sum_part m t a b fresh = quantised_part m.rounding m.overflow t (full_sum a.num b.num) (sum_of a b) fresh

-- the part computes a sum
abbrev pub Adds : Fimath → NumericType → Operand → Operand → ℕ → Part → Type 0
Adds m t a b fresh p = IsPart (a ∷ b ∷ []) fresh t.signed (on_two (λ x y. summed m t (element a.num x) (element b.num y))) p

-- the exact difference of signed words, or of unsigned ones below 2 ^ 63
abbrev pub difference_by : Bool → ℤ → Operand → Operand → Exp
difference_by true f a b = Binary op.Sub (aligned_of true f a) (aligned_of true f b)
difference_by false f a b = Binary op.Sub (Cast I64 (aligned_of false f a)) (Cast I64 (aligned_of false f b))

-- the exact difference, as an int64_t
abbrev pub difference_of : Operand → Operand → Exp
difference_of a b = difference_by (full_sum a.num b.num).signed (full_sum a.num b.num).fraction a b

-- the type that holds it
abbrev pub difference_type : NumericType → NumericType
difference_type t = record { signed = true; word = 64; fraction = t.fraction }

-- without CastBeforeSum a difference is exact and then taken to its type
abbrev pub exact_difference_part : Fimath → NumericType → Operand → Operand → ℕ → Part
exact_difference_part m t a b fresh = quantised_part m.rounding m.overflow t (difference_type (full_sum a.num b.num)) (difference_of a b) fresh

-- the part computes a difference
abbrev pub Subtracts : Fimath → NumericType → Operand → Operand → ℕ → Part → Type 0
Subtracts m t a b fresh p = IsPart (a ∷ b ∷ []) fresh t.signed (on_two (λ x y. subtracted m t (element a.num x) (element b.num y))) p

-- ---- sums and differences of operands that are taken to the type first

-- x + y, brought to the nearest number of a signed type of w bits that both are of
abbrev pub sum_saturated : Bool → ℕ → ℕ → ℕ → Exp
sum_saturated true w x y =
    Choose (is_less (Var y) (Signed 0)) (Choose (is_less (Var x) (Binary op.Sub (least true w) (Var y))) (least true w) (Binary op.Add (Var x) (Var y)))
    (Choose (is_less (Binary op.Sub (Signed (top true w)) (Var y)) (Var x)) (Signed (top true w)) (Binary op.Add (Var x) (Var y)))
sum_saturated false w x y = Choose (is_less (Binary op.Sub (Unsigned (top false w)) (Var y)) (Var x)) (Unsigned (top false w)) (Binary op.Add (Var x) (Var y))

-- x - y
abbrev pub difference_saturated : Bool → ℕ → ℕ → ℕ → Exp
difference_saturated true w x y =
    Choose (is_less (Var y) (Signed 0)) (Choose (is_less (Binary op.Add (Signed (top true w)) (Var y)) (Var x)) (Signed (top true w)) (Binary op.Sub (Var x) (Var y)))
    (Choose (is_less (Var x) (Binary op.Add (least true w) (Var y))) (least true w) (Binary op.Sub (Var x) (Var y)))
difference_saturated false w x y = Choose (is_less (Var x) (Var y)) (Unsigned 0) (Binary op.Sub (Var x) (Var y))

-- the sum of two words by the action
abbrev pub sum_fitted : Overflow → Bool → ℕ → ℕ → ℕ → Exp
sum_fitted Saturate t w x y = sum_saturated t w x y
sum_fitted Wrap t w x y = wrapped t w (Binary op.Add (bits_of t (Var x)) (bits_of t (Var y)))

-- the difference
abbrev pub difference_fitted : Overflow → Bool → ℕ → ℕ → ℕ → Exp
difference_fitted Saturate t w x y = difference_saturated t w x y
difference_fitted Wrap t w x y = wrapped t w (Binary op.Sub (bits_of t (Var x)) (bits_of t (Var y)))

-- the number of the first variable behind two parts
abbrev pub behind : ℕ → Part → Part → ℕ
behind fresh p q = fresh + length p.words + length q.words

-- two parts one after the other, their values in two more variables, and an expression over these
abbrev pub joined_part : ℕ → Bool → Part → Part → Exp → Part
joined_part fresh s p q e = record {
  words = p.words ++ (q.words ++ (word_for s ∷ word_for s ∷ []));
  before = p.before ++ (q.before ++ (Set (behind fresh p q) p.value ∷ Set (suc (behind fresh p q)) q.value ∷ []));
  value = e;
}

-- the operands' parts
abbrev pub left_part : Fimath → NumericType → Operand → ℕ → Part
left_part m t a fresh = quantised_part m.rounding m.overflow t a.num a.exp fresh

abbrev pub right_part : Fimath → NumericType → Operand → Operand → ℕ → Part
right_part m t a b fresh = quantised_part m.rounding m.overflow t b.num b.exp (fresh + length (left_part m t a fresh).words)

-- a sum with CastBeforeSum
abbrev pub cast_sum_part : Fimath → NumericType → Operand → Operand → ℕ → Part
cast_sum_part m t a b fresh =
    joined_part fresh t.signed (left_part m t a fresh) (right_part m t a b fresh)
    (sum_fitted m.overflow t.signed t.word (behind fresh (left_part m t a fresh) (right_part m t a b fresh)) (suc (behind fresh (left_part m t a fresh) (right_part m t a b fresh))))

-- a difference with CastBeforeSum
abbrev pub cast_difference_part : Fimath → NumericType → Operand → Operand → ℕ → Part
cast_difference_part m t a b fresh =
    joined_part fresh t.signed (left_part m t a fresh) (right_part m t a b fresh)
    (difference_fitted m.overflow t.signed t.word (behind fresh (left_part m t a fresh) (right_part m t a b fresh)) (suc (behind fresh (left_part m t a fresh) (right_part m t a b fresh))))
