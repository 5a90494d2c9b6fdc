-- Logical values and comparisons of sound values are sound.
use Rattle.std.proofs.Common.{◌≡◌, refl, ◌∙◌, ℕ, Bool, true, false, List, length}
use Rattle.std.specs.Prelude.{ℤ, not, ◌&&◌, if◌then◌else◌, Option, Some, None, is_none}
use Rattle.std.proofs.lemmas.List.{length-map}
use Rattle.num_type.specs.Constants.{Exact, order_of}
use Rattle.num_type.specs.Types.{NumericType}
use Rattle.fi_math.specs.declared.fimath.Fimath.{Fimath}
use Rattle.fi_rules.specs.Options.{◌|>◌}
use Rattle.fi_rules.specs.Value.{Shape, count, Val, Fi, ComplexFi, Logical, Number, ComplexNumber, Words, MathObject, TypeObject}
use Rattle.fi_eval.specs.Operators.{pairwise}
use Rattle.fi_values.specs.Arithmetic.{Operand, operands, governing}
use Rattle.fi_values.specs.Comparisons.{Comparison, Orders, Equals, Compared, compared, imaginary_of, are_equal, equal_elements, elements_of, of_compared, of_truths, number_compared, is_number, of_operands, of_numbers, compared_values}
use Rattle.fi_values.specs.Logicals.{truth_value, complement, connected}
use Rattle.fi_values.specs.Sound.{IsSized, IsSound}
use Rattle.fi_values.proofs.Arithmetic.{IsOperand, operands_long}
use Rattle.fi_values.proofs.Holds.{Holds, holds, empty, holds_any, holds_then, holds_where, holds_if}
use Rattle.fi_values.proofs.Lists.{Pairing, Both, length-pairwise}
use Rattle.fi_values.proofs.Sizes.{common_shape, lengths, scalar_sized}

pub truth_sound : (b : Bool) → IsSound (truth_value b)
truth_sound b = (scalar_sized, refl)

pub complement_sound : (v : Val) → IsSound v → Holds IsSound (complement v)
unfolding complement
complement_sound (Logical s bs) h = holds _ (h.0, length-map bs not ∙ h.1)
complement_sound (Fi t m s xs) h = empty
complement_sound (ComplexFi t m s xs ys) h = empty
complement_sound (Number s cs) h = empty
complement_sound (ComplexNumber s xs ys) h = empty
complement_sound (Words text) h = empty
complement_sound (MathObject m) h = empty
complement_sound (TypeObject t) h = empty

pub connected_sound : (f : Bool → Bool → Bool) (v w : Val) → IsSound v → IsSound w → Holds IsSound (connected f v w)
unfolding connected
connected_sound f (Logical s bs) (Logical t cs) h k =
    holds_then (common_shape s t h.0 k.0) (λ r c. holds _ (c.sized, length-pairwise f bs cs (count r) (lengths c.pairing h.1 k.1)))
connected_sound f v w h k = empty

-- ---- comparisons

-- so many values are compared
record IsCompared (c : Compared) : Type 0 where
  sized : IsSized c.shape
  re : length c.re ≡ count c.shape
  im : Holds (λ ys. length ys ≡ count c.shape) c.im

length-imaginary : (c : Compared) → IsCompared c → length (imaginary_of c) ≡ count c.shape
length-imaginary c h = of c.shape c.re c.im h.re h.im
  where
    of : (s : Shape) (xs : List Exact) (o : Option (List Exact)) → length xs ≡ count s → Holds (λ ys. length ys ≡ count s) o → length (imaginary_of (record { shape = s; re = xs; im = o })) ≡ count s
    of s xs None e k = length-map xs _ ∙ e
    of s xs (Some ys) e (holds _ k) = k

length-equal : (a b : Compared) (n : ℕ) → IsCompared a → IsCompared b → Pairing n (count a.shape) (count b.shape) → length (equal_elements a b) ≡ n
length-equal a b n h k p =
    length-pairwise (λ x y. x && y) (pairwise are_equal a.re b.re) (pairwise are_equal (imaginary_of a) (imaginary_of b)) n
    (Both (length-pairwise are_equal a.re b.re n (lengths p h.re k.re)) (length-pairwise are_equal (imaginary_of a) (imaginary_of b) n (lengths p (length-imaginary a h) (length-imaginary b k))))

elements_long : (o : Comparison) (a b : Compared) (n : ℕ) → IsCompared a → IsCompared b → Pairing n (count a.shape) (count b.shape) → Holds (λ bs. length bs ≡ n) (elements_of o a b)
unfolding elements_of
elements_long (Orders f) a b n h k p =
    holds_where (λ bs. length bs ≡ n) (is_none a.im && is_none b.im) _ (λ _. length-pairwise (λ x y. f (order_of x y)) a.re b.re n (lengths p h.re k.re))
elements_long (Equals true) a b n h k p = holds _ (length-equal a b n h k p)
elements_long (Equals false) a b n h k p = holds _ (length-map (equal_elements a b) not ∙ length-equal a b n h k p)

of_compared_sound : (o : Comparison) (a b : Compared) → IsCompared a → IsCompared b → Holds IsSound (of_compared o a b)
of_compared_sound o a b h k =
    holds_then (common_shape a.shape b.shape h.sized k.sized) (λ s c.
    holds_then (elements_long o a b (count s) h k c.pairing) (λ bs e. holds _ (c.sized, e)))

operand_compared : (a : Operand) → IsOperand a → IsCompared (compared a)
operand_compared a h = of a.num a.math a.shape a.parts.re a.parts.im h.sized h.parts.re h.parts.im
  where
    of : (t : NumericType) (m : Option Fimath) (s : Shape) (xs : List ℤ) (o : Option (List ℤ)) → IsSized s → length xs ≡ count s → Holds (λ ys. length ys ≡ count s) o → IsCompared (compared (record { num = t; math = m; shape = s; parts = record { re = xs; im = o } }))
    of t m s xs None z e k = record { sized = z; re = length-map xs _ ∙ e; im = empty }
    of t m s xs (Some ys) z e (holds _ k) = record { sized = z; re = length-map xs _ ∙ e; im = holds _ (length-map ys _ ∙ k) }

number_long : (v : Val) → IsSound v → Holds IsCompared (number_compared v)
unfolding number_compared
number_long (Number s cs) h = holds _ (record { sized = h.0; re = h.1; im = empty })
number_long (ComplexNumber s xs ys) h = holds _ (record { sized = h.0; re = h.1; im = holds ys h.2 })
number_long (Fi t m s xs) h = empty
number_long (ComplexFi t m s xs ys) h = empty
number_long (Logical s bs) h = empty
number_long (Words text) h = empty
number_long (MathObject m) h = empty
number_long (TypeObject t) h = empty

truths_sound : (o : Comparison) (s : Shape) (bs : List Bool) (t : Shape) (cs : List Bool) → IsSized s → IsSized t → length bs ≡ count s → length cs ≡ count t → Holds IsSound (of_truths o s bs t cs)
unfolding of_truths
truths_sound (Orders f) s bs t cs h k e g = empty
truths_sound (Equals same) s bs t cs h k e g =
    holds_then (common_shape s t h k) (λ r c. holds _ (c.sized, length-pairwise _ bs cs (count r) (lengths c.pairing e g)))

others_sound : (o : Comparison) (v w : Val) → IsSound v → IsSound w → Holds IsSound (if is_number v && is_number w then of_numbers o v w else (operands v w |> of_operands o))
others_sound o v w h k =
    holds_if IsSound (is_number v && is_number w) _ _
    (λ _. holds_then (number_long v h) (λ a x. holds_then (number_long w k) (λ b y. of_compared_sound o a b x y)))
    (λ _. holds_then (operands_long v w h k) (λ ab x. holds_then (holds_any (governing ab.0.math ab.1.math)) (λ g _.
    of_compared_sound o (compared ab.0) (compared ab.1) (operand_compared ab.0 x.0) (operand_compared ab.1 x.1))))

pub compared_sound : (o : Comparison) (v w : Val) → IsSound v → IsSound w → Holds IsSound (compared_values o v w)
unfolding compared_values
compared_sound o (Logical s bs) (Logical t cs) h k = truths_sound o s bs t cs h.0 k.0 h.1 k.1
compared_sound o v w h k = others_sound o v w h k
