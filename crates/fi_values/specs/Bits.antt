-- Built-in functions on bits, element by element.
use Rattle.std.specs.Prelude.{ℕ, ◌+◌, ◌-◌, ◌&&◌, nat_le, nat_lt, ℤ, List, [], ◌∷◌, map, Option, Some, None}
use Rattle.num_type.specs.Types.{NumericType}
use Rattle.fi_ops.specs.Elements.{Element}
use Rattle.fi_ops.specs.Bits.{complemented, concatenated, sliced, word_type}
use Rattle.fi_rules.specs.Types.{same_type}
use Rattle.fi_rules.specs.Value.{Val, Fi, ComplexFi}
use Rattle.fi_rules.specs.Options.{◌|>◌, where_so}
use Rattle.fi_eval.specs.Operators.{pairwise}
use Rattle.fi_values.specs.Arithmetic.{governing}
use Rattle.fi_values.specs.Shapes.{common}

-- what is done to each stored integer
abbrev pub each : NumericType → (Element → ℤ) → List ℤ → List ℤ
each t f zs = map (λ z. f (record { num = t; z = z })) zs

-- of one operand, part by part, in its own type
abbrev pub one_typed : (Element → ℤ) → Val → Option Val
one_typed f (Fi t m s xs) = Some (Fi t m s (each t f xs))
one_typed f (ComplexFi t m s xs ys) = Some (ComplexFi t m s (each t f xs) (each t f ys))
one_typed f v = None

abbrev pub turned_bits : Val → Option Val
turned_bits v = one_typed complemented v

unfoldable pub word_of : Val → Option ℕ
word_of (Fi t m s xs) = Some t.word
word_of (ComplexFi t m s xs ys) = Some t.word
word_of v = None

-- a shift of fewer bits than the word has
abbrev pub shifted : (ℕ → Element → ℤ) → ℕ → Val → Option Val
shifted f k v = word_of v |> (λ w. where_so (nat_lt k w) k |> (λ k. one_typed (f k) v))

-- two real operands of one type
unfoldable pub two_typed : (Element → Element → ℤ) → Val → Val → Option Val
two_typed f (Fi t m s xs) (Fi u n r ys) =
    where_so (same_type t u) t
    |> (λ t. common s r
    |> (λ q. governing m n
    |> (λ g. Some (Fi t g.attached q (pairwise (λ x y. f (record { num = t; z = x }) (record { num = t; z = y })) xs ys)))))
two_typed f v w = None

-- two operands put together, the first one on top
unfoldable pub concatenated_pair : Val → Val → Option Val
concatenated_pair (Fi t m s xs) (Fi u n r ys) =
    where_so (nat_le (t.word + u.word) 64) s
    |> (λ s. common s r
    |> (λ q. Some (Fi (word_type (t.word + u.word)) None q (pairwise (λ x y. (concatenated (record { num = t; z = x }) (record { num = u; z = y })).z) xs ys))))
concatenated_pair v w = None

-- from left to right
abbrev pub concatenated_all : Val → List Val → Option Val
concatenated_all v [] = Some v
concatenated_all v (w ∷ ws) = concatenated_pair v w |> (λ u. concatenated_all u ws)

-- two operands or more
abbrev pub bits_joined : List Val → Option Val
bits_joined (v ∷ w ∷ ws) = concatenated_all v (w ∷ ws)
bits_joined vs = None

-- the bits l down to r, 1 the least
unfoldable pub bits_between : ℕ → ℕ → Val → Option Val
bits_between l r (Fi t m s xs) =
    where_so (nat_le 1 r && (nat_le r l && nat_le l t.word)) l
    |> (λ l. Some (Fi (word_type (l - r + 1)) None s (each t (λ a. (sliced l r a).z) xs)))
bits_between l r (ComplexFi t m s xs ys) =
    where_so (nat_le 1 r && (nat_le r l && nat_le l t.word)) l
    |> (λ l. Some (ComplexFi (word_type (l - r + 1)) None s (each t (λ a. (sliced l r a).z) xs) (each t (λ a. (sliced l r a).z) ys)))
bits_between l r v = None
