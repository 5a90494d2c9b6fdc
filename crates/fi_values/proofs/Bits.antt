-- Built-in functions on bits of sound values give sound ones.
use Rattle.std.proofs.Common.{◌≡◌, ◌∙◌, ℕ, ◌+◌, ◌-◌, ◌≤◌, true, List, [], ◌∷◌, length, arith}
use Rattle.std.specs.Prelude.{ℤ, ◌&&◌, nat_le, nat_lt}
use Rattle.std.specs.List.{AllByRecursion}
use Rattle.std.proofs.lemmas.Bool.{and_parts, leb-true}
use Rattle.std.proofs.lemmas.Int.{ints}
use Rattle.std.proofs.lemmas.List.{length-map}
use Rattle.num_type.specs.Types.{NumericType, IsWithin, IsInRange}
use Rattle.fi_ops.specs.Bits.{complemented, concatenated, sliced, word_type}
use Rattle.fi_ops.specs.Elements.{Element}
use Rattle.fi_rules.specs.Options.{where_so}
use Rattle.fi_rules.specs.Types.{same_type}
use Rattle.fi_rules.specs.Value.{Shape, count, Val, Fi, ComplexFi, Logical, Number, ComplexNumber, Words, MathObject, TypeObject}
use Rattle.fi_values.specs.Arithmetic.{governing}
use Rattle.fi_values.specs.Bits.{each, one_typed, turned_bits, word_of, shifted, two_typed, concatenated_pair, concatenated_all, bits_joined, bits_between}
use Rattle.fi_values.specs.Sound.{IsSized, IsStored, IsSound}
use Rattle.fi_values.proofs.Each.{each_map, each_map_from, each_pair, is_stored, ranges}
use Rattle.fi_values.proofs.Holds.{Holds, holds, empty, holds_any, holds_then, holds_where}
use Rattle.fi_values.proofs.Integers.{complemented_in, concatenated_in, sliced_in}
use Rattle.fi_values.proofs.Lists.{length-pairwise}
use Rattle.fi_values.proofs.Sizes.{common_shape, lengths}

-- an operation on elements keeps the range of their type
abbrev pub KeepsRange : (Element → ℤ) → Type 0
KeepsRange f = (a : Element) → 1 ≤ a.num.word → IsInRange a.num a.z → IsInRange a.num (f a)

each_stored : (f : Element → ℤ) → KeepsRange f → (t : NumericType) (s : Shape) (xs : List ℤ) → 1 ≤ t.word → IsStored t s xs → IsStored t s (each t f xs)
each_stored f k t s xs one h =
    is_stored (length-map xs _ ∙ h.filled)
    (each_map_from (IsInRange t) (IsInRange t) (λ z. f (record { num = t; z = z })) (λ z r. k (record { num = t; z = z }) one r) xs (ranges h))

one_typed_sound : (f : Element → ℤ) → KeepsRange f → (v : Val) → IsSound v → Holds IsSound (one_typed f v)
one_typed_sound f k (Fi t m s xs) h = holds _ (h.0, h.1, each_stored f k t s xs h.0.one_bit h.2)
one_typed_sound f k (ComplexFi t m s xs ys) h = holds _ (h.0, h.1, each_stored f k t s xs h.0.one_bit h.2, each_stored f k t s ys h.0.one_bit h.3)
one_typed_sound f k (Logical s bs) h = empty
one_typed_sound f k (Number s cs) h = empty
one_typed_sound f k (ComplexNumber s xs ys) h = empty
one_typed_sound f k (Words text) h = empty
one_typed_sound f k (MathObject m) h = empty
one_typed_sound f k (TypeObject t) h = empty

pub turned_bits_sound : (v : Val) → IsSound v → Holds IsSound (turned_bits v)
turned_bits_sound v h = one_typed_sound complemented (λ a one r. complemented_in a one) v h

pub shifted_sound : (f : ℕ → Element → ℤ) → ((k : ℕ) → KeepsRange (f k)) → (k : ℕ) (v : Val) → IsSound v → Holds IsSound (shifted f k v)
shifted_sound f keeps k v h =
    holds_then (holds_any (word_of v)) (λ w _. holds_then (holds_any (where_so (nat_lt k w) k)) (λ n _. one_typed_sound (f n) (keeps n) v h))

pub two_typed_sound : (f : Element → Element → ℤ) → ((a b : Element) → 1 ≤ a.num.word → IsInRange a.num (f a b)) → (v w : Val) → IsSound v → IsSound w → Holds IsSound (two_typed f v w)
unfolding two_typed
two_typed_sound f keeps (Fi t m s xs) (Fi u n r ys) h k =
    holds_then (holds_where (λ x. IsWithin x) (same_type t u) t (λ e. h.0)) (λ x v.
    holds_then (common_shape s r h.1 k.1) (λ q c.
    holds_then (holds_any (governing m n)) (λ g _.
    holds _ (
      v,
      c.sized,
      is_stored (length-pairwise _ xs ys (count q) (lengths c.pairing h.2.filled k.2.filled))
          (each_pair (IsInRange x) (λ a b. f (record { num = x; z = a }) (record { num = x; z = b })) (λ a b. keeps (record { num = x; z = a }) (record { num = x; z = b }) v.one_bit) xs ys),
    ))))
two_typed_sound f keeps v w h k = empty

word_within : (w : ℕ) → 1 ≤ w → w ≤ 64 → IsWithin (word_type w)
word_within w h k = record { one_bit = h; bits = k; least = omega (arith, ints); most = omega (arith, ints) }

concatenated_sound : (v w : Val) → IsSound v → IsSound w → Holds IsSound (concatenated_pair v w)
unfolding concatenated_pair
concatenated_sound (Fi t m s xs) (Fi u n r ys) h k =
    holds_then (holds_where (λ z. IsSized z × (length xs ≡ count z) × (t.word + u.word ≤ 64)) (nat_le (t.word + u.word) 64) s (λ e. (h.1, h.2.filled, leb-true (t.word + u.word) 64 e))) (λ z p.
    holds_then (common_shape z r p.0 k.1) (λ q c.
    holds _ (
      word_within (t.word + u.word) (omega (arith, h.0.one_bit)) p.2,
      c.sized,
      is_stored (length-pairwise _ xs ys (count q) (lengths c.pairing p.1 k.2.filled))
          (each_pair (IsInRange (word_type (t.word + u.word))) (λ x y. (concatenated (record { num = t; z = x }) (record { num = u; z = y })).z) (λ x y. concatenated_in (record { num = t; z = x }) (record { num = u; z = y })) xs ys),
    )))
concatenated_sound v w h k = empty

all_concatenated : (v : Val) (ws : List Val) → IsSound v → AllByRecursion IsSound ws → Holds IsSound (concatenated_all v ws)
all_concatenated v [] h k = holds v h
all_concatenated v (w ∷ ws) h k = holds_then (concatenated_sound v w h k.0) (λ u p. all_concatenated u ws p k.1)

pub bits_joined_sound : (vs : List Val) → AllByRecursion IsSound vs → Holds IsSound (bits_joined vs)
bits_joined_sound [] h = empty
bits_joined_sound (v ∷ []) h = empty
bits_joined_sound (v ∷ w ∷ ws) h = all_concatenated v (w ∷ ws) h.0 h.1

-- the bits l down to r of a word
record IsPart (l r word : ℕ) : Type 0 where
  least : 1 ≤ r
  order : r ≤ l
  most : l ≤ word

part_of : (l r word : ℕ) → (nat_le 1 r && (nat_le r l && nat_le l word)) ≡ true → IsPart l r word
part_of l r word e =
    let p = and_parts (nat_le 1 r) (nat_le r l && nat_le l word) e in
    let q = and_parts (nat_le r l) (nat_le l word) p.1 in
    record { least = leb-true 1 r p.0; order = leb-true r l q.0; most = leb-true l word q.1 }

part_within : (l r : ℕ) (t : NumericType) → IsWithin t → IsPart l r t.word → IsWithin (word_type (l - r + 1))
part_within l r t h p = word_within (l - r + 1) (omega arith) (omega (arith, h.bits, p.least, p.order, p.most))

part_stored : (l r : ℕ) (t : NumericType) (s : Shape) (xs : List ℤ) → length xs ≡ count s → IsStored (word_type (l - r + 1)) s (each t (λ a. (sliced l r a).z) xs)
part_stored l r t s xs e =
    is_stored (length-map xs _ ∙ e)
    (each_map (IsInRange (word_type (l - r + 1))) (λ z. (sliced l r (record { num = t; z = z })).z) (λ z. sliced_in l r (record { num = t; z = z })) xs)

pub bits_between_sound : (l r : ℕ) (v : Val) → IsSound v → Holds IsSound (bits_between l r v)
unfolding bits_between
bits_between_sound l r (Fi t m s xs) h =
    holds_then (holds_where (λ l. IsPart l r t.word) (nat_le 1 r && (nat_le r l && nat_le l t.word)) l (λ e. part_of l r t.word e)) (λ l p.
    holds _ (part_within l r t h.0 p, h.1, part_stored l r t s xs h.2.filled))
bits_between_sound l r (ComplexFi t m s xs ys) h =
    holds_then (holds_where (λ l. IsPart l r t.word) (nat_le 1 r && (nat_le r l && nat_le l t.word)) l (λ e. part_of l r t.word e)) (λ l p.
    holds _ (part_within l r t h.0 p, h.1, part_stored l r t s xs h.2.filled, part_stored l r t s ys h.3.filled))
bits_between_sound l r (Logical s bs) h = empty
bits_between_sound l r (Number s cs) h = empty
bits_between_sound l r (ComplexNumber s xs ys) h = empty
bits_between_sound l r (Words text) h = empty
bits_between_sound l r (MathObject m) h = empty
bits_between_sound l r (TypeObject t) h = empty
