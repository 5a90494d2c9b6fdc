-- One number in place of several has their best fraction length.
use Rattle.std.proofs.Common.{◌≡◌, ℕ, Bool, true, false, List, [], ◌∷◌, ◌++◌, Option, Some, None, refl, sym, ap, ◌∙◌, arith}
use Rattle.std.specs.Prelude.{ℤ, pos, ◌+ℤ◌, ◌-ℤ◌, ◌<ℤ◌, ◌≤ℤ◌, int_lt, option_map, unwrap_or, if◌then◌else◌}
use Rattle.std.specs.Int.{int_min}
use Rattle.std.proofs.lemmas.Int.{ints, clamps}
use Rattle.num_type.specs.Constants.{Exact}
use Rattle.num_type.specs.Precision.{bits_beside_sign}
use Rattle.const_rules.specs.BestFraction.{width_of, size_in, filling, greatest_fraction_of, lesser, common_fraction, best_fraction_of}
use Rattle.fi_values.specs.Numbers.{nought}
use Rattle.eval_call.specs.Represented.{top_of, is_above, wider, widest, widest_from}

-- the fraction length that a power of 2 leaves
abbrev left_by : ℕ → Option ℤ → Option ℤ
left_by bits None = None
left_by bits (Some t) = Some (pos bits -ℤ t)

filled_of : (bits : ℕ) (e : ℤ) (o : Option ℕ) → filling bits e o ≡ left_by bits (option_map (λ n. e +ℤ pos (width_of n)) o)
filled_of bits e None = refl
filled_of bits e (Some n) = let s : pos bits -ℤ e -ℤ pos (width_of n) ≡ pos bits -ℤ (e +ℤ pos (width_of n)) = omega (arith, ints) in ap (λ z. Some z) s

greatest_is : (signed : Bool) (word : ℕ) (x : Exact) → greatest_fraction_of signed word x ≡ left_by (bits_beside_sign signed word) (top_of signed x)
unfolding greatest_fraction_of top_of
greatest_is signed word x = filled_of (bits_beside_sign signed word) x.exponent (size_in signed x.significand)

left_lesser : (bits : ℕ) (a b : Option ℤ) → lesser (left_by bits a) (left_by bits b) ≡ left_by bits (if is_above b a then b else a)
left_lesser bits None None = refl
left_lesser bits None (Some y) = refl
left_lesser bits (Some x) None = refl
left_lesser bits (Some x) (Some y) = by (int_lt x y) refl
  where
    by : (c : Bool) → int_lt x y ≡ c → lesser (left_by bits (Some x)) (left_by bits (Some y)) ≡ left_by bits (if is_above (Some y) (Some x) then Some y else Some x)
    by true e =
        let l : x <ℤ y = grind (arith, ints) in
        let m : int_min (pos bits -ℤ x) (pos bits -ℤ y) ≡ pos bits -ℤ y = omega (arith, ints, clamps, l) in
        ap (λ z. Some z) m ∙ ap (λ b. left_by bits (if b then Some y else Some x)) (sym e)
    by false e =
        let l : y ≤ℤ x = grind (arith, ints) in
        let m : int_min (pos bits -ℤ x) (pos bits -ℤ y) ≡ pos bits -ℤ x = omega (arith, ints, clamps, l) in
        ap (λ z. Some z) m ∙ ap (λ b. left_by bits (if b then Some y else Some x)) (sym e)

top_by : (signed b : Bool) (x y : Exact) → top_of signed (if b then y else x) ≡ (if b then top_of signed y else top_of signed x)
top_by signed true x y = refl
top_by signed false x y = refl

-- the wider of two has the lesser of their greatest fraction lengths
wider_is : (signed : Bool) (word : ℕ) (x y : Exact) → lesser (greatest_fraction_of signed word x) (greatest_fraction_of signed word y) ≡ greatest_fraction_of signed word (wider signed x y)
wider_is signed word x y =
    let bits = bits_beside_sign signed word in
    (λ i. lesser (greatest_is signed word x i) (greatest_is signed word y i))
    ∙ left_lesser bits (top_of signed x) (top_of signed y)
    ∙ sym (greatest_is signed word (wider signed x y) ∙ ap (left_by bits) (top_by signed (is_above (top_of signed y) (top_of signed x)) x y))

lesser_of_three : (x y z : ℤ) → int_min x (int_min y z) ≡ int_min (int_min x y) z
lesser_of_three x y z = omega (arith, ints, clamps)

lesser_by_three : (a b c : Option ℤ) → lesser a (lesser b c) ≡ lesser (lesser a b) c
lesser_by_three None b c = refl
lesser_by_three (Some x) None c = refl
lesser_by_three (Some x) (Some y) None = refl
lesser_by_three (Some x) (Some y) (Some z) = ap (λ n. Some n) (lesser_of_three x y z)

none_more : (a : Option ℤ) → lesser a None ≡ a
none_more None = refl
none_more (Some x) = refl

widest_common : (signed : Bool) (word : ℕ) (x : Exact) (ys : List Exact) → lesser (greatest_fraction_of signed word x) (common_fraction signed word ys) ≡ greatest_fraction_of signed word (widest_from signed x ys)
unfolding common_fraction
widest_common signed word x [] = none_more (greatest_fraction_of signed word x)
widest_common signed word x (y ∷ ys) =
    lesser_by_three (greatest_fraction_of signed word x) (greatest_fraction_of signed word y) (common_fraction signed word ys)
    ∙ ap (λ a. lesser a (common_fraction signed word ys)) (wider_is signed word x y)
    ∙ widest_common signed word (wider signed x y) ys

nought_free : (signed : Bool) (word : ℕ) → greatest_fraction_of signed word nought ≡ None
unfolding greatest_fraction_of
nought_free true word = refl
nought_free false word = refl

single_common : (signed : Bool) (word : ℕ) (x : Exact) → common_fraction signed word (x ∷ []) ≡ greatest_fraction_of signed word x
unfolding common_fraction
single_common signed word x = none_more (greatest_fraction_of signed word x)

-- the widest number has the best fraction length of all
pub widest_best : (signed : Bool) (word : ℕ) (cs : List Exact) → best_fraction_of signed word (widest signed cs ∷ []) ≡ best_fraction_of signed word cs
unfolding best_fraction_of
widest_best signed word cs =
    ap (λ o. unwrap_or o (pos (bits_beside_sign signed word)))
    (single_common signed word (widest signed cs) ∙ sym (widest_common signed word nought cs) ∙ ap (λ o. lesser o (common_fraction signed word cs)) (nought_free signed word))

-- the widest of two lists, one after the other
pub widest_both : (signed : Bool) (x : Exact) (ys zs : List Exact) → widest_from signed x (ys ++ zs) ≡ widest_from signed (widest_from signed x ys) zs
widest_both signed x [] zs = refl
widest_both signed x (y ∷ ys) zs = widest_both signed (wider signed x y) ys zs
