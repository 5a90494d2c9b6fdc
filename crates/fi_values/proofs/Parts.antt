-- The parts of results of sums, differences and products.
use Rattle.std.proofs.Common.{◌≡◌, refl, sym, ap, ◌∙◌, ℕ, suc, ◌≤◌, Bool, true, false, List, [], ◌∷◌, length, arith}
use Rattle.std.specs.Prelude.{ℤ, pos, map, Option, Some, None}
use Rattle.std.specs.List.{AllByRecursion}
use Rattle.std.proofs.lemmas.List.{length-map}
use Rattle.num_type.specs.Types.{NumericType, IsWithin, IsInRange}
use Rattle.fi_math.specs.declared.fimath.Fimath.{Fimath}
use Rattle.fi_math.specs.Rules.{product_made}
use Rattle.fi_ops.specs.Complex as elements
use Rattle.fi_rules.specs.declared.work.Work.{Work}
use Rattle.fi_rules.specs.declared.work.Work.TheVariants as work
use Rattle.fi_rules.specs.Value.{Shape, count}
use Rattle.fi_eval.specs.Operators.{pairwise, element}
use Rattle.fi_values.specs.Arithmetic.{Parts, Operand, imaginary, complex_element, both_parts, complex_product, result_parts, fi_value, is_arithmetic}
use Rattle.fi_values.specs.Sums.{made}
use Rattle.fi_values.specs.Sound.{IsSized, IsSound}
use Rattle.fi_values.proofs.Each.{each_map_from, each_pair, is_stored}
use Rattle.fi_values.proofs.Holds.{Holds, holds, empty, holds_any, holds_then}
use Rattle.fi_values.proofs.Integers.{element_in, subtracted_in, summed_in}
use Rattle.fi_values.proofs.Lists.{Pairing, length-pairwise}
use Rattle.fi_values.proofs.Sizes.{lengths}

-- so many elements, in both parts of a complex one
pub record IsLong (n : ℕ) (p : Parts) : Type 0 where
  pub re : length p.re ≡ n
  pub im : Holds (λ ys. length ys ≡ n) p.im

-- and each of them in the range of a type
pub record IsRanged (t : NumericType) (n : ℕ) (zs : List ℤ) : Type 0 where
  pub long : length zs ≡ n
  pub in_range : AllByRecursion (IsInRange t) zs

pub record AreRanged (t : NumericType) (n : ℕ) (p : Parts) : Type 0 where
  pub re : IsRanged t n p.re
  pub im : Holds (IsRanged t n) p.im

length-imaginary : (n : ℕ) (p : Parts) → IsLong n p → length (imaginary p) ≡ n
length-imaginary n p h = of p.re p.im h.re h.im
  where
    of : (xs : List ℤ) (o : Option (List ℤ)) → length xs ≡ n → Holds (λ ys. length ys ≡ n) o → length (imaginary (record { re = xs; im = o })) ≡ n
    of xs None e k = length-map xs (λ x. pos 0) ∙ e
    of xs (Some ys) e (holds _ k) = k

-- ---- the integers of an operation

elements_ranged : (w : Work) (m : Fimath) (t a b : NumericType) (n : ℕ) (xs ys : List ℤ) → is_arithmetic w ≡ true → 1 ≤ t.word → Pairing n (length xs) (length ys) → IsRanged t n (pairwise (element w m t a b) xs ys)
elements_ranged w m t a b n xs ys e h p = record {
  long = length-pairwise (element w m t a b) xs ys n p;
  in_range = each_pair (IsInRange t) (element w m t a b) (λ x y. element_in w m t a b x y e h) xs ys;
}

length-both : (xs ys : List ℤ) → length xs ≡ length ys → length (both_parts xs ys) ≡ length xs
length-both [] ys e = refl
length-both (x ∷ xs) [] e = absurd (omega (arith, e))
length-both (x ∷ xs) (y ∷ ys) e = ap suc (length-both xs ys (omega (arith, e)))

abbrev IsBoth : NumericType → ℤ × ℤ → Type 0
IsBoth t z = IsInRange t z.0 × IsInRange t z.1

complex_in : (m : Fimath) (p t a b : NumericType) (x y : ℤ × ℤ) → 1 ≤ t.word → IsBoth t (complex_element m p t a b x y)
unfolding elements.complex_multiplied
complex_in m p t a b x y h = (subtracted_in m t _ _ h, summed_in m t _ _ h)

halves : (t : NumericType) (n : ℕ) (zs : List (ℤ × ℤ)) → length zs ≡ n → AllByRecursion (IsBoth t) zs → AreRanged t n (record { re = map (λ z. z.0) zs; im = Some (map (λ z. z.1) zs) })
halves t n zs e h = record {
  re = record { long = length-map zs (λ z. z.0) ∙ e; in_range = each_map_from (IsBoth t) (IsInRange t) (λ z. z.0) (λ z k. k.0) zs h };
  im = holds _ (record { long = length-map zs (λ z. z.1) ∙ e; in_range = each_map_from (IsBoth t) (IsInRange t) (λ z. z.1) (λ z k. k.1) zs h });
}

complex_product_ranged : (m : Fimath) (t : NumericType) (a b : Operand) (n i j : ℕ) → 1 ≤ t.word → Pairing n i j → IsLong i a.parts → IsLong j b.parts → Holds (AreRanged t n) (complex_product m t a b)
complex_product_ranged m t a b n i j h p k l =
    let xs : List (ℤ × ℤ) = both_parts a.parts.re (imaginary a.parts) in
    let ys : List (ℤ × ℤ) = both_parts b.parts.re (imaginary b.parts) in
    let left : length xs ≡ i = length-both a.parts.re (imaginary a.parts) (k.re ∙ sym (length-imaginary i a.parts k)) ∙ k.re in
    let right : length ys ≡ j = length-both b.parts.re (imaginary b.parts) (l.re ∙ sym (length-imaginary j b.parts l)) ∙ l.re in
    holds_then (holds_any (made (product_made m a.num b.num))) (λ u _.
    holds _ (halves t n (pairwise (complex_element m u t a.num b.num) xs ys) (length-pairwise (complex_element m u t a.num b.num) xs ys n (lengths p left right))
    (each_pair (IsBoth t) (complex_element m u t a.num b.num) (λ x y. complex_in m u t a.num b.num x y h) xs ys)))

-- ---- the parts of a result

module _ (w : Work) (m : Fimath) (t : NumericType) (a b : Operand) (n i j : ℕ) (e : is_arithmetic w ≡ true) (h : 1 ≤ t.word) (p : Pairing n i j) (k : IsLong i a.parts) (l : IsLong j b.parts) where
  of_lists : (xs ys : List ℤ) → length xs ≡ i → length ys ≡ j → IsRanged t n (pairwise (element w m t a.num b.num) xs ys)
  of_lists xs ys f g = elements_ranged w m t a.num b.num n xs ys e h (lengths p f g)

  real : IsRanged t n (pairwise (element w m t a.num b.num) a.parts.re b.parts.re)
  real = of_lists a.parts.re b.parts.re k.re l.re

  left_imaginary : IsRanged t n (pairwise (element w m t a.num b.num) (imaginary a.parts) b.parts.re)
  left_imaginary = of_lists (imaginary a.parts) b.parts.re (length-imaginary i a.parts k) l.re

  right_imaginary : IsRanged t n (pairwise (element w m t a.num b.num) a.parts.re (imaginary b.parts))
  right_imaginary = of_lists a.parts.re (imaginary b.parts) k.re (length-imaginary j b.parts l)

  both_imaginary : IsRanged t n (pairwise (element w m t a.num b.num) (imaginary a.parts) (imaginary b.parts))
  both_imaginary = of_lists (imaginary a.parts) (imaginary b.parts) (length-imaginary i a.parts k) (length-imaginary j b.parts l)

pub result_ranged : (w : Work) (m : Fimath) (t : NumericType) (a b : Operand) (x y : Bool) (n i j : ℕ) → is_arithmetic w ≡ true → 1 ≤ t.word → Pairing n i j → IsLong i a.parts → IsLong j b.parts → Holds (AreRanged t n) (result_parts w m t a b x y)
unfolding result_parts
result_ranged w m t a b false false n i j e h p k l = holds _ (record { re = real w m t a b n i j e h p k l; im = empty })
result_ranged work.Product m t a b true true n i j e h p k l = complex_product_ranged m t a b n i j h p k l
result_ranged work.Product m t a b true false n i j e h p k l =
    holds _ (record { re = real work.Product m t a b n i j e h p k l; im = holds _ (left_imaginary work.Product m t a b n i j e h p k l) })
result_ranged work.Product m t a b false true n i j e h p k l =
    holds _ (record { re = real work.Product m t a b n i j e h p k l; im = holds _ (right_imaginary work.Product m t a b n i j e h p k l) })
result_ranged w m t a b x y n i j e h p k l = holds _ (record { re = real w m t a b n i j e h p k l; im = holds _ (both_imaginary w m t a b n i j e h p k l) })

pub fi_value_sound : (t : NumericType) (m : Option Fimath) (s : Shape) (p : Parts) → IsWithin t → IsSized s → AreRanged t (count s) p → IsSound (fi_value t m s p)
unfolding fi_value
fi_value_sound t m s p v z h = of p.re p.im h.re h.im
  where
    of : (xs : List ℤ) (o : Option (List ℤ)) → IsRanged t (count s) xs → Holds (IsRanged t (count s)) o → IsSound (fi_value t m s (record { re = xs; im = o }))
    of xs None r k = (v, z, is_stored r.long r.in_range)
    of xs (Some ys) r (holds _ q) = (v, z, is_stored r.long r.in_range, is_stored q.long q.in_range)
