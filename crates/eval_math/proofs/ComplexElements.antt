-- Products of complex elements, from operations on lists of real ones.
use Rattle.std.proofs.Common.{◌≡◌, ◌∙◌, refl, sym, subst, ℕ, ℤ, List, length, map}
use Rattle.num_type.specs.Types.{NumericType}
use Rattle.fi_math.specs.declared.fimath.Fimath.{Fimath}
use Rattle.fi_ops.specs.Complex.{complex_multiplied}
use Rattle.fi_rules.specs.declared.work.Work.TheVariants as work
use Rattle.fi_eval.specs.Operators.{pairwise, element}
use Rattle.fi_values.specs.Arithmetic.{both_parts, complex_element}
use Rattle.eval_math.specs.View.{IsMet}
use Rattle.eval_math.proofs.Pairing.{met_many, on_both, on_both_crossed, then_mapped}

pub moved : (n l r k j : ℕ) → l ≡ k → r ≡ j → IsMet n l r → IsMet n k j
moved n l r k j e f h = subst (λ (x : ℕ). IsMet n k x) f (subst (λ (x : ℕ). IsMet n x r) e h)

pub real_parts_are : (m : Fimath) (t p a b : NumericType) (n : ℕ) (xs us ys vs : List ℤ) → length xs ≡ length us → length ys ≡ length vs → IsMet n (length xs) (length ys) → pairwise (element work.Difference m t p p) (pairwise (element work.Product m p a b) xs ys) (pairwise (element work.Product m p a b) us vs) ≡ map (λ z. z.0) (pairwise (complex_element m p t a b) (both_parts xs us) (both_parts ys vs))
unfolding complex_multiplied
real_parts_are m t p a b n xs us ys vs l r met =
    on_both (element work.Difference m t p p) (element work.Product m p a b) (element work.Product m p a b) xs us ys vs l r
    (met_many (element work.Product m p a b) n xs ys met ∙ sym (met_many (element work.Product m p a b) n us vs (moved n (length xs) (length ys) (length us) (length vs) l r met)))
    ∙ sym (then_mapped (λ (z : ℤ × ℤ). z.0) (complex_element m p t a b) (both_parts xs us) (both_parts ys vs))

pub imaginary_parts_are : (m : Fimath) (t p a b : NumericType) (n : ℕ) (xs us ys vs : List ℤ) → length xs ≡ length us → length ys ≡ length vs → IsMet n (length xs) (length ys) → pairwise (element work.Sum m t p p) (pairwise (element work.Product m p a b) xs vs) (pairwise (element work.Product m p a b) us ys) ≡ map (λ z. z.1) (pairwise (complex_element m p t a b) (both_parts xs us) (both_parts ys vs))
unfolding complex_multiplied
imaginary_parts_are m t p a b n xs us ys vs l r met =
    on_both_crossed (element work.Sum m t p p) (element work.Product m p a b) (element work.Product m p a b) xs us ys vs l r
    (met_many (element work.Product m p a b) n xs vs (moved n (length xs) (length ys) (length xs) (length vs) refl r met) ∙ sym (met_many (element work.Product m p a b) n us ys (moved n (length xs) (length ys) (length us) (length ys) l refl met)))
    ∙ sym (then_mapped (λ (z : ℤ × ℤ). z.1) (complex_element m p t a b) (both_parts xs us) (both_parts ys vs))
