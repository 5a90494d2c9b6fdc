-- Complex fis of two real ones.
use Rattle.std.proofs.Common.{◌≡◌, ◌⊎◌, inl, inr, ℕ, ◌*◌, Bool, true, false, List, [], ◌∷◌, length, refl, sym, ap, ◌∙◌}
use Rattle.std.specs.Prelude.{ℤ, Option, Some, None}
use Rattle.num_type.specs.Types.{NumericType}
use Rattle.fi_math.specs.declared.fimath.Fimath.{Fimath}
use Rattle.fi_math.specs.declared.governing.Governed.{Governed}
use Rattle.fi_rules.specs.Options.{and_then, where_so}
use Rattle.fi_rules.specs.Types.{same_type}
use Rattle.fi_rules.specs.Value.{Shape, Val, Fi, ComplexFi}
use Rattle.fi_eval.specs.Operators.{pairwise}
use Rattle.fi_values.specs.Arithmetic.{governing}
use Rattle.fi_values.specs.Elements.{spread}
use Rattle.fi_values.specs.Queries.{complex_of}
use Rattle.fi_values.specs.Shapes.{common}
use Rattle.eval_array.proofs.Elements.{Fits, first_spread, length_spread, second_spread}
use Rattle.eval_array.proofs.Joined.{common_cases}

-- ---- lengths

spread_single : {X : Type 0} (xs : List X) → length (spread 1 xs) ≡ length xs
spread_single [] = refl
spread_single (x ∷ []) = refl
spread_single (x ∷ y ∷ xs) = refl

abbrev count : Shape → ℕ
count s = s.rows * s.columns

pub length_first : {X Y : Type 0} (s r q : Shape) (xs : List X) (ys : List Y) → Some q ≡ common s r → length xs ≡ s.rows * s.columns → length ys ≡ r.rows * r.columns → length (spread (length ys) xs) ≡ q.rows * q.columns
length_first s r q xs ys h e f = by (common_cases s r q h)
  where
    by : ((s.rows * s.columns ≡ r.rows * r.columns) × (q ≡ s)) ⊎ (((s.rows * s.columns ≡ 1) × (q ≡ r)) ⊎ ((r.rows * r.columns ≡ 1) × (q ≡ s))) → length (spread (length ys) xs) ≡ q.rows * q.columns
    by (inl w) = length_spread (length ys) xs (inr (e ∙ w.0 ∙ sym f)) ∙ f ∙ sym w.0 ∙ sym (ap count w.1)
    by (inr (inl w)) = length_spread (length ys) xs (inl (e ∙ w.0)) ∙ f ∙ sym (ap count w.1)
    by (inr (inr w)) = ap (λ n. length (spread n xs)) (f ∙ w.0) ∙ spread_single xs ∙ e ∙ sym (ap count w.1)

pub length_second : {X Y : Type 0} (s r q : Shape) (xs : List X) (ys : List Y) → Some q ≡ common s r → length xs ≡ s.rows * s.columns → length ys ≡ r.rows * r.columns → length (spread (length xs) ys) ≡ q.rows * q.columns
length_second s r q xs ys h e f = by (common_cases s r q h)
  where
    by : ((s.rows * s.columns ≡ r.rows * r.columns) × (q ≡ s)) ⊎ (((s.rows * s.columns ≡ 1) × (q ≡ r)) ⊎ ((r.rows * r.columns ≡ 1) × (q ≡ s))) → length (spread (length xs) ys) ≡ q.rows * q.columns
    by (inl w) = length_spread (length xs) ys (inr (f ∙ sym w.0 ∙ sym e)) ∙ e ∙ sym (ap count w.1)
    by (inr (inl w)) = ap (λ n. length (spread n ys)) (e ∙ w.0) ∙ spread_single ys ∙ f ∙ sym (ap count w.1)
    by (inr (inr w)) = length_spread (length xs) ys (inl (f ∙ w.0)) ∙ e ∙ sym (ap count w.1)

fit : {X Y : Type 0} (s r q : Shape) (xs : List X) (ys : List Y) → Some q ≡ common s r → length xs ≡ s.rows * s.columns → length ys ≡ r.rows * r.columns → Fits (length xs) (length ys)
fit s r q xs ys h e f = by (common_cases s r q h)
  where
    by : ((s.rows * s.columns ≡ r.rows * r.columns) × (q ≡ s)) ⊎ (((s.rows * s.columns ≡ 1) × (q ≡ r)) ⊎ ((r.rows * r.columns ≡ 1) × (q ≡ s))) → Fits (length xs) (length ys)
    by (inl w) = inl (e ∙ w.0 ∙ sym f)
    by (inr (inl w)) = inr (inl (e ∙ w.0))
    by (inr (inr w)) = inr (inr (f ∙ w.0))

-- ---- values

abbrev made : NumericType → List ℤ → List ℤ → Bool → Option Shape → Option Governed → Option Val
made t xs ys b o p = and_then (where_so b t) (λ t. and_then o (λ q. and_then p (λ g. Some (ComplexFi t g.attached q (pairwise (λ x y. x) xs ys) (pairwise (λ x y. y) xs ys)))))

complex_is : (t u : NumericType) (m n : Option Fimath) (s r : Shape) (xs ys : List ℤ) → made t xs ys (same_type t u) (common s r) (governing m n) ≡ complex_of (Fi t m s xs) (Fi u n r ys)
unfolding complex_of
complex_is t u m n s r xs ys = refl

pub types_apart : (t u : NumericType) (m n : Option Fimath) (s r : Shape) (xs ys : List ℤ) → same_type t u ≡ false → None ≡ complex_of (Fi t m s xs) (Fi u n r ys)
unfolding and_then where_so
types_apart t u m n s r xs ys e = ap (λ b. made t xs ys b (common s r) (governing m n)) (sym e) ∙ complex_is t u m n s r xs ys

pub shapes_apart : (t u : NumericType) (m n : Option Fimath) (s r : Shape) (xs ys : List ℤ) → same_type t u ≡ true → None ≡ common s r → None ≡ complex_of (Fi t m s xs) (Fi u n r ys)
unfolding and_then where_so
shapes_apart t u m n s r xs ys e f = (λ i. made t xs ys (sym e i) (f i) (governing m n)) ∙ complex_is t u m n s r xs ys

pub maths_apart : (t u : NumericType) (m n : Option Fimath) (s r q : Shape) (xs ys : List ℤ) → same_type t u ≡ true → Some q ≡ common s r → None ≡ governing m n → None ≡ complex_of (Fi t m s xs) (Fi u n r ys)
unfolding and_then where_so
maths_apart t u m n s r q xs ys e f g = (λ i. made t xs ys (sym e i) (f i) (g i)) ∙ complex_is t u m n s r xs ys

pub put_together : (t u : NumericType) (m n : Option Fimath) (s r q : Shape) (g : Governed) (xs ys zs ws : List ℤ) → same_type t u ≡ true → Some q ≡ common s r → Some g ≡ governing m n → length xs ≡ s.rows * s.columns → length ys ≡ r.rows * r.columns → zs ≡ spread (length ys) xs → ws ≡ spread (length xs) ys → Some (ComplexFi t g.attached q zs ws) ≡ complex_of (Fi t m s xs) (Fi u n r ys)
unfolding and_then where_so
put_together t u m n s r q g xs ys zs ws e f k a b z w =
    (λ i. Some (ComplexFi t g.attached q (z i) (w i)))
    ∙ (λ i. Some (ComplexFi t g.attached q (sym (first_spread xs ys (fit s r q xs ys f a b)) i) (sym (second_spread xs ys (fit s r q xs ys f a b)) i)))
    ∙ (λ i. made t xs ys (sym e i) (f i) (k i))
    ∙ complex_is t u m n s r xs ys
