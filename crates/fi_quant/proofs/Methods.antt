-- The size that `rounds_up_of` chooses meets each method's row.
use Rattle.std.proofs.Common.{ℕ, subst, ◌+◌, ◌*◌, ◌^◌, ◌%◌, ◌≡◌, refl, sym, Bool, true, false, inl, inr, eqb, arith}
use Rattle.std.proofs.lemmas.Bool.{eqb-true, eqb-false}
use Rattle.std.specs.Prelude.{ℤ, pos, ◌≤ℤ◌, neg_ℤ, nat_abs}
use Rattle.std.proofs.lemmas.Int.{ints}
use Rattle.num_type.specs.Whole.{signed, is_below_zero}
use Rattle.num_type.specs.declared.methods.Rounding.{Rounding}
use Rattle.num_type.specs.declared.methods.Rounding.TheVariants.{Ceiling, Floor, Zero, Nearest, Round, Convergent}
use Rattle.fi_quant.specs.declared.rounding.Rest.{Rest}
use Rattle.fi_quant.specs.declared.rounding.Rest.TheVariants.{Nothing, BelowHalf, Half, AboveHalf}
use Rattle.fi_quant.specs.Split.{IsRest, IsSplit, rounds_up_of, step}
use Rattle.fi_quant.specs.Round.{IsFloor, IsCeiling, IsTowardZero, IsNearest, IsNearestAway, IsNearestEven, IsRounded}
use Rattle.fi_quant.proofs.Signs.{signed-parts}
use Rattle.fi_quant.proofs.Rows.{floor_pos, floor_neg, ceiling_pos, ceiling_neg, nearest_pos, nearest_neg, away_of, even_of}

-- a negative number has no size 0
sizes_apart : (m : ℕ) → pos 0 ≤ℤ neg_ℤ (pos m) → m ≡ 0
sizes_apart m h = omega (arith, ints)

pub ceiling_is : (s odd : Bool) (rest : Rest) (m p f r : ℕ) → m ≡ f * p + r → IsRest rest r p → IsCeiling (signed s m) p (signed s (step (rounds_up_of Ceiling s odd rest) f))
ceiling_is false odd Nothing m p f r e h = ceiling_pos m f p (omega arith) (omega arith)
ceiling_is false odd BelowHalf m p f r e h = ceiling_pos m (f + 1) p (omega arith) (omega arith)
ceiling_is false odd Half m p f r e h = ceiling_pos m (f + 1) p (omega arith) (omega arith)
ceiling_is false odd AboveHalf m p f r e h = ceiling_pos m (f + 1) p (omega arith) (omega arith)
ceiling_is true odd Nothing m p f r e h = ceiling_neg m f p (omega arith) (omega arith)
ceiling_is true odd BelowHalf m p f r e h = ceiling_neg m f p (omega arith) (omega arith)
ceiling_is true odd Half m p f r e h = ceiling_neg m f p (omega arith) (omega arith)
ceiling_is true odd AboveHalf m p f r e h = ceiling_neg m f p (omega arith) (omega arith)

pub floor_is : (s odd : Bool) (rest : Rest) (m p f r : ℕ) → m ≡ f * p + r → IsRest rest r p → IsFloor (signed s m) p (signed s (step (rounds_up_of Floor s odd rest) f))
floor_is false odd Nothing m p f r e h = floor_pos m f p (omega arith) (omega arith)
floor_is false odd BelowHalf m p f r e h = floor_pos m f p (omega arith) (omega arith)
floor_is false odd Half m p f r e h = floor_pos m f p (omega arith) (omega arith)
floor_is false odd AboveHalf m p f r e h = floor_pos m f p (omega arith) (omega arith)
floor_is true odd Nothing m p f r e h = floor_neg m f p (omega arith) (omega arith)
floor_is true odd BelowHalf m p f r e h = floor_neg m (f + 1) p (omega arith) (omega arith)
floor_is true odd Half m p f r e h = floor_neg m (f + 1) p (omega arith) (omega arith)
floor_is true odd AboveHalf m p f r e h = floor_neg m (f + 1) p (omega arith) (omega arith)

pub zero_is : (s odd : Bool) (rest : Rest) (m p f r : ℕ) → m ≡ f * p + r → IsRest rest r p → IsTowardZero (signed s m) p (signed s (step (rounds_up_of Zero s odd rest) f))
zero_is false odd Nothing m p f r e h = record { from_above = λ g. floor_pos m f p (omega arith) (omega arith); from_below = λ g. absurd (omega (arith, ints)) }
zero_is false odd BelowHalf m p f r e h = record { from_above = λ g. floor_pos m f p (omega arith) (omega arith); from_below = λ g. absurd (omega (arith, ints)) }
zero_is false odd Half m p f r e h = record { from_above = λ g. floor_pos m f p (omega arith) (omega arith); from_below = λ g. absurd (omega (arith, ints)) }
zero_is false odd AboveHalf m p f r e h = record { from_above = λ g. floor_pos m f p (omega arith) (omega arith); from_below = λ g. absurd (omega (arith, ints)) }
zero_is true odd Nothing m p f r e h = record { from_above = λ g. let z : m ≡ 0 = sizes_apart m g in floor_neg m f p (omega arith) (omega arith); from_below = λ g. ceiling_neg m f p (omega arith) (omega arith) }
zero_is true odd BelowHalf m p f r e h = record { from_above = λ g. let z : m ≡ 0 = sizes_apart m g in floor_neg m f p (omega arith) (omega arith); from_below = λ g. ceiling_neg m f p (omega arith) (omega arith) }
zero_is true odd Half m p f r e h = record { from_above = λ g. let z : m ≡ 0 = sizes_apart m g in floor_neg m f p (omega arith) (omega arith); from_below = λ g. ceiling_neg m f p (omega arith) (omega arith) }
zero_is true odd AboveHalf m p f r e h = record { from_above = λ g. let z : m ≡ 0 = sizes_apart m g in floor_neg m f p (omega arith) (omega arith); from_below = λ g. ceiling_neg m f p (omega arith) (omega arith) }

pub nearest_is : (s odd : Bool) (rest : Rest) (m p f r : ℕ) → m ≡ f * p + r → IsRest rest r p → IsNearest (signed s m) p (signed s (step (rounds_up_of Nearest s odd rest) f))
nearest_is false odd Nothing m p f r e h = nearest_pos m f p (omega arith) (omega arith)
nearest_is false odd BelowHalf m p f r e h = nearest_pos m f p (omega arith) (omega arith)
nearest_is false odd Half m p f r e h = nearest_pos m (f + 1) p (omega arith) (omega arith)
nearest_is false odd AboveHalf m p f r e h = nearest_pos m (f + 1) p (omega arith) (omega arith)
nearest_is true odd Nothing m p f r e h = nearest_neg m f p (omega arith) (omega arith)
nearest_is true odd BelowHalf m p f r e h = nearest_neg m f p (omega arith) (omega arith)
nearest_is true odd Half m p f r e h = nearest_neg m f p (omega arith) (omega arith)
nearest_is true odd AboveHalf m p f r e h = nearest_neg m (f + 1) p (omega arith) (omega arith)

pub round_is : (s odd : Bool) (rest : Rest) (m p f r : ℕ) → m ≡ f * p + r → IsRest rest r p → IsNearestAway (signed s m) p (signed s (step (rounds_up_of Round s odd rest) f))
round_is false odd Nothing m p f r e h = away_of false m f p (omega arith) (omega arith) (λ g. omega arith) (omega arith)
round_is false odd BelowHalf m p f r e h = away_of false m f p (omega arith) (omega arith) (λ g. omega arith) (omega arith)
round_is false odd Half m p f r e h = away_of false m (f + 1) p (omega arith) (omega arith) (λ g. omega arith) (omega arith)
round_is false odd AboveHalf m p f r e h = away_of false m (f + 1) p (omega arith) (omega arith) (λ g. omega arith) (omega arith)
round_is true odd Nothing m p f r e h = away_of true m f p (omega arith) (omega arith) (λ g. omega arith) (omega arith)
round_is true odd BelowHalf m p f r e h = away_of true m f p (omega arith) (omega arith) (λ g. omega arith) (omega arith)
round_is true odd Half m p f r e h = away_of true m (f + 1) p (omega arith) (omega arith) (λ g. omega arith) (omega arith)
round_is true odd AboveHalf m p f r e h = away_of true m (f + 1) p (omega arith) (omega arith) (λ g. omega arith) (omega arith)

pub convergent_is : (s odd : Bool) (rest : Rest) (m p f r : ℕ) → m ≡ f * p + r → IsRest rest r p → odd ≡ eqb (f % 2) 1 → IsNearestEven (signed s m) p (signed s (step (rounds_up_of Convergent s odd rest) f))
convergent_is false odd Nothing m p f r e h o = even_of false m f p (omega arith) (omega arith) (λ g. elim g [ inl g ↦ absurd (omega arith) | inr g ↦ absurd (omega arith) ])
convergent_is false odd BelowHalf m p f r e h o = even_of false m f p (omega arith) (omega arith) (λ g. elim g [ inl g ↦ absurd (omega arith) | inr g ↦ absurd (omega arith) ])
convergent_is false true Half m p f r e h o = even_of false m (f + 1) p (omega arith) (omega arith) (λ g. let w : f % 2 ≡ 1 = eqb-true (f % 2) 1 (sym o) in omega arith)
convergent_is false false Half m p f r e h o = even_of false m f p (omega arith) (omega arith) (λ g. let w : f % 2 ≡ 1 → ⊥ = eqb-false (f % 2) 1 (sym o) in omega arith)
convergent_is false odd AboveHalf m p f r e h o = even_of false m (f + 1) p (omega arith) (omega arith) (λ g. elim g [ inl g ↦ absurd (omega arith) | inr g ↦ absurd (omega arith) ])
convergent_is true odd Nothing m p f r e h o = even_of true m f p (omega arith) (omega arith) (λ g. elim g [ inl g ↦ absurd (omega arith) | inr g ↦ absurd (omega arith) ])
convergent_is true odd BelowHalf m p f r e h o = even_of true m f p (omega arith) (omega arith) (λ g. elim g [ inl g ↦ absurd (omega arith) | inr g ↦ absurd (omega arith) ])
convergent_is true true Half m p f r e h o = even_of true m (f + 1) p (omega arith) (omega arith) (λ g. let w : f % 2 ≡ 1 = eqb-true (f % 2) 1 (sym o) in omega arith)
convergent_is true false Half m p f r e h o = even_of true m f p (omega arith) (omega arith) (λ g. let w : f % 2 ≡ 1 → ⊥ = eqb-false (f % 2) 1 (sym o) in omega arith)
convergent_is true odd AboveHalf m p f r e h o = even_of true m (f + 1) p (omega arith) (omega arith) (λ g. elim g [ inl g ↦ absurd (omega arith) | inr g ↦ absurd (omega arith) ])

-- all methods
pub rounded_is : (method : Rounding) (s : Bool) (rest : Rest) (m k f : ℕ) → IsSplit m k f rest → IsRounded method (signed s m) k (signed s (step (rounds_up_of method s (eqb (f % 2) 1) rest) f))
rounded_is Ceiling s rest m k f h = ceiling_is s (eqb (f % 2) 1) rest m (2 ^ k) f h.left h.sum h.part
rounded_is Floor s rest m k f h = floor_is s (eqb (f % 2) 1) rest m (2 ^ k) f h.left h.sum h.part
rounded_is Zero s rest m k f h = zero_is s (eqb (f % 2) 1) rest m (2 ^ k) f h.left h.sum h.part
rounded_is Nearest s rest m k f h = nearest_is s (eqb (f % 2) 1) rest m (2 ^ k) f h.left h.sum h.part
rounded_is Round s rest m k f h = round_is s (eqb (f % 2) 1) rest m (2 ^ k) f h.left h.sum h.part
rounded_is Convergent s rest m k f h = convergent_is s (eqb (f % 2) 1) rest m (2 ^ k) f h.left h.sum h.part refl

-- the same for any number, with each part of it under a name of its own
pub round_from : (method : Rounding) (z : ℤ) (k m f : ℕ) (rest : Rest) (neg up : Bool) (size : ℕ) (q : ℤ) → m ≡ nat_abs z → IsSplit m k f rest → neg ≡ is_below_zero z → up ≡ rounds_up_of method neg (eqb (f % 2) 1) rest → size ≡ step up f → q ≡ signed neg size → IsRounded method z k q
round_from method z k m f rest neg up size q em h en eu es eq =
    let part : IsSplit (nat_abs z) k f rest = subst (λ (n : ℕ). IsSplit n k f rest) em h in
    let all : IsRounded method (signed (is_below_zero z) (nat_abs z)) k (signed (is_below_zero z) (step (rounds_up_of method (is_below_zero z) (eqb (f % 2) 1) rest) f)) = rounded_is method (is_below_zero z) rest (nat_abs z) k f part in
    let same : signed (is_below_zero z) (step (rounds_up_of method (is_below_zero z) (eqb (f % 2) 1) rest) f) ≡ q = cc in
    subst (λ (x : ℤ). IsRounded method z k x) same (subst (λ (x : ℤ). IsRounded method x k (signed (is_below_zero z) (step (rounds_up_of method (is_below_zero z) (eqb (f % 2) 1) rest) f))) (signed-parts z) all)
