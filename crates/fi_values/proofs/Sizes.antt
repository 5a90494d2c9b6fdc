-- The shapes of operations.
use Rattle.std.proofs.Common.{◌≡◌, refl, sym, ◌∙◌, ℕ, ◌*◌, ◌≤◌, true, arith}
use Rattle.std.specs.Prelude.{nat_eq}
use Rattle.std.proofs.lemmas.Bool.{and_parts, eqb-true, leb-true}
use Rattle.std.proofs.lemmas.Nat.{mul-le}
use Rattle.std.proofs.Math.Nat.{mul_comm}
use Rattle.fi_rules.specs.Types.{same_shape}
use Rattle.fi_rules.specs.Value.{Shape, count, scalar, is_scalar}
use Rattle.fi_values.specs.Shapes.{common, turned, is_small}
use Rattle.fi_values.specs.Sound.{IsSized}
use Rattle.fi_values.proofs.Holds.{Holds, holds, empty, holds_if}
use Rattle.fi_values.proofs.Lists.{Pairing, Both, First, Second}

pub scalar_sized : IsSized scalar
scalar_sized = record { some_rows = omega arith; some_columns = omega arith; small = omega arith }

pub is_scalar_count : (s : Shape) → is_scalar s ≡ true → count s ≡ 1
is_scalar_count s e =
    let p = and_parts (nat_eq s.rows 1) (nat_eq s.columns 1) e in
    let rows : s.rows ≡ 1 = eqb-true s.rows 1 p.0 in
    let columns : s.columns ≡ 1 = eqb-true s.columns 1 p.1 in
    λ i. rows i * columns i

same_count : (s t : Shape) → same_shape s t ≡ true → count s ≡ count t
same_count s t e =
    let p = and_parts (nat_eq s.rows t.rows) (nat_eq s.columns t.columns) e in
    let rows : s.rows ≡ t.rows = eqb-true s.rows t.rows p.0 in
    let columns : s.columns ≡ t.columns = eqb-true s.columns t.columns p.1 in
    λ i. rows i * columns i

-- the shape of an operation element by element, beside those of its operands
pub record IsCommon (s t r : Shape) : Type 0 where
  pub sized : IsSized r
  pub pairing : Pairing (count r) (count s) (count t)

pub common_shape : (s t : Shape) → IsSized s → IsSized t → Holds (IsCommon s t) (common s t)
unfolding common
common_shape s t h k =
    holds_if (IsCommon s t) (same_shape s t) _ _ (λ e. holds s (record { sized = h; pairing = Both refl (sym (same_count s t e)) }))
    (λ _. holds_if (IsCommon s t) (is_scalar s) _ _ (λ e. holds t (record { sized = k; pairing = First (is_scalar_count s e) refl }))
    (λ _. holds_if (IsCommon s t) (is_scalar t) _ _ (λ e. holds s (record { sized = h; pairing = Second refl (is_scalar_count t e) })) (λ _. empty)))

-- lists of these lengths
pub lengths : {n a b x y : ℕ} → Pairing n a b → x ≡ a → y ≡ b → Pairing n x y
lengths (Both p q) e f = Both (e ∙ p) (f ∙ q)
lengths (First p q) e f = First (e ∙ p) (f ∙ q)
lengths (Second p q) e f = Second (e ∙ p) (f ∙ q)

pub turned_sized : (s : Shape) → IsSized s → IsSized (turned s)
turned_sized s h = record { some_rows = h.some_columns; some_columns = h.some_rows; small = omega (arith, h.small, mul_comm s.rows s.columns) }

pub small_sized : (s : Shape) → 1 ≤ s.rows → 1 ≤ s.columns → is_small s ≡ true → IsSized s
small_sized s h k e = record { some_rows = h; some_columns = k; small = leb-true (count s) 4096 e }

-- no more rows and columns than a shape has
pub lesser_sized : (s t : Shape) → IsSized t → 1 ≤ s.rows → 1 ≤ s.columns → s.rows ≤ t.rows → s.columns ≤ t.columns → IsSized s
lesser_sized s t k r c e f = record { some_rows = r; some_columns = c; small = omega (arith, k.small, mul-le s.rows s.columns t.rows t.columns e f) }
