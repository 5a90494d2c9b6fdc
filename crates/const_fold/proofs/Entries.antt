-- Rows, columns and places of arrays.
use Rattle.std.proofs.Common.{◌≡◌, ℕ, zero, suc, ◌+◌, ◌*◌, ◌/◌, ◌%◌, ◌<◌, ◌≤◌, ◌⊎◌, inl, inr, ⊎_elim, arith}
use Rattle.std.proofs.lemmas.Nat.{mul-le, mod-mul-add, div-mul-add}
use Rattle.std.proofs.Math.Nat.{div-lt_iff_lt-mul, mod-lt}
use Rattle.shape_rules.specs.Shapes.{IsShape, element_limit}

pub some_row : (k rows columns : ℕ) → k < rows * columns → 0 < rows
some_row k zero columns l = let e : 0 * columns ≡ 0 = omega arith in absurd (omega (arith, l, e))
some_row k (suc n) columns l = omega arith

pub row_within : (k rows columns : ℕ) → k < rows * columns → k % rows < rows
row_within k rows columns l = mod-lt k (some_row k rows columns l)

pub column_within : (k rows columns : ℕ) → k < rows * columns → k / rows < columns
column_within k rows columns l =
    let m : k < columns * rows = omega (arith, l) in
    (div-lt_iff_lt-mul {k = rows} {x = k} {y = columns} (some_row k rows columns l)).1 m

pub place_within : (row column rows columns : ℕ) → row < rows → column < columns → column * rows + row < rows * columns
place_within row column rows columns l m =
    let h : (column + 1) * rows ≤ columns * rows = mul-le (column + 1) rows columns rows (omega (arith, m)) (omega arith) in
    omega (arith, h, l)

pub row_again : (row column rows : ℕ) → row < rows → (column * rows + row) % rows ≡ row
row_again row column rows l = mod-mul-add column rows row l

pub column_again : (row column rows : ℕ) → row < rows → (column * rows + row) / rows ≡ column
column_again row column rows l = div-mul-add column rows row l

-- what is no shape for want of room
pub many_elements : (rows columns : ℕ) → 1 ≤ rows → 1 ≤ columns → (IsShape rows columns → ⊥) → element_limit < rows * columns
many_elements rows columns r q none = by (either (rows * columns) element_limit)
  where
    either : (a b : ℕ) → (a ≤ b) ⊎ (b < a)
    either zero b = inl (omega arith)
    either (suc a) zero = inr (omega arith)
    either (suc a) (suc b) = ⊎_elim (λ (h : a ≤ b). inl (omega (arith, h))) (λ (h : b < a). inr (omega (arith, h))) (either a b)

    by : (rows * columns ≤ element_limit) ⊎ (element_limit < rows * columns) → element_limit < rows * columns
    by (inl few) = absurd (none (record { a_row = r; a_column = q; few = few }))
    by (inr many) = many
