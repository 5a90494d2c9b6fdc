-- Matrix products from their elements in order.
use Rattle.std.proofs.Common.{◌≡◌, ℕ, ◌+◌, ◌*◌, ◌/◌, ◌%◌, ◌<◌, List, [], ◌∷◌, ◌++◌, length, refl, sym, ap, subst, ◌∙◌, arith}
use Rattle.std.specs.Prelude.{false, ◌||◌, Option, Some, None, IfSome, is_some, pos, map, slice_index_or}
use Rattle.std.specs.Global.{Vec}
use Rattle.num_type.specs.Constants.{Exact, IsSame}
use Rattle.num_type.specs.Precision.{whole}
use Rattle.num_type.specs.View.{exact_of}
use Rattle.num_type.specs.declared.dyadic.Dyadic.{Dyadic}
use Rattle.num_type.proofs.Constants.{zero_same}
use Rattle.shape_rules.specs.declared.shape.Shape.{Shape}
use Rattle.shape_rules.specs.Shapes.{rows_of, columns_of, elements_of}
use Rattle.const_eval.specs.declared.complex.Complex as code_complex
use Rattle.const_eval.specs.declared.constant.Const.{Const}
use Rattle.const_eval.specs.Complex.{Complex, complex_of, AreSame}
use Rattle.const_eval.specs.Listed.{listed, real_of, imaginary_of}
use Rattle.const_eval.specs.Values.{part_at, imaginary_at, is_complex, number_at}
use Rattle.const_eval.proofs.Listed.{one_more}
use Rattle.const_fold.specs.MatrixProducts.{sum_to, IsExactSum, HasInner, IsMatrixProduct}
use Rattle.const_fold.proofs.Entries.{place_within, row_again, column_again}
use Rattle.const_fold.proofs.Reals.{sum_real, both_false}

-- what holds of each place holds of each row and column
pub each_entry : (P : ℕ → ℕ → Type 0) (rows columns n : ℕ) → n ≡ rows * columns → ((k : ℕ) → k < n → P (k % rows) (k / rows)) → (row column : ℕ) → row < rows → column < columns → P row column
each_entry P rows columns n e h row column l m =
    let k : ℕ = column * rows + row in
    let w : k < n = omega (arith, e, place_within row column rows columns l m) in
    subst (λ (i : ℕ). P i column) (row_again row column rows l) (subst (λ (i : ℕ). P (k % rows) i) (column_again row column rows l) (h k w))

number_is : (parts : Option (Vec Dyadic)) (ds : List Dyadic) (xs : List code_complex.Complex) (k : ℕ) (x : Complex) → map exact_of ds ≡ map real_of xs → IfSome parts (λ v. map exact_of v.items ≡ map imaginary_of xs) → (is_some parts ≡ false → IsSame (whole (pos 0)) x.im) → AreSame (listed xs k) x → AreSame (record { re = part_at ds k; im = imaginary_at parts k }) x
number_is None ds xs k x e f real same = record {
  re = subst (λ (zs : List Exact). IsSame (slice_index_or zs k (whole (pos 0))) x.re) (sym e) same.re;
  im = real refl;
}
number_is (Some v) ds xs k x e f real same = record {
  re = subst (λ (zs : List Exact). IsSame (slice_index_or zs k (whole (pos 0))) x.re) (sym e) same.re;
  im = subst (λ (zs : List Exact). IsSame (slice_index_or zs k (whole (pos 0))) x.im) (sym f) same.im;
}

pub multiplied : (a b c : Const) (s : Shape) (xs : List code_complex.Complex) (rows n : ℕ) → HasInner a b → rows_of s ≡ rows_of a.shape → columns_of s ≡ columns_of b.shape → rows ≡ rows_of s → n ≡ elements_of s → c.shape ≡ s → is_complex c ≡ (is_complex a || is_complex b) → map exact_of c.re.items ≡ map real_of xs → IfSome c.im (λ v. map exact_of v.items ≡ map imaginary_of xs) → ((k : ℕ) → k < n → IsExactSum a b (k % rows) (k / rows)) → ((k : ℕ) → k < n → AreSame (listed xs k) (sum_to a b (k % rows) (k / rows) (columns_of a.shape))) → IsMatrixProduct a b c
multiplied a b c s xs rows n inner same_rows same_columns is_rows count shape complex real imaginary steps numbers = record {
  inner = inner;
  rows = ap rows_of shape ∙ same_rows;
  columns = ap columns_of shape ∙ same_columns;
  complex = complex;
  steps = λ row column l m. each_entry (IsExactSum a b) rows (columns_of s) n places steps row column (omega (arith, l, is_rows, same_rows)) (omega (arith, m, same_columns));
  numbers = λ row column l m. subst (λ (i : ℕ). AreSame (number_at c (column * i + row)) (sum_to a b row column (columns_of a.shape))) (is_rows ∙ ap rows_of (sym shape)) (placed row column (omega (arith, l, is_rows, same_rows)) (omega (arith, m, same_columns)));
}
  where
    places : n ≡ rows * columns_of s
    places = count ∙ ap (λ (i : ℕ). i * columns_of s) (sym is_rows)

    none : (row column : ℕ) → is_some c.im ≡ false → IsSame (whole (pos 0)) (sum_to a b row column (columns_of a.shape)).im
    none row column e =
        let h = both_false (is_complex a) (is_complex b) (sym complex ∙ e) in
        zero_same (whole (pos 0)) (sum_to a b row column (columns_of a.shape)).im refl (sum_real a b row column (columns_of a.shape) h.0 h.1)

    placed : (row column : ℕ) → row < rows → column < columns_of s → AreSame (number_at c (column * rows + row)) (sum_to a b row column (columns_of a.shape))
    placed row column l m =
        let k : ℕ = column * rows + row in
        let w : k < n = omega (arith, places, place_within row column rows (columns_of s) l m) in
        let here : AreSame (listed xs k) (sum_to a b row column (columns_of a.shape)) =
        subst (λ (i : ℕ). AreSame (listed xs k) (sum_to a b i column (columns_of a.shape))) (row_again row column rows l)
        (subst (λ (i : ℕ). AreSame (listed xs k) (sum_to a b (k % rows) i (columns_of a.shape))) (column_again row column rows l) (numbers k w)) in
        number_is c.im c.re.items xs k (sum_to a b row column (columns_of a.shape)) real imaginary (λ e. none row column e) here

-- one number more
pub next_numbers : (a b : Const) (rows inner : ℕ) (xs ys : List code_complex.Complex) (x : code_complex.Complex) (k : ℕ) → ys ≡ xs ++ x ∷ [] → length xs ≡ k → ((j : ℕ) → j < k → AreSame (listed xs j) (sum_to a b (j % rows) (j / rows) inner)) → AreSame (complex_of x) (sum_to a b (k % rows) (k / rows) inner) → (j : ℕ) → j < k + 1 → AreSame (listed ys j) (sum_to a b (j % rows) (j / rows) inner)
next_numbers a b rows inner xs ys x k e n before last j l =
    subst (λ (zs : List code_complex.Complex). AreSame (listed zs j) (sum_to a b (j % rows) (j / rows) inner)) (sym e)
    (one_more (λ i c. AreSame c (sum_to a b (i % rows) (i / rows) inner)) xs x k n before last j l)
