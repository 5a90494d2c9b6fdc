-- The elements of matrix products by rows and columns.
use Rattle.std.proofs.Common.{◌≡◌, ◌↔◌, ◌∙◌, refl, sym, ap, subst, ℕ, zero, suc, ◌+◌, ◌-◌, ◌*◌, ◌<◌, ◌≤◌, Bool, true, false, List, [], ◌∷◌, ◌++◌, length, map, get_or, arith}
use Rattle.std.specs.Prelude.{Option, Some, None, IsSome, IfSome, flat_map, nat_eq, nat_le, option_map}
use Rattle.std.specs.List.{All}
use Rattle.std.proofs.lemmas.Bool.{eq-eqb, eqb-true, le-leb, leb-true}
use Rattle.std.proofs.lemmas.List.{append-nil, append_assoc, length-map, map-append}
use Rattle.std.proofs.lemmas.List.Elements.{All-append, All-cons, All-map, All-nil}
use Rattle.std.proofs.Math.Nat.{mul_comm}
use Rattle.num_type.proofs.Constants.{not_true}
use Rattle.shape_rules.specs.Shapes.{IsShape, columns_of, rows_of}
use Rattle.shape_rules.specs.declared.shape.Shape as code_shape
use Rattle.fi_rules.specs.Options.{and_then, where_so}
use Rattle.fi_rules.specs.Value.{Shape}
use Rattle.fi_values.specs.Elements.{below, count_from}
use Rattle.fi_values.specs.Products.{entries, product_shape}
use Rattle.fi_values.specs.Shapes.{is_small}
use Rattle.fi_values.specs.Sums.{column_places, row_places}
use Rattle.fi_values.proofs.Lists.{length-below, length-flat}
use Rattle.eval_value.specs.View.{shape_view}
use Rattle.eval_math.specs.Matrices.{IsCell, cells}

-- ---- shapes

from_true : (q : Bool) → (q ≡ true → ⊥) → q ≡ false
from_true true h = absurd (h refl)
from_true false h = refl

small_shape : (r : Option code_shape.Shape) (m n : ℕ) → 1 ≤ m → 1 ≤ n → (IsSome r ↔ IsShape m n) → IfSome r (λ s. rows_of s ≡ m) → IfSome r (λ s. columns_of s ≡ n) → option_map shape_view r ≡ where_so (nat_le (m * n) 4096) (record { rows = m; columns = n })
unfolding where_so
small_shape (Some s) m n a b h e f =
    let few : m * n ≤ 4096 = (h.0 refl).few in
    let fits : nat_le (m * n) 4096 ≡ true = le-leb (m * n) 4096 few in
    (λ i. Some (record { rows = e i; columns = f i })) ∙ ap (λ (q : Bool). where_so q (record { rows = m; columns = n })) (sym fits)
small_shape None m n a b h e f =
    let big : nat_le (m * n) 4096 ≡ false = from_true (nat_le (m * n) 4096) (λ t. not_true (h.1 (record { a_row = a; a_column = b; few = leb-true (m * n) 4096 t }))) in
    ap (λ (q : Bool). where_so q (record { rows = m; columns = n })) (sym big)

pub product_shape_is : (s t : Shape) (r : Option Shape) → s.columns ≡ t.rows → r ≡ where_so (nat_le (s.rows * t.columns) 4096) (record { rows = s.rows; columns = t.columns }) → r ≡ product_shape s t
unfolding product_shape and_then where_so
product_shape_is s t r e h =
    h ∙ ap (λ (q : Bool). and_then (where_so q (record { rows = s.rows; columns = t.columns })) (λ (x : Shape). where_so (is_small x) x)) (sym (eq-eqb s.columns t.rows e))

pub shape_made : (r : Option code_shape.Shape) (s t : Shape) (m n : ℕ) → m ≡ s.rows → n ≡ t.columns → 1 ≤ m → 1 ≤ n → s.columns ≡ t.rows → (IsSome r ↔ IsShape m n) → IfSome r (λ x. rows_of x ≡ m) → IfSome r (λ x. columns_of x ≡ n) → option_map shape_view r ≡ product_shape s t
shape_made r s t m n d e a b i h f g =
    product_shape_is s t (option_map shape_view r) i
    (small_shape r m n a b h f g ∙ (λ k. where_so (nat_le (d k * e k) 4096) (record { rows = d k; columns = e k })))

pub no_product_shape : (s t : Shape) → (s.columns ≡ t.rows → ⊥) → None ≡ product_shape s t
unfolding product_shape and_then where_so
no_product_shape s t h =
    ap (λ (q : Bool). and_then (where_so q (record { rows = s.rows; columns = t.columns })) (λ (x : Shape). where_so (is_small x) x))
    (sym (from_true (nat_eq s.columns t.rows) (λ e. h (eqb-true s.columns t.rows e))))

-- ---- rows and columns

pub length_cells : (m n : ℕ) → length (cells m n) ≡ m * n
length_cells m n =
    length-flat (λ j. map (λ i. (i, j)) (below m)) m (λ j. length-map (below m) (λ i. (i, j)) ∙ length-below m) (below n)
    ∙ ap (λ (k : ℕ). k * m) (length-below n)
    ∙ mul_comm n m

-- the numbers from k on are below its end
counted_below : (k n e : ℕ) → k + n ≤ e → All (λ i. i < e) (count_from k n)
counted_below k zero e l = All-nil (λ i. i < e)
counted_below k (suc n) e l = All-cons (λ i. i < e) k (count_from (suc k) n) (omega (arith, l)) (counted_below (suc k) n e (omega (arith, l)))

column_inside : (m n j : ℕ) → j < n → (is : List ℕ) → All (λ i. i < m) is → All (IsCell m n) (map (λ i. (i, j)) is)
column_inside m n j l is h = All-map (IsCell m n) (λ i. (i, j)) is (λ k d b. record { row = h k d b; column = l })

columns_inside : (m n : ℕ) (js : List ℕ) → All (λ j. j < n) js → All (IsCell m n) (flat_map (λ j. map (λ i. (i, j)) (below m)) js)
columns_inside m n [] h = All-nil (IsCell m n)
columns_inside m n (j ∷ js) h =
    All-append (IsCell m n) (map (λ i. (i, j)) (below m)) (flat_map (λ k. map (λ i. (i, k)) (below m)) js)
    (column_inside m n j (h 0 j (omega arith)) (below m) (counted_below 0 m m (omega arith)))
    (columns_inside m n js (λ k d l. h (suc k) d (omega (arith, l))))

pub cells_inside : (m n : ℕ) → All (IsCell m n) (cells m n)
cells_inside m n = columns_inside m n (below n) (counted_below 0 n n (omega arith))

-- one more column
counted_on : (j n : ℕ) → j < n → count_from j (n - j) ≡ j ∷ count_from (j + 1) (n - (j + 1))
counted_on j n l =
    let e : n - j ≡ suc (n - (j + 1)) = omega arith in
    let s : suc j ≡ j + 1 = omega arith in
    ap (count_from j) e ∙ ap (λ (k : ℕ). j ∷ count_from k (n - (j + 1))) s

pub cells_begun : {A : Type 0} (F : ℕ → List A) (n : ℕ) (built : List A) → built ≡ [] → built ++ flat_map F (count_from 0 (n - 0)) ≡ flat_map F (below n)
cells_begun F n built e = let z : n - 0 ≡ n = omega arith in (λ i. e i ++ flat_map F (count_from 0 (z i)))

pub cells_next : {A : Type 0} (F : ℕ → List A) (j n : ℕ) (built more column whole : List A) → j < n → column ≡ F j → more ≡ built ++ column → built ++ flat_map F (count_from j (n - j)) ≡ whole → more ++ flat_map F (count_from (j + 1) (n - (j + 1))) ≡ whole
cells_next F j n built more column whole l c m h =
    ap (λ w. w ++ flat_map F (count_from (j + 1) (n - (j + 1)))) (m ∙ ap (λ w. built ++ w) c)
    ∙ append_assoc built (F j) (flat_map F (count_from (j + 1) (n - (j + 1))))
    ∙ ap (λ w. built ++ flat_map F w) (sym (counted_on j n l))
    ∙ h

pub cells_end : {A : Type 0} (F : ℕ → List A) (j n : ℕ) (built whole : List A) → n ≤ j → built ++ flat_map F (count_from j (n - j)) ≡ whole → built ≡ whole
cells_end F j n built whole l h =
    let e : n - j ≡ 0 = omega arith in
    sym (append-nil built) ∙ ap (λ k. built ++ flat_map F (count_from j k)) (sym e) ∙ h

-- ---- what is computed of each

mapped_over : {X A B : Type 0} (f : A → B) (g : X → List A) (h : X → List B) → ((x : X) → map f (g x) ≡ h x) → (xs : List X) → map f (flat_map g xs) ≡ flat_map h xs
mapped_over f g h e [] = refl
mapped_over f g h e (x ∷ xs) = map-append f (g x) (flat_map g xs) ∙ (λ i. e x i ++ mapped_over f g h e xs i)

column_mapped : {B : Type 0} (f : ℕ × ℕ → B) (j : ℕ) (is : List ℕ) → map f (map (λ i. (i, j)) is) ≡ map (λ i. f (i, j)) is
column_mapped f j [] = refl
column_mapped f j (i ∷ is) = ap (λ w. f (i, j) ∷ w) (column_mapped f j is)

pub entries_are : {A : Type 0} (s t : Shape) (f : List ℕ → List ℕ → A) (m n : ℕ) → m ≡ s.rows → n ≡ t.columns → map (λ (p : ℕ × ℕ). f (row_places s p.0) (column_places t p.1)) (cells m n) ≡ entries s t f
entries_are s t f m n d e =
    (λ i. map (λ (p : ℕ × ℕ). f (row_places s p.0) (column_places t p.1)) (cells (d i) (e i)))
    ∙ mapped_over (λ (p : ℕ × ℕ). f (row_places s p.0) (column_places t p.1)) (λ j. map (λ i. (i, j)) (below s.rows)) (λ j. map (λ i. f (row_places s i) (column_places t j)) (below s.rows))
    (λ j. column_mapped (λ (p : ℕ × ℕ). f (row_places s p.0) (column_places t p.1)) j (below s.rows)) (below t.columns)

-- ---- cells of the same rows and columns

pub cells_moved : (m n k l : ℕ) (ps qs : List (ℕ × ℕ)) → m ≡ k → n ≡ l → qs ≡ ps → All (IsCell m n) ps → All (IsCell k l) qs
cells_moved m n k l ps qs d e s h = subst (λ (x : ℕ). All (IsCell x l) qs) d (subst (λ (y : ℕ). All (IsCell m y) qs) e (subst (λ (w : List (ℕ × ℕ)). All (IsCell m n) w) (sym s) h))

pub cell_at : (m n : ℕ) (ps : List (ℕ × ℕ)) (k : ℕ) (p : ℕ × ℕ) → k < length ps → p ≡ get_or ps k p → All (IsCell m n) ps → IsCell m n p
cell_at m n ps k p l e h = subst (IsCell m n) (sym e) (h k p l)
