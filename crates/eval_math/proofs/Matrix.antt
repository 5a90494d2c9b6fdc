-- Matrix products of numbers.
use Rattle.std.proofs.Common.{◌≡◌, ◌∙◌, refl, sym, ap, ℕ, ◌+◌, ◌*◌, ◌<◌, ◌≤◌, Bool, true, false, List, [], ◌∷◌, length, map, drop, get_or}
use Rattle.std.specs.Prelude.{Option, Some, None, option_map, ◌||◌}
use Rattle.std.specs.Global.{Vec}
use Rattle.std.proofs.Math.ListN.{get_or-map}
use Rattle.std.proofs.lemmas.List.{drop_all, drop_more, length-map}
use Rattle.num_type.specs.Constants.{Exact}
use Rattle.num_type.specs.View.{exact_of}
use Rattle.num_type.specs.declared.dyadic.Dyadic.{Dyadic}
use Rattle.num_type.proofs.Constants.{not_true}
use Rattle.const_eval.specs.Complex.{Complex, complex_of}
use Rattle.const_eval.specs.declared.complex.Complex as code_complex
use Rattle.fi_rules.specs.declared.work.Work.TheVariants as work
use Rattle.fi_rules.specs.Options.{all_of, and_then}
use Rattle.fi_rules.specs.Pairs.{folded}
use Rattle.fi_rules.specs.Value.{Shape, Val, Number}
use Rattle.fi_values.specs.Arithmetic.{complex_folded, complex_value, zipped}
use Rattle.fi_values.specs.Elements.{picked}
use Rattle.fi_values.specs.Numbers.{nought, nought_parts}
use Rattle.fi_values.specs.Products.{added_from, complex_matrix, complex_nought, entries, matrix, product_shape, real_matrix}
use Rattle.fi_values.specs.Sums.{column_places, row_places}
use Rattle.fi_values.proofs.Lists.{length-below}
use Rattle.eval_value.specs.View.{number_view, shape_view}
use Rattle.eval_value.specs.declared.number_value.NumberValue.{NumberValue}
use Rattle.eval_math.specs.Matrices.{cells, complex_entry, real_entry}
use Rattle.eval_math.specs.Numbers.{complex_numbers, is_complex_number}
use Rattle.eval_math.proofs.Bound.{bound_none, bound_some}
use Rattle.eval_math.proofs.Dispatch.{number_of}
use Rattle.eval_math.proofs.Entries.{entries_are}

-- ---- by whether one is complex

abbrev imaginary_of : List Dyadic → Option (Vec Dyadic) → List Exact
imaginary_of ds None = nought_parts (map exact_of ds)
imaginary_of ds (Some v) = map exact_of v.items

abbrev complex_of_parts : List Dyadic → Option (Vec Dyadic) → List Complex
complex_of_parts ds o = zipped (map exact_of ds) (imaginary_of ds o)

abbrev has : Option (Vec Dyadic) → Bool
has None = false
has (Some v) = true

complex_case : (s r : Shape) (ds es : List Dyadic) (p q : Option (Vec Dyadic)) → (has p || has q) ≡ true → complex_matrix s (complex_of_parts ds p) r (complex_of_parts es q) ≡ matrix (number_of s ds p) (number_of r es q)
unfolding matrix
complex_case s r ds es None None h = absurd (not_true h)
complex_case s r ds es None (Some v) h = refl
complex_case s r ds es (Some u) None h = refl
complex_case s r ds es (Some u) (Some v) h = refl

pub complex_matrices_are : (x y : NumberValue) → (is_complex_number x || is_complex_number y) ≡ true → complex_matrix (shape_view x.shape) (complex_numbers x) (shape_view y.shape) (complex_numbers y) ≡ matrix (number_view x) (number_view y)
complex_matrices_are x y h = complex_case (shape_view x.shape) (shape_view y.shape) x.re.items y.re.items x.im y.im h

real_case : (s r : Shape) (ds es : List Dyadic) (p q : Option (Vec Dyadic)) → (has p || has q) ≡ false → real_matrix s (map exact_of ds) r (map exact_of es) ≡ matrix (number_of s ds p) (number_of r es q)
unfolding matrix
real_case s r ds es None None h = refl
real_case s r ds es None (Some v) h = absurd (not_true (sym h))
real_case s r ds es (Some u) None h = absurd (not_true (sym h))
real_case s r ds es (Some u) (Some v) h = absurd (not_true (sym h))

pub real_matrices_are : (x y : NumberValue) → (is_complex_number x || is_complex_number y) ≡ false → real_matrix (shape_view x.shape) (map exact_of x.re.items) (shape_view y.shape) (map exact_of y.re.items) ≡ matrix (number_view x) (number_view y)
real_matrices_are x y h = real_case (shape_view x.shape) (shape_view y.shape) x.re.items y.re.items x.im y.im h

-- ---- products added up

grouped : {A B C : Type 0} (o : Option A) (f : A → Option B) (g : B → Option C) → and_then o (λ z. and_then (f z) g) ≡ and_then (and_then o f) g
unfolding and_then
grouped None f g = refl
grouped (Some x) f g = refl

pub total_next : {X E : Type 0} (view : X → E) (plus times : E → E → Option E) (xs ys : List X) (k : ℕ) (x y sum more : X) (whole : Option E) → k < length xs → k < length ys → x ≡ get_or xs k x → y ≡ get_or ys k y → Some (view more) ≡ and_then (times (view x) (view y)) (λ z. plus (view sum) z) → added_from plus times (view sum) (map view (drop k xs)) (map view (drop k ys)) ≡ whole → added_from plus times (view more) (map view (drop (k + 1) xs)) (map view (drop (k + 1) ys)) ≡ whole
total_next {E = E} view plus times xs ys k x y sum more whole l m e f is h =
    let d : drop k xs ≡ x ∷ drop (k + 1) xs = drop_more xs k x l ∙ ap (λ w. w ∷ drop (k + 1) xs) (sym e) in
    let g : drop k ys ≡ y ∷ drop (k + 1) ys = drop_more ys k y m ∙ ap (λ w. w ∷ drop (k + 1) ys) (sym f) in
    let rest = λ (s : E). added_from plus times s (map view (drop (k + 1) xs)) (map view (drop (k + 1) ys)) in
    bound_some (and_then (times (view x) (view y)) (λ z. plus (view sum) z)) rest (view more) (rest (view more)) is refl
    ∙ sym (grouped (times (view x) (view y)) (λ z. plus (view sum) z) rest)
    ∙ (λ i. added_from plus times (view sum) (map view (sym d i)) (map view (sym g i)))
    ∙ h

pub total_stopped : {X E : Type 0} (view : X → E) (plus times : E → E → Option E) (xs ys : List X) (k : ℕ) (x y sum : X) (whole : Option E) → k < length xs → k < length ys → x ≡ get_or xs k x → y ≡ get_or ys k y → None ≡ and_then (times (view x) (view y)) (λ z. plus (view sum) z) → added_from plus times (view sum) (map view (drop k xs)) (map view (drop k ys)) ≡ whole → None ≡ whole
total_stopped {E = E} view plus times xs ys k x y sum whole l m e f is h =
    let d : drop k xs ≡ x ∷ drop (k + 1) xs = drop_more xs k x l ∙ ap (λ w. w ∷ drop (k + 1) xs) (sym e) in
    let g : drop k ys ≡ y ∷ drop (k + 1) ys = drop_more ys k y m ∙ ap (λ w. w ∷ drop (k + 1) ys) (sym f) in
    let rest = λ (s : E). added_from plus times s (map view (drop (k + 1) xs)) (map view (drop (k + 1) ys)) in
    bound_none (and_then (times (view x) (view y)) (λ z. plus (view sum) z)) rest is
    ∙ sym (grouped (times (view x) (view y)) (λ z. plus (view sum) z) rest)
    ∙ (λ i. added_from plus times (view sum) (map view (sym d i)) (map view (sym g i)))
    ∙ h

pub total_ended : {X E : Type 0} (view : X → E) (plus times : E → E → Option E) (xs ys : List X) (k : ℕ) (sum : X) (whole : Option E) → length xs ≤ k → added_from plus times (view sum) (map view (drop k xs)) (map view (drop k ys)) ≡ whole → Some (view sum) ≡ whole
total_ended view plus times xs ys k sum whole l h = ap (λ w. added_from plus times (view sum) (map view w) (map view (drop k ys))) (sym (drop_all k xs l)) ∙ h

-- ---- elements at places

pub picked_views : {X E : Type 0} (view : X → E) (d : X) (e : E) (xs : List X) (ks : List ℕ) → view d ≡ e → map view (picked d xs ks) ≡ picked e (map view xs) ks
picked_views view d e xs [] h = refl
picked_views view d e xs (k ∷ ks) h =
    let one : view (get_or xs k d) ≡ get_or (map view xs) k e = sym (get_or-map view xs k d) ∙ ap (get_or (map view xs) k) h in
    λ i. one i ∷ picked_views view d e xs ks h i

pub row_long : (s : Shape) (i : ℕ) → length (row_places s i) ≡ s.columns
row_long s i = length-map _ (λ j. i + s.rows * j) ∙ length-below s.columns

pub column_long : (s : Shape) (j : ℕ) → length (column_places s j) ≡ s.rows
column_long s j = length-map _ (λ i. i + s.rows * j) ∙ length-below s.rows

-- the total of elements at places is that of what they stand for
pub total_at : {X E : Type 0} (view : X → E) (plus times : E → E → Option E) (d q : X) (e : E) (xs ys us vs : List X) (is js : List ℕ) (r : Option E) → view d ≡ e → view q ≡ e → us ≡ picked d xs is → vs ≡ picked q ys js → r ≡ added_from plus times e (map view us) (map view vs) → r ≡ added_from plus times e (picked e (map view xs) is) (picked e (map view ys) js)
total_at view plus times d q e xs ys us vs is js r h k f g t =
    t
    ∙ (λ i. added_from plus times e (map view (f i)) (map view (g i)))
    ∙ (λ i. added_from plus times e (picked_views view d e xs is h i) (picked_views view q e ys js k i))

-- ---- the whole product

pub no_real_matrix : (s : Shape) (xs : List Exact) (t : Shape) (ys : List Exact) → None ≡ product_shape s t → None ≡ real_matrix s xs t ys
no_real_matrix s xs t ys e = bound_none _ _ e

pub real_matrix_stopped : (s : Shape) (xs : List Exact) (t : Shape) (ys : List Exact) (r : Shape) (m n : ℕ) (ps : List (ℕ × ℕ)) → m ≡ s.rows → n ≡ t.columns → ps ≡ cells m n → Some r ≡ product_shape s t → None ≡ all_of (map (real_entry s xs t ys) ps) → None ≡ real_matrix s xs t ys
real_matrix_stopped s xs t ys r m n ps d e c h f =
    bound_some _ _ r None h (bound_none (all_of (entries s t (λ is js. added_from (folded work.Sum) (folded work.Product) nought (picked nought xs is) (picked nought ys js)))) (λ zs. Some (Number r zs)) (f ∙ ap (λ w. all_of (map (real_entry s xs t ys) w)) c ∙ ap all_of (entries_are s t (λ is js. added_from (folded work.Sum) (folded work.Product) nought (picked nought xs is) (picked nought ys js)) m n d e)))

pub real_matrix_made : (s : Shape) (xs : List Exact) (t : Shape) (ys : List Exact) (r : Shape) (m n : ℕ) (ps : List (ℕ × ℕ)) (cs : List Exact) → m ≡ s.rows → n ≡ t.columns → ps ≡ cells m n → Some r ≡ product_shape s t → Some cs ≡ all_of (map (real_entry s xs t ys) ps) → Some (Number r cs) ≡ real_matrix s xs t ys
real_matrix_made s xs t ys r m n ps cs d e c h f =
    bound_some _ _ r (Some (Number r cs)) h (bound_some (all_of (entries s t (λ is js. added_from (folded work.Sum) (folded work.Product) nought (picked nought xs is) (picked nought ys js)))) (λ zs. Some (Number r zs)) cs (Some (Number r cs)) (f ∙ ap (λ w. all_of (map (real_entry s xs t ys) w)) c ∙ ap all_of (entries_are s t (λ is js. added_from (folded work.Sum) (folded work.Product) nought (picked nought xs is) (picked nought ys js)) m n d e)) refl)

pub no_complex_matrix : (s : Shape) (xs : List Complex) (t : Shape) (ys : List Complex) → None ≡ product_shape s t → None ≡ complex_matrix s xs t ys
no_complex_matrix s xs t ys e = bound_none _ _ e

pub complex_matrix_stopped : (s : Shape) (xs : List Complex) (t : Shape) (ys : List Complex) (r : Shape) (m n : ℕ) (ps : List (ℕ × ℕ)) → m ≡ s.rows → n ≡ t.columns → ps ≡ cells m n → Some r ≡ product_shape s t → None ≡ all_of (map (complex_entry s xs t ys) ps) → None ≡ complex_matrix s xs t ys
complex_matrix_stopped s xs t ys r m n ps d e c h f =
    bound_some _ _ r None h (bound_none (all_of (entries s t (λ is js. added_from (complex_folded work.Sum) (complex_folded work.Product) complex_nought (picked complex_nought xs is) (picked complex_nought ys js)))) (λ zs. Some (complex_value r zs)) (f ∙ ap (λ w. all_of (map (complex_entry s xs t ys) w)) c ∙ ap all_of (entries_are s t (λ is js. added_from (complex_folded work.Sum) (complex_folded work.Product) complex_nought (picked complex_nought xs is) (picked complex_nought ys js)) m n d e)))

pub complex_matrix_made : (s : Shape) (xs : List Complex) (t : Shape) (ys : List Complex) (r : Shape) (m n : ℕ) (ps : List (ℕ × ℕ)) (cs : List Complex) → m ≡ s.rows → n ≡ t.columns → ps ≡ cells m n → Some r ≡ product_shape s t → Some cs ≡ all_of (map (complex_entry s xs t ys) ps) → Some (complex_value r cs) ≡ complex_matrix s xs t ys
complex_matrix_made s xs t ys r m n ps cs d e c h f =
    bound_some _ _ r (Some (complex_value r cs)) h (bound_some (all_of (entries s t (λ is js. added_from (complex_folded work.Sum) (complex_folded work.Product) complex_nought (picked complex_nought xs is) (picked complex_nought ys js)))) (λ zs. Some (complex_value r zs)) cs (Some (complex_value r cs)) (f ∙ ap (λ w. all_of (map (complex_entry s xs t ys) w)) c ∙ ap all_of (entries_are s t (λ is js. added_from (complex_folded work.Sum) (complex_folded work.Product) complex_nought (picked complex_nought xs is) (picked complex_nought ys js)) m n d e)) refl)
