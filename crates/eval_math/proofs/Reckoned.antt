-- Exact arithmetic on numbers.
use Rattle.std.proofs.Common.{◌≡◌, ◌∙◌, refl, sym, ap, ℕ, pos, ◌+◌, ◌<◌, Bool, true, false, List, [], ◌∷◌, ◌++◌, drop, length, map}
use Rattle.std.specs.Prelude.{Option, Some, None, option_map, ◌||◌}
use Rattle.std.specs.Global.{Vec}
use Rattle.std.proofs.lemmas.List.{append_assoc, drop_more, map_push}
use Rattle.num_type.specs.Constants.{Exact}
use Rattle.num_type.specs.View.{exact_of}
use Rattle.num_type.specs.declared.dyadic.Dyadic.{Dyadic}
use Rattle.num_type.proofs.Constants.{not_true}
use Rattle.const_eval.specs.Complex.{Complex, complex_of}
use Rattle.const_eval.specs.declared.complex.Complex as code_complex
use Rattle.fi_rules.specs.declared.work.Work.{Work}
use Rattle.fi_rules.specs.Options.{all_of, and_then}
use Rattle.fi_rules.specs.Pairs.{folded}
use Rattle.fi_rules.specs.Value.{Shape, Val, Number, ComplexNumber}
use Rattle.fi_eval.specs.Operators.{pairwise}
use Rattle.fi_values.specs.Arithmetic.{arithmetic, complex_folded, complex_value, complexes_folded, reals_folded, zipped}
use Rattle.fi_values.specs.Numbers.{nought, nought_parts}
use Rattle.fi_values.specs.Shapes.{common}
use Rattle.eval_value.specs.View.{number_view, shape_view}
use Rattle.eval_value.specs.declared.number_value.NumberValue.{NumberValue}
use Rattle.eval_math.specs.Numbers.{complex_numbers, imaginary_exacts, is_complex_number}
use Rattle.eval_math.specs.View.{paired}
use Rattle.eval_math.proofs.Bound.{bound_none, bound_some, twice_mapped}
use Rattle.eval_math.proofs.Dispatch.{number_of}
use Rattle.eval_math.proofs.Pairing.{fused, over}

-- ---- by whether one is complex

abbrev imaginary_of : List Dyadic → Option (Vec Dyadic) → List Exact
imaginary_of ds None = nought_parts (map exact_of ds)
imaginary_of ds (Some v) = map exact_of v.items

abbrev complex_of_parts : List Dyadic → Option (Vec Dyadic) → List Complex
complex_of_parts ds o = zipped (map exact_of ds) (imaginary_of ds o)

abbrev has : Option (Vec Dyadic) → Bool
has None = false
has (Some v) = true

complex_case : (w : Work) (s r : Shape) (ds es : List Dyadic) (p q : Option (Vec Dyadic)) → (has p || has q) ≡ true → complexes_folded w s (complex_of_parts ds p) r (complex_of_parts es q) ≡ arithmetic w (number_of s ds p) (number_of r es q)
unfolding arithmetic
complex_case w s r ds es None None h = absurd (not_true h)
complex_case w s r ds es None (Some v) h = refl
complex_case w s r ds es (Some u) None h = refl
complex_case w s r ds es (Some u) (Some v) h = refl

pub complexes_are : (w : Work) (x y : NumberValue) → (is_complex_number x || is_complex_number y) ≡ true → complexes_folded w (shape_view x.shape) (complex_numbers x) (shape_view y.shape) (complex_numbers y) ≡ arithmetic w (number_view x) (number_view y)
complexes_are w x y h = complex_case w (shape_view x.shape) (shape_view y.shape) x.re.items y.re.items x.im y.im h

real_case : (w : Work) (s r : Shape) (ds es : List Dyadic) (p q : Option (Vec Dyadic)) → (has p || has q) ≡ false → reals_folded w s (map exact_of ds) r (map exact_of es) ≡ arithmetic w (number_of s ds p) (number_of r es q)
unfolding arithmetic
real_case w s r ds es None None h = refl
real_case w s r ds es None (Some v) h = absurd (not_true (sym h))
real_case w s r ds es (Some u) None h = absurd (not_true (sym h))
real_case w s r ds es (Some u) (Some v) h = absurd (not_true (sym h))

pub reals_are : (w : Work) (x y : NumberValue) → (is_complex_number x || is_complex_number y) ≡ false → reals_folded w (shape_view x.shape) (map exact_of x.re.items) (shape_view y.shape) (map exact_of y.re.items) ≡ arithmetic w (number_view x) (number_view y)
reals_are w x y h = real_case w (shape_view x.shape) (shape_view y.shape) x.re.items y.re.items x.im y.im h

-- ---- real numbers

pub reals_apart : (w : Work) (s t : Shape) (xs ys : List Exact) → None ≡ common s t → None ≡ reals_folded w s xs t ys
reals_apart w s t xs ys e = bound_none _ _ e

reals_met : (w : Work) (ps : List (Dyadic × Dyadic)) (ds es : List Dyadic) → ps ≡ paired ds es → map (λ (p : Dyadic × Dyadic). folded w (exact_of p.0) (exact_of p.1)) ps ≡ pairwise (folded w) (map exact_of ds) (map exact_of es)
reals_met w ps ds es e = ap (map (λ (p : Dyadic × Dyadic). folded w (exact_of p.0) (exact_of p.1))) e ∙ over (folded w) exact_of exact_of ds es

pub reals_stopped : (w : Work) (s t r : Shape) (ds es : List Dyadic) (ps : List (Dyadic × Dyadic)) → Some r ≡ common s t → ps ≡ paired ds es → None ≡ all_of (map (λ (p : Dyadic × Dyadic). folded w (exact_of p.0) (exact_of p.1)) ps) → None ≡ reals_folded w s (map exact_of ds) t (map exact_of es)
reals_stopped w s t r ds es ps h e f = bound_some _ _ r None h (bound_none _ _ (f ∙ ap all_of (reals_met w ps ds es e)))

pub reals_made : (w : Work) (s t r : Shape) (ds es : List Dyadic) (ps : List (Dyadic × Dyadic)) (zs : List Exact) → Some r ≡ common s t → ps ≡ paired ds es → Some zs ≡ all_of (map (λ (p : Dyadic × Dyadic). folded w (exact_of p.0) (exact_of p.1)) ps) → Some (Number r zs) ≡ reals_folded w s (map exact_of ds) t (map exact_of es)
reals_made w s t r ds es ps zs h e f = bound_some _ _ r (Some (Number r zs)) h (bound_some _ _ zs (Some (Number r zs)) (f ∙ ap all_of (reals_met w ps ds es e)) refl)

-- ---- complex numbers

pub complexes_apart : (w : Work) (s t : Shape) (xs ys : List Complex) → None ≡ common s t → None ≡ complexes_folded w s xs t ys
complexes_apart w s t xs ys e = bound_none _ _ e

complexes_met : (w : Work) (ps : List (code_complex.Complex × code_complex.Complex)) (xs ys : List Complex) → map (λ (p : code_complex.Complex × code_complex.Complex). (complex_of p.0, complex_of p.1)) ps ≡ paired xs ys → map (λ (p : code_complex.Complex × code_complex.Complex). complex_folded w (complex_of p.0) (complex_of p.1)) ps ≡ pairwise (complex_folded w) xs ys
complexes_met w ps xs ys e =
    sym (twice_mapped (λ (q : Complex × Complex). complex_folded w q.0 q.1) (λ (p : code_complex.Complex × code_complex.Complex). (complex_of p.0, complex_of p.1)) ps)
    ∙ ap (map (λ (q : Complex × Complex). complex_folded w q.0 q.1)) e
    ∙ fused (complex_folded w) xs ys

pub complexes_stopped : (w : Work) (s t r : Shape) (xs ys : List Complex) (ps : List (code_complex.Complex × code_complex.Complex)) → Some r ≡ common s t → map (λ (p : code_complex.Complex × code_complex.Complex). (complex_of p.0, complex_of p.1)) ps ≡ paired xs ys → None ≡ all_of (map (λ (p : code_complex.Complex × code_complex.Complex). complex_folded w (complex_of p.0) (complex_of p.1)) ps) → None ≡ complexes_folded w s xs t ys
complexes_stopped w s t r xs ys ps h e f = bound_some _ _ r None h (bound_none _ _ (f ∙ ap all_of (complexes_met w ps xs ys e)))

pub complexes_made : (w : Work) (s t r : Shape) (xs ys : List Complex) (ps : List (code_complex.Complex × code_complex.Complex)) (zs : List Complex) → Some r ≡ common s t → map (λ (p : code_complex.Complex × code_complex.Complex). (complex_of p.0, complex_of p.1)) ps ≡ paired xs ys → Some zs ≡ all_of (map (λ (p : code_complex.Complex × code_complex.Complex). complex_folded w (complex_of p.0) (complex_of p.1)) ps) → Some (complex_value r zs) ≡ complexes_folded w s xs t ys
complexes_made w s t r xs ys ps zs h e f = bound_some _ _ r (Some (complex_value r zs)) h (bound_some _ _ zs (Some (complex_value r zs)) (f ∙ ap all_of (complexes_met w ps xs ys e)) refl)

pub complex_pairs_are : (us vs : List code_complex.Complex) (ps : List (code_complex.Complex × code_complex.Complex)) (xs ys : List Complex) → ps ≡ paired us vs → map complex_of us ≡ xs → map complex_of vs ≡ ys → map (λ (p : code_complex.Complex × code_complex.Complex). (complex_of p.0, complex_of p.1)) ps ≡ paired xs ys
complex_pairs_are us vs ps xs ys e f g =
    ap (map (λ (p : code_complex.Complex × code_complex.Complex). (complex_of p.0, complex_of p.1))) e
    ∙ over (λ (x y : Complex). (x, y)) complex_of complex_of us vs
    ∙ (λ i. paired (f i) (g i))

pub complex_value_is : (s : Shape) (zs : List code_complex.Complex) (re im : List Dyadic) → re ≡ map (λ (z : code_complex.Complex). z.re) zs → im ≡ map (λ (z : code_complex.Complex). z.im) zs → ComplexNumber s (map exact_of re) (map exact_of im) ≡ complex_value s (map complex_of zs)
complex_value_is s zs re im e f =
    let r : map exact_of re ≡ map (λ (c : Complex). c.re) (map complex_of zs) = ap (map exact_of) e ∙ twice_mapped exact_of (λ (z : code_complex.Complex). z.re) zs ∙ sym (twice_mapped (λ (c : Complex). c.re) complex_of zs) in
    let i : map exact_of im ≡ map (λ (c : Complex). c.im) (map complex_of zs) = ap (map exact_of) f ∙ twice_mapped exact_of (λ (z : code_complex.Complex). z.im) zs ∙ sym (twice_mapped (λ (c : Complex). c.im) complex_of zs) in
    λ k. ComplexNumber s (r k) (i k)

pub noughts_next : (k : ℕ) (ds : List Dyadic) (z : Dyadic) (built more : List Dyadic) (whole : List Exact) → k < length ds → z.m ≡ pos 0 → z.e ≡ pos 0 → more ≡ built ++ z ∷ [] → map exact_of built ++ nought_parts (map exact_of (drop k ds)) ≡ whole → map exact_of more ++ nought_parts (map exact_of (drop (k + 1) ds)) ≡ whole
noughts_next k ds z built more whole l e f m h =
    let n : exact_of z ≡ nought = λ i. record { significand = e i; exponent = f i } in
    (λ i. map exact_of (m i) ++ nought_parts (map exact_of (drop (k + 1) ds)))
    ∙ (λ i. map_push exact_of built z i ++ nought_parts (map exact_of (drop (k + 1) ds)))
    ∙ append_assoc (map exact_of built) (exact_of z ∷ []) (nought_parts (map exact_of (drop (k + 1) ds)))
    ∙ ap (λ (w : Exact). map exact_of built ++ w ∷ nought_parts (map exact_of (drop (k + 1) ds))) n
    ∙ ap (λ (v : List Dyadic). map exact_of built ++ nought_parts (map exact_of v)) (sym (drop_more ds k z l))
    ∙ h
