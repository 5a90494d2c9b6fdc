-- What subscripts select, one by one and together.
use Rattle.std.proofs.Common.{◌≡◌, ℕ, suc, ◌*◌, Bool, true, false, List, [], ◌∷◌, map, length, refl, sym, ap, ◌∙◌, arith}
use Rattle.std.specs.Prelude.{ℤ, pos, nat_eq, nat_le, ◌&&◌, get_or, Option, Some, None, is_some}
use Rattle.std.specs.Ordering.{int_eq}
use Rattle.std.proofs.lemmas.Bool.Decides.{Decides-eqb, nat_tests}
use Rattle.fic_base.specs.declared.place.Place.{Place}
use Rattle.num_type.specs.Constants.{Exact}
use Rattle.num_type.specs.Types.{NumericType}
use Rattle.fi_math.specs.declared.fimath.Fimath.{Fimath}
use Rattle.fi_rules.specs.Arguments.{whole_of}
use Rattle.fi_rules.specs.Options.{and_then, where_so, all_of}
use Rattle.fi_rules.specs.Value.{Shape, is_scalar, Val, Fi, ComplexFi, Logical, Number, ComplexNumber, Words, MathObject, TypeObject}
use Rattle.fi_eval.specs.Outcome.{Got, Gives, Wrong, bind, or_wrong, choose}
use Rattle.fi_values.specs.Elements.{picked}
use Rattle.fi_values.specs.Numbers.{nought, wholes_of}
use Rattle.fi_values.specs.Reads.{shape_of, selected, or_fault, read}
use Rattle.fi_values.specs.Shapes.{is_small}
use Rattle.fi_values.specs.Stores.{fits, stored, stored_at}
use Rattle.fi_values.specs.Subscripts.{Subscript, Whole, Constant, Computed, Selection, selection, subscript_of, as_subscripts, place_of}
use Rattle.eval_value.specs.View.{value_view, item_view}
use Rattle.eval_value.specs.declared.value.Value.{Value}
use Rattle.eval_array.specs.Choices.{Choice, choice, crossed_selection, item_subscript, number_places, only_selection}
use Rattle.eval_array.specs.Rearrangements.{rearranged, is_readable, missed}
use Rattle.eval_array.specs.Fitting.{fits_by}
use Rattle.eval_array.proofs.Bounds.{places_of_wholes}
use Rattle.eval_array.proofs.Outcomes.{chained, chained_with, found_none, found_some}

differ : true ≡ false → ⊥
differ e = cc

nothing : {A : Type 0} (x : A) → None ≡ Some x → ⊥
nothing x e = cc

something : {A : Type 0} (x : A) → Some x ≡ None → ⊥
something x e = cc

never : false ≡ true → ⊥
never e = cc

abbrev rearranged_number : Shape → List ℕ → List Exact → Val
rearranged_number s ks cs = Number s (picked nought cs ks)

abbrev rearranged_complex : Shape → List ℕ → List Exact → List Exact → Val
rearranged_complex s ks xs ys = ComplexNumber s (picked nought xs ks) (picked nought ys ks)

-- ---- one subscript

only_is : (s : Shape) (k : Subscript) → Some (only_selection s (choice (s.rows * s.columns) k)) ≡ selection s (k ∷ [])
unfolding selection
only_is s Whole = refl
only_is s (Constant t zs) = refl
only_is s (Computed z) = refl

crossed_is : (s : Shape) (i j : Subscript) → Some (crossed_selection s (choice s.rows i) (choice s.columns j)) ≡ selection s (i ∷ j ∷ [])
unfolding selection
crossed_is s i j = refl

-- what a choice that is missing or there says of the subscript
pub none_chosen : (o : Option Subscript) (extent : ℕ) (f : Subscript → Option Selection) → None ≡ and_then o (λ k. Some (choice extent k)) → None ≡ and_then o f
unfolding and_then
none_chosen None extent f e = refl
none_chosen (Some k) extent f e = absurd (nothing (choice extent k) e)

pub one_chosen : (s : Shape) (o : Option Subscript) (c : Choice) → Some c ≡ and_then o (λ k. Some (choice (s.rows * s.columns) k)) → Some (only_selection s c) ≡ and_then o (λ k. selection s (k ∷ []))
unfolding and_then
one_chosen s None c e = absurd (something c e)
one_chosen s (Some k) c e = ap (λ (d : Choice). Some (only_selection s d)) (same e) ∙ only_is s k
  where
    same : Some c ≡ Some (choice (s.rows * s.columns) k) → c ≡ choice (s.rows * s.columns) k
    same e = cc

pub rows_missing : (s : Shape) (o p : Option Subscript) → None ≡ and_then o (λ k. Some (choice s.rows k)) → None ≡ and_then o (λ i. and_then p (λ j. selection s (i ∷ j ∷ [])))
rows_missing s o p e = none_chosen o s.rows (λ i. and_then p (λ j. selection s (i ∷ j ∷ []))) e

pub columns_missing : (s : Shape) (o p : Option Subscript) → None ≡ and_then p (λ k. Some (choice s.columns k)) → None ≡ and_then o (λ i. and_then p (λ j. selection s (i ∷ j ∷ [])))
unfolding and_then
columns_missing s None p e = refl
columns_missing s (Some i) p e = none_chosen p s.columns (λ j. selection s (i ∷ j ∷ [])) e

pub two_chosen : (s : Shape) (o p : Option Subscript) (c d : Choice) → Some c ≡ and_then o (λ k. Some (choice s.rows k)) → Some d ≡ and_then p (λ k. Some (choice s.columns k)) → Some (crossed_selection s c d) ≡ and_then o (λ i. and_then p (λ j. selection s (i ∷ j ∷ [])))
unfolding and_then
two_chosen s None p c d e f = absurd (something c e)
two_chosen s (Some i) None c d e f = absurd (something d f)
two_chosen s (Some i) (Some j) c d e f =
    ap (λ (u : Choice). Some (crossed_selection s u d)) (same_rows e) ∙ ap (λ (u : Choice). Some (crossed_selection s (choice s.rows i) u)) (same_columns f) ∙ crossed_is s i j
  where
    same_rows : Some c ≡ Some (choice s.rows i) → c ≡ choice s.rows i
    same_rows e = cc

    same_columns : Some d ≡ Some (choice s.columns j) → d ≡ choice s.columns j
    same_columns f = cc

-- ---- a constant

pub constant_missing : (s : Shape) (cs : List Exact) (extent : ℕ) → is_some (wholes_of cs) ≡ false → None ≡ and_then (subscript_of (Number s cs)) (λ k. Some (choice extent k))
unfolding and_then subscript_of
constant_missing s cs extent = by (wholes_of cs)
  where
    by : (o : Option (List ℤ)) → is_some o ≡ false → None ≡ and_then (and_then o (λ zs. Some (Constant s zs))) (λ k. Some (choice extent k))
    by None e = refl
    by (Some zs) e = absurd (differ e)

length_wholes : (cs : List Exact) (zs : List ℤ) → wholes_of cs ≡ Some zs → length zs ≡ length cs
unfolding all_of and_then
length_wholes [] zs e = ap length (same (sym e))
  where
    same : Some zs ≡ Some [] → zs ≡ []
    same g = cc
length_wholes (c ∷ cs) zs e = by (whole_of c) (wholes_of cs) (λ ys f. length_wholes cs ys f) e
  where
    by : (o : Option ℤ) (p : Option (List ℤ)) → ((ys : List ℤ) → p ≡ Some ys → length ys ≡ length cs) → and_then o (λ y. and_then p (λ ys. Some (y ∷ ys))) ≡ Some zs → length zs ≡ suc (length cs)
    by None p f g = absurd (nothing zs g)
    by (Some y) None f g = absurd (nothing zs g)
    by (Some y) (Some ys) f g = ap length (sym (same g)) ∙ ap suc (f ys refl)
      where
        same : Some (y ∷ ys) ≡ Some zs → y ∷ ys ≡ zs
        same g = cc

pub constant_there : (s : Shape) (cs : List Exact) (extent : ℕ) (r : Option (List ℕ)) → is_some (wholes_of cs) ≡ true → r ≡ number_places extent cs → length cs ≡ s.rows * s.columns → Some (record { size = s.rows * s.columns; own = s; places = r; fixed = true; oriented = true }) ≡ and_then (subscript_of (Number s cs)) (λ k. Some (choice extent k))
unfolding and_then subscript_of
constant_there s cs extent r all e n = by (wholes_of cs) refl all
  where
    by : (o : Option (List ℤ)) → wholes_of cs ≡ o → is_some o ≡ true → Some (record { size = s.rows * s.columns; own = s; places = r; fixed = true; oriented = true }) ≡ and_then (and_then o (λ zs. Some (Constant s zs))) (λ k. Some (choice extent k))
    by None f g = absurd (never g)
    by (Some zs) f g =
        let p : s.rows * s.columns ≡ length zs = sym n ∙ sym (length_wholes cs zs f) in
        let q : r ≡ all_of (map (place_of extent) zs) = e ∙ sym (places_of_wholes extent cs zs f) in
        λ i. Some (record { size = p i; own = s; places = q i; fixed = true; oriented = true })

-- ---- a fi

abbrev pub is_index : NumericType → Shape → Bool
is_index t s = is_scalar s && (int_eq t.fraction (pos 0) && nat_le t.word 31)

pub computed_missing : (t : NumericType) (m : Option Fimath) (s : Shape) (xs : List ℤ) (f : Subscript → Option Choice) → is_index t s ≡ false → None ≡ and_then (subscript_of (Fi t m s xs)) f
unfolding and_then subscript_of where_so
computed_missing t m s [] f e = refl
computed_missing t m s (z ∷ []) f e = ap (λ b. and_then (where_so b (Computed z)) f) (sym e)
computed_missing t m s (z ∷ y ∷ xs) f e = refl

pub computed_there : (t : NumericType) (m : Option Fimath) (s : Shape) (xs : List ℤ) (d : ℤ) (f : Subscript → Option Choice) → is_index t s ≡ true → length xs ≡ 1 → f (Computed (get_or xs 0 d)) ≡ and_then (subscript_of (Fi t m s xs)) f
unfolding and_then subscript_of where_so
computed_there t m s [] d f e n = absurd (omega (arith, n))
computed_there t m s (z ∷ []) d f e n = ap (λ b. and_then (where_so b (Computed z)) f) (sym e)
computed_there t m s (z ∷ y ∷ xs) d f e n = absurd (omega (arith, n))

pub scalar_count : (s : Shape) → is_scalar s ≡ true → s.rows * s.columns ≡ 1
scalar_count s e = by (both_true (nat_eq s.rows 1) (nat_eq s.columns 1) e)
  where
    both_true : (a b : Bool) → (a && b) ≡ true → (a ≡ true) × (b ≡ true)
    both_true true b h = (refl, h)
    both_true false b h = absurd (never h)

    by : (nat_eq s.rows 1 ≡ true) × (nat_eq s.columns 1 ≡ true) → s.rows * s.columns ≡ 1
    by h =
        let p : s.rows ≡ 1 = (Decides-eqb s.rows 1).0 h.0 in
        let q : s.columns ≡ 1 = (Decides-eqb s.columns 1).0 h.1 in
        λ i. p i * q i

-- ---- all subscripts

pub as_one : (a : Option Value) (f : List Subscript → Option Selection) → and_then (as_subscripts (map item_view (a ∷ []))) f ≡ and_then (item_subscript a) (λ k. f (k ∷ []))
unfolding and_then all_of
as_one None f = refl
as_one (Some v) f = by (subscript_of (value_view v))
  where
    by : (o : Option Subscript) → and_then (and_then o (λ y. and_then (Some []) (λ ys. Some (y ∷ ys)))) f ≡ and_then o (λ k. f (k ∷ []))
    by None = refl
    by (Some k) = refl

both : (o p : Option Subscript) (f : List Subscript → Option Selection) → and_then (and_then o (λ y. and_then (and_then p (λ z. and_then (Some []) (λ zs. Some (z ∷ zs)))) (λ ys. Some (y ∷ ys)))) f ≡ and_then o (λ i. and_then p (λ j. f (i ∷ j ∷ [])))
unfolding and_then
both None p f = refl
both (Some i) None f = refl
both (Some i) (Some j) f = refl

pub as_two : (a b : Option Value) (f : List Subscript → Option Selection) → and_then (as_subscripts (map item_view (a ∷ b ∷ []))) f ≡ and_then (item_subscript a) (λ i. and_then (item_subscript b) (λ j. f (i ∷ j ∷ [])))
unfolding all_of
as_two None None f = both (Some Whole) (Some Whole) f
as_two None (Some w) f = both (Some Whole) (subscript_of (value_view w)) f
as_two (Some v) None f = both (subscript_of (value_view v)) (Some Whole) f
as_two (Some v) (Some w) f = both (subscript_of (value_view v)) (subscript_of (value_view w)) f

grown : (o : Option Subscript) (p : Option (List Subscript)) (n : ℕ) → ((zs : List Subscript) → p ≡ Some zs → length zs ≡ n) → (ks : List Subscript) → and_then o (λ y. and_then p (λ ys. Some (y ∷ ys))) ≡ Some ks → length ks ≡ suc n
unfolding and_then
grown None p n h ks e = absurd (nothing ks e)
grown (Some y) None n h ks e = absurd (nothing ks e)
grown (Some y) (Some zs) n h ks e = ap length (sym (same e)) ∙ ap suc (h zs refl)
  where
    same : Some (y ∷ zs) ≡ Some ks → y ∷ zs ≡ ks
    same g = cc

length_items : (all : List (Option Value)) (ks : List Subscript) → as_subscripts (map item_view all) ≡ Some ks → length ks ≡ length all
unfolding all_of
length_items [] ks e = ap length (same (sym e))
  where
    same : Some ks ≡ Some [] → ks ≡ []
    same g = cc
length_items (None ∷ all) ks e = grown (Some Whole) (as_subscripts (map item_view all)) (length all) (λ zs f. length_items all zs f) ks e
length_items (Some v ∷ all) ks e = grown (subscript_of (value_view v)) (as_subscripts (map item_view all)) (length all) (λ zs f. length_items all zs f) ks e

-- none and more than two
pub as_others : (all : List (Option Value)) (s : Shape) → (length all ≡ 1 → ⊥) → (length all ≡ 2 → ⊥) → None ≡ and_then (as_subscripts (map item_view all)) (selection s)
unfolding and_then selection
as_others all s one_out two_out = by (as_subscripts (map item_view all)) (λ ks e. length_items all ks e)
  where
    by : (o : Option (List Subscript)) → ((ks : List Subscript) → o ≡ Some ks → length ks ≡ length all) → None ≡ and_then o (selection s)
    by None h = refl
    by (Some []) h = refl
    by (Some (i ∷ [])) h = absurd (one_out (sym (h (i ∷ []) refl)))
    by (Some (i ∷ j ∷ [])) h = absurd (two_out (sym (h (i ∷ j ∷ []) refl)))
    by (Some (i ∷ j ∷ k ∷ ks)) h = refl

-- ---- values that fit

not_one : (n : ℕ) → nat_eq (suc (suc n)) 1 ≡ false
not_one n = grind (arith, nat_tests)

pub fits_is : (ks : List Subscript) (n : ℕ) (r s : Shape) → length ks ≡ n → fits ks r s ≡ fits_by (nat_eq n 1) r s
unfolding fits
fits_is ks n r s e = at ks ∙ ap (λ m. fits_by (nat_eq m 1) r s) e
  where
    at : (ks : List Subscript) → fits ks r s ≡ fits_by (nat_eq (length ks) 1) r s
    at [] = refl
    at (k ∷ []) = refl
    at (k ∷ j ∷ ks) = ap (λ b. fits_by b r s) (sym (not_one (length ks)))

-- ---- reads

pub not_read : (at : Place) (site : ℕ) (v : Val) (k : Selection) → is_readable k.fixed v ≡ false → selected at site v k ≡ Wrong at
unfolding selected is_readable choose
not_read at site (Fi t m s xs) k e = absurd (differ e)
not_read at site (ComplexFi t m s xs ys) k e = absurd (differ e)
not_read at site (Logical s bs) k e = absurd (differ e)
not_read at site (Number s cs) k e = ap (λ b. choose b (bind (or_wrong at k.places) (λ ks. Gives (rearranged_number k.shape ks cs))) (Wrong at)) e
not_read at site (ComplexNumber s xs ys) k e = ap (λ b. choose b (bind (or_wrong at k.places) (λ ks. Gives (rearranged_complex k.shape ks xs ys))) (Wrong at)) e
not_read at site (Words text) k e = refl
not_read at site (MathObject m) k e = refl
not_read at site (TypeObject t) k e = refl

pub missed_is : (at : Place) (site : ℕ) (v : Val) (k : Selection) → is_readable k.fixed v ≡ true → k.places ≡ None → selected at site v k ≡ missed at site v
unfolding selected is_readable choose missed bind or_wrong or_fault
missed_is at site (Fi t m s xs) k e f = ap (λ o. bind (or_fault site o) (λ ks. Gives (Fi t m k.shape (picked (pos 0) xs ks)))) f
missed_is at site (ComplexFi t m s xs ys) k e f = ap (λ o. bind (or_fault site o) (λ ks. Gives (ComplexFi t m k.shape (picked (pos 0) xs ks) (picked (pos 0) ys ks)))) f
missed_is at site (Logical s bs) k e f = ap (λ o. bind (or_fault site o) (λ ks. Gives (Logical k.shape (picked false bs ks)))) f
missed_is at site (Number s cs) k e f =
    ap (λ b. choose b (bind (or_wrong at k.places) (λ ks. Gives (rearranged_number k.shape ks cs))) (Wrong at)) e
    ∙ ap (λ o. bind (or_wrong at o) (λ ks. Gives (rearranged_number k.shape ks cs))) f
missed_is at site (ComplexNumber s xs ys) k e f =
    ap (λ b. choose b (bind (or_wrong at k.places) (λ ks. Gives (rearranged_complex k.shape ks xs ys))) (Wrong at)) e
    ∙ ap (λ o. bind (or_wrong at o) (λ ks. Gives (rearranged_complex k.shape ks xs ys))) f
missed_is at site (Words text) k e f = refl
missed_is at site (MathObject m) k e f = refl
missed_is at site (TypeObject t) k e f = refl

pub read_is : (at : Place) (site : ℕ) (v : Val) (k : Selection) (ks : List ℕ) → is_readable k.fixed v ≡ true → k.places ≡ Some ks → selected at site v k ≡ Gives (rearranged k.shape ks v)
unfolding selected is_readable choose rearranged bind or_wrong or_fault
read_is at site (Fi t m s xs) k ks e f = ap (λ o. bind (or_fault site o) (λ ks. Gives (Fi t m k.shape (picked (pos 0) xs ks)))) f
read_is at site (ComplexFi t m s xs ys) k ks e f = ap (λ o. bind (or_fault site o) (λ ks. Gives (ComplexFi t m k.shape (picked (pos 0) xs ks) (picked (pos 0) ys ks)))) f
read_is at site (Logical s bs) k ks e f = ap (λ o. bind (or_fault site o) (λ ks. Gives (Logical k.shape (picked false bs ks)))) f
read_is at site (Number s cs) k ks e f =
    ap (λ b. choose b (bind (or_wrong at k.places) (λ ks. Gives (rearranged_number k.shape ks cs))) (Wrong at)) e
    ∙ ap (λ o. bind (or_wrong at o) (λ ks. Gives (rearranged_number k.shape ks cs))) f
read_is at site (ComplexNumber s xs ys) k ks e f =
    ap (λ b. choose b (bind (or_wrong at k.places) (λ ks. Gives (rearranged_complex k.shape ks xs ys))) (Wrong at)) e
    ∙ ap (λ o. bind (or_wrong at o) (λ ks. Gives (rearranged_complex k.shape ks xs ys))) f
read_is at site (Words text) k ks e f = absurd (never e)
read_is at site (MathObject m) k ks e f = absurd (never e)
read_is at site (TypeObject t) k ks e f = absurd (never e)

-- ---- whole accesses

pub read_missing : (at : Place) (site : ℕ) (v : Val) (o : Option (List Subscript)) (r : Shape) → r ≡ shape_of v → None ≡ and_then o (selection r) → bind (or_wrong at o) (λ subs. read at site v subs) ≡ Wrong at
read_missing at site v o r p e =
    let f : Selection → Got Place Val = λ k. choose (is_small k.shape) (selected at site v k) (Wrong at) in
    chained at o (selection (shape_of v)) f ∙ found_none at (and_then o (selection (shape_of v))) f (e ∙ ap (λ (s : Shape). and_then o (selection s)) p)

pub read_found : (at : Place) (site : ℕ) (v : Val) (o : Option (List Subscript)) (r : Shape) (k : Selection) → r ≡ shape_of v → Some k ≡ and_then o (selection r) → bind (or_wrong at o) (λ subs. read at site v subs) ≡ choose (is_small k.shape) (selected at site v k) (Wrong at)
read_found at site v o r k p e =
    let f : Selection → Got Place Val = λ k. choose (is_small k.shape) (selected at site v k) (Wrong at) in
    chained at o (selection (shape_of v)) f ∙ found_some at (and_then o (selection (shape_of v))) k f (e ∙ ap (λ (s : Shape). and_then o (selection s)) p)

pub store_missing : (at : Place) (site : ℕ) (t v : Val) (o : Option (List Subscript)) (r : Shape) → r ≡ shape_of t → None ≡ and_then o (selection r) → bind (or_wrong at o) (λ subs. stored at site t subs v) ≡ Wrong at
unfolding bind or_wrong and_then
store_missing at site t v None r p e = refl
store_missing at site t v (Some subs) r p e =
    let f : Selection → Got Place Val = λ k. choose (fits subs k.shape (shape_of v)) (stored_at at site t k v) (Wrong at) in
    found_none at (selection (shape_of t) subs) f (e ∙ ap (λ (s : Shape). selection s subs) p)

pub store_found : (at : Place) (site : ℕ) (t v : Val) (all : List (Option Value)) (r : Shape) (k : Selection) → r ≡ shape_of t → Some k ≡ and_then (as_subscripts (map item_view all)) (selection r) → bind (or_wrong at (as_subscripts (map item_view all))) (λ subs. stored at site t subs v) ≡ choose (fits_by (nat_eq (length all) 1) k.shape (shape_of v)) (stored_at at site t k v) (Wrong at)
store_found at site t v all r k p e =
    let o : Option (List Subscript) = as_subscripts (map item_view all) in
    let f : Selection → Got Place Val = λ k. choose (fits_by (nat_eq (length all) 1) k.shape (shape_of v)) (stored_at at site t k v) (Wrong at) in
    let h : List Subscript → Selection → Got Place Val = λ subs k. choose (fits subs k.shape (shape_of v)) (stored_at at site t k v) (Wrong at) in
    chained_with at o (selection (shape_of t)) h f
    (λ ks g. λ i. λ (k : Selection). choose (fits_is ks (length all) k.shape (shape_of v) (length_items all ks g) i) (stored_at at site t k v) (Wrong at))
    ∙ found_some at (and_then o (selection (shape_of t))) k f (e ∙ ap (λ (s : Shape). and_then o (selection s)) p)
