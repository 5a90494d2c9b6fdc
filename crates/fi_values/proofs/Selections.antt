-- What subscripts select of a sound value: a shape of at least one element, and as many places.
use Rattle.std.proofs.Common.{◌≡◌, refl, sym, ◌∙◌, ℕ, ◌+◌, ◌*◌, ◌≤◌, List, [], ◌∷◌, length, subst, arith}
use Rattle.std.specs.Prelude.{◌&&◌, if◌then◌else◌, map, Option, Some, None}
use Rattle.std.specs.List.{AllByRecursion}
use Rattle.std.proofs.lemmas.Bool.{cond_both}
use Rattle.std.proofs.lemmas.List.{length-map}
use Rattle.std.proofs.lemmas.Nat.{mul-le}
use Rattle.std.proofs.Math.Nat.{mul_comm}
use Rattle.fi_rules.specs.Arguments.{whole_of}
use Rattle.fi_rules.specs.Value.{Shape, count, Val, Fi, ComplexFi, Logical, Number, ComplexNumber, Words, MathObject, TypeObject}
use Rattle.fi_values.specs.Shapes.{is_row, is_column, is_line}
use Rattle.fi_values.specs.Subscripts.{Subscript, Whole, Constant, Computed, subscript_of, as_subscripts, place_of, places_in, size_in, one_shape, Selection, grid, selection}
use Rattle.fi_values.specs.Sound.{IsSized, IsSound}
use Rattle.fi_values.proofs.Each.{each_map_from}
use Rattle.fi_values.proofs.Holds.{Holds, holds, empty, holds_any, holds_then, holds_where, holds_all, holds_count, holds_weaker}
use Rattle.fi_values.proofs.Lists.{length-below, length-flat}

-- ---- subscripts

-- a constant's numbers fill its shape
abbrev pub IsSubscript : Subscript → Type 0
IsSubscript Whole = Unit {0}
IsSubscript (Constant s zs) = IsSized s × (length zs ≡ count s)
IsSubscript (Computed z) = Unit {0}

subscript_sound : (v : Val) → IsSound v → Holds IsSubscript (subscript_of v)
unfolding subscript_of
subscript_sound (Number s cs) h = holds_then (holds_count (map whole_of cs)) (λ zs e. holds (Constant s zs) (h.0, e ∙ length-map cs whole_of ∙ h.1))
subscript_sound (Fi t m s (z ∷ [])) h = holds_where IsSubscript _ (Computed z) (λ e. tt)
subscript_sound (Fi t m s []) h = empty
subscript_sound (Fi t m s (z ∷ y ∷ zs)) h = empty
subscript_sound (ComplexFi t m s xs ys) h = empty
subscript_sound (Logical s bs) h = empty
subscript_sound (ComplexNumber s xs ys) h = empty
subscript_sound (Words text) h = empty
subscript_sound (MathObject m) h = empty
subscript_sound (TypeObject t) h = empty

-- a value, where it isn't `:`
abbrev pub IsItem : Option Val → Type 0
IsItem None = Unit {0}
IsItem (Some v) = IsSound v

abbrev item : Option Val → Option Subscript
item None = Some Whole
item (Some v) = subscript_of v

item_sound : (v : Option Val) → IsItem v → Holds IsSubscript (item v)
item_sound None h = holds Whole tt
item_sound (Some v) h = subscript_sound v h

pub subscripts_sound : (vs : List (Option Val)) → AllByRecursion IsItem vs → Holds (AllByRecursion IsSubscript) (as_subscripts vs)
subscripts_sound vs h =
    holds_weaker (holds_all IsSubscript (map item vs) (each_map_from IsItem (Holds IsSubscript) item item_sound vs h)) (λ ks k. k.1)

-- ---- places

places_long : (extent : ℕ) (k : Subscript) → IsSubscript k → Holds (λ ks. length ks ≡ size_in extent k) (places_in extent k)
places_long extent Whole h = holds _ (length-below extent)
places_long extent (Constant s zs) h = holds_weaker (holds_count (map (place_of extent) zs)) (λ ks e. e ∙ length-map zs (place_of extent))
places_long extent (Computed z) h = holds_then (holds_any (place_of extent z)) (λ k _. holds (k ∷ []) refl)

some_elements : (s : Shape) → 1 ≤ s.rows → 1 ≤ s.columns → 1 ≤ count s
some_elements s h k = mul-le 1 1 s.rows s.columns h k

some_places : (extent : ℕ) (k : Subscript) → 1 ≤ extent → IsSubscript k → 1 ≤ size_in extent k
some_places extent Whole e h = e
some_places extent (Constant s zs) e h = omega (arith, h.1, some_elements s h.0.some_rows h.0.some_columns)
some_places extent (Computed z) e h = omega arith

-- a shape of so many elements, at least one
record HasElements (n : ℕ) (s : Shape) : Type 0 where
  some_rows : 1 ≤ s.rows
  some_columns : 1 ≤ s.columns
  whole : count s ≡ n

row_elements : (n : ℕ) → 1 ≤ n → HasElements n (record { rows = 1; columns = n })
row_elements n h = record { some_rows = omega arith; some_columns = h; whole = omega arith }

column_elements : (n : ℕ) → 1 ≤ n → HasElements n (record { rows = n; columns = 1 })
column_elements n h = record { some_rows = h; some_columns = omega arith; whole = omega arith }

one_elements : (s : Shape) (k : Subscript) → IsSized s → IsSubscript k → HasElements (size_in (count s) k) (one_shape s k)
one_elements s Whole h k = column_elements (count s) (some_elements s h.some_rows h.some_columns)
one_elements s (Constant t zs) h k =
    let n : 1 ≤ length zs = some_places (count s) (Constant t zs) (some_elements s h.some_rows h.some_columns) k in
    let row : HasElements (length zs) (record { rows = 1; columns = count t }) = subst (λ (m : ℕ). HasElements (length zs) (record { rows = 1; columns = m })) k.1 (row_elements (length zs) n) in
    let column : HasElements (length zs) (record { rows = count t; columns = 1 }) = subst (λ (m : ℕ). HasElements (length zs) (record { rows = m; columns = 1 })) k.1 (column_elements (length zs) n) in
    cond_both (is_line t && is_row s) (record { rows = 1; columns = count t }) (if is_line t && is_column s then record { rows = count t; columns = 1 } else t) (HasElements (length zs))
    (λ _. row)
    (λ _. cond_both (is_line t && is_column s) (record { rows = count t; columns = 1 }) t (HasElements (length zs)) (λ _. column)
    (λ _. record { some_rows = k.0.some_rows; some_columns = k.0.some_columns; whole = sym k.1 }))
one_elements s (Computed z) h k = record { some_rows = omega arith; some_columns = omega arith; whole = refl }

-- ---- selections

pub record IsSelection (k : Selection) : Type 0 where
  pub some_rows : 1 ≤ k.shape.rows
  pub some_columns : 1 ≤ k.shape.columns
  pub places : Holds (λ ks. length ks ≡ count k.shape) k.places

one_selection : (s : Shape) (k : Subscript) → IsSized s → IsSubscript k → Holds IsSelection (selection s (k ∷ []))
unfolding selection
one_selection s k h i =
    let e = one_elements s k h i in
    holds _ (record { some_rows = e.some_rows; some_columns = e.some_columns; places = holds_weaker (places_long (count s) k i) (λ ks l. l ∙ sym e.whole) })

length-grid : (rows : ℕ) (is js : List ℕ) → length (grid rows is js) ≡ length is * length js
length-grid rows is js = length-flat (λ j. map (λ i. i + rows * j) is) (length is) (λ j. length-map is _) js ∙ mul_comm (length js) (length is)

two_selection : (s : Shape) (i j : Subscript) → IsSized s → IsSubscript i → IsSubscript j → Holds IsSelection (selection s (i ∷ j ∷ []))
unfolding selection
two_selection s i j h a b = holds _ (record {
  some_rows = some_places s.rows i h.some_rows a;
  some_columns = some_places s.columns j h.some_columns b;
  places = holds_then (places_long s.rows i a) (λ is e. holds_then (places_long s.columns j b) (λ js f.
      holds (grid s.rows is js) (length-grid s.rows is js ∙ (λ t. e t * f t))));
})

pub selection_sound : (s : Shape) (ks : List Subscript) → IsSized s → AllByRecursion IsSubscript ks → Holds IsSelection (selection s ks)
unfolding selection
selection_sound s [] h k = empty
selection_sound s (i ∷ []) h k = one_selection s i h k.0
selection_sound s (i ∷ j ∷ []) h k = two_selection s i j h k.0 k.1.0
selection_sound s (i ∷ j ∷ l ∷ ks) h k = empty
