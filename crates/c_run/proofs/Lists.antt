-- The states from which runs begin, array by array.
use Rattle.std.proofs.Common.{◌≡◌, ℕ, zero, suc, ◌<◌, ℤ, pos, List, [], ◌∷◌, ◌++◌, length, map, take, drop, replicate, refl, sym, ap, ◌∙◌, subst}
use Rattle.std.specs.Prelude.{Option, Some, None, slice_get, slice_set}
use Rattle.std.proofs.lemmas.List.{length-map, length-replicate}
use Rattle.c_tree.specs.declared.array_names.Array.{Array}
use Rattle.c_tree.specs.Names.{arrays_of}
use Rattle.c_tree.specs.Tree.{Program}
use Rattle.c_tree.specs.Meaning.{Word, Counts, Cells, State}
use Rattle.c_tree.specs.Run.{filled, zeros, zero_word, start}
use Rattle.c_run.specs.Fit.{AreFit, FitArrays}
use Rattle.c_run.specs.Shape.{Extent, Shape, cells_extent, array_extent, shape_of, program_shape}
use Rattle.c_run.specs.Start.{zero_lists, cleared, refilled, AreFilling, restarted, blank}

some_is : {A : Type 0} → {x y : A} → Some x ≡ Some y → x ≡ y
some_is e = cc

head_is : {A : Type 0} → {x y : A} → {xs ys : List A} → x ∷ xs ≡ y ∷ ys → x ≡ y
head_is e = cc

tail_is : {A : Type 0} → {x y : A} → {xs ys : List A} → x ∷ xs ≡ y ∷ ys → xs ≡ ys
tail_is e = cc

map_map : {A B C : Type 0} → (f : A → B) (g : B → C) (xs : List A) → map g (map f xs) ≡ map (λ x. g (f x)) xs
map_map f g [] = refl
map_map f g (x ∷ xs) = ap (λ l. g (f x) ∷ l) (map_map f g xs)

-- ---- one more array

-- zeros in one more array
pub clear_step : (s : List Cells) (k : ℕ) (c : Cells) → slice_get s k ≡ Some c
    → take k s ++ map cleared (drop k s) ≡ take (suc k) (slice_set s k (cleared c)) ++ map cleared (drop (suc k) (slice_set s k (cleared c)))
clear_step [] k c h = absurd cc
clear_step (x ∷ s) zero c h = ap (λ y. cleared y ∷ map cleared s) (some_is h)
clear_step (x ∷ s) (suc k) c h = ap (λ l. x ∷ l) (clear_step s k c h)

-- ---- whole states

abbrev extent_zeros : Extent → Cells
extent_zeros e = record { container = e.container; items = replicate e.count (pos 0) }

cleared_is : (cs : List Cells) (arrays : List Array) → map cells_extent cs ≡ map array_extent arrays → map cleared cs ≡ map zeros arrays
cleared_is cs arrays e = sym (map_map cells_extent extent_zeros cs) ∙ ap (map extent_zeros) e ∙ map_map array_extent extent_zeros arrays

filled_zeros : (arrays : List Array) → filled arrays (zero_lists arrays) ≡ map zeros arrays
filled_zeros [] = refl
filled_zeros (a ∷ more) = ap (λ l. zeros a ∷ l) (filled_zeros more)

abbrev extents_filled : List Extent → List (List ℤ) → List Cells
extents_filled [] lists = []
extents_filled (e ∷ more) [] = []
extents_filled (e ∷ more) (xs ∷ lists) = record { container = e.container; items = xs } ∷ extents_filled more lists

refilled_by : (cs : List Cells) (lists : List (List ℤ)) → refilled cs lists ≡ extents_filled (map cells_extent cs) lists
refilled_by [] lists = refl
refilled_by (c ∷ cs) [] = refl
refilled_by (c ∷ cs) (xs ∷ lists) = ap (λ l. record { container = c.container; items = xs } ∷ l) (refilled_by cs lists)

filled_by : (arrays : List Array) (lists : List (List ℤ)) → filled arrays lists ≡ extents_filled (map array_extent arrays) lists
filled_by [] lists = refl
filled_by (a ∷ more) [] = refl
filled_by (a ∷ more) (xs ∷ lists) = ap (λ l. record { container = a.container; items = xs } ∷ l) (filled_by more lists)

refilled_is : (cs : List Cells) (arrays : List Array) (lists : List (List ℤ)) → map cells_extent cs ≡ map array_extent arrays → refilled cs lists ≡ filled arrays lists
refilled_is cs arrays lists e = refilled_by cs lists ∙ ap (λ es. extents_filled es lists) e ∙ sym (filled_by arrays lists)

state_same : (words : List Word) {g g' b b' s s' t t' : List ℕ} {i i' o o' l l' : List Cells} → g ≡ g' → b ≡ b' → s ≡ s' → t ≡ t' → i ≡ i' → o ≡ o' → l ≡ l' →
    let left : State = record { words = words; counts = record { groups = g; barriers = b; sources = s; turns = t }; inputs = i; outputs = o; locals = l } in
    left ≡ record { words = words; counts = record { groups = g'; barriers = b'; sources = s'; turns = t' }; inputs = i'; outputs = o'; locals = l' }
state_same words eg eb es et ei eo el = cc

-- a state of a program's shape starts as its runs do
pub start_is : (p : Program) (st : State) (lists : List (List ℤ)) → shape_of st ≡ program_shape p → restarted st (map zero_word p.words) lists ≡ start p lists (zero_lists (arrays_of p).outputs)
unfolding shape_of program_shape
start_is p st lists h =
    state_same (map zero_word p.words)
    (ap (λ s. replicate s.groups 0) h) (ap (λ s. replicate s.barriers 0) h) (ap (λ s. replicate s.sources 0) h) (ap (λ s. replicate s.turns 0) h)
    (refilled_is st.inputs (arrays_of p).inputs lists (ap (λ s. s.inputs) h))
    (cleared_is st.outputs (arrays_of p).outputs (ap (λ s. s.outputs) h) ∙ sym (filled_zeros (arrays_of p).outputs))
    (cleared_is st.locals (arrays_of p).locals (ap (λ s. s.locals) h))

-- inputs fill a program's input arrays
filling : (cs : List Cells) (arrays : List Array) (lists : List (List ℤ)) → map cells_extent cs ≡ map array_extent arrays → FitArrays arrays lists → AreFilling cs lists
filling [] [] [] e h = tt
filling [] [] (xs ∷ lists) e h = let l = h.lengths in absurd cc
filling [] (a ∷ more) lists e h = absurd cc
filling (c ∷ cs) [] lists e h = absurd cc
filling (c ∷ cs) (a ∷ more) [] e h = let l = h.lengths in absurd cc
filling (c ∷ cs) (a ∷ more) (xs ∷ lists) e h =
    let x = head_is e in (
      (head_is h.lengths ∙ sym (ap (λ y. y.count) x), subst (λ k. AreFit k xs) (sym (ap (λ y. y.container) x)) (h.fit 0 a xs refl refl)),
      filling cs more lists (tail_is e) (record { lengths = tail_is h.lengths; fit = λ k b ys p q. h.fit (suc k) b ys p q }),
    )

pub inputs_fill : (p : Program) (st : State) (lists : List (List ℤ)) → shape_of st ≡ program_shape p → FitArrays (arrays_of p).inputs lists → AreFilling st.inputs lists
unfolding shape_of program_shape
inputs_fill p st lists h k = filling st.inputs (arrays_of p).inputs lists (ap (λ s. s.inputs) h) k

pub words_count : (p : Program) (st : State) → shape_of st ≡ program_shape p → length st.words ≡ length p.words
unfolding shape_of program_shape
words_count p st h = ap (λ s. s.words) h

zeros_extent : (arrays : List Array) → map cells_extent (map zeros arrays) ≡ map array_extent arrays
zeros_extent [] = refl
zeros_extent (a ∷ more) =
    ap (λ n. let e : Extent = record { container = a.container; count = n } in e ∷ map cells_extent (map zeros more)) (length-replicate a.extent (pos 0))
    ∙ ap (λ l. array_extent a ∷ l) (zeros_extent more)

shape_same : {w w' g g' b b' s s' t t' : ℕ} {i i' o o' l l' : List Extent} → w ≡ w' → g ≡ g' → b ≡ b' → s ≡ s' → t ≡ t' → i ≡ i' → o ≡ o' → l ≡ l' →
    let left : Shape = record { words = w; groups = g; barriers = b; sources = s; turns = t; inputs = i; outputs = o; locals = l } in
    left ≡ record { words = w'; groups = g'; barriers = b'; sources = s'; turns = t'; inputs = i'; outputs = o'; locals = l' }
shape_same ew eg eb es et ei eo el = cc

-- zeros everywhere have a program's shape
pub blank_shape : (p : Program) → shape_of (blank p) ≡ program_shape p
unfolding shape_of program_shape
blank_shape p =
    shape_same (length-map p.words zero_word) (length-replicate p.groups 0) (length-replicate p.barriers 0) (length-replicate p.sources 0) (length-replicate p.turns 0)
    (zeros_extent (arrays_of p).inputs) (zeros_extent (arrays_of p).outputs) (zeros_extent (arrays_of p).locals)

-- what the output arrays hold then
pub blank_outputs : (arrays : List Array) → map (λ cells. cells.items) (map zeros arrays) ≡ zero_lists arrays
blank_outputs arrays = map_map zeros (λ cells. cells.items) arrays

-- ---- the same shape

cleared_extents : (cs : List Cells) → map cells_extent (map cleared cs) ≡ map cells_extent cs
cleared_extents [] = refl
cleared_extents (c ∷ cs) =
    ap (λ n. let e : Extent = record { container = c.container; count = n } in e ∷ map cells_extent (map cleared cs)) (length-replicate (length c.items) (pos 0))
    ∙ ap (λ l. cells_extent c ∷ l) (cleared_extents cs)

refilled_extents : (cs : List Cells) (lists : List (List ℤ)) → AreFilling cs lists → map cells_extent (refilled cs lists) ≡ map cells_extent cs
refilled_extents [] [] h = refl
refilled_extents [] (xs ∷ lists) h = absurd h
refilled_extents (c ∷ cs) [] h = absurd h
refilled_extents (c ∷ cs) (xs ∷ lists) h =
    ap (λ n. let e : Extent = record { container = c.container; count = n } in e ∷ map cells_extent (refilled cs lists)) h.0.0
    ∙ ap (λ l. cells_extent c ∷ l) (refilled_extents cs lists h.1)

-- a new start keeps the shape
pub restart_shaped : (st : State) (words : List Word) (lists : List (List ℤ)) → length words ≡ length st.words → AreFilling st.inputs lists → shape_of (restarted st words lists) ≡ shape_of st
unfolding shape_of
restart_shaped st words lists w h =
    shape_same w (length-replicate (length st.counts.groups) 0) (length-replicate (length st.counts.barriers) 0) (length-replicate (length st.counts.sources) 0) (length-replicate (length st.counts.turns) 0)
    (refilled_extents st.inputs lists h) (cleared_extents st.outputs) (cleared_extents st.locals)

-- ---- one more array

-- the list for the next array, with its length and in its range
pub record Filled (c : Cells) (rest : List Cells) (lists : List (List ℤ)) : Type 0 where
  pub items : List ℤ
  pub after : List (List ℤ)
  pub is : lists ≡ items ∷ after
  pub count : length items ≡ length c.items
  pub fit : AreFit c.container items
  pub filling : AreFilling rest after

pub next_filled : (all : List Cells) (c : Cells) (rest : List Cells) (lists : List (List ℤ)) → all ≡ c ∷ rest → AreFilling all lists → Filled c rest lists
next_filled [] c rest lists e h = absurd cc
next_filled (x ∷ all) c rest [] e h = absurd h
next_filled (x ∷ all) c rest (xs ∷ lists) e h =
    let hd = head_is e in
    record {
      items = xs;
      after = lists;
      is = refl;
      count = h.0.0 ∙ ap (λ y. length y.items) hd;
      fit = subst (λ y. AreFit y.container xs) hd h.0.1;
      filling = subst (λ l. AreFilling l lists) (tail_is e) h.1;
    }

pub words_fill : (p : Program) (st : State) (words : List Word) → words ≡ map zero_word p.words → shape_of st ≡ program_shape p → length words ≡ length st.words
words_fill p st words e h = ap length e ∙ length-map p.words zero_word ∙ sym (words_count p st h)

pub outputs_count : (p : Program) (st : State) → shape_of st ≡ program_shape p → length (arrays_of p).outputs ≡ length st.outputs
unfolding shape_of program_shape
outputs_count p st h = sym (length-map (arrays_of p).outputs array_extent) ∙ sym (ap (λ s. length s.outputs) h) ∙ length-map st.outputs cells_extent
