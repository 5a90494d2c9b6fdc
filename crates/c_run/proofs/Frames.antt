-- Reads and writes of states.
use Rattle.std.proofs.Common.{◌≡◌, ℕ, zero, suc, ◌<◌, ◌≤◌, arith, ℤ, List, [], ◌∷◌, length, map, refl, sym, ap, ◌∙◌}
use Rattle.std.specs.Prelude.{Option, Some, None, slice_get, slice_set}
use Rattle.std.specs.Option.{option_map}
use Rattle.std.proofs.lemmas.Option.{slice_get-map, get_or_from_slice_get}
use Rattle.std.proofs.lemmas.List.{map-set, length-set, length-map}
use Rattle.std.proofs.Math.Seq.{map-set_same}
use Rattle.c_tree.specs.declared.tree.Counter.{Counter}
use Rattle.c_tree.specs.declared.tree.CounterKind.{CounterKind}
use Rattle.c_tree.specs.declared.tree.CounterKind.TheVariants as counter
use Rattle.c_tree.specs.declared.tree.CArray.{CArray}
use Rattle.c_tree.specs.declared.tree.CArray.TheVariants as array
use Rattle.c_tree.specs.Meaning as meaning
use Rattle.c_tree.specs.Meaning.{Cells, State, counts_of, with_counts, with_word, with_count, with_cells, writable_in}
use Rattle.c_run.specs.declared.word.Word.{Word}
use Rattle.c_run.specs.View.{word_view}
use Rattle.c_run.specs.Shape.{shape_of, cells_extent}

pub get_word : (words : List Word) (k : ℕ) → slice_get (map word_view words) k ≡ option_map word_view (slice_get words k)
get_word words k = slice_get-map word_view words k

pub set_word : (words : List Word) (k : ℕ) (w : Word) → map word_view (slice_set words k w) ≡ slice_set (map word_view words) k (word_view w)
set_word words k w = map-set word_view words k w

pub set_past : (words : List Word) (k : ℕ) (w : meaning.Word) → length words ≤ k → slice_set (map word_view words) k w ≡ map word_view words
set_past [] k w h = refl
set_past (x ∷ words) zero w h = absurd (omega arith)
set_past (x ∷ words) (suc k) w h = ap (λ l. word_view x ∷ l) (set_past words k w (omega (arith, h)))

pub word_shaped : (st : State) (k : ℕ) (w : meaning.Word) → shape_of (with_word st k w) ≡ shape_of st
unfolding shape_of
word_shaped st k w = ap (λ n. record (shape_of st) { words = n }) (length-set st.words k w)

counts_shaped : (st : State) (kind : CounterKind) (k n : ℕ) → shape_of (record st { counts = with_counts st.counts kind (slice_set (counts_of st.counts kind) k n) }) ≡ shape_of st
unfolding shape_of
counts_shaped st counter.Group k n = ap (λ l. record (shape_of st) { groups = l }) (length-set st.counts.groups k n)
counts_shaped st counter.Barrier k n = ap (λ l. record (shape_of st) { barriers = l }) (length-set st.counts.barriers k n)
counts_shaped st counter.Source k n = ap (λ l. record (shape_of st) { sources = l }) (length-set st.counts.sources k n)
counts_shaped st counter.Turn k n = ap (λ l. record (shape_of st) { turns = l }) (length-set st.counts.turns k n)

pub count_shaped : (st : State) (c : Counter) (n : ℕ) → shape_of (with_count st c n) ≡ shape_of st
count_shaped st c n = counts_shaped st c.kind c.number n

one_shaped : (all : List Cells) (j : ℕ) (cells : Cells) (k : ℕ) (z : ℤ) → slice_get all j ≡ Some cells → map cells_extent (slice_set all j (record cells { items = slice_set cells.items k z })) ≡ map cells_extent all
one_shaped all j cells k z h =
    map-set_same cells_extent all j (record cells { items = slice_set cells.items k z }) cells
    (ap (λ n. record { container = cells.container; count = n }) (length-set cells.items k z) ∙ ap cells_extent (sym (get_or_from_slice_get all j cells cells h)))

pub cells_shaped : (st : State) (x : CArray) (cells : Cells) (k : ℕ) (z : ℤ) → writable_in st x ≡ Some cells → shape_of (with_cells st x (record cells { items = slice_set cells.items k z })) ≡ shape_of st
unfolding shape_of
cells_shaped st (array.Input j) cells k z h = absurd cc
cells_shaped st (array.Output j) cells k z h = ap (λ l. record (shape_of st) { outputs = l }) (one_shaped st.outputs j cells k z h)
cells_shaped st (array.Local j) cells k z h = ap (λ l. record (shape_of st) { locals = l }) (one_shaped st.locals j cells k z h)
