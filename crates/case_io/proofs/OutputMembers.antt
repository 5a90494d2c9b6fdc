-- The members of the outputs, and their order.
use Rattle.std.proofs.Common.{arith, ◌+◌, ◌*◌, ◌<◌, ◌≡◌, ℕ, Bool, true, false, List, [], ◌∷◌, ◌++◌, length, map, drop, refl, sym, ap, ◌∙◌, subst, append_assoc, length-append}
use Rattle.std.specs.Prelude.{ℤ, slice_index_or, vec_items}
use Rattle.std.specs.Global.{Vec}
use Rattle.std.specs.declared.cmp.Ordering.{Ordering}
use Rattle.std.specs.declared.cmp.Ordering.TheVariants.{Less, Equal, Greater}
use Rattle.std.specs.Ordering.{is_lt, nat_cmp, ordering_then}
use Rattle.std.specs.Cmp.Lexicographic.{slice_cmp}
use Rattle.std.specs.List.Sorted.{IsSorted, IsSortedByKey}
use Rattle.std.proofs.lemmas.List.{length-map, map-append, drop-map, drop-drop, get_or-map}
use Rattle.c_tree.specs.Tree.{Slot}
use Rattle.c_tree.specs.Names.{is_complex, parts, slot_arrays, slots_arrays, output_fronts, kind_container}
use Rattle.num_type.specs.declared.container.Container.{Container}
use Rattle.case_io.specs.declared.member.Member as own
use Rattle.case_io.specs.View.{member_view, members_view}
use Rattle.case_io.specs.ResultLines.{part_count, value_text, members}

-- ---- the members

parts_counted : (name : List ℕ) (c : Container) (n : ℕ) (b : Bool) → length (parts output_fronts name c n b) ≡ part_count b
parts_counted name c n false = refl
parts_counted name c n true = refl

-- an output's arrays stand before those of the outputs behind it
pub counted : (s : Slot) (more : List Slot) → length (slots_arrays output_fronts (s ∷ more)) ≡ part_count (is_complex s.kind) + length (slots_arrays output_fronts more)
counted s more =
    length-append (slot_arrays output_fronts s) (slots_arrays output_fronts more)
    ∙ ap (λ n. n + length (slots_arrays output_fronts more)) (parts_counted s.name (kind_container s.kind) (s.rows * s.columns) (is_complex s.kind))

-- the members that are made, one more, and those that are left
pub one_more : (done : List own.Member) (m : own.Member) (s : Slot) (more : List Slot) (lists : List (Vec ℤ)) (at : ℕ) → member_view m ≡ record { name = s.name; text = value_text (is_complex s.kind) (map vec_items (drop at lists)) } → members_view (done ++ m ∷ []) ++ members more (map vec_items (drop (at + part_count (is_complex s.kind)) lists)) ≡ members_view done ++ members (s ∷ more) (map vec_items (drop at lists))
one_more done m s more lists at is =
    let n = part_count (is_complex s.kind) in
    let rest : map vec_items (drop (at + n) lists) ≡ drop n (map vec_items (drop at lists)) = ap (map vec_items) (sym (drop-drop n at lists)) ∙ sym (drop-map vec_items n (drop at lists)) in
    (λ i. map-append member_view done (m ∷ []) i ++ members more (rest i))
    ∙ append_assoc (members_view done) (member_view m ∷ []) (members more (drop n (map vec_items (drop at lists))))
    ∙ (λ i. members_view done ++ is i ∷ members more (drop n (map vec_items (drop at lists))))

-- ---- their order

-- what is in order by a first part, and then by another, is in order by the first
pub first_in_order : {X : Type 0} (first second : X → X → Ordering) (xs : List X) → IsSorted (λ x y. ordering_then (first x y) (second x y)) xs → IsSorted first xs
first_in_order first second xs h k d low high =
    by (first (slice_index_or xs (k + 1) d) (slice_index_or xs k d)) (second (slice_index_or xs (k + 1) d) (slice_index_or xs k d)) (h k d low high)
  where
    by : (o p : Ordering) → is_lt (ordering_then o p) ≡ false → is_lt o ≡ false
    by Less p h = h
    by Equal p h = refl
    by Greater p h = refl

-- members of the code in order of their names
pub names_in_order : (ms : List own.Member) → IsSorted (λ x y. slice_cmp nat_cmp x.name.items y.name.items) ms → IsSortedByKey (λ m. m.name) (slice_cmp nat_cmp) (members_view ms)
names_in_order [] h k d low high = absurd (omega (arith, high))
names_in_order (m ∷ ms) h k d low high =
    let small : k + 1 < length (m ∷ ms) = subst (λ n. k + 1 < n) (length-map (m ∷ ms) member_view) high in
    let above = get_or-map member_view (m ∷ ms) (k + 1) m d small in
    let below = get_or-map member_view (m ∷ ms) k m d (omega (arith, small)) in
    (λ i. is_lt (slice_cmp nat_cmp ((above i).name) ((below i).name))) ∙ h k m low small
