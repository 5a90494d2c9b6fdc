use Rattle.std.proofs.Common.{◌≡◌, List, [], ◌∷◌, ◌++◌, length, map, refl, ap, ◌∙◌}
use Rattle.c_tree.specs.Tree.{Slot}
use Rattle.c_tree.specs.declared.interface.CSlot.{CSlot}
use Rattle.c_tree.specs.View.{interface_view, slot_view}
use Rattle.c_tests.proofs.words.interface.Goals as goal

some_slot : (xs : List CSlot) (ys : List Slot) → (length xs ≡ 0 → ⊥) → map slot_view xs ++ ys ≡ [] → ⊥
some_slot [] ys h e = h refl
some_slot (x ∷ xs) ys h e = cc

pub returns-else-as_slice-eq0 : goal.returns-else-as_slice-eq0
returns-else-as_slice-eq0 c =
    let read = rw c.in-Some.is at c.in_ok-read_interface.ensures in
    (c.interface_has_a_slot.ensures (interface_view c.in-Some.line.interface)).1
    (read.0, some_slot c.in-Some.line.interface.inputs (map slot_view c.in-Some.line.interface.outputs) (λ none. c.if-as_slice-eq0.false (ap length c.as_slice.ensures ∙ none)))
