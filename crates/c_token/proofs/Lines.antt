-- The second line of a text.
use Rattle.std.proofs.Common.{◌≡◌, ◌≢◌, ℕ, List, [], ◌∷◌, ◌++◌, refl, sym, ap, ◌∙◌, append_assoc}
use Rattle.std.specs.Prelude.{codes, ◌↔◌}
use Rattle.std.proofs.lemmas.List.{append_cancel_left}
use Rattle.shape_rules.proofs.Splits.{same_split}
use Rattle.c_tree.specs.Tree.{Slot, Signature}
use Rattle.c_tree.specs.Interface.{slot_text, slots_text, interface_line}
use Rattle.c_tree.specs.WellFormed.{IsInterface}
use Rattle.c_token.specs.Line.{IsSignature, slots_words, outputs_words, inputs_words}
use Rattle.c_token.proofs.Marks.{name_lacks}
use Rattle.c_token.proofs.SlotTexts.{same_slots}

pub slots_are : (ss : List Slot) (rest : List ℕ) → slots_text ss ++ 32 ∷ rest ≡ 32 ∷ slots_words ss rest
slots_are [] rest = refl
slots_are (s ∷ ss) rest = append_assoc (slot_text s) (slots_text ss) (32 ∷ rest) ∙ ap (λ l. slot_text s ++ l) (slots_are ss rest)

pub line_is : (i : Signature) (rest : List ℕ) → interface_line i ++ rest ≡ codes "/* fic " ++ (i.entry ++ 32 ∷ inputs_words i rest)
line_is i rest =
    let front = codes "/* fic " ++ i.entry in
    let a = slots_text i.inputs in
    let b = slots_text i.outputs in
    append_assoc (front ++ a ++ codes " ->" ++ b) (codes " */\n") rest
    ∙ append_assoc (front ++ a ++ codes " ->") b (32 ∷ (codes "*/\n" ++ rest))
    ∙ ap (λ l. (front ++ a ++ codes " ->") ++ l) (slots_are i.outputs (codes "*/\n" ++ rest))
    ∙ append_assoc (front ++ a) (codes " ->") (32 ∷ outputs_words i rest)
    ∙ append_assoc front a (32 ∷ (codes "-> " ++ outputs_words i rest))
    ∙ ap (λ l. front ++ l) (slots_are i.inputs (codes "-> " ++ outputs_words i rest))
    ∙ append_assoc (codes "/* fic ") i.entry (32 ∷ inputs_words i rest)

cut : (x y : ℕ) (a b : List ℕ) → x ∷ y ∷ a ≡ x ∷ y ∷ b → a ≡ b
cut x y a b e = cc

pub same_line : (i j : Signature) (a b : List ℕ) → IsSignature i → IsSignature j → interface_line i ++ a ≡ interface_line j ++ b → (i ≡ j) × (a ≡ b)
same_line i j a b h k e =
    let words = append_cancel_left (codes "/* fic ") (i.entry ++ 32 ∷ inputs_words i a) (j.entry ++ 32 ∷ inputs_words j b) (sym (line_is i a) ∙ e ∙ line_is j b) in
    let entries = same_split 32 i.entry (inputs_words i a) j.entry (inputs_words j b) (name_lacks 32 refl i.entry h.entry) (name_lacks 32 refl j.entry k.entry) words in
    let inputs = same_slots i.inputs j.inputs 45 (62 ∷ 32 ∷ slots_words i.outputs (codes "*/\n" ++ a)) (62 ∷ 32 ∷ slots_words j.outputs (codes "*/\n" ++ b)) h.inputs k.inputs refl entries.1 in
    let behind = cut 62 32 (slots_words i.outputs (codes "*/\n" ++ a)) (slots_words j.outputs (codes "*/\n" ++ b)) inputs.1 in
    let outputs = same_slots i.outputs j.outputs 42 (47 ∷ 10 ∷ a) (47 ∷ 10 ∷ b) h.outputs k.outputs refl behind in
    (λ i. record { entry = entries.0 i; inputs = inputs.0 i; outputs = outputs.0 i }, cut 47 10 a b outputs.1)

pub interface_is : (i : Signature) → IsInterface i ↔ (IsSignature i × (i.inputs ++ i.outputs ≢ []))
interface_is i = (
  (λ h. (record { entry = h.entry; inputs = h.inputs; outputs = h.outputs; inputs_differ = h.inputs_differ; outputs_differ = h.outputs_differ }, h.any)),
  (λ h. record { entry = h.0.entry; inputs = h.0.inputs; outputs = h.0.outputs; inputs_differ = h.0.inputs_differ; outputs_differ = h.0.outputs_differ; any = h.1 }),
)
