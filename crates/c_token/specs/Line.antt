-- The second line of a text, and what reading its parts gives.
use Rattle.std.specs.Prelude.{◌≡◌, ◌≢◌, ℕ, ◌<◌, ◌≤◌, Bool, true, false, List, [], ◌∷◌, ◌++◌, length, drop, codes, map, Option, Some, None, All, not, ◌&&◌, bytes_eq}
use Rattle.std.specs.List.{list_any}
use Rattle.num_type.specs.Types.{NumericType, IsWithin}
use Rattle.fic_base.specs.Names.{IsName}
use Rattle.shape_rules.specs.Shapes.{IsShape, rows_of, columns_of}
use Rattle.shape_rules.specs.TypeText.{shape_text}
use Rattle.c_tree.specs.Tree.{Kind, Fixed, Slot, Signature}
use Rattle.c_tree.specs.View.{kind_view, slot_view, interface_view}
use Rattle.c_tree.specs.Interface.{kind_text, include_line, interface_line}
use Rattle.c_tree.specs.WellFormed.{IsKind, IsSlot, AreNamedApart}
use Rattle.c_tree.specs.declared.interface.CSlot.{CSlot}
use Rattle.c_token.specs.declared.kind.Elements.{Elements}
use Rattle.c_token.specs.declared.line.InterfaceLine.{InterfaceLine}

-- a name, and inputs and outputs as in a well-formed interface; there may be none of both
pub record IsSignature (i : Signature) : Type 0 where
  pub entry : IsName i.entry
  pub inputs : All IsSlot i.inputs
  pub outputs : All IsSlot i.outputs
  pub inputs_differ : AreNamedApart i.inputs
  pub outputs_differ : AreNamedApart i.outputs

-- whether bytes begin with others
abbrev pub TestsFront : Bool → List ℕ → List ℕ → Type 0
TestsFront true front bytes = bytes ≡ front ++ drop (length front) bytes
TestsFront false front bytes = (rest : List ℕ) → bytes ≢ front ++ rest

-- the interface that the line behind the first one spells, and where the text goes on; None where it spells none
abbrev pub ReadsInterface : Option InterfaceLine → List ℕ → Type 0
ReadsInterface (Some l) bytes = IsSignature (interface_view l.interface) × (drop (length include_line) bytes ≡ interface_line (interface_view l.interface) ++ drop l.end bytes) × (l.end ≤ length bytes)
ReadsInterface None bytes = (i : Signature) (rest : List ℕ) → IsSignature i → drop (length include_line) bytes ≢ interface_line i ++ rest

-- ---- parts

-- what the elements of a slot are, with its shape
abbrev pub elements_text : Elements → List ℕ
elements_text e = kind_text (kind_view e.kind) (shape_text (rows_of e.shape) (columns_of e.shape))

-- a reader of numeric types with shapes
abbrev pub ReadsFixed : Option Elements → List ℕ → Type 0
ReadsFixed (Some e) bytes = bytes ≡ elements_text e
ReadsFixed None bytes = (t : NumericType) (complex : Bool) (rows columns : ℕ) → IsWithin t → IsShape rows columns → bytes ≢ kind_text (Fixed t complex) (shape_text rows columns)

-- the same of truth values too
abbrev pub ReadsKind : Option Elements → List ℕ → Type 0
ReadsKind (Some e) bytes = bytes ≡ elements_text e
ReadsKind None bytes = (kind : Kind) (rows columns : ℕ) → IsKind kind → IsShape rows columns → bytes ≢ kind_text kind (shape_text rows columns)

-- a slot without the blank before it
abbrev pub slot_word : Slot → List ℕ
slot_word s = s.name ++ codes ":" ++ kind_text s.kind (shape_text s.rows s.columns)

-- a reader of slots
abbrev pub ReadsSlot : Option CSlot → List ℕ → Type 0
ReadsSlot (Some s) bytes = IsSlot (slot_view s) × (bytes ≡ slot_word (slot_view s))
ReadsSlot None bytes = (s : Slot) → IsSlot s → bytes ≢ slot_word s

-- slots with a blank behind each, and then the rest
abbrev pub slots_words : List Slot → List ℕ → List ℕ
slots_words [] rest = rest
slots_words (s ∷ ss) rest = slot_word s ++ 32 ∷ slots_words ss rest

-- a reader of the next slot with the blank behind it, which adds the slot to those before it
abbrev pub ReadsNext : Option ℕ → List CSlot → List CSlot → List ℕ → Type 0
ReadsNext (Some n) before after bytes =
    (s : CSlot) × (after ≡ before ++ s ∷ []) × IsSlot (slot_view s) × (bytes ≡ slot_word (slot_view s) ++ 32 ∷ drop n bytes) × (0 < n) × (n ≤ length bytes)
ReadsNext None before after bytes = (s : Slot) (rest : List ℕ) → IsSlot s → bytes ≢ slot_word s ++ 32 ∷ rest

-- a reader of slots from one offset up to another, behind a mark
abbrev pub ReadsSlots : Option ℕ → List CSlot → ℕ → List ℕ → List ℕ → Type 0
ReadsSlots (Some end) slots start mark bytes =
    All IsSlot (map slot_view slots) × (drop start bytes ≡ slots_words (map slot_view slots) (mark ++ drop end bytes)) × (end ≤ length bytes)
ReadsSlots None slots start mark bytes = (ss : List Slot) (rest : List ℕ) → All IsSlot ss → drop start bytes ≢ slots_words ss (mark ++ rest)

-- what stands behind the blank after the inputs, and after the entry
abbrev pub outputs_words : Signature → List ℕ → List ℕ
outputs_words i rest = slots_words i.outputs (codes "*/\n" ++ rest)

abbrev pub inputs_words : Signature → List ℕ → List ℕ
inputs_words i rest = slots_words i.inputs (codes "-> " ++ outputs_words i rest)

-- a reader of the inputs and outputs from an offset on, behind this entry
abbrev pub ReadsSides : Option InterfaceLine → List ℕ → ℕ → List ℕ → Type 0
ReadsSides (Some l) entry start bytes =
    IsSignature (interface_view l.interface) × (l.interface.entry ≡ entry) × (drop start bytes ≡ inputs_words (interface_view l.interface) (drop l.end bytes)) × (l.end ≤ length bytes)
ReadsSides None entry start bytes = (i : Signature) (rest : List ℕ) → IsSignature i → i.entry ≡ entry → drop start bytes ≢ inputs_words i rest

-- the same behind the inputs too
abbrev pub ReadsOutputs : Option InterfaceLine → List ℕ → List CSlot → ℕ → List ℕ → Type 0
ReadsOutputs (Some l) entry inputs start bytes =
    IsSignature (interface_view l.interface) × (l.interface.entry ≡ entry) × (l.interface.inputs ≡ inputs)
    × (drop start bytes ≡ outputs_words (interface_view l.interface) (drop l.end bytes)) × (l.end ≤ length bytes)
ReadsOutputs None entry inputs start bytes =
    (i : Signature) (rest : List ℕ) → IsSignature i → i.entry ≡ entry → i.inputs ≡ map slot_view inputs → drop start bytes ≢ outputs_words i rest

-- whether no two slots have one name
abbrev pub differ : List CSlot → Bool
differ [] = true
differ (s ∷ ss) = not (list_any (λ t. bytes_eq s.name t.name) ss) && differ ss
