-- What the readers of the second line answer.
use Rattle.std.proofs.Common.{◌≡◌, ℕ, suc, ◌+◌, ◌-◌, ◌<◌, ◌≤◌, true, false, List, [], ◌∷◌, ◌++◌, length, map, drop, refl, sym, ap, ◌∙◌, subst, arith, length-append, length-drop}
use Rattle.std.specs.Prelude.{codes, Option, Some, None, All, Result, Ok, Err, IfOk}
use Rattle.num_type.specs.declared.memory.Memory.{Memory}
use Rattle.std.proofs.lemmas.List.{append_cancel_left, drop-drop, drop_all}
use Rattle.fic_base.specs.Names.{IsName}
use Rattle.shape_rules.specs.Pieces.{Lacks}
use Rattle.shape_rules.proofs.Splits.{same_split, no_mark}
use Rattle.c_tree.specs.Tree.{Signature}
use Rattle.c_tree.specs.Interface.{include_line, interface_line}
use Rattle.c_tree.specs.View.{slot_view, interface_view}
use Rattle.c_tree.specs.WellFormed.{IsSlot, AreNamedApart}
use Rattle.c_tree.specs.declared.interface.CSlot.{CSlot}
use Rattle.c_tree.specs.declared.interface.Interface.{Interface}
use Rattle.c_token.specs.declared.line.InterfaceLine.{InterfaceLine}
use Rattle.c_token.specs.Line.{TestsFront, ReadsInterface, ReadsSlots, ReadsSides, ReadsOutputs, slots_words, outputs_words, inputs_words}
use Rattle.c_token.proofs.Marks.{name_lacks}
use Rattle.c_token.proofs.SlotTexts.{same_slots}
use Rattle.c_token.proofs.Lines.{line_is}
use Rattle.c_token.proofs.Reading.{drop_past}

cut : (x y : ℕ) (a b : List ℕ) → x ∷ y ∷ a ≡ x ∷ y ∷ b → a ≡ b
cut x y a b e = cc

-- ---- outputs

pub no_outputs : (entry : List ℕ) (inputs outputs : List CSlot) (start : ℕ) (bytes : List ℕ) → ReadsSlots None outputs start (codes "*/\n") bytes → ReadsOutputs None entry inputs start bytes
no_outputs entry inputs outputs start bytes none i rest h e1 e2 e = none i.outputs rest h.outputs e

pub same_inputs : (entry : List ℕ) (inputs : List CSlot) (start : ℕ) (bytes : List ℕ) → (AreNamedApart (map slot_view inputs) → ⊥) → ReadsOutputs None entry inputs start bytes
same_inputs entry inputs start bytes never i rest h e1 e2 e = never (subst AreNamedApart e2 h.inputs_differ)

pub same_outputs : (entry : List ℕ) (inputs outputs : List CSlot) (start end : ℕ) (bytes : List ℕ) → ReadsSlots (Some end) outputs start (codes "*/\n") bytes → (AreNamedApart (map slot_view outputs) → ⊥) → ReadsOutputs None entry inputs start bytes
same_outputs entry inputs outputs start end bytes read never i rest h e1 e2 e =
    let same = same_slots (map slot_view outputs) i.outputs 42 (47 ∷ 10 ∷ drop end bytes) (47 ∷ 10 ∷ rest) read.0 h.outputs refl (sym read.1 ∙ e) in
    never (subst AreNamedApart (sym same.0) h.outputs_differ)

pub a_line : (i : Interface) (entry : List ℕ) (inputs outputs : List CSlot) (start end : ℕ) (bytes : List ℕ) → i.entry ≡ entry → i.inputs ≡ inputs → i.outputs ≡ outputs →
    IsName entry → All IsSlot (map slot_view inputs) → AreNamedApart (map slot_view inputs) → AreNamedApart (map slot_view outputs) → ReadsSlots (Some end) outputs start (codes "*/\n") bytes →
    ReadsOutputs (Some (record { interface = i; end = end })) entry inputs start bytes
a_line i entry inputs outputs start end bytes e1 e2 e3 name each apart differ read = (
  record {
    entry = subst IsName (sym e1) name;
    inputs = subst (λ l. All IsSlot (map slot_view l)) (sym e2) each;
    outputs = subst (λ l. All IsSlot (map slot_view l)) (sym e3) read.0;
    inputs_differ = subst (λ l. AreNamedApart (map slot_view l)) (sym e2) apart;
    outputs_differ = subst (λ l. AreNamedApart (map slot_view l)) (sym e3) differ;
  },
  e1,
  e2,
  read.1 ∙ ap (λ l. slots_words (map slot_view l) (codes "*/\n" ++ drop end bytes)) (sym e3),
  read.2,
)

-- ---- inputs and outputs

pub no_inputs : (entry : List ℕ) (inputs : List CSlot) (start : ℕ) (bytes : List ℕ) → ReadsSlots None inputs start (codes "-> ") bytes → ReadsSides None entry start bytes
no_inputs entry inputs start bytes none i rest h e1 e = none i.inputs (outputs_words i rest) h.inputs e

pub sides : (r : Option InterfaceLine) (entry : List ℕ) (inputs : List CSlot) (start at : ℕ) (bytes : List ℕ) → ReadsSlots (Some at) inputs start (codes "-> ") bytes → ReadsOutputs r entry inputs at bytes → ReadsSides r entry start bytes
sides (Some l) entry inputs start at bytes read h =
    (h.0, h.1, read.1 ∙ (λ j. slots_words (map slot_view (sym h.2 j)) (codes "-> " ++ h.3 j)), h.4)
sides None entry inputs start at bytes read h = λ i rest k e1 e.
    let same = same_slots (map slot_view inputs) i.inputs 45 (62 ∷ 32 ∷ drop at bytes) (62 ∷ 32 ∷ outputs_words i rest) read.0 k.inputs refl (sym read.1 ∙ e) in
    h i rest k e1 (sym same.0) (cut 62 32 (drop at bytes) (outputs_words i rest) same.1)

-- ---- the whole line

include_size : length include_line ≡ 20
unfolding include_line
include_size = refl

line_at : (bytes line : List ℕ) → line ≡ drop 20 bytes → drop (length include_line) bytes ≡ line
line_at bytes line is = ap (λ n. drop n bytes) include_size ∙ sym is

pub too_short : (bytes : List ℕ) → length bytes < 20 → ReadsInterface None bytes
too_short bytes less i rest h e =
    let none : drop 20 bytes ≡ [] = drop_all 20 bytes (omega (arith, less)) in
    nothing (sym none ∙ sym (line_at bytes (drop 20 bytes) refl) ∙ e ∙ line_is i rest)
  where
    nothing : [] ≡ codes "/* fic " ++ (i.entry ++ 32 ∷ inputs_words i rest) → ⊥
    nothing q = cc

pub other_line : (bytes line : List ℕ) → line ≡ drop 20 bytes → TestsFront false (codes "/* fic ") line → ReadsInterface None bytes
other_line bytes line is never i rest h e = never (i.entry ++ 32 ∷ inputs_words i rest) (sym (line_at bytes line is) ∙ e ∙ line_is i rest)

behind_front : (bytes line seven : List ℕ) → line ≡ drop 20 bytes → TestsFront true (codes "/* fic ") line → seven ≡ drop 7 line → (i : Signature) (rest : List ℕ) →
    drop (length include_line) bytes ≡ interface_line i ++ rest → seven ≡ i.entry ++ 32 ∷ inputs_words i rest
behind_front bytes line seven is there cuts i rest e =
    append_cancel_left (codes "/* fic ") seven (i.entry ++ 32 ∷ inputs_words i rest)
    (ap (λ l. codes "/* fic " ++ l) cuts ∙ sym there ∙ sym (line_at bytes line is) ∙ e ∙ line_is i rest)

pub no_blank : (bytes line seven : List ℕ) → line ≡ drop 20 bytes → TestsFront true (codes "/* fic ") line → seven ≡ drop 7 line → Lacks 32 seven → ReadsInterface None bytes
no_blank bytes line seven is there cuts lacks i rest h e =
    no_mark 32 i.entry (inputs_words i rest) (subst (Lacks 32) (behind_front bytes line seven is there cuts i rest e) lacks)

pub no_entry : (bytes line seven word behind : List ℕ) → line ≡ drop 20 bytes → TestsFront true (codes "/* fic ") line → seven ≡ drop 7 line → seven ≡ word ++ 32 ∷ behind → Lacks 32 word → (IsName word → ⊥) → ReadsInterface None bytes
no_entry bytes line seven word behind is there cuts parts lacks never i rest h e =
    let same = same_split 32 word behind i.entry (inputs_words i rest) lacks (name_lacks 32 refl i.entry h.entry) (sym parts ∙ behind_front bytes line seven is there cuts i rest e) in
    never (subst IsName (sym same.0) h.entry)

goes_on : (bytes line seven word behind : List ℕ) → line ≡ drop 20 bytes → seven ≡ drop 7 line → seven ≡ word ++ 32 ∷ behind → drop (28 + length word) bytes ≡ behind
goes_on bytes line seven word behind is cuts parts =
    let size : 28 + length word ≡ 20 + (7 + (length word + 1)) = omega arith in
    ap (λ n. drop n bytes) size ∙ sym (drop-drop (7 + (length word + 1)) 20 bytes) ∙ sym (drop-drop (length word + 1) 7 (drop 20 bytes))
    ∙ ap (λ l. drop (length word + 1) (drop 7 l)) (sym is) ∙ ap (drop (length word + 1)) (sym cuts ∙ parts) ∙ drop_past word 32 behind

pub start_within : (bytes line seven word behind : List ℕ) → 20 ≤ length bytes → line ≡ drop 20 bytes → TestsFront true (codes "/* fic ") line → seven ≡ drop 7 line → seven ≡ word ++ 32 ∷ behind → 28 + length word ≤ length bytes
start_within bytes line seven word behind room is there cuts parts =
    let first : length line ≡ length bytes - 20 = ap length is ∙ length-drop 20 bytes in
    let second : length line ≡ 7 + length (drop 7 line) = ap length there ∙ length-append (codes "/* fic ") (drop 7 line) in
    let third : length (drop 7 line) ≡ length word + suc (length behind) = ap length (sym cuts ∙ parts) ∙ length-append word (32 ∷ behind) in
    omega (arith, room, first, second, third)

pub whole : (r : Option InterfaceLine) (bytes line seven word behind : List ℕ) → line ≡ drop 20 bytes → TestsFront true (codes "/* fic ") line → seven ≡ drop 7 line → seven ≡ word ++ 32 ∷ behind → Lacks 32 word → IsName word →
    ReadsSides r word (28 + length word) bytes → ReadsInterface r bytes
whole (Some l) bytes line seven word behind is there cuts parts lacks name h =
    let i = interface_view l.interface in
    let rest = drop l.end bytes in
    let back : behind ≡ inputs_words i rest = sym (goes_on bytes line seven word behind is cuts parts) ∙ h.2 in (
      h.0,
      line_at bytes line is ∙ there ∙ ap (λ s. codes "/* fic " ++ s) (sym cuts ∙ parts ∙ (λ j. sym h.1 j ++ 32 ∷ back j)) ∙ sym (line_is i rest),
      h.3,
    )
whole None bytes line seven word behind is there cuts parts lacks name h = λ i rest k e.
    let same = same_split 32 word behind i.entry (inputs_words i rest) lacks (name_lacks 32 refl i.entry k.entry) (sym parts ∙ behind_front bytes line seven is there cuts i rest e) in
    h i rest k (sym same.0) (goes_on bytes line seven word behind is cuts parts ∙ same.1)

pub whole_if_ok : (r : Result (Option InterfaceLine) Memory) (bytes line seven word behind : List ℕ) → line ≡ drop 20 bytes → TestsFront true (codes "/* fic ") line → seven ≡ drop 7 line → seven ≡ word ++ 32 ∷ behind → Lacks 32 word → IsName word →
    IfOk r (λ o. ReadsSides o word (28 + length word) bytes) → IfOk r (λ o. ReadsInterface o bytes)
whole_if_ok (Ok o) bytes line seven word behind is there cuts parts lacks name h = whole o bytes line seven word behind is there cuts parts lacks name h
whole_if_ok (Err e) bytes line seven word behind is there cuts parts lacks name h = tt
