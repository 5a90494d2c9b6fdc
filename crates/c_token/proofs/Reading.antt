-- What the readers of slots and lines answer.
use Rattle.std.proofs.Common.{◌≡◌, ◌≢◌, ℕ, suc, ◌+◌, ◌<◌, ◌≤◌, Bool, true, false, List, [], ◌∷◌, ◌++◌, length, map, take, drop, refl, sym, ap, ◌∙◌, subst, arith, append_assoc, append-nil, length-append, length-drop}
use Rattle.std.specs.Prelude.{Some, None, All, bytes_eq, not, ◌↔◌, IsTrue}
use Rattle.std.specs.List.{list_any}
use Rattle.std.proofs.lemmas.Bool.{and_parts, and_from, or_parts, or_from, false≢true, not-true, not_from_false, false_from_ne_true}
use Rattle.std.proofs.lemmas.List.{take-append-drop, take_at, drop_at, drop-drop, length_push, map_push}
use Rattle.std.proofs.lemmas.List.Elements.{All-head, All-tail, All-cons, All-nil, All-push}
use Rattle.std.proofs.lemmas.List.Kept.{AllPairs-cons}
use Rattle.std.proofs.lemmas.Slice.Eq.{bytes_eq-Decides}
use Rattle.fic_base.specs.Names.{IsName}
use Rattle.shape_rules.specs.Shapes.{rows_of, columns_of}
use Rattle.shape_rules.specs.TypeText.{shape_text}
use Rattle.shape_rules.specs.Pieces.{Lacks}
use Rattle.shape_rules.proofs.Splits.{same_split, no_mark}
use Rattle.c_tree.specs.Tree.{Slot}
use Rattle.c_tree.specs.Interface.{kind_text}
use Rattle.c_tree.specs.View.{kind_view, slot_view}
use Rattle.c_tree.specs.WellFormed.{IsSlot, AreNamedApart}
use Rattle.c_tree.specs.declared.interface.CSlot.{CSlot}
use Rattle.c_token.specs.declared.kind.Elements.{Elements}
use Rattle.c_token.specs.Line.{TestsFront, ReadsKind, ReadsSlot, ReadsNext, ReadsSlots, slot_word, slots_words, elements_text, differ}
use Rattle.c_token.proofs.Marks.{name_lacks}
use Rattle.c_token.proofs.ElementTexts.{kind_within, limits_of}
use Rattle.c_token.proofs.SlotTexts.{word_is, word_lacks}

-- ---- fronts

pub no_room : (bytes front : List ℕ) → length bytes < length front → (rest : List ℕ) → bytes ≢ front ++ rest
no_room bytes front less rest e = let sizes : length bytes ≡ length front + length rest = ap length e ∙ length-append front rest in omega (arith, less, sizes)

pub other_front : (bytes front a : List ℕ) → a ≡ take (length front) bytes → bytes_eq a front ≡ false → (rest : List ℕ) → bytes ≢ front ++ rest
other_front bytes front a is other rest e =
    let same : a ≡ front = is ∙ ap (take (length front)) e ∙ take_at front rest (length front) refl in
    false≢true (sym other ∙ (bytes_eq-Decides a front).1 same)

pub is_front : (bytes front a : List ℕ) → a ≡ take (length front) bytes → bytes_eq a front ≡ true → bytes ≡ front ++ drop (length front) bytes
is_front bytes front a is same = sym (take-append-drop (length front) bytes) ∙ ap (λ l. l ++ drop (length front) bytes) (sym is ∙ (bytes_eq-Decides a front).0 same)

-- ---- one slot

pub no_colon : (word : List ℕ) → Lacks 58 word → (s : Slot) → IsSlot s → word ≢ slot_word s
no_colon word h s k e = no_mark 58 s.name (kind_text s.kind (shape_text s.rows s.columns)) (subst (Lacks 58) (e ∙ word_is s) h)

parts : (word name text : List ℕ) → word ≡ name ++ 58 ∷ text → Lacks 58 name → (s : Slot) → IsSlot s → word ≡ slot_word s → (name ≡ s.name) × (text ≡ kind_text s.kind (shape_text s.rows s.columns))
parts word name text w l s k e =
    same_split 58 name text s.name (kind_text s.kind (shape_text s.rows s.columns)) l (name_lacks 58 refl s.name k.name) (sym w ∙ e ∙ word_is s)

pub no_name : (word name text : List ℕ) → word ≡ name ++ 58 ∷ text → Lacks 58 name → (IsName name → ⊥) → (s : Slot) → IsSlot s → word ≢ slot_word s
no_name word name text w l never s k e = never (subst IsName (sym (parts word name text w l s k e).0) k.name)

pub no_kind : (word name text : List ℕ) → word ≡ name ++ 58 ∷ text → Lacks 58 name → ReadsKind None text → (s : Slot) → IsSlot s → word ≢ slot_word s
no_kind word name text w l never s k e = never s.kind s.rows s.columns k.kind k.shape (parts word name text w l s k e).1

pub a_slot : (word name text : List ℕ) (elements : Elements) (s : CSlot) → word ≡ name ++ 58 ∷ text → IsName name → text ≡ elements_text elements → s.name ≡ name → s.kind ≡ elements.kind → s.shape ≡ elements.shape → ReadsSlot (Some s) word
a_slot word name text elements s w n t is_name is_kind is_shape = (
  record { name = subst IsName (sym is_name) n; kind = kind_within s.kind; shape = limits_of s.shape },
  w ∙ (λ i. sym is_name i ++ 58 ∷ t i) ∙ (λ i. s.name ++ 58 ∷ kind_text (kind_view (sym is_kind i)) (shape_text (rows_of (sym is_shape i)) (columns_of (sym is_shape i)))) ∙ sym (word_is (slot_view s)),
)

-- ---- the next slot

pub no_blank_behind : (bytes : List ℕ) → Lacks 32 bytes → (s : Slot) (rest : List ℕ) → IsSlot s → bytes ≢ slot_word s ++ 32 ∷ rest
no_blank_behind bytes h s rest k e = no_mark 32 (slot_word s) rest (subst (Lacks 32) e h)

pub no_next : (bytes word behind : List ℕ) → bytes ≡ word ++ 32 ∷ behind → Lacks 32 word → ReadsSlot None word → (s : Slot) (rest : List ℕ) → IsSlot s → bytes ≢ slot_word s ++ 32 ∷ rest
no_next bytes word behind w l never s rest k e = never s k (same_split 32 word behind (slot_word s) rest l (word_lacks s k) (sym w ∙ e)).0

pub drop_past : (a : List ℕ) (m : ℕ) (b : List ℕ) → drop (length a + 1) (a ++ m ∷ b) ≡ b
drop_past a m b = ap (drop (length a + 1)) (sym (append_assoc a (m ∷ []) b)) ∙ drop_at (a ++ m ∷ []) b (length a + 1) (length_push a m)

pub a_next : (bytes word behind : List ℕ) (s : CSlot) (before after : List CSlot) → bytes ≡ word ++ 32 ∷ behind → ReadsSlot (Some s) word → after ≡ before ++ s ∷ [] → ReadsNext (Some (length word + 1)) before after bytes
a_next bytes word behind s before after w h pushed =
    let size : length bytes ≡ length word + suc (length behind) = ap length w ∙ length-append word (32 ∷ behind) in
    let back : drop (length word + 1) bytes ≡ behind = ap (drop (length word + 1)) w ∙ drop_past word 32 behind in
    (s, pushed, h.0, w ∙ (λ i. h.1 i ++ 32 ∷ sym back i), omega arith, omega (arith, size))

-- ---- slots up to a mark

-- the slots that are left
pub record Remains (at : ℕ) (mark bytes rest : List ℕ) : Type 0 where
  pub left : List Slot
  pub each : All IsSlot left
  pub is : drop at bytes ≡ slots_words left (mark ++ rest)

-- slots so far, and what the rest gives
pub record Along (slots : List CSlot) (at start : ℕ) (mark bytes : List ℕ) : Type 0 where
  pub within : at ≤ length bytes
  pub each : All IsSlot (map slot_view slots)
  pub joins : (ss : List Slot) (rest : List ℕ) → drop at bytes ≡ slots_words ss rest → drop start bytes ≡ slots_words (map slot_view slots ++ ss) rest
  pub only : (ss : List Slot) (rest : List ℕ) → All IsSlot ss → drop start bytes ≡ slots_words ss (mark ++ rest) → Remains at mark bytes rest

pub begun : (start : ℕ) (mark bytes : List ℕ) (slots : List CSlot) → start ≤ length bytes → slots ≡ [] → Along slots start start mark bytes
begun start mark bytes slots within none =
    subst (λ l. Along l start start mark bytes) (sym none) (record {
      within = within;
      each = All-nil IsSlot;
      joins = λ ss rest e. e;
      only = λ ss rest each e. record { left = ss; each = each; is = e };
    })

-- what is left where the mark doesn't come
goes_on : (at : ℕ) (mark bytes rest : List ℕ) → TestsFront false mark (drop at bytes) → (P : Type 0) → Remains at mark bytes rest → ((s : Slot) (ss : List Slot) → IsSlot s → All IsSlot ss → drop at bytes ≡ slot_word s ++ 32 ∷ slots_words ss (mark ++ rest) → P) → P
goes_on at mark bytes rest never P r f = by r.left r.each r.is
  where
    by : (left : List Slot) → All IsSlot left → drop at bytes ≡ slots_words left (mark ++ rest) → P
    by [] each e = absurd (never rest e)
    by (s ∷ ss) each e = f s ss (All-head IsSlot s ss each) (All-tail IsSlot s ss each) e

pub ends_nowhere : (slots before after : List CSlot) (at start : ℕ) (mark bytes : List ℕ) → Along slots at start mark bytes → TestsFront false mark (drop at bytes) → ReadsNext None before after (drop at bytes) → ReadsSlots None slots start mark bytes
ends_nowhere slots before after at start mark bytes a never none ss rest each e =
    goes_on at mark bytes rest never ⊥ (a.only ss rest each e) (λ s more one all is. none s (slots_words more (mark ++ rest)) one is)

pub went_on : (slots after : List CSlot) (at start n : ℕ) (mark bytes : List ℕ) → Along slots at start mark bytes → TestsFront false mark (drop at bytes) → ReadsNext (Some n) slots after (drop at bytes) → Along after (at + n) start mark bytes
went_on slots after at start n mark bytes a never next =
    let view = slot_view next.0 in
    let back : drop n (drop at bytes) ≡ drop (at + n) bytes = drop-drop n at bytes in
    let is : drop at bytes ≡ slot_word view ++ 32 ∷ drop (at + n) bytes = next.3 ∙ ap (λ l. slot_word view ++ 32 ∷ l) back in
    let pushed : map slot_view after ≡ map slot_view slots ++ view ∷ [] = ap (map slot_view) next.1 ∙ map_push slot_view slots next.0 in
    record {
      within = omega (arith, a.within, next.5, length-drop at bytes);
      each = subst (All IsSlot) (sym pushed) (All-push IsSlot (map slot_view slots) view a.each next.2);
      joins = λ ss rest e.
          a.joins (view ∷ ss) rest (is ∙ ap (λ l. slot_word view ++ 32 ∷ l) e)
          ∙ ap (λ l. slots_words l rest) (sym (append_assoc (map slot_view slots) (view ∷ []) ss) ∙ ap (λ l. l ++ ss) (sym pushed));
      only = λ ss rest each e. goes_on at mark bytes rest never (Remains (at + n) mark bytes rest) (a.only ss rest each e) (λ s more one all q.
          record {
            left = more;
            each = all;
            is = (same_split 32 (slot_word view) (drop (at + n) bytes) (slot_word s) (slots_words more (mark ++ rest)) (word_lacks view next.2) (word_lacks s one) (sym is ∙ q)).1;
          });
    }

pub ends_there : (slots : List CSlot) (at start : ℕ) (mark bytes : List ℕ) → Along slots at start mark bytes → TestsFront true mark (drop at bytes) → ReadsSlots (Some (at + length mark)) slots start mark bytes
ends_there slots at start mark bytes a there =
    let back : drop (length mark) (drop at bytes) ≡ drop (at + length mark) bytes = drop-drop (length mark) at bytes in
    let is : drop at bytes ≡ mark ++ drop (at + length mark) bytes = there ∙ ap (λ l. mark ++ l) back in
    let size : length (drop at bytes) ≡ length mark + length (drop (length mark) (drop at bytes)) = ap length there ∙ length-append mark (drop (length mark) (drop at bytes)) in (
      a.each,
      a.joins [] (mark ++ drop (at + length mark) bytes) is ∙ ap (λ l. slots_words l (mark ++ drop (at + length mark) bytes)) (append-nil (map slot_view slots)),
      omega (arith, a.within, size, length-drop at bytes),
    )

-- ---- names

none_named : (name : List ℕ) (ss : List CSlot) → list_any (λ t. bytes_eq name t.name) ss ≡ false → All (λ t. name ≢ t.name) (map slot_view ss)
none_named name [] h = All-nil (λ t. name ≢ t.name)
none_named name (s ∷ ss) h =
    let both = or_parts (bytes_eq name s.name) (list_any (λ t. bytes_eq name t.name) ss) h in
    All-cons (λ t. name ≢ t.name) (slot_view s) (map slot_view ss) (λ e. false≢true (sym both.0 ∙ (bytes_eq-Decides name s.name).1 e)) (none_named name ss both.1)

named_apart : (name : List ℕ) (ss : List CSlot) → All (λ t. name ≢ t.name) (map slot_view ss) → list_any (λ t. bytes_eq name t.name) ss ≡ false
named_apart name [] h = refl
named_apart name (s ∷ ss) h =
    or_from (bytes_eq name s.name) (list_any (λ t. bytes_eq name t.name) ss)
    (false_from_ne_true (bytes_eq name s.name) (λ e. All-head (λ t. name ≢ t.name) (slot_view s) (map slot_view ss) h ((bytes_eq-Decides name s.name).0 e)))
    (named_apart name ss (All-tail (λ t. name ≢ t.name) (slot_view s) (map slot_view ss) h))

pairs_head : (s : Slot) (ss : List Slot) → AreNamedApart (s ∷ ss) → All (λ t. s.name ≢ t.name) ss
pairs_head s ss h k d low = h 0 (suc k) d (omega arith) (omega (arith, low))

pairs_tail : (s : Slot) (ss : List Slot) → AreNamedApart (s ∷ ss) → AreNamedApart ss
pairs_tail s ss h i j d less low = h (suc i) (suc j) d (omega (arith, less)) (omega (arith, low))

pub differ_apart : (ss : List CSlot) → differ ss ≡ true → AreNamedApart (map slot_view ss)
differ_apart [] h = λ i j d less low. absurd (omega (arith, low))
differ_apart (s ∷ ss) h =
    let both = and_parts (not (list_any (λ t. bytes_eq s.name t.name) ss)) (differ ss) h in
    AllPairs-cons (λ a b. a.name ≢ b.name) (slot_view s) (map slot_view ss) (none_named s.name ss (not-true (list_any (λ t. bytes_eq s.name t.name) ss) both.0)) (differ_apart ss both.1)

pub apart_differ : (ss : List CSlot) → AreNamedApart (map slot_view ss) → differ ss ≡ true
apart_differ [] h = refl
apart_differ (s ∷ ss) h =
    and_from (not (list_any (λ t. bytes_eq s.name t.name) ss)) (differ ss)
    (not_from_false (list_any (λ t. bytes_eq s.name t.name) ss) (named_apart s.name ss (pairs_head (slot_view s) (map slot_view ss) h)))
    (apart_differ ss (pairs_tail (slot_view s) (map slot_view ss) h))

pub apart_test : (ss : List CSlot) (b : Bool) → b ≡ differ ss → IsTrue b ↔ AreNamedApart (map slot_view ss)
apart_test ss b e = ((λ h. differ_apart ss (sym e ∙ h)), (λ h. e ∙ apart_differ ss h))
