-- Texts of slots.
use Rattle.std.proofs.Common.{◌≡◌, ℕ, Bool, true, false, List, [], ◌∷◌, ◌++◌, refl, sym, ap, ◌∙◌, arith, append_assoc}
use Rattle.std.specs.Prelude.{codes, All}
use Rattle.std.proofs.lemmas.Bool.{false≢true}
use Rattle.std.proofs.lemmas.List.Elements.{All-head, All-tail}
use Rattle.num_type.specs.Types.{NumericType}
use Rattle.fic_base.specs.Names.{is_letter, begins_with_letter}
use Rattle.shape_rules.specs.Shapes.{IsShape}
use Rattle.shape_rules.specs.TypeText.{sign_letter, type_text, shape_text, complex_mark}
use Rattle.shape_rules.specs.Pieces.{Lacks}
use Rattle.std.specs.Fmt.{decimal, signed_decimal}
use Rattle.shape_rules.proofs.Splits.{same_split, lacks_both}
use Rattle.c_tree.specs.Tree.{Kind, Fixed, Logical, Slot}
use Rattle.c_tree.specs.Interface.{kind_text}
use Rattle.c_tree.specs.WellFormed.{IsKind, IsSlot}
use Rattle.c_token.specs.Line.{slot_word, slots_words}
use Rattle.c_token.proofs.Marks.{heads, blank, colon, name_lacks, type_lacks, type_is, same_type, shape_lacks, same_shape, mark_lacks, same_marked}

-- a numeric type before its colon
pub colon_is : (t : NumericType) (shape mark : List ℕ) → type_text t ++ codes ":" ++ shape ++ mark ≡ type_text t ++ 58 ∷ (shape ++ mark)
colon_is t shape mark = append_assoc (type_text t ++ codes ":") shape mark ∙ append_assoc (type_text t) (58 ∷ []) (shape ++ mark)

-- a numeric type doesn't begin with `b`
pub no_b : (t : NumericType) (x y : List ℕ) → type_text t ++ x ≡ 98 ∷ y → ⊥
no_b t x y e = by t.signed (ap (λ l. l ++ x) (sym (type_is t)) ∙ e)
  where
    by : (s : Bool) → (sign_letter s ++ (decimal t.word ++ 46 ∷ signed_decimal t.fraction)) ++ x ≡ 98 ∷ y → ⊥
    by true q = omega (arith, heads 115 98 ((decimal t.word ++ 46 ∷ signed_decimal t.fraction) ++ x) y q)
    by false q = omega (arith, heads 117 98 ((decimal t.word ++ 46 ∷ signed_decimal t.fraction) ++ x) y q)

pub kind_lacks : (k : Kind) (r c : ℕ) → IsKind k → IsShape r c → Lacks 32 (kind_text k (shape_text r c))
kind_lacks (Fixed t b) r c h s =
    let front = lacks_both 32 (type_text t) (58 ∷ []) (type_lacks 32 blank t (h t b refl)) ((λ e. omega (arith, e)), tt) in
    let shape = lacks_both 32 (type_text t ++ codes ":") (shape_text r c) front (shape_lacks 32 blank.digit (λ e. omega (arith, e)) r c s) in
    lacks_both 32 (type_text t ++ codes ":" ++ shape_text r c) (complex_mark b) shape (mark_lacks 32 (λ e. omega (arith, e)) (λ e. omega (arith, e)) b)
kind_lacks Logical r c h s = ((λ e. omega (arith, e)), ((λ e. omega (arith, e)), shape_lacks 32 blank.digit (λ e. omega (arith, e)) r c s))

pub same_kind : (k j : Kind) (r c s d : ℕ) → IsKind k → IsKind j → IsShape r c → IsShape s d → kind_text k (shape_text r c) ≡ kind_text j (shape_text s d) → (k ≡ j) × (r ≡ s) × (c ≡ d)
same_kind (Fixed t a) (Fixed u b) r c s d h k p q e =
    let w = h t a refl in
    let v = k u b refl in
    let parts = same_split 58 (type_text t) (shape_text r c ++ complex_mark a) (type_text u) (shape_text s d ++ complex_mark b) (type_lacks 58 colon t w) (type_lacks 58 colon u v)
    (sym (colon_is t (shape_text r c) (complex_mark a)) ∙ e ∙ colon_is u (shape_text s d) (complex_mark b)) in
    let marked = same_marked a b (shape_text r c) (shape_text s d) (shape_lacks 58 colon.digit (λ n. omega (arith, n)) r c p) (shape_lacks 58 colon.digit (λ n. omega (arith, n)) s d q) parts.1 in
    let shapes = same_shape r c s d p q marked.1 in
    let types = same_type t u w v parts.0 in
    (λ i. Fixed (types i) (marked.0 i), shapes.0, shapes.1)
same_kind Logical Logical r c s d h k p q e =
    let shapes = same_shape r c s d p q (cc) in
    (refl, shapes.0, shapes.1)
same_kind (Fixed t a) Logical r c s d h k p q e =
    absurd (no_b t (58 ∷ (shape_text r c ++ complex_mark a)) (58 ∷ shape_text s d) (sym (colon_is t (shape_text r c) (complex_mark a)) ∙ e))
same_kind Logical (Fixed u b) r c s d h k p q e =
    absurd (no_b u (58 ∷ (shape_text s d ++ complex_mark b)) (58 ∷ shape_text r c) (sym (colon_is u (shape_text s d) (complex_mark b)) ∙ sym e))

-- ---- slots

pub word_is : (s : Slot) → slot_word s ≡ s.name ++ 58 ∷ kind_text s.kind (shape_text s.rows s.columns)
word_is s = append_assoc s.name (58 ∷ []) (kind_text s.kind (shape_text s.rows s.columns))

pub word_lacks : (s : Slot) → IsSlot s → Lacks 32 (slot_word s)
word_lacks s h =
    lacks_both 32 (s.name ++ codes ":") (kind_text s.kind (shape_text s.rows s.columns))
    (lacks_both 32 s.name (58 ∷ []) (name_lacks 32 refl s.name h.name) ((λ e. omega (arith, e)), tt)) (kind_lacks s.kind s.rows s.columns h.kind h.shape)

pub same_slot : (s t : Slot) → IsSlot s → IsSlot t → slot_word s ≡ slot_word t → s ≡ t
same_slot s t h k e =
    let parts = same_split 58 s.name (kind_text s.kind (shape_text s.rows s.columns)) t.name (kind_text t.kind (shape_text t.rows t.columns))
    (name_lacks 58 refl s.name h.name) (name_lacks 58 refl t.name k.name) (sym (word_is s) ∙ e ∙ word_is t) in
    let kinds = same_kind s.kind t.kind s.rows s.columns t.rows t.columns h.kind k.kind h.shape k.shape parts.1 in
    λ i. record { name = parts.0 i; kind = kinds.0 i; rows = kinds.1 i; columns = kinds.2 i }

-- a slot begins with a letter
pub no_slot : (s : Slot) (m : ℕ) (x y : List ℕ) → IsSlot s → is_letter m ≡ false → m ∷ x ≡ slot_word s ++ y → ⊥
no_slot s m x y h never e = by s.name h.name.letter (e ∙ ap (λ l. l ++ y) (word_is s))
  where
    by : (name : List ℕ) → begins_with_letter name ≡ true → m ∷ x ≡ (name ++ 58 ∷ kind_text s.kind (shape_text s.rows s.columns)) ++ y → ⊥
    by [] letter q = false≢true letter
    by (b ∷ name) letter q =
        let same : m ≡ b = cc in
        false≢true (sym never ∙ ap is_letter same ∙ letter)

-- ---- lists of slots

pub same_slots : (xs ys : List Slot) (m : ℕ) (a b : List ℕ) → All IsSlot xs → All IsSlot ys → is_letter m ≡ false → slots_words xs (m ∷ a) ≡ slots_words ys (m ∷ b) → (xs ≡ ys) × (a ≡ b)
same_slots [] [] m a b h k never e = (refl, cc)
same_slots [] (y ∷ ys) m a b h k never e = absurd (no_slot y m a (32 ∷ slots_words ys (m ∷ b)) (All-head IsSlot y ys k) never e)
same_slots (x ∷ xs) [] m a b h k never e = absurd (no_slot x m b (32 ∷ slots_words xs (m ∷ a)) (All-head IsSlot x xs h) never (sym e))
same_slots (x ∷ xs) (y ∷ ys) m a b h k never e =
    let hx = All-head IsSlot x xs h in
    let hy = All-head IsSlot y ys k in
    let parts = same_split 32 (slot_word x) (slots_words xs (m ∷ a)) (slot_word y) (slots_words ys (m ∷ b)) (word_lacks x hx) (word_lacks y hy) e in
    let more = same_slots xs ys m a b (All-tail IsSlot x xs h) (All-tail IsSlot y ys k) never parts.1 in
    let first = same_slot x y hx hy parts.0 in
    (λ i. first i ∷ more.0 i, more.1)
