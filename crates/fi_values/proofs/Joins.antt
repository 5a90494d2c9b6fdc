-- Brackets of sound values are sound.
use Rattle.std.proofs.Common.{◌≡◌, refl, sym, ap, ◌∙◌, ℕ, ◌+◌, ◌*◌, ◌≤◌, Bool, true, false, List, [], ◌∷◌, length, arith, length-append, subst}
use Rattle.std.specs.Prelude.{ℤ, ◌&&◌, nat_eq}
use Rattle.std.specs.List.{AllByRecursion}
use Rattle.std.specs.Ordering.{int_eq}
use mathlib.Core.Bool.{beq}
use Rattle.std.proofs.lemmas.Bool.{and_parts, eqb-true}
use Rattle.std.proofs.lemmas.Bool.Decides.{Decides-int_eq}
use Rattle.std.proofs.lemmas.List.{length-map}
use Rattle.std.proofs.Math.Nat.{mul_comm, mul-add}
use Rattle.num_type.specs.Constants.{Exact}
use Rattle.num_type.specs.Types.{NumericType, IsInRange}
use Rattle.fi_rules.specs.Types.{same_type, same_attached}
use Rattle.fi_rules.specs.Value.{Shape, count, Val, Fi, ComplexFi, Logical, Number, ComplexNumber, Words, MathObject, TypeObject}
use Rattle.fi_values.specs.Brackets.{Join, Beside, Above, shape_joined, lists, same_kind, shape_by, complex_joined, joined, is_element, all_joined, joined_by, row_values, bracket}
use Rattle.fi_values.specs.Numbers.{nought_parts}
use Rattle.fi_values.specs.Shapes.{is_small}
use Rattle.fi_values.specs.Sound.{IsSized, IsStored, IsSound}
use Rattle.fi_values.proofs.Each.{each_append, each_stacked, is_stored, ranges}
use Rattle.fi_values.proofs.Holds.{Holds, holds, empty, holds_then, holds_where}
use Rattle.fi_values.proofs.Lists.{length-stacked}
use Rattle.fi_values.proofs.Sizes.{small_sized}

-- ---- one type

same_sign : (a b : Bool) → beq a b ≡ true → a ≡ b
same_sign true true e = refl
same_sign false false e = refl
same_sign true false e = absurd (cc)
same_sign false true e = absurd (cc)

pub type_same : (t u : NumericType) → same_type t u ≡ true → u ≡ t
type_same t u e =
    let p = and_parts (beq t.signed u.signed && nat_eq t.word u.word) (int_eq t.fraction u.fraction) e in
    let q = and_parts (beq t.signed u.signed) (nat_eq t.word u.word) p.0 in
    let signs : u.signed ≡ t.signed = sym (same_sign t.signed u.signed q.0) in
    let words : u.word ≡ t.word = sym (eqb-true t.word u.word q.1) in
    let fractions : u.fraction ≡ t.fraction = sym ((Decides-int_eq t.fraction u.fraction).0 p.1) in
    λ i. record { signed = signs i; word = words i; fraction = fractions i }

-- ---- the joined shape

-- the same height beside each other, the same width above each other
abbrev Meets : Join → Shape → Shape → Shape → Type 0
Meets Beside s t r = (t.rows ≡ s.rows) × (count r ≡ s.rows * (s.columns + t.columns))
Meets Above s t r = (t.columns ≡ s.columns) × (count r ≡ (s.rows + t.rows) * s.columns)

length-lists : {A : Type 0} (j : Join) (s t r : Shape) (xs ys : List A) → Meets j s t r → length xs ≡ count s → length ys ≡ count t → length (lists j s t xs ys) ≡ count r
length-lists Beside s t r xs ys m e f =
    let rows : t.rows * t.columns ≡ s.rows * t.columns = ap (λ (n : ℕ). n * t.columns) m.0 in
    omega (arith, length-append xs ys, e, f, rows, m.1, mul-add s.rows s.columns t.columns)
length-lists Above s t r xs ys m e f =
    let columns : t.rows * t.columns ≡ t.rows * s.columns = ap (λ (n : ℕ). t.rows * n) m.0 in
    length-stacked s.columns s.rows t.rows xs ys (e ∙ mul_comm s.rows s.columns) (f ∙ columns ∙ mul_comm t.rows s.columns)
    ∙ mul_comm s.columns (s.rows + t.rows) ∙ sym m.1

each_lists : {A : Type 0} (P : A → Type 0) (j : Join) (s t : Shape) (xs ys : List A) → AllByRecursion P xs → AllByRecursion P ys → AllByRecursion P (lists j s t xs ys)
each_lists P Beside s t xs ys a b = each_append P xs ys a b
each_lists P Above s t xs ys a b = each_stacked P s.columns s.rows t.rows xs ys a b

-- within the limit
record IsJoined (j : Join) (s t r : Shape) : Type 0 where
  sized : IsSized r
  meets : Meets j s t r

met_by : (j : Join) (s t : Shape) → IsSized s → IsSized t → Holds (λ r. (1 ≤ r.rows) × (1 ≤ r.columns) × Meets j s t r) (shape_joined j s t)
met_by Beside s t h k =
    holds_where (λ r. (1 ≤ r.rows) × (1 ≤ r.columns) × Meets Beside s t r) (nat_eq s.rows t.rows) _
    (λ e. (h.some_rows, omega (arith, h.some_columns), (sym (eqb-true s.rows t.rows e), refl)))
met_by Above s t h k =
    holds_where (λ r. (1 ≤ r.rows) × (1 ≤ r.columns) × Meets Above s t r) (nat_eq s.columns t.columns) _
    (λ e. (omega (arith, h.some_rows), h.some_columns, (sym (eqb-true s.columns t.columns e), refl)))

shape_joins : (j : Join) (s t : Shape) → IsSized s → IsSized t → Holds (IsJoined j s t) (shape_by j s t)
shape_joins j s t h k =
    holds_then (met_by j s t h k) (λ r p. holds_where (IsJoined j s t) (is_small r) r (λ e. record { sized = small_sized r p.0 p.1 e; meets = p.2 }))

-- ---- two values

lists_stored : (u : NumericType) (j : Join) (s t r : Shape) (xs ys : List ℤ) → IsJoined j s t r → IsStored u s xs → IsStored u t ys → IsStored u r (lists j s t xs ys)
lists_stored u j s t r xs ys m h k =
    is_stored (length-lists j s t r xs ys m.meets h.filled k.filled)
    (each_lists (IsInRange u) j s t xs ys (ranges h) (ranges k))

complex_joins : (j : Join) (s : Shape) (xs ys : List Exact) (t : Shape) (us vs : List Exact) → IsSized s → IsSized t → length xs ≡ count s → length ys ≡ count s → length us ≡ count t → length vs ≡ count t → Holds IsSound (complex_joined j s xs ys t us vs)
complex_joins j s xs ys t us vs h k a b c d =
    holds_then (shape_joins j s t h k) (λ r m. holds _ (m.sized, length-lists j s t r xs us m.meets a c, length-lists j s t r ys vs m.meets b d))

joined_sound : (j : Join) (v w : Val) → IsSound v → IsSound w → Holds IsSound (joined j v w)
unfolding joined
joined_sound j (Fi t m s xs) (Fi u n r ys) h k =
    holds_then (holds_where (λ z. (u ≡ t) × IsSized z × IsStored t z xs) (same_kind t m u n) s (λ e. (type_same t u (and_parts (same_type t u) (same_attached m n) e).0, h.1, h.2)))
    (λ z p. holds_then (shape_joins j z r p.1 k.1) (λ q c.
    holds _ (h.0, c.sized, lists_stored t j z r q xs ys c p.2 (subst (λ (x : NumericType). IsStored x r ys) p.0 k.2))))
joined_sound j (ComplexFi t m s xs ys) (ComplexFi u n r us vs) h k =
    holds_then (holds_where (λ z. (u ≡ t) × IsSized z × IsStored t z xs × IsStored t z ys) (same_kind t m u n) s (λ e. (type_same t u (and_parts (same_type t u) (same_attached m n) e).0, h.1, h.2, h.3)))
    (λ z p. holds_then (shape_joins j z r p.1 k.1) (λ q c.
    holds _ (h.0, c.sized, lists_stored t j z r q xs us c p.2 (subst (λ (x : NumericType). IsStored x r us) p.0 k.2), lists_stored t j z r q ys vs c p.3 (subst (λ (x : NumericType). IsStored x r vs) p.0 k.3))))
joined_sound j (Logical s bs) (Logical t cs) h k = holds_then (shape_joins j s t h.0 k.0) (λ r c. holds _ (c.sized, length-lists j s t r bs cs c.meets h.1 k.1))
joined_sound j (Number s xs) (Number t ys) h k = holds_then (shape_joins j s t h.0 k.0) (λ r c. holds _ (c.sized, length-lists j s t r xs ys c.meets h.1 k.1))
joined_sound j (Number s xs) (ComplexNumber t us vs) h k = complex_joins j s xs (nought_parts xs) t us vs h.0 k.0 h.1 (length-map xs _ ∙ h.1) k.1 k.2
joined_sound j (ComplexNumber s xs ys) (Number t us) h k = complex_joins j s xs ys t us (nought_parts us) h.0 k.0 h.1 h.2 k.1 (length-map us _ ∙ k.1)
joined_sound j (ComplexNumber s xs ys) (ComplexNumber t us vs) h k = complex_joins j s xs ys t us vs h.0 k.0 h.1 h.2 k.1 k.2
joined_sound j v w h k = empty

-- ---- rows and columns

element_sound : (v : Val) → IsSound v → Holds IsSound (is_element v)
unfolding is_element
element_sound (Fi t m s xs) h = holds _ h
element_sound (ComplexFi t m s xs ys) h = holds _ h
element_sound (Logical s bs) h = holds _ h
element_sound (Number s cs) h = holds _ h
element_sound (ComplexNumber s xs ys) h = holds _ h
element_sound (Words text) h = empty
element_sound (MathObject m) h = empty
element_sound (TypeObject t) h = empty

all_joined_sound : (j : Join) (v : Val) (ws : List Val) → IsSound v → AllByRecursion IsSound ws → Holds IsSound (all_joined j v ws)
all_joined_sound j v [] h k = holds v h
all_joined_sound j v (w ∷ ws) h k = holds_then (joined_sound j v w h k.0) (λ u p. all_joined_sound j u ws p k.1)

joined_by_sound : (j : Join) (vs : List Val) → AllByRecursion IsSound vs → Holds IsSound (joined_by j vs)
joined_by_sound j [] h = empty
joined_by_sound j (v ∷ vs) h = holds_then (element_sound v h.0) (λ w p. all_joined_sound j w vs p h.1)

rows_sound : (rows : List (List Val)) → AllByRecursion (AllByRecursion IsSound) rows → Holds (AllByRecursion IsSound) (row_values rows)
rows_sound [] h = holds [] tt
rows_sound (r ∷ rs) h = holds_then (joined_by_sound Beside r h.0) (λ v p. holds_then (rows_sound rs h.1) (λ vs q. holds (v ∷ vs) (p, q)))

pub bracket_sound : (rows : List (List Val)) → AllByRecursion (AllByRecursion IsSound) rows → Holds IsSound (bracket rows)
bracket_sound rows h = holds_then (rows_sound rows h) (λ vs p. joined_by_sound Above vs p)
