-- Bytes that stand in no text of a kind.
use Rattle.std.proofs.Common.{inl, inr, ◌⊎◌, ◌≡◌, ◌≢◌, ℕ, suc, ◌*◌, ◌<◌, ◌≤◌, ◌^◌, Bool, true, false, List, [], ◌∷◌, ◌++◌, refl, sym, ap, ◌∙◌, subst, arith, append_assoc, append-nil}
use Rattle.std.specs.Prelude.{codes, ℤ, pos, negsuc, ◌≤ℤ◌}
use Rattle.std.specs.List.{list_all}
use Rattle.std.specs.Fmt.{decimal, signed_decimal}
use Rattle.std.proofs.lemmas.Bool.{and_parts, false≢true}
use Rattle.std.proofs.lemmas.Int.{ints}
use Rattle.std.proofs.Math.Nat.{le-mul_of_pos_right}
use Rattle.num_type.specs.Types.{NumericType, IsWithin, fraction_least, fraction_most}
use Rattle.fic_base.specs.Names.{is_name_byte, IsName}
use Rattle.shape_rules.specs.Shapes.{IsShape}
use Rattle.shape_rules.specs.TypeText.{sign_letter, type_text, shape_text, complex_mark}
use Rattle.shape_rules.specs.Pieces.{Lacks}
use Rattle.shape_rules.proofs.Splits.{same_split, no_mark, lacks_both}
use Rattle.shape_rules.proofs.Texts.{decimal_lacks, same_decimal, same_fraction}

-- a byte that stands in the text of no numeric type
pub record IsMark (m : ℕ) : Type 0 where
  pub digit : (m < 48) ⊎ (57 < m)
  pub minus : 45 ≢ m
  pub dot : 46 ≢ m
  pub s : 115 ≢ m
  pub u : 117 ≢ m

pub blank : IsMark 32
blank = record { digit = inl (omega arith); minus = λ e. omega (arith, e); dot = λ e. omega (arith, e); s = λ e. omega (arith, e); u = λ e. omega (arith, e) }

pub colon : IsMark 58
colon = record { digit = inr (omega arith); minus = λ e. omega (arith, e); dot = λ e. omega (arith, e); s = λ e. omega (arith, e); u = λ e. omega (arith, e) }

pub cross : IsMark 120
cross = record { digit = inr (omega arith); minus = λ e. omega (arith, e); dot = λ e. omega (arith, e); s = λ e. omega (arith, e); u = λ e. omega (arith, e) }

-- parts of what lacks a byte
pub lacks_left : (m : ℕ) (a b : List ℕ) → Lacks m (a ++ b) → Lacks m a
lacks_left m [] b h = tt
lacks_left m (x ∷ a) b h = (h.0, lacks_left m a b h.1)

pub lacks_right : (m : ℕ) (a b : List ℕ) → Lacks m (a ++ b) → Lacks m b
lacks_right m [] b h = h
lacks_right m (x ∷ a) b h = lacks_right m a b h.1

-- ---- names

bytes_lack : (m : ℕ) → is_name_byte m ≡ false → (bs : List ℕ) → list_all is_name_byte bs ≡ true → Lacks m bs
bytes_lack m never [] h = tt
bytes_lack m never (b ∷ bs) h =
    let both = and_parts (is_name_byte b) (list_all is_name_byte bs) h in
    ((λ e. false≢true (sym never ∙ ap is_name_byte (sym e) ∙ both.0)), bytes_lack m never bs both.1)

pub name_lacks : (m : ℕ) → is_name_byte m ≡ false → (name : List ℕ) → IsName name → Lacks m name
name_lacks m never name h = bytes_lack m never name h.name_bytes

-- ---- types

fraction_lacks : (m : ℕ) → IsMark m → (z : ℤ) → fraction_least ≤ℤ z → z ≤ℤ fraction_most → Lacks m (signed_decimal z)
fraction_lacks m h (pos n) l k = decimal_lacks m n (omega (arith, ints, k)) h.digit
fraction_lacks m h (negsuc n) l k = (h.minus, decimal_lacks m (suc n) (omega (arith, ints, l)) h.digit)

sign_lacks : (m : ℕ) → IsMark m → (signed : Bool) → Lacks m (sign_letter signed)
sign_lacks m h true = (h.s, tt)
sign_lacks m h false = (h.u, tt)

pub few_bits : (t : NumericType) → IsWithin t → t.word < 2 ^ 128
few_bits t w = let few : t.word ≤ 64 = w.bits in omega (arith, few)

pub type_lacks : (m : ℕ) → IsMark m → (t : NumericType) → IsWithin t → Lacks m (type_text t)
type_lacks m h t w =
    let word = decimal_lacks m t.word (few_bits t w) h.digit in
    let front = lacks_both m (sign_letter t.signed) (decimal t.word) (sign_lacks m h t.signed) word in
    let dot = lacks_both m (sign_letter t.signed ++ decimal t.word) (46 ∷ []) front (h.dot, tt) in
    lacks_both m (sign_letter t.signed ++ decimal t.word ++ codes ".") (signed_decimal t.fraction) dot (fraction_lacks m h t.fraction w.least w.most)

pub type_is : (t : NumericType) → type_text t ≡ sign_letter t.signed ++ (decimal t.word ++ 46 ∷ signed_decimal t.fraction)
type_is t =
    append_assoc (sign_letter t.signed ++ decimal t.word) (46 ∷ []) (signed_decimal t.fraction)
    ∙ append_assoc (sign_letter t.signed) (decimal t.word) (46 ∷ signed_decimal t.fraction)

pub heads : (x y : ℕ) (a b : List ℕ) → x ∷ a ≡ y ∷ b → x ≡ y
heads x y a b e = cc

same_sign : (a b : Bool) (x y : List ℕ) → sign_letter a ++ x ≡ sign_letter b ++ y → (a ≡ b) × (x ≡ y)
same_sign true true x y e = (refl, cc)
same_sign false false x y e = (refl, cc)
same_sign true false x y e = absurd (omega (arith, heads 115 117 x y e))
same_sign false true x y e = absurd (omega (arith, heads 117 115 x y e))

pub same_type : (t u : NumericType) → IsWithin t → IsWithin u → type_text t ≡ type_text u → t ≡ u
same_type t u w v e =
    let signs = same_sign t.signed u.signed (decimal t.word ++ 46 ∷ signed_decimal t.fraction) (decimal u.word ++ 46 ∷ signed_decimal u.fraction) (sym (type_is t) ∙ e ∙ type_is u) in
    let parts = same_split 46 (decimal t.word) (signed_decimal t.fraction) (decimal u.word) (signed_decimal u.fraction)
    (decimal_lacks 46 t.word (few_bits t w) (inl (omega arith))) (decimal_lacks 46 u.word (few_bits u v) (inl (omega arith))) signs.1 in
    let word : t.word ≡ u.word = same_decimal t.word u.word (few_bits t w) (few_bits u v) parts.0 in
    let fraction : t.fraction ≡ u.fraction = same_fraction t.fraction u.fraction w.least w.most v.least v.most parts.1 in
    λ i. record { signed = signs.0 i; word = word i; fraction = fraction i }

-- ---- shapes

pub few_rows : (rows columns : ℕ) → IsShape rows columns → rows ≤ 4096
few_rows rows columns h = let few : rows * columns ≤ 4096 = h.few in omega (arith, le-mul_of_pos_right rows h.a_column, few)

pub few_columns : (rows columns : ℕ) → IsShape rows columns → columns ≤ 4096
few_columns rows columns h = let few : rows * columns ≤ 4096 = h.few in omega (arith, le-mul_of_pos_right columns h.a_row, few)

pub shape_is : (rows columns : ℕ) → shape_text rows columns ≡ decimal rows ++ 120 ∷ decimal columns
shape_is rows columns = append_assoc (decimal rows) (120 ∷ []) (decimal columns)

pub shape_lacks : (m : ℕ) → (m < 48) ⊎ (57 < m) → 120 ≢ m → (rows columns : ℕ) → IsShape rows columns → Lacks m (shape_text rows columns)
shape_lacks m digit x rows columns h =
    lacks_both m (decimal rows ++ codes "x") (decimal columns)
    (lacks_both m (decimal rows) (120 ∷ []) (decimal_lacks m rows (omega (arith, few_rows rows columns h)) digit) (x, tt))
    (decimal_lacks m columns (omega (arith, few_columns rows columns h)) digit)

pub same_shape : (r c s d : ℕ) → IsShape r c → IsShape s d → shape_text r c ≡ shape_text s d → (r ≡ s) × (c ≡ d)
same_shape r c s d h k e =
    let parts = same_split 120 (decimal r) (decimal c) (decimal s) (decimal d)
    (decimal_lacks 120 r (omega (arith, few_rows r c h)) (inr (omega arith))) (decimal_lacks 120 s (omega (arith, few_rows s d k)) (inr (omega arith)))
    (sym (shape_is r c) ∙ e ∙ shape_is s d) in (
      same_decimal r s (omega (arith, few_rows r c h)) (omega (arith, few_rows s d k)) parts.0,
      same_decimal c d (omega (arith, few_columns r c h)) (omega (arith, few_columns s d k)) parts.1,
    )

-- ---- marks of complex types

pub mark_lacks : (m : ℕ) → 58 ≢ m → 99 ≢ m → (b : Bool) → Lacks m (complex_mark b)
mark_lacks m c d true = (c, (d, tt))
mark_lacks m c d false = tt

pub same_marked : (a b : Bool) (s t : List ℕ) → Lacks 58 s → Lacks 58 t → s ++ complex_mark a ≡ t ++ complex_mark b → (a ≡ b) × (s ≡ t)
same_marked true true s t p q e = (refl, (same_split 58 s (99 ∷ []) t (99 ∷ []) p q e).0)
same_marked false false s t p q e = (refl, sym (append-nil s) ∙ e ∙ append-nil t)
same_marked true false s t p q e = absurd (no_mark 58 s (99 ∷ []) (subst (Lacks 58) (sym (e ∙ append-nil t)) q))
same_marked false true s t p q e = absurd (no_mark 58 t (99 ∷ []) (subst (Lacks 58) (sym (append-nil s) ∙ e) p))
