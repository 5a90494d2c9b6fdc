-- What the readers answer.
use Rattle.std.proofs.Common.{inl, inr, ◌≡◌, ◌≢◌, ℕ, ◌*◌, ◌<◌, ◌≤◌, ◌^◌, Bool, true, false, List, [], ◌∷◌, ◌++◌, length, refl, sym, ap, ◌∙◌, subst, arith, append-nil}
use Rattle.std.specs.Prelude.{codes, ℤ, ◌≤ℤ◌, ◌↔◌, Option, Some, None, IsSome, IfSome, bytes_eq}
use Rattle.std.proofs.lemmas.Slice.Eq.{bytes_eq-Decides}
use Rattle.std.specs.Fmt.{decimal, signed_decimal}
use Rattle.num_type.specs.Types.{IsWithin, fraction_least, fraction_most}
use Rattle.num_type.specs.View.{type_of}
use Rattle.num_type.specs.declared.num_type.NumType.{NumType}
use Rattle.shape_rules.specs.declared.shape.Shape.{Shape}
use Rattle.shape_rules.specs.declared.declared.Declared.{Declared}
use Rattle.shape_rules.specs.Shapes.{IsShape, rows_of, columns_of}
use Rattle.shape_rules.specs.TypeText.{sign_letter, type_text, shape_text, complex_mark}
use Rattle.shape_rules.specs.Pieces.{Lacks}
use Rattle.shape_rules.specs.Declarations.{lengths_text, IsTypeText, IsBehind, ReadsLengths, ReadsShape, ReadsNum, ReadsType, ReadsBehind, ReadsMarked}
use Rattle.shape_rules.proofs.Splits.{same_split, no_mark}
use Rattle.shape_rules.proofs.Texts.{same_decimal, same_fraction, lengths_parts, lengths_are, shape_is, shape_parts, few_rows, few_columns, type_lacks, shape_lacks, type_is, declared_is}

no_some : (A : Type 0) → IsSome {T = A} None → ⊥
no_some A h = cc

pub made_type : (r : Option NumType) (signed : Bool) (word : ℕ) (fraction : ℤ) (bytes w f : List ℕ) → bytes ≡ w ++ 46 ∷ f → Lacks 46 w → w ≡ decimal word → word < 2 ^ 32 → f ≡ signed_decimal fraction → fraction_least ≤ℤ fraction → fraction ≤ℤ fraction_most
    → IsSome r ↔ IsWithin (record { signed = signed; word = word; fraction = fraction }) → IfSome r (λ t. type_of t ≡ record { signed = signed; word = word; fraction = fraction }) → ReadsLengths r signed bytes
made_type (Some t) signed word fraction bytes w f b l p small q least most limits parts =
    (ap (λ n. n.signed) parts, b ∙ (λ i. p i ++ 46 ∷ q i) ∙ (λ i. decimal ((sym parts i).word) ++ 46 ∷ signed_decimal ((sym parts i).fraction)) ∙ sym (lengths_are t))
made_type None signed word fraction bytes w f b l p small q least most limits parts = λ t s e.
    let both = lengths_parts t w f l (sym b ∙ e) in
    let same_word : t.word ≡ word = same_decimal t.word word (omega (arith, t.bits)) (omega (arith, small)) (sym both.0 ∙ p) in
    let same : t.fraction ≡ fraction = same_fraction t.fraction fraction t.least t.most least most (sym both.1 ∙ q) in
    no_some NumType (limits.1 (record {
      one_bit = subst (λ n. 1 ≤ n) same_word t.one_bit;
      bits = subst (λ n. n ≤ 64) same_word t.bits;
      least = least;
      most = most;
    }))

pub other_bytes : (a b c : List ℕ) → false ≡ bytes_eq a b → b ≡ c → a ≡ c → ⊥
other_bytes a b c h p q = let same : bytes_eq a b ≡ true = (bytes_eq-Decides a b).1 (q ∙ sym p) in cc

-- Lengths that aren't read

pub unread_word : (t : NumType) (bytes w f : List ℕ) → bytes ≡ w ++ 46 ∷ f → Lacks 46 w → ((n : ℕ) → n < 2 ^ 32 → w ≢ decimal n) → bytes ≢ lengths_text t
unread_word t bytes w f b l h e = h t.word (omega (arith, t.bits)) (lengths_parts t w f l (sym b ∙ e)).0

pub unread_fraction : (t : NumType) (bytes w f : List ℕ) → bytes ≡ w ++ 46 ∷ f → Lacks 46 w → ((z : ℤ) → fraction_least ≤ℤ z → z ≤ℤ fraction_most → f ≢ signed_decimal z) → bytes ≢ lengths_text t
unread_fraction t bytes w f b l h e = h t.fraction t.least t.most (lengths_parts t w f l (sym b ∙ e)).1

pub unread_rows : (s : Shape) (bytes a b : List ℕ) → bytes ≡ a ++ 120 ∷ b → Lacks 120 a → ((n : ℕ) → n < 2 ^ 32 → a ≢ decimal n) → bytes ≢ shape_text (rows_of s) (columns_of s)
unread_rows s bytes a b w l h e = h s.rows (few_rows s) (shape_parts s a b l (sym w ∙ e)).0

pub unread_columns : (s : Shape) (bytes a b : List ℕ) → bytes ≡ a ++ 120 ∷ b → Lacks 120 a → ((n : ℕ) → n < 2 ^ 32 → b ≢ decimal n) → bytes ≢ shape_text (rows_of s) (columns_of s)
unread_columns s bytes a b w l h e = h s.cols (few_columns s) (shape_parts s a b l (sym w ∙ e)).1

-- Numeric types

same_front : (letter : ℕ) (rest : List ℕ) (a b : Bool) (more : List ℕ) → letter ∷ [] ≡ sign_letter b → letter ∷ rest ≡ sign_letter a ++ more → (a ≡ b) × (rest ≡ more)
same_front letter rest true true more l e = (refl, cc)
same_front letter rest false false more l e = (refl, cc)
same_front letter rest true false more l e = let p : letter ≡ 117 = cc in let q : letter ≡ 115 = cc in absurd (omega (arith, p, q))
same_front letter rest false true more l e = let p : letter ≡ 115 = cc in let q : letter ≡ 117 = cc in absurd (omega (arith, p, q))

first : (letter : ℕ) (rest : List ℕ) (a : Bool) (more : List ℕ) → letter ∷ rest ≡ sign_letter a ++ more → letter ∷ [] ≡ sign_letter a
first letter rest true more e = let n : letter ≡ 115 = cc in ap (λ x. x ∷ []) n
first letter rest false more e = let n : letter ≡ 117 = cc in ap (λ x. x ∷ []) n

pub signed_type : (r : Option NumType) (signed : Bool) (letter : ℕ) (bytes rest : List ℕ) → bytes ≡ letter ∷ rest → letter ∷ [] ≡ sign_letter signed → ReadsLengths r signed rest → ReadsNum r bytes
signed_type (Some t) signed letter bytes rest b l h = b ∙ (λ i. l i ++ h.1 i) ∙ ap (λ s. sign_letter s ++ lengths_text t) (sym h.0) ∙ sym (type_is t)
signed_type None signed letter bytes rest b l h = λ t e.
    let both = same_front letter rest t.signed signed (lengths_text t) l (sym b ∙ e ∙ type_is t) in
    h t both.0 both.1

pub no_sign : (letter : ℕ) (bytes rest : List ℕ) → bytes ≡ letter ∷ rest → ((signed : Bool) → letter ∷ [] ≢ sign_letter signed) → (t : NumType) → bytes ≢ type_text (type_of t)
no_sign letter bytes rest b h t e = h t.signed (first letter rest t.signed (lengths_text t) (sym b ∙ e ∙ type_is t))

pub no_bytes : (bytes : List ℕ) → length bytes ≡ 0 → (t : NumType) → bytes ≢ type_text (type_of t)
no_bytes (b ∷ bs) none t e = omega (arith, none)
no_bytes [] none t e = by t.signed (e ∙ type_is t)
  where
    by : (s : Bool) → [] ≡ sign_letter s ++ lengths_text t → ⊥
    by true q = cc
    by false q = cc

-- Shapes

pub made_shape : (r : Option Shape) (rows cols : ℕ) (bytes a b : List ℕ) → bytes ≡ a ++ 120 ∷ b → Lacks 120 a → a ≡ decimal rows → rows < 2 ^ 32 → b ≡ decimal cols → cols < 2 ^ 32
    → IsSome r ↔ IsShape rows cols → IfSome r (λ s. rows_of s ≡ rows) → IfSome r (λ s. columns_of s ≡ cols) → ReadsShape r bytes
made_shape (Some s) rows cols bytes a b w l p few q less limits r c =
    w ∙ (λ i. p i ++ 120 ∷ q i) ∙ (λ i. decimal (sym r i) ++ 120 ∷ decimal (sym c i)) ∙ sym (shape_is s)
made_shape None rows cols bytes a b w l p few q less limits r c = λ s e.
    let both = shape_parts s a b l (sym w ∙ e) in
    let same_rows : s.rows ≡ rows = same_decimal s.rows rows (omega (arith, few_rows s)) (omega (arith, few)) (sym both.0 ∙ p) in
    let same_cols : s.cols ≡ cols = same_decimal s.cols cols (omega (arith, few_columns s)) (omega (arith, less)) (sym both.1 ∙ q) in
    no_some Shape (limits.1 (record {
      a_row = subst (λ n. 1 ≤ n) same_rows s.a_row;
      a_column = subst (λ n. 1 ≤ n) same_cols s.a_column;
      few = subst (λ n. n ≤ 4096) (λ i. same_rows i * same_cols i) s.few;
    }))

-- Behind a numeric type

pub plain_none : (rest : List ℕ) → (rest ≡ codes "c" → ⊥) → Lacks 58 rest → ReadsShape None rest → (d : Declared) → IsBehind rest d → ⊥
plain_none rest n l h d (inr e) = n e.2
plain_none rest n l h d (inl e) = by d.complex e
  where
    by : (c : Bool) → rest ≡ shape_text (rows_of d.shape) (columns_of d.shape) ++ complex_mark c → ⊥
    by false q = h d.shape (q ∙ append-nil (shape_text (rows_of d.shape) (columns_of d.shape)))
    by true q = no_mark 58 (shape_text (rows_of d.shape) (columns_of d.shape)) (codes "c") (subst (Lacks 58) q l)

pub marked : (r : Option Declared) (num : NumType) (rest text mark : List ℕ) → (rest ≡ codes "c" → ⊥) → rest ≡ text ++ 58 ∷ mark → Lacks 58 text → ReadsMarked r num text mark → ReadsBehind r num rest
marked (Some d) num rest text mark n w l h =
    (h.0, inl (w ∙ (λ i. h.2 i ++ 58 ∷ h.3 i) ∙ ap (λ c. shape_text (rows_of d.shape) (columns_of d.shape) ++ complex_mark c) (sym h.1)))
marked None num rest text mark n w l h = λ d e. both d e
  where
    plain : (d : Declared) (c : Bool) → rest ≡ shape_text (rows_of d.shape) (columns_of d.shape) ++ complex_mark c → ⊥
    plain d false q = no_mark 58 text mark (subst (Lacks 58) (sym (q ∙ append-nil (shape_text (rows_of d.shape) (columns_of d.shape))) ∙ w) (shape_lacks d.shape))
    plain d true q =
        let parts = same_split 58 text mark (shape_text (rows_of d.shape) (columns_of d.shape)) (codes "c") l (shape_lacks d.shape) (sym w ∙ q) in
        h d.shape parts.0 parts.1

    both : (d : Declared) → IsBehind rest d → ⊥
    both d (inl e) = plain d d.complex e
    both d (inr e) = n e.2

-- Whole types

pub whole_none : (bytes : List ℕ) → Lacks 58 bytes → ReadsNum None bytes → (d : Declared) → IsTypeText bytes d → ⊥
whole_none bytes l h d (inl e) = no_mark 58 (type_text (type_of d.num)) (shape_text (rows_of d.shape) (columns_of d.shape) ++ complex_mark d.complex) (subst (Lacks 58) (e ∙ declared_is d) l)
whole_none bytes l h d (inr e) = by d.complex e.1
  where
    by : (c : Bool) → bytes ≡ type_text (type_of d.num) ++ complex_mark c → ⊥
    by false q = h d.num (q ∙ append-nil (type_text (type_of d.num)))
    by true q = no_mark 58 (type_text (type_of d.num)) (codes "c") (subst (Lacks 58) q l)

-- the texts round the first colon
front : (bytes text rest : List ℕ) → bytes ≡ text ++ 58 ∷ rest → Lacks 58 text → (d : Declared) → IsTypeText bytes d → (text ≡ type_text (type_of d.num)) × IsBehind rest d
front bytes text rest w l d (inl e) =
    let parts = same_split 58 text rest (type_text (type_of d.num)) (shape_text (rows_of d.shape) (columns_of d.shape) ++ complex_mark d.complex) l (type_lacks d.num) (sym w ∙ e ∙ declared_is d) in
    (parts.0, inl parts.1)
front bytes text rest w l d (inr e) = by d.complex refl e.1
  where
    by : (c : Bool) → d.complex ≡ c → bytes ≡ type_text (type_of d.num) ++ complex_mark c → (text ≡ type_text (type_of d.num)) × IsBehind rest d
    by false p q = absurd (no_mark 58 text rest (subst (Lacks 58) (sym (q ∙ append-nil (type_text (type_of d.num))) ∙ w) (type_lacks d.num)))
    by true p q =
        let parts = same_split 58 text rest (type_text (type_of d.num)) (codes "c") l (type_lacks d.num) (sym w ∙ q) in
        (parts.0, inr (e.0, p, parts.1))

pub parted_none : (bytes text rest : List ℕ) → bytes ≡ text ++ 58 ∷ rest → Lacks 58 text → ReadsNum None text → (d : Declared) → IsTypeText bytes d → ⊥
parted_none bytes text rest w l h d e = h d.num (front bytes text rest w l d e).0

pub parted : (r : Option Declared) (num : NumType) (bytes text rest : List ℕ) → bytes ≡ text ++ 58 ∷ rest → Lacks 58 text → text ≡ type_text (type_of num) → ReadsBehind r num rest → ReadsType r bytes
parted (Some d) num bytes text rest w l p h = by h.1
  where
    named : text ≡ type_text (type_of d.num)
    named = p ∙ ap (λ t. type_text (type_of t)) (sym h.0)

    by : IsBehind rest d → IsTypeText bytes d
    by (inl e) = inl (w ∙ (λ i. named i ++ 58 ∷ e i) ∙ sym (declared_is d))
    by (inr e) = inr (e.0, w ∙ (λ i. named i ++ 58 ∷ e.2 i) ∙ ap (λ c. type_text (type_of d.num) ++ complex_mark c) (sym e.1))
parted None num bytes text rest w l p h = λ d e. h d (front bytes text rest w l d e).1
