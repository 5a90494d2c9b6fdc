-- Words of types.
use Rattle.std.proofs.Common.{inl, inr, ◌⊎◌, ◌≡◌, ◌≢◌, ℕ, zero, suc, ◌*◌, Bool, true, false, List, [], ◌∷◌, ◌++◌, length, take, drop, refl, sym, ap, ◌∙◌, subst, arith, append-nil}
use Rattle.std.proofs.lemmas.Option.{slice_get_within}
use Rattle.std.specs.Prelude.{codes, slice_get, Some}
use Rattle.std.specs.Fmt.{decimal}
use Rattle.num_type.specs.View.{type_of}
use Rattle.shape_rules.specs.declared.shape.Shape.{Shape}
use Rattle.shape_rules.specs.declared.declared.Declared.{Declared}
use Rattle.shape_rules.specs.Shapes.{rows_of, columns_of, elements_of}
use Rattle.shape_rules.specs.TypeText.{type_text, shape_text, complex_mark}
use Rattle.shape_rules.specs.Pieces.{Lacks}
use Rattle.shape_rules.specs.Declarations.{IsTypeText, IsScalar}
use Rattle.shape_rules.proofs.Splits.{same_split, no_mark}
use Rattle.shape_rules.proofs.Texts.{shape_parts, shape_is, few_rows, few_columns, decimal_lacks, same_decimal, type_lacks, shape_lacks, declared_is}
use Rattle.fi_cli.specs.Forms.{Command, Compile, Run, IsTypeWord, AreTypeWords, IsForm}
use Rattle.fi_cli.specs.View.{AreScalars, HasScalars}

shape_of : Shape → List ℕ
shape_of s = shape_text (rows_of s) (columns_of s)

same_shape : (a b : Shape) → shape_text (rows_of a) (columns_of a) ≡ shape_text (rows_of b) (columns_of b) → IsScalar b → IsScalar a
same_shape a b e one =
    let parts = shape_parts a (decimal b.rows) (decimal b.cols) (decimal_lacks 120 b.rows (omega (arith, few_rows b)) (inr (omega arith))) (sym (shape_is b) ∙ sym e) in
    record {
      a_row = same_decimal a.rows b.rows (omega (arith, few_rows a)) (omega (arith, few_rows b)) (sym parts.0) ∙ one.a_row;
      a_column = same_decimal a.cols b.cols (omega (arith, few_columns a)) (omega (arith, few_columns b)) (sym parts.1) ∙ one.a_column;
    }

-- what is read behind the colon of a type beside the shape of one element
behind_one : (a b : Declared) (c : Bool) → a.complex ≡ c → IsScalar b.shape → shape_text (rows_of b.shape) (columns_of b.shape) ≡ shape_text (rows_of a.shape) (columns_of a.shape) ++ complex_mark c → IsScalar a.shape × (a.complex ≡ false)
behind_one a b false k one e = (same_shape a.shape b.shape (sym (e ∙ append-nil (shape_text (rows_of a.shape) (columns_of a.shape)))) one, k)
behind_one a b true k one e = absurd (no_mark 58 (shape_text (rows_of a.shape) (columns_of a.shape)) (codes "c") (subst (Lacks 58) e (shape_lacks b.shape)))

-- a text without a colon is that of one real element
no_colon : (word : List ℕ) (a : Declared) → Lacks 58 word → IsTypeText word a → IsScalar a.shape × (a.complex ≡ false)
no_colon word a l (inl e) = absurd (no_mark 58 (type_text (type_of a.num)) (shape_text (rows_of a.shape) (columns_of a.shape) ++ complex_mark a.complex) (subst (Lacks 58) (e ∙ declared_is a) l))
no_colon word a l (inr e) = by a.complex refl e.1
  where
    by : (c : Bool) → a.complex ≡ c → word ≡ type_text (type_of a.num) ++ complex_mark c → IsScalar a.shape × (a.complex ≡ false)
    by false k q = (e.0, k)
    by true k q = absurd (no_mark 58 (type_text (type_of a.num)) (codes "c") (subst (Lacks 58) q l))

-- a text with a colon and the shape of one element
with_shape : (word : List ℕ) (a b : Declared) → IsScalar b.shape → word ≡ type_text (type_of b.num) ++ 58 ∷ shape_text (rows_of b.shape) (columns_of b.shape) → IsTypeText word a → IsScalar a.shape × (a.complex ≡ false)
with_shape word a b one w (inl e) =
    let parts = same_split 58 (type_text (type_of b.num)) (shape_text (rows_of b.shape) (columns_of b.shape)) (type_text (type_of a.num)) (shape_text (rows_of a.shape) (columns_of a.shape) ++ complex_mark a.complex) (type_lacks b.num) (type_lacks a.num) (sym w ∙ e ∙ declared_is a) in
    behind_one a b a.complex refl one parts.1
with_shape word a b one w (inr e) = by a.complex refl e.1
  where
    by : (c : Bool) → a.complex ≡ c → word ≡ type_text (type_of a.num) ++ complex_mark c → IsScalar a.shape × (a.complex ≡ false)
    by false k q = (e.0, k)
    by true k q =
        let parts = same_split 58 (type_text (type_of b.num)) (shape_text (rows_of b.shape) (columns_of b.shape)) (type_text (type_of a.num)) (codes "c") (type_lacks b.num) (type_lacks a.num) (sym w ∙ q) in
        absurd (no_mark 120 (decimal b.shape.rows) (decimal b.shape.cols) (subst (Lacks 120) (sym parts.1 ∙ shape_is b.shape) ((λ z. omega (arith, z)), tt)))

pub same_word : (word : List ℕ) (a b : Declared) → IsTypeText word a → IsTypeWord word b → IsScalar a.shape × (a.complex ≡ false)
same_word word a b h k = by b.complex k.real k.text
  where
    by : (c : Bool) → b.complex ≡ false → IsTypeText word b → IsScalar a.shape × (a.complex ≡ false)
    by c r (inl e) =
        let plain : shape_text (rows_of b.shape) (columns_of b.shape) ++ complex_mark b.complex ≡ shape_text (rows_of b.shape) (columns_of b.shape) =
        ap (λ m. shape_text (rows_of b.shape) (columns_of b.shape) ++ complex_mark m) r ∙ append-nil (shape_text (rows_of b.shape) (columns_of b.shape)) in
        with_shape word a b k.one (e ∙ declared_is b ∙ ap (λ s. type_text (type_of b.num) ++ 58 ∷ s) plain) h
    by c r (inr e) =
        let plain : word ≡ type_text (type_of b.num) = e.1 ∙ ap (λ m. type_text (type_of b.num) ++ complex_mark m) r ∙ append-nil (type_text (type_of b.num)) in
        no_colon word a (subst (Lacks 58) (sym plain) (type_lacks b.num)) h

pub other_word : (word : List ℕ) (a : Declared) → IsTypeText word a → (a.complex ≡ true) ⊎ (elements_of a.shape ≢ 1) → (d : Declared) → IsTypeWord word d → ⊥
other_word word a h (inl c) d k = let same = (same_word word a d h k).1 in cc
other_word word a h (inr m) d k = let one = (same_word word a d h k).0 in m ((λ i. one.a_row i * one.a_column i))

same_item : (x y : List ℕ) → Some x ≡ Some y → x ≡ y
same_item x y e = cc

get_drop : (words : List (List ℕ)) (k : ℕ) (word : List ℕ) → slice_get words k ≡ Some word → drop k words ≡ word ∷ drop (suc k) words
get_drop [] k word e = absurd (omega (arith, slice_get_within [] k word e))
get_drop (x ∷ words) zero word e = ap (λ y. y ∷ words) (same_item x word e)
get_drop (x ∷ words) (suc k) word e = get_drop words k word e

first : (x y : List ℕ) (xs ys : List (List ℕ)) → x ∷ xs ≡ y ∷ ys → x ≡ y
first x y xs ys e = cc

none : {word : List ℕ} {rest : List (List ℕ)} (k : ℕ) → drop k [] ≡ word ∷ rest → ⊥
none zero e = omega (arith, ap length e)
none (suc k) e = omega (arith, ap length e)

-- the types of the words so far, with one more
pub more_types : (words : List (List ℕ)) (k : ℕ) (ds : List Declared) (word : List ℕ) (d : Declared) (rest : List (List ℕ)) → AreTypeWords (take k words) ds → drop k words ≡ word ∷ rest → IsTypeWord word d → AreTypeWords (take (suc k) words) (ds ++ d ∷ [])
more_types [] k ds word d rest h e w = absurd (none k e)
more_types (x ∷ words) zero [] word d rest h e w = (subst (λ y. IsTypeWord y d) (sym (first x word words rest e)) w, tt)
more_types (x ∷ words) zero (b ∷ ds) word d rest h e w = absurd h
more_types (x ∷ words) (suc k) [] word d rest h e w = absurd h
more_types (x ∷ words) (suc k) (b ∷ ds) word d rest h e w = (h.0, more_types words k ds word d rest h.1 e w)

pub next_type : (words : List (List ℕ)) (k : ℕ) (ds : List Declared) (word : List ℕ) (d : Declared) → AreTypeWords (take k words) ds → slice_get words k ≡ Some word → IsTypeWord word d → AreTypeWords (take (suc k) words) (ds ++ d ∷ [])
next_type words k ds word d h e w = more_types words k ds word d (drop (suc k) words) h (get_drop words k word e) w

-- each of the words is that of a type
pub type_at : (words : List (List ℕ)) (ds : List Declared) (k : ℕ) (word : List ℕ) → AreTypeWords words ds → slice_get words k ≡ Some word → (d : Declared) × IsTypeWord word d
type_at [] ds k word h e = absurd (omega (arith, slice_get_within [] k word e))
type_at (x ∷ words) [] k word h e = absurd h
type_at (x ∷ words) (b ∷ ds) zero word h e = (b, subst (λ y. IsTypeWord y b) (same_item x word e) h.0)
type_at (x ∷ words) (b ∷ ds) (suc k) word h e = type_at words ds k word h.1 e

-- the words of types are those of real scalars
pub are_scalars : (words : List (List ℕ)) (ds : List Declared) → AreTypeWords words ds → AreScalars ds
are_scalars [] [] h = tt
are_scalars [] (d ∷ ds) h = absurd h
are_scalars (w ∷ words) [] h = absurd h
are_scalars (w ∷ words) (d ∷ ds) h = (h.0.one, h.0.real, are_scalars words ds h.1)

-- the types of a form's words are those of real scalars
pub has_scalars : (c : Command) (words : List (List ℕ)) → IsForm c words → HasScalars c
has_scalars (Compile file entry ds) words h = are_scalars h.types ds h.are_types
has_scalars (Run file cases turns) words h = tt
