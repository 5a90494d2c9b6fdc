-- What the readers of elements answer.
use Rattle.std.proofs.Common.{inl, inr, ◌≡◌, ◌≢◌, ℕ, Bool, List, ◌∷◌, ◌++◌, refl, sym, ◌∙◌, subst, arith}
use Rattle.std.specs.Prelude.{codes, Option, Some, None}
use Rattle.num_type.specs.Types.{NumericType, IsWithin}
use Rattle.num_type.specs.View.{type_of}
use Rattle.num_type.specs.declared.num_type.NumType.{NumType}
use Rattle.shape_rules.specs.declared.shape.Shape.{Shape}
use Rattle.shape_rules.specs.declared.declared.Declared.{Declared}
use Rattle.shape_rules.specs.Shapes.{IsShape, rows_of, columns_of}
use Rattle.shape_rules.specs.TypeText.{type_text, shape_text, complex_mark}
use Rattle.shape_rules.specs.Pieces.{Lacks}
use Rattle.shape_rules.specs.Declarations.{IsTypeText, ReadsType, ReadsShape}
use Rattle.shape_rules.proofs.Splits.{no_mark, lacks_both}
use Rattle.std.specs.Fmt.{decimal}
use Rattle.c_tree.specs.Tree.{Kind, Fixed, Logical}
use Rattle.c_tree.specs.Interface.{kind_text}
use Rattle.c_tree.specs.View.{kind_view}
use Rattle.c_tree.specs.declared.interface.CKind.{CKind}
use Rattle.c_tree.specs.declared.interface.CKind.TheVariants as kind
use Rattle.c_tree.specs.WellFormed.{IsKind}
use Rattle.c_token.specs.declared.kind.Elements.{Elements}
use Rattle.c_token.specs.Line.{ReadsFixed, ReadsKind}
use Rattle.c_token.proofs.Marks.{cross, lacks_left, lacks_right, type_lacks, shape_is, mark_lacks}
use Rattle.c_token.proofs.SlotTexts.{colon_is, no_b}

-- ---- values of the code

pub within_of : (t : NumType) → IsWithin (type_of t)
within_of t = record { one_bit = t.one_bit; bits = t.bits; least = t.least; most = t.most }

pub limits_of : (s : Shape) → IsShape (rows_of s) (columns_of s)
limits_of s = record { a_row = s.a_row; a_column = s.a_column; few = s.few }

-- ---- numeric types with shapes

pub no_cross : (text : List ℕ) → Lacks 120 text → (t : NumericType) (complex : Bool) (rows columns : ℕ) → IsWithin t → IsShape rows columns → text ≢ kind_text (Fixed t complex) (shape_text rows columns)
no_cross text h t complex rows columns w s e =
    let whole = subst (Lacks 120) (e ∙ colon_is t (shape_text rows columns) (complex_mark complex)) h in
    let shape = lacks_left 120 (shape_text rows columns) (complex_mark complex) (lacks_right 120 (type_text t) (58 ∷ (shape_text rows columns ++ complex_mark complex)) whole).1 in
    no_mark 120 (decimal rows) (decimal columns) (subst (Lacks 120) (shape_is rows columns) shape)

pub a_cross : (d : Declared) (text a b : List ℕ) → text ≡ a ++ 120 ∷ b → IsTypeText text d → text ≡ kind_text (Fixed (type_of d.num) d.complex) (shape_text (rows_of d.shape) (columns_of d.shape))
a_cross d text a b w (inl e) = e
a_cross d text a b w (inr e) =
    let none = lacks_both 120 (type_text (type_of d.num)) (complex_mark d.complex) (type_lacks 120 cross (type_of d.num) (within_of d.num)) (mark_lacks 120 (λ n. omega (arith, n)) (λ n. omega (arith, n)) d.complex) in
    absurd (no_mark 120 a b (subst (Lacks 120) (sym e.1 ∙ w) none))

pub no_type : (text : List ℕ) → ReadsType None text → (t : NumericType) (complex : Bool) (rows columns : ℕ) → IsWithin t → IsShape rows columns → text ≢ kind_text (Fixed t complex) (shape_text rows columns)
no_type text h t complex rows columns w s e =
    h (record {
      num = record { signed = t.signed; word = t.word; fraction = t.fraction; one_bit = w.one_bit; bits = w.bits; least = w.least; most = w.most };
      complex = complex;
      shape = record { rows = rows; cols = columns; a_row = s.a_row; a_column = s.a_column; few = s.few };
    }) (inl e)

-- ---- truth values too

pub fixed_only : (r : Option Elements) (text : List ℕ) → ((rest : List ℕ) → text ≢ codes "b:" ++ rest) → ReadsFixed r text → ReadsKind r text
fixed_only (Some e) text never h = h
fixed_only None text never h = by
  where
    by : (k : Kind) (rows columns : ℕ) → IsKind k → IsShape rows columns → text ≢ kind_text k (shape_text rows columns)
    by (Fixed t complex) rows columns w s e = h t complex rows columns (w t complex refl) s e
    by Logical rows columns w s e = never (shape_text rows columns) e

pub no_truth : (text rest : List ℕ) → text ≡ codes "b:" ++ rest → ReadsShape None rest → (k : Kind) (rows columns : ℕ) → IsKind k → IsShape rows columns → text ≢ kind_text k (shape_text rows columns)
no_truth text rest b h (Fixed t complex) rows columns w s e =
    no_b t (58 ∷ (shape_text rows columns ++ complex_mark complex)) (58 ∷ rest) (sym (colon_is t (shape_text rows columns) (complex_mark complex)) ∙ sym e ∙ b)
no_truth text rest b h Logical rows columns w s e =
    let same : rest ≡ shape_text rows columns = cut (sym b ∙ e) in
    h (record { rows = rows; cols = columns; a_row = s.a_row; a_column = s.a_column; few = s.few }) same
  where
    cut : 98 ∷ 58 ∷ rest ≡ 98 ∷ 58 ∷ shape_text rows columns → rest ≡ shape_text rows columns
    cut q = cc

pub kind_within : (k : CKind) → IsKind (kind_view k)
kind_within (kind.Fi num complex) t c e = subst IsWithin (first e) (within_of num)
  where
    first : Fixed (type_of num) complex ≡ Fixed t c → type_of num ≡ t
    first q = cc
kind_within kind.Logical t c e = absurd cc
