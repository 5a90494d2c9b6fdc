-- Declared types as texts, such as s16.15:1x4:c.
use Rattle.std.specs.Prelude.{◌≡◌, ◌≢◌, ◌⊎◌, ℕ, Bool, true, List, ◌++◌, codes, Option, Some, None}
use Rattle.std.specs.Fmt.{decimal, signed_decimal}
use Rattle.num_type.specs.View.{type_of}
use Rattle.num_type.specs.declared.num_type.NumType.{NumType}
use Rattle.shape_rules.specs.declared.shape.Shape.{Shape}
use Rattle.shape_rules.specs.declared.declared.Declared.{Declared}
use Rattle.shape_rules.specs.Shapes.{rows_of, columns_of}
use Rattle.shape_rules.specs.TypeText.{type_text, shape_text, complex_mark}

-- a type with its shape
abbrev pub declared_text : Declared → List ℕ
declared_text d = type_text (type_of d.num) ++ codes ":" ++ shape_text (rows_of d.shape) (columns_of d.shape) ++ complex_mark d.complex

-- a type without its shape
abbrev pub scalar_text : Declared → List ℕ
scalar_text d = type_text (type_of d.num) ++ complex_mark d.complex

-- one element
pub record IsScalar (s : Shape) : Type 0 where
  pub a_row : rows_of s ≡ 1
  pub a_column : columns_of s ≡ 1

-- the text of a type; that of one element may leave its shape out
abbrev pub IsTypeText : List ℕ → Declared → Type 0
IsTypeText bytes d = (bytes ≡ declared_text d) ⊎ (IsScalar d.shape × (bytes ≡ scalar_text d))

-- what a reader of types answers: the type whose text the bytes are, and none where they are that of no type
abbrev pub ReadsType : Option Declared → List ℕ → Type 0
ReadsType (Some d) bytes = IsTypeText bytes d
ReadsType None bytes = (d : Declared) → IsTypeText bytes d → ⊥

-- the same of a numeric type
abbrev pub ReadsNum : Option NumType → List ℕ → Type 0
ReadsNum (Some t) bytes = bytes ≡ type_text (type_of t)
ReadsNum None bytes = (t : NumType) → bytes ≢ type_text (type_of t)

-- a word length and a fraction length, as 16.15
abbrev pub lengths_text : NumType → List ℕ
lengths_text t = decimal t.word ++ codes "." ++ signed_decimal t.fraction

-- the same of a numeric type of this signedness, behind its letter
abbrev pub ReadsLengths : Option NumType → Bool → List ℕ → Type 0
ReadsLengths (Some t) signed bytes = (t.signed ≡ signed) × (bytes ≡ lengths_text t)
ReadsLengths None signed bytes = (t : NumType) → t.signed ≡ signed → bytes ≢ lengths_text t

-- the same of a shape
abbrev pub ReadsShape : Option Shape → List ℕ → Type 0
ReadsShape (Some s) bytes = bytes ≡ shape_text (rows_of s) (columns_of s)
ReadsShape None bytes = (s : Shape) → bytes ≢ shape_text (rows_of s) (columns_of s)

-- what may stand behind a numeric type and a colon: a shape, `c` for one element, or both
abbrev pub IsBehind : List ℕ → Declared → Type 0
IsBehind rest d = (rest ≡ shape_text (rows_of d.shape) (columns_of d.shape) ++ complex_mark d.complex) ⊎ (IsScalar d.shape × (d.complex ≡ true) × (rest ≡ codes "c"))

-- the same of a type behind its numeric type
abbrev pub ReadsBehind : Option Declared → NumType → List ℕ → Type 0
ReadsBehind (Some d) num rest = (d.num ≡ num) × IsBehind rest d
ReadsBehind None num rest = (d : Declared) → IsBehind rest d → ⊥

-- the same of a complex type, behind its numeric type: the texts round its last colon
abbrev pub ReadsMarked : Option Declared → NumType → List ℕ → List ℕ → Type 0
ReadsMarked (Some d) num text mark = (d.num ≡ num) × (d.complex ≡ true) × (text ≡ shape_text (rows_of d.shape) (columns_of d.shape)) × (mark ≡ codes "c")
ReadsMarked None num text mark = (s : Shape) → text ≡ shape_text (rows_of s) (columns_of s) → mark ≡ codes "c" → ⊥
