-- Types as texts, such as s16.15:1x4.
use Rattle.std.specs.Prelude.{ℕ, Bool, true, false, List, [], ◌++◌, codes, decimal}
use Rattle.std.specs.Fmt.{signed_decimal}
use Rattle.num_type.specs.Types.{NumericType}

-- s for a signed type, u for an unsigned one
abbrev pub sign_letter : Bool → List ℕ
sign_letter true = codes "s"
sign_letter false = codes "u"

-- signedness, word length and fraction length, as s16.15
abbrev pub type_text : NumericType → List ℕ
type_text t = sign_letter t.signed ++ decimal t.word ++ codes "." ++ signed_decimal t.fraction

-- rows and columns, as 1x4
abbrev pub shape_text : ℕ → ℕ → List ℕ
shape_text rows columns = decimal rows ++ codes "x" ++ decimal columns

-- what a complex type has behind its shape
abbrev pub complex_mark : Bool → List ℕ
complex_mark true = codes ":c"
complex_mark false = []
