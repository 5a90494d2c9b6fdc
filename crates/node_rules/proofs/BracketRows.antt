-- Worked rows of the conditions of brackets, by computing: each where the next one in the order of the codes is missing too.
use Rattle.std.proofs.Common.{◌≡◌, refl, true, false, [], ◌∷◌}
use Rattle.std.specs.Prelude.{ℕ, pos, codes, Some, None}
use Rattle.std.specs.Fmt.{digits}
use Rattle.fic_base.specs.declared.code.Code.TheVariants as code
use Rattle.num_type.specs.Precision.{whole}
use Rattle.fi_rules.specs.Checked.{Itself}
use Rattle.fi_rules.specs.Texts.{Around, shown_text}
use Rattle.fi_rules.specs.Types.{same_attached}
use Rattle.fi_rules.specs.Value.{Shape, scalar}
use Rattle.node_rules.specs.Brackets.{kind_of, is_joined, alike, imaginary_of, joined_imaginary, joined_ty, bracket_ruled}
use Rattle.node_rules.specs.Ruled.{Fine, Missing, Shows, Misfit, Most, bind, tested}
use Rattle.node_rules.specs.Texts.{why_text}
use Rattle.node_rules.specs.Types.{NodeTy, FiNode, LogicalNode, NumberNode, IndexNode, TextNode, MathNode}
use Rattle.node_rules.proofs.BitRows.{s8}
use Rattle.node_rules.proofs.RangeRows.{number}
use Rattle.node_rules.proofs.Rows.{u8, floored, row_of_two, a2, a3}

abbrev shape : ℕ → ℕ → Shape
shape m n = record { rows = m; columns = n }

abbrev array : ℕ → ℕ → NodeTy
array m n = FiNode u8 None false (shape m n)

abbrev here : Around
here = record { itself = codes "["; left = codes "1"; right = codes "2" }

-- ---- elements of other classes, and mixtures, before heights

texts : bracket_ruled ((TextNode [] ∷ array 2 1 ∷ []) ∷ []) ≡ Missing code.BadArgument (Shows Itself)
unfolding kind_of is_joined alike bind tested
texts = refl

fimaths : bracket_ruled ((MathNode floored ∷ []) ∷ []) ≡ Missing code.BadArgument (Shows Itself)
unfolding kind_of is_joined alike bind tested
fimaths = refl

indices : bracket_ruled ((IndexNode (pos 1) (pos 3) ∷ number (pos 1) ∷ []) ∷ []) ≡ Missing code.BadArgument (Shows Itself)
unfolding kind_of is_joined alike bind tested
indices = refl

logicals : bracket_ruled ((a2 ∷ LogicalNode (shape 2 1) ∷ []) ∷ []) ≡ Missing code.BadArgument (Shows Itself)
unfolding kind_of is_joined alike bind tested
logicals = refl

numbers : bracket_ruled ((number (pos 1) ∷ array 2 1 ∷ []) ∷ []) ≡ Missing code.BadArgument (Shows Itself)
unfolding kind_of is_joined alike bind tested
numbers = refl

types : bracket_ruled ((a2 ∷ FiNode s8 None false (shape 2 1) ∷ []) ∷ []) ≡ Missing code.BadArgument (Shows Itself)
unfolding kind_of is_joined alike same_attached bind tested
types = refl

attached : bracket_ruled ((a2 ∷ FiNode u8 (Some floored) false (shape 2 1) ∷ []) ∷ []) ≡ Missing code.BadArgument (Shows Itself)
unfolding kind_of is_joined alike same_attached bind tested
attached = refl

complexes : bracket_ruled ((a2 ∷ FiNode u8 None true (shape 2 1) ∷ []) ∷ []) ≡ Missing code.BadArgument (Shows Itself)
unfolding kind_of is_joined alike bind tested
complexes = refl

-- in different rows, before heights
mixed_rows : bracket_ruled ((a2 ∷ array 2 1 ∷ []) ∷ (LogicalNode row_of_two ∷ []) ∷ []) ≡ Missing code.BadArgument (Shows Itself)
unfolding kind_of is_joined alike same_attached joined_ty bind tested
mixed_rows = refl

-- ---- heights, of the first row where they differ, before widths

heights : bracket_ruled ((a2 ∷ a3 ∷ []) ∷ (array 2 1 ∷ array 2 2 ∷ a2 ∷ array 3 1 ∷ []) ∷ (a2 ∷ array 3 3 ∷ []) ∷ []) ≡ Missing code.SizeMismatch (Misfit (shape 2 1) row_of_two)
unfolding kind_of is_joined alike same_attached joined_ty bind tested
heights = refl

-- ---- widths, of rows that are joined, before the limit

widths : bracket_ruled ((a2 ∷ a3 ∷ []) ∷ (array 2 5 ∷ []) ∷ (array 1 4000 ∷ []) ∷ (a3 ∷ a3 ∷ []) ∷ []) ≡ Missing code.SizeMismatch (Misfit (shape 1 5) (shape 1 4000))
unfolding kind_of is_joined alike same_attached joined_ty bind tested
widths = refl

widths_shown : why_text here (Misfit (shape 1 5) (shape 1 4000)) ≡ codes "1x5 with 1x4000"
unfolding why_text digits
widths_shown = refl

-- ---- nothing

nothing : bracket_ruled [] ≡ Missing code.DynamicSize (Shows Itself)
unfolding bind tested
nothing = refl

itself_shown : why_text here (Shows Itself) ≡ codes "["
unfolding why_text shown_text
itself_shown = refl

-- ---- the limit, and what is within it

large : bracket_ruled ((array 1 2000 ∷ array 1 2000 ∷ []) ∷ (array 1 4000 ∷ []) ∷ []) ≡ Missing code.Limit (Most 4096)
unfolding kind_of is_joined alike same_attached joined_ty bind tested
large = refl

greatest : bracket_ruled ((array 1 2048 ∷ []) ∷ (array 1 2048 ∷ []) ∷ []) ≡ Fine (array 2 2048)
unfolding kind_of is_joined alike same_attached joined_ty bind tested
greatest = refl

-- [1 2; 3 4], by columns
matrix : bracket_ruled ((number (pos 1) ∷ number (pos 2) ∷ []) ∷ (number (pos 3) ∷ number (pos 4) ∷ []) ∷ [])
    ≡ Fine (NumberNode (shape 2 2) (whole (pos 1) ∷ whole (pos 3) ∷ whole (pos 2) ∷ whole (pos 4) ∷ []) None)
unfolding kind_of is_joined alike joined_imaginary joined_ty bind tested
matrix = refl

-- [1 2i]
imaginary : bracket_ruled ((number (pos 1) ∷ NumberNode scalar (whole (pos 0) ∷ []) (Some (whole (pos 2) ∷ [])) ∷ []) ∷ [])
    ≡ Fine (NumberNode row_of_two (whole (pos 1) ∷ whole (pos 0) ∷ []) (Some (whole (pos 0) ∷ whole (pos 2) ∷ [])))
unfolding kind_of is_joined alike imaginary_of joined_imaginary joined_ty bind tested
imaginary = refl
