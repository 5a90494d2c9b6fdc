-- Worked rows of the conditions of `bitconcat`, by computing: each where the next one in the order of the codes is missing too.
use Rattle.std.proofs.Common.{◌≡◌, refl, true, false, [], ◌∷◌}
use Rattle.std.specs.Prelude.{ℕ, pos, codes, None}
use Rattle.std.specs.Fmt.{digits}
use Rattle.fic_base.specs.declared.code.Code.TheVariants as code
use Rattle.fi_ops.specs.Bits.{word_type}
use Rattle.fi_rules.specs.Checked.{Itself, Counts, Whole}
use Rattle.fi_rules.specs.Decimals.{size_text, whole_text}
use Rattle.fi_rules.specs.Texts.{Around, shown_text}
use Rattle.fi_rules.specs.Value.{Shape, scalar}
use Rattle.fi_meaning.specs.Functions.{BitConcat}
use Rattle.fi_values.specs.Shapes.{common}
use Rattle.node_rules.specs.Built.{function_met, function_worked, function_ruled}
use Rattle.node_rules.specs.Concatenated.{is_real_fi, word_length}
use Rattle.node_rules.specs.Ruled.{Fine, Missing, Shows, Misfit, bind, needed, tested}
use Rattle.node_rules.specs.Texts.{why_text}
use Rattle.node_rules.specs.Types.{NodeTy, FiNode, LogicalNode, IndexNode, TextNode}
use Rattle.node_rules.proofs.RangeRows.{number}
use Rattle.node_rules.proofs.Rows.{row_of_two, row_of_three}

abbrev bits : ℕ → Shape → NodeTy
bits w s = FiNode (word_type w) None false s

abbrev here : Around
here = record { itself = codes "bitconcat"; left = codes "1"; right = codes "2" }

-- so many before what they are
no_argument : function_ruled BitConcat [] ≡ Missing code.ArgCount (Shows (Counts 0 2))
unfolding function_met function_worked bind
no_argument = refl

one_argument : function_ruled BitConcat (TextNode [] ∷ []) ≡ Missing code.ArgCount (Shows (Counts 1 2))
unfolding function_met function_worked bind
one_argument = refl

counts_shown : why_text here (Shows (Counts 1 2)) ≡ codes "1 for 2"
unfolding why_text shown_text digits
counts_shown = refl

-- what is no real fi, before shapes
texts : function_ruled BitConcat (bits 40 row_of_two ∷ bits 40 row_of_three ∷ TextNode [] ∷ []) ≡ Missing code.BadArgument (Shows Itself)
unfolding function_met function_worked is_real_fi bind tested
texts = refl

logicals : function_ruled BitConcat (LogicalNode row_of_three ∷ bits 40 row_of_two ∷ []) ≡ Missing code.BadArgument (Shows Itself)
unfolding function_met function_worked is_real_fi bind tested
logicals = refl

numbers : function_ruled BitConcat (bits 8 scalar ∷ number (pos 1) ∷ []) ≡ Missing code.BadArgument (Shows Itself)
unfolding function_met function_worked is_real_fi bind tested
numbers = refl

indices : function_ruled BitConcat (bits 8 scalar ∷ IndexNode (pos 1) (pos 3) ∷ []) ≡ Missing code.BadArgument (Shows Itself)
unfolding function_met function_worked is_real_fi bind tested
indices = refl

complexes : function_ruled BitConcat (bits 40 row_of_two ∷ FiNode (word_type 40) None true row_of_three ∷ []) ≡ Missing code.BadArgument (Shows Itself)
unfolding function_met function_worked is_real_fi bind tested
complexes = refl

itself_shown : why_text here (Shows Itself) ≡ codes "bitconcat"
unfolding why_text shown_text
itself_shown = refl

-- shapes before the word: the first that is no scalar, and the first that fits neither
shapes : function_ruled BitConcat (bits 20 scalar ∷ bits 20 row_of_two ∷ bits 20 scalar ∷ bits 20 row_of_three ∷ []) ≡ Missing code.SizeMismatch (Misfit row_of_two row_of_three)
unfolding function_met function_worked is_real_fi common bind tested needed
shapes = refl

shapes_shown : why_text here (Misfit row_of_two row_of_three) ≡ codes "1x2 with 1x3"
unfolding why_text digits
shapes_shown = refl

-- the word of all, also where the first ones are within the limit, or beyond it already
words : function_ruled BitConcat (bits 40 row_of_two ∷ bits 20 scalar ∷ bits 20 row_of_two ∷ []) ≡ Missing code.TooWide (Shows (Whole (pos 80)))
unfolding function_met function_worked is_real_fi word_length common bind tested needed
words = refl

more_words : function_ruled BitConcat (bits 40 row_of_two ∷ bits 40 scalar ∷ bits 20 row_of_two ∷ []) ≡ Missing code.TooWide (Shows (Whole (pos 100)))
unfolding function_met function_worked is_real_fi word_length common bind tested needed
more_words = refl

word_shown : why_text here (Shows (Whole (pos 80))) ≡ codes "80"
unfolding why_text shown_text whole_text size_text
word_shown = refl

greatest : function_ruled BitConcat (bits 40 scalar ∷ bits 24 row_of_two ∷ []) ≡ Fine (bits 64 row_of_two)
unfolding function_met function_worked is_real_fi word_length common bind tested needed
greatest = refl
